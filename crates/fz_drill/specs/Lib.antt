pub mod Bound
pub mod Clauses
pub mod Files
pub mod Jobs
pub mod Lengths
pub mod Outcomes
pub mod Said
pub mod Taken
