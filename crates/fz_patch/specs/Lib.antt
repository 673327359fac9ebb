pub mod Cards
pub mod Clauses
pub mod Compared
pub mod Jobs
pub mod Kept
