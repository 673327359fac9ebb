pub mod Cut
pub mod Jobs
pub mod Lawful
pub mod Parts
pub mod PatchJobs
pub mod Seen
pub mod Table
pub mod Values
