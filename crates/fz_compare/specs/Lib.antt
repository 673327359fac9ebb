pub mod Compared
pub mod Reads
