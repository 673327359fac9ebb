pub mod Clauses
pub mod Lines
pub mod Printed
pub mod Reads
pub mod Reported
pub mod Rows
pub mod Sums
pub mod Verified
