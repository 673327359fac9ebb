pub mod Forms
pub mod Columns
pub mod Tables
pub mod Rows
pub mod Records
pub mod Reads
pub mod Found
