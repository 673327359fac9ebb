pub mod Chosen
pub mod Descriptors
pub mod Digits
pub mod Headers
pub mod Places
pub mod Refusals
pub mod RowReads
pub mod Tables
