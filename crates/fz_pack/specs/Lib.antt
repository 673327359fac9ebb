pub mod Again
pub mod Behind
pub mod Known
pub mod Output
pub mod Reads
pub mod Turns
pub mod Written
