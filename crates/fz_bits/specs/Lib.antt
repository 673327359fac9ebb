pub mod Numbers
pub mod Bits
pub mod Laws
pub mod Reader
pub mod Writer
