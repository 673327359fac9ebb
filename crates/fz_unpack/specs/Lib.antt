pub mod Behind
pub mod First
pub mod Images
pub mod Laws
pub mod Output
pub mod Turns
pub mod Written
