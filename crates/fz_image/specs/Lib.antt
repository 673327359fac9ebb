pub mod Held
pub mod Image
pub mod Laws
pub mod Layout
pub mod Progress
pub mod Strips
pub mod Tiles
pub mod Working
