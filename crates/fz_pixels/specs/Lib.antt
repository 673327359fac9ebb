pub mod Decoded
pub mod Laws
pub mod Marks
pub mod Parts
pub mod Pieces
pub mod Scattered
