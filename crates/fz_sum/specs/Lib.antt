pub mod Sums
pub mod Pieces
pub mod Characters
pub mod Texts
pub mod Cards
pub mod Verdicts
