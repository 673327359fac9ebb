pub mod Greatest
pub mod JobChecks
pub mod Judges
pub mod TileKinds
pub mod WorkBuffers
