pub mod Ahead
pub mod Decoding
pub mod Fetched
pub mod Loaded
pub mod Rows
pub mod Stops
pub mod Tiles
