pub mod Ends
pub mod Measures
pub mod Reads
pub mod Steps
pub mod Targets
pub mod Tiles
pub mod Told
