pub mod Asked
pub mod Hint
pub mod Table
