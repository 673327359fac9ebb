pub mod Begins
pub mod Holds
pub mod Laws
pub mod Longest
pub mod Retiles
pub mod Stays
pub mod Views
