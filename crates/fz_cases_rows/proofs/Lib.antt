pub mod RoomLemmas
pub mod SmallLemmas
