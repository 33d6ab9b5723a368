pub mod DoorLemmas
pub mod StationLemmas
pub mod UpkeepLemmas
