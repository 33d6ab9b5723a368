pub mod Badges
pub mod Tallies
pub mod Doors
pub mod Stations
pub mod Accounts
pub mod Upkeeps
