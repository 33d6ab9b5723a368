pub mod Entries
pub mod Beginning
pub mod Worlds
pub mod Runs
