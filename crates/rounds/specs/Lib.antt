pub mod Deeds
pub mod Rounds
pub mod Stays
