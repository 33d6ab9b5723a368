pub mod Sent
pub mod TurnLemmas
