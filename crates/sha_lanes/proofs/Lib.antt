pub mod LaneLemmas
pub mod Lanes
mod LongLemmas
mod FrontRounds
mod LoadedWords
mod MajLemmas
mod OneBlock
mod Padded
mod PartWords
mod Rotations
