pub mod Changed
mod Undone
pub mod Spared
mod Init
mod Take
mod Listed
mod Law
mod Following
mod Joined
