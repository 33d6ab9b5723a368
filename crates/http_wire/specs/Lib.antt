pub mod Framing
pub mod Sessions
pub mod Steps
