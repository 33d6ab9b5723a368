pub mod Comings
pub mod Heads
pub mod Looks
pub mod Nexts
pub mod Requests
pub mod Rows
pub mod Values
