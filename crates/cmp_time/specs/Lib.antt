pub mod Digits
pub mod Time
