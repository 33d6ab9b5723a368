pub mod Places
pub mod Questions
pub mod Index
pub mod Kept
