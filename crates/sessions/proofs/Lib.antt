pub mod Histories
pub mod Places
pub mod Runs
pub mod Stays
pub mod Steps
