pub mod Lengths
pub mod Histories
