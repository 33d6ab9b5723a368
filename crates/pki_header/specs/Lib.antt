pub mod Header
pub mod Plan
pub mod Rows
pub mod Time
