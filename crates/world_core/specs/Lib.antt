pub mod Steps
pub mod Safety
pub mod Applying
