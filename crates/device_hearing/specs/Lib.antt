pub mod Hearing
pub mod Trust
