pub mod Finds
pub mod Lms
pub mod Timely
pub mod Owners
