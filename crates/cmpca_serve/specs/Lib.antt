pub mod Words
pub mod Texts
pub mod Parts
pub mod Runs
pub mod Troubles
pub mod Closings
pub mod Serving
