pub mod Leaves
pub mod Images
pub mod Mounted
pub mod Laws
pub mod Reading
pub mod Calls
