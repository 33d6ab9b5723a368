pub mod Filled
pub mod Reasons
