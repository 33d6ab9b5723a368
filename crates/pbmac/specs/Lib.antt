pub mod Algorithm
pub mod Mac
pub mod Params
