pub mod Histories
pub mod Leaves
pub mod Revoked
