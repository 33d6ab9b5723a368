pub mod Outcomes
pub mod Grants
