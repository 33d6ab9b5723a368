pub mod Lists
pub mod Views
pub mod TurnRule
pub mod Steps
