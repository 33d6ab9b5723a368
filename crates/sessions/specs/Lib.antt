pub mod Events
pub mod Links
pub mod Sessions
