pub mod Visits
pub mod Worlds
pub mod Keys
pub mod Causes
pub mod Headline
