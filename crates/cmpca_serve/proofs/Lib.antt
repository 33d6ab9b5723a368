pub mod WordLemmas
pub mod Counting
pub mod RunLemmas
pub mod Sessions
pub mod Workers
pub mod Sent
pub mod BehindLemmas
pub mod ServingLemmas
