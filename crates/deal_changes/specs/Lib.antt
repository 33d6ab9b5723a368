pub mod Bind
pub mod Spki
pub mod PublicKeys
pub mod Spelling
pub mod Reading
pub mod Payload
pub mod Times
