pub mod Calls
pub mod Ends
pub mod Links
pub mod MemDoor
pub mod MemLink
