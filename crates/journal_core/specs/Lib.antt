pub mod Journal
pub mod Log
pub mod Mounted
pub mod Record
pub mod Seal
pub mod Staged
