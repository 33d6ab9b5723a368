pub mod Words
pub mod Forms
pub mod Files
pub mod Settings
pub mod Credentials
