pub mod Attributes
pub mod Controls
pub mod Pkcs10
pub mod Possession
pub mod Requests
pub mod Written
