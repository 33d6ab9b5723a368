pub mod Cert
pub mod Plan
pub mod Validity
