pub mod HearingLemmas
pub mod CertificateLemmas
pub mod TrustLemmas
