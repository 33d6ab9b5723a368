pub mod CertLemmas
pub mod PlanLemmas
pub mod ValidityLemmas
