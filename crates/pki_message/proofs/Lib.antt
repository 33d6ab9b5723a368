pub mod BodyLemmas
pub mod FrameLemmas
pub mod MessageLemmas
pub mod WrittenLemmas
