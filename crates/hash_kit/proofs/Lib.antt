pub mod BlockLemmas
pub mod CompareLemmas
