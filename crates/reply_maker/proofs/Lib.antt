pub mod FileLemmas
pub mod KeyLemmas
pub mod MessageLemmas
pub mod InForceLemmas
pub mod SealLemmas
