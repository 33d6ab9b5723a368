pub mod KeyLemmas
pub mod Law
pub mod NodeLemmas
pub mod PathLemmas
