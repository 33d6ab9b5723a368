pub mod AlgorithmLemmas
pub mod BackLemmas
pub mod CheckLemmas
