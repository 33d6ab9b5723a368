pub mod FormLemmas
pub mod LevelLemmas
pub mod OneLevelLemmas
pub mod SizeLemmas
pub mod ValidLemmas
