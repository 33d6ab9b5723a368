pub mod FileLemmas
pub mod ViewLemmas
pub mod HexLemmas
pub mod TableLemmas
pub mod ListLemmas
pub mod FoundLemmas
