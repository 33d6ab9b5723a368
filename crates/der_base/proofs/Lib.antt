pub mod ElementLemmas
pub mod LengthLemmas
pub mod ReaderLemmas
pub mod RowLemmas
