pub mod AskedLemmas
pub mod NoteLemmas
pub mod GrowLemmas
pub mod FindLemmas
pub mod CountLemmas
