pub mod LeafLemmas
pub mod Kept
pub mod ReserveLemmas
pub mod MountLemmas
pub mod LawLemmas
pub mod SignLemmas
