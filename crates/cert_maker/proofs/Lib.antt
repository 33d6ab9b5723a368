pub mod MomentLemmas
pub mod SizeLemmas
