pub mod ChainLemmas
pub mod FourLemmas
pub mod Law
pub mod Messages
mod PaddedLemmas
pub mod Parts
