pub mod CountLemmas
mod OrderLemmas
mod StreamLemmas
mod Tapes
