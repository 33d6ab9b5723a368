mod HolderLemmas
mod MessageLemmas
