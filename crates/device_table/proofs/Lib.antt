mod RunLemmas
mod WonLemmas
