pub mod RunLemmas
pub mod MacLemmas
pub mod CauseLemmas
pub mod ShowLemmas
mod FileLemmas
pub mod ChangeLemmas
mod StepLemmas
mod EnlistLemmas
mod FoundLemmas
mod InitLemmas
mod InitReplyLemmas
pub mod TakeLemmas
mod AnswerLemmas
