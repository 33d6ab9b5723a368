pub mod Lists
pub mod DeedLemmas
pub mod RoundLemmas
pub mod StepLemmas
pub mod TurnLemmas
