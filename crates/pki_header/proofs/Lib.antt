pub mod HeadLemmas
pub mod PlanLemmas
pub mod TimeLemmas
