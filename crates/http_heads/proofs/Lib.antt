mod FieldLemmas
mod HeadLemmas
mod NextLemmas
mod NumberLemmas
mod ReadingLemmas
mod RowLemmas
mod StreamLemmas
mod TypeLemmas
