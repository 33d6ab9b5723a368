pub mod Loop
pub mod Forms
pub mod PartForms
pub mod ChangeForms
pub mod Arms
pub mod ChangeLaws
pub mod PayloadLemmas
