pub use Rattle.deal_changes.specs.Spki
pub use Rattle.deal_changes.specs.Spelling
pub use Rattle.deal_changes.specs.Times
pub mod Keys
pub mod Limits
pub mod Views
pub mod Rules
pub mod Laws
