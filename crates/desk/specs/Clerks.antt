-- What a clerk's calls do to the history as it has seen it, and which places are its own.
use Rattle.std.specs.Prelude.{◌≡◌, ℕ, ◌+◌, ◌-◌, List, [], ◌∷◌, ◌++◌, length, Option, IfSome}
use Rattle.std.specs.List.{range_with_len}
use Rattle.cmp_ports.specs.declared.order.Order.{Order}
use Rattle.deal_changes.specs.declared.change.Change.{Change}
use Rattle.deal_model.specs.declared.asking.Checked.{Checked}
use Rattle.deal_model.specs.Views.{History}
use Rattle.deal_model.specs.Rules.{Allowed, Legal}
use Rattle.deal_table.specs.History.{Begins, event_time}
use Rattle.desk.specs.declared.answers.Lapsed.{Lapsed}
use Rattle.desk.specs.declared.answers.Lapsed.TheVariants as lapsed
use Rattle.desk.specs.declared.answers.Ordered.{Ordered}
use Rattle.desk.specs.declared.answers.Ordered.TheVariants as ordered
use Rattle.desk.specs.declared.verdict.Verdict.{Verdict}
use Rattle.desk.specs.declared.verdict.Verdict.TheVariants as verdict
use Rattle.desk.specs.Calls.{IsLapsed, IsOrdered}
use Rattle.desk.specs.Verdicts.{IsLeft}

-- the places of a history behind its first changes, of which there are so many
abbrev pub places_since : ℕ → History → List ℕ
places_since opening h = range_with_len (opening + 1) (length h - opening)

-- the place of the change that was made, where one was
abbrev pub decided_place : Verdict → List ℕ
decided_place (verdict.Done r) = r.place ∷ []
decided_place _ = []

abbrev pub lapsed_place : Lapsed → List ℕ
lapsed_place (lapsed.Done place tid) = place ∷ []
lapsed_place _ = []

abbrev pub ordered_place : Ordered → List ℕ
ordered_place (ordered.Done place) = place ∷ []
ordered_place _ = []

-- what a decision does to a history that nobody else changes: it gains the change that was made, and else stays
abbrev pub IsDecidedAlone : History → History → Verdict → Type 0
IsDecidedAlone old new (verdict.Done r) = new ≡ old ++ r.change ∷ []
IsDecidedAlone old new _ = new ≡ old

-- What a desk's calls are over a history that begins with what the clerk had seen. Others may have added to it meanwhile, and left a
-- change in doubt; the history is legal afterwards, and what is in doubt then may come next.
pub record IsDecidedSince (old new : History) (k : Checked) (now : ℕ) (words : List ℕ) (end : Verdict) : Type 0 where
  pub before : History
  pub begun : Begins old before
  pub doubt : Option Change
  pub left : Option Change
  pub decided : IsLeft k now words before doubt end new left
  pub lawful : ∥ Legal new × IfSome left (Allowed new) ∥₁

pub record IsLapsedSince (old new : History) (now : ℕ) (end : Lapsed) : Type 0 where
  pub before : History
  pub begun : Begins old before
  pub doubt : Option Change
  pub left : Option Change
  pub lapsed : IsLapsed before doubt (event_time before now) end new left
  pub lawful : ∥ Legal new × IfSome left (Allowed new) ∥₁

pub record IsOrderedSince (old new : History) (order : Order) (now : ℕ) (end : Ordered) : Type 0 where
  pub before : History
  pub begun : Begins old before
  pub doubt : Option Change
  pub left : Option Change
  pub ordered : IsOrdered before doubt order (event_time before now) end new left
  pub lawful : ∥ Legal new × IfSome left (Allowed new) ∥₁
