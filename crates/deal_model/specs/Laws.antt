-- What holds of every legal history.
use Rattle.std.specs.Prelude.{◌≡◌, ℕ, ◌≤◌, ◌++◌, ◌∷◌, [], take, Some, slice_get}
use Rattle.deal_changes.specs.declared.change.Change.{Change}
use Rattle.deal_changes.specs.declared.change.Change.TheVariants.{Grant}
use Rattle.deal_changes.specs.declared.change.Stamp.{Stamp}
use Rattle.deal_changes.specs.declared.change.Wish.{Wish}
use Rattle.deal_changes.specs.declared.change.Body4.{Body4}
use Rattle.deal_changes.specs.Times.{time_of_change}
use Rattle.deal_model.specs.declared.states.Key.{Key}
use Rattle.deal_model.specs.declared.states.Reason.{Reason}
use Rattle.deal_model.specs.declared.states.CertificateState.TheVariants.{Revoked}
use Rattle.deal_model.specs.Views.{History, SignsWith, TakesLeaf, certificate_state}
use Rattle.deal_model.specs.Rules.{Allowed, Legal}

-- an allowed change keeps a legal history legal
abbrev pub GrowsLegally : Type 0
GrowsLegally = (h : History) (c : Change) → Legal h → Allowed h c → Legal (h ++ c ∷ [])

-- a beginning of a legal history is legal
abbrev pub BeginsLegally : Type 0
BeginsLegally = (h : History) (n : ℕ) → Legal h → 1 ≤ n → Legal (take n h)

-- time never falls
abbrev pub TimeNeverFalls : History → Type 0
TimeNeverFalls h = (p q : ℕ) (c d : Change) → p ≤ q → slice_get h p ≡ Some c → slice_get h q ≡ Some d → time_of_change c ≤ time_of_change d

-- no leaf of a key is taken at two places
abbrev pub EachLeafOnce : History → Type 0
EachLeafOnce h = (p q : ℕ) (c d : Change) (key : Key) (leaf : ℕ) → slice_get h p ≡ Some c → slice_get h q ≡ Some d → TakesLeaf c key leaf → TakesLeaf d key leaf → p ≡ q

-- a change takes each leaf that it signs with
abbrev pub SignedAreTaken : Type 0
SignedAreTaken = (c : Change) (key : Key) (leaf : ℕ) → SignsWith c key leaf → TakesLeaf c key leaf

-- no two certificates have one serial number
abbrev pub SerialsDiffer : History → Type 0
SerialsDiffer h = (p q : ℕ) (s t : Stamp) (a b : Body4) (v w : Wish) (serial k l : ℕ) → slice_get h p ≡ Some (Grant s a v serial k) → slice_get h q ≡ Some (Grant t b w serial l) → p ≡ q

-- no transaction has two Grants
abbrev pub OneGrantEach : History → Type 0
OneGrantEach h = (p q : ℕ) (s t : Stamp) (a b : Body4) (v w : Wish) (m n k l : ℕ) → s.tid ≡ t.tid → slice_get h p ≡ Some (Grant s a v m k) → slice_get h q ≡ Some (Grant t b w n l) → p ≡ q

-- a certificate that is revoked stays so
abbrev pub StaysRevoked : Type 0
StaysRevoked = (h more : History) (serial : ℕ) (reason : Reason) → Legal (h ++ more) → certificate_state h serial ≡ Some (Revoked reason) → certificate_state (h ++ more) serial ≡ Some (Revoked reason)
