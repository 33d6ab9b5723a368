-- What holds of every world that steps leave, and of every step.
use Rattle.std.specs.Prelude.{◌≡◌, ℕ, ◌-◌, ◌≤◌, Bool, true, false, List, [], ◌∷◌, ◌++◌, length, take, Option, Some, None, IfSome, ◌⊎◌, slice_get}
use Rattle.std.specs.List.{AllByRecursion}
use Rattle.deal_changes.specs.declared.change.Change.{Change}
use Rattle.deal_model.specs.Views.{History, SignsWith}
use Rattle.deal_model.specs.Rules.{Allowed, Legal}
use Rattle.world_core.specs.declared.world.Source.{Source}
use Rattle.world_core.specs.declared.world.Source.TheVariants.{Place}
use Rattle.world_core.specs.declared.world.Signed.{Signed}
use Rattle.world_core.specs.declared.world.World.{World}
use Rattle.world_core.specs.declared.world.Step.{Step}
use Rattle.world_core.specs.declared.world.Step.TheVariants.{Found}

abbrev pub place_of : Source → ℕ
place_of (Place n) = n

-- a place of an acknowledged change
abbrev pub IsPlace : ℕ → ℕ → Type 0
IsPlace acked n = (1 ≤ n) × (n ≤ acked)

-- a signed leaf is one that the change at its place signs with, which was acknowledged
pub record IsEntry (h : History) (acked : ℕ) (e : Signed) : Type 0 where
  pub low : 1 ≤ place_of e.source
  pub high : place_of e.source ≤ acked
  pub change : Change
  pub stands : slice_get h (place_of e.source - 1) ≡ Some change
  pub has : SignsWith change e.key e.leaf

-- The history is legal; at most one change is on its way, and it may come next; the acknowledged changes stand; what was
-- signed and sent comes from them.
pub record Safe (w : World) : Type 0 where
  pub legal : Legal w.durable
  pub single : (w.pending ≡ None) ⊎ (w.doubt ≡ None)
  pub pending : IfSome w.pending (Allowed w.durable)
  pub doubt : IfSome w.doubt (Allowed w.durable)
  pub acked_low : 1 ≤ w.acked
  pub acked_high : w.acked ≤ length w.durable
  pub signed : AllByRecursion (IsEntry w.durable w.acked) w.signed
  pub sent : AllByRecursion (IsPlace w.acked) w.sent

-- one list begins another
abbrev pub Begins : {X : Type 0} → List X → List X → Type 0
Begins {X} xs ys = (more : List X) × (ys ≡ xs ++ more)

abbrev pub is_founding : Step → Bool
is_founding (Found c) = true
is_founding _ = false

-- What a step keeps: the acknowledged changes, but where the history is founded. No count falls, and no list shrinks.
pub record Follows (w : World) (s : Step) (v : World) : Type 0 where
  pub kept : is_founding s ≡ false → take w.acked v.durable ≡ take w.acked w.durable
  pub acked : w.acked ≤ v.acked
  pub signed : Begins w.signed v.signed
  pub sent : Begins w.sent v.sent

-- each leaf of a key is signed with for one place
abbrev pub SignedOnce : World → Type 0
SignedOnce w = (i j : ℕ) (e f : Signed) → slice_get w.signed i ≡ Some e → slice_get w.signed j ≡ Some f → e.key ≡ f.key → e.leaf ≡ f.leaf → place_of e.source ≡ place_of f.source
