-- The world's steps: which can be taken, and what they leave.
use Rattle.std.specs.Prelude.{◌≡◌, ℕ, ◌-◌, ◌≤◌, Bool, true, false, ◌&&◌, ◌==◌, List, [], ◌∷◌, ◌++◌, length, replicate, Option, Some, None, IsTrue, if◌then◌else◌, ◌⊎◌, slice_get}
use Rattle.std.specs.List.{list_any}
use Rattle.deal_changes.specs.declared.change.Settings.{Settings}
use Rattle.deal_changes.specs.declared.change.Change.{Change}
use Rattle.deal_changes.specs.declared.change.Change.TheVariants as changes
use Rattle.deal_model.specs.declared.states.Key.{Key}
use Rattle.deal_model.specs.declared.states.Key.TheVariants.{Issue, Reply}
use Rattle.deal_model.specs.Views.{History, signing_leaves}
use Rattle.deal_model.specs.Rules.{Allowed}
use Rattle.world_core.specs.declared.world.Source.TheVariants.{Place}
use Rattle.world_core.specs.declared.world.Signed.{Signed}
use Rattle.world_core.specs.declared.world.World.{World}
use Rattle.world_core.specs.declared.world.Step.{Step}
use Rattle.world_core.specs.declared.world.Step.TheVariants.{Found, Propose, Sync, SyncFail, Settle, Sign, Send, Crash, Reopen}

-- ---- the world that everything begins with

-- a Name of the common name "x"
abbrev pub first_name : List ℕ
first_name = 0x30 ∷ 12 ∷ 0x31 ∷ 10 ∷ 0x30 ∷ 8 ∷ 6 ∷ 3 ∷ 85 ∷ 4 ∷ 3 ∷ 12 ∷ 1 ∷ 120 ∷ []

-- one level, a tree of type 5, one-time signatures of type 4, and octets 01 behind them
abbrev pub first_key : List ℕ
first_key = 0 ∷ 0 ∷ 0 ∷ 1 ∷ 0 ∷ 0 ∷ 0 ∷ 5 ∷ 0 ∷ 0 ∷ 0 ∷ 4 ∷ replicate 48 1

abbrev pub first_settings : Settings
first_settings = record { time = 0; name = first_name; issue_key = first_key; reply_key = first_key; wait = 1; skew = 1; rounds = 1; check_after = 1; days = 1 }

unfoldable pub first_change : Change
first_change = changes.Found first_settings

abbrev pub founded : World
founded = record { durable = first_change ∷ []; pending = None; doubt = None; acked = 1; up = true; signed = []; sent = [] }

-- ---- signing

abbrev pub same_key : Key → Key → Bool
same_key Issue Issue = true
same_key Issue Reply = false
same_key Reply Issue = false
same_key Reply Reply = true

abbrev pub is_signed : Key → ℕ → Signed → Bool
is_signed key leaf e = same_key e.key key && (e.leaf == leaf)

abbrev pub with_leaf : List Signed → Key → ℕ → ℕ → List Signed
with_leaf signed key leaf place = if list_any (is_signed key leaf) signed then signed else signed ++ record { key = key; leaf = leaf; source = Place place } ∷ []

-- with those of the leaves that aren't signed with yet
abbrev pub with_leaves : List Signed → List (Key × ℕ) → ℕ → List Signed
with_leaves signed [] place = signed
with_leaves signed (x ∷ xs) place = with_leaves (with_leaf signed x.0 x.1 place) xs place

abbrev pub leaves_of_place : Option Change → List (Key × ℕ)
leaves_of_place (Some c) = signing_leaves c
leaves_of_place None = []

abbrev pub with_place : List Signed → History → ℕ → List Signed
with_place signed h place = with_leaves signed (leaves_of_place (slice_get h (place - 1))) place

-- ---- the steps

-- the history with the change, where there is one
abbrev pub with_change : History → Option Change → History
with_change h (Some c) = h ++ c ∷ []
with_change h None = h

-- the step can be taken
abbrev pub Enabled : World → Step → Type 0
Enabled w (Found c) = (w ≡ founded) × Allowed [] c
Enabled w (Propose c) = IsTrue w.up × (w.pending ≡ None) × (w.doubt ≡ None) × Allowed w.durable c
Enabled w Sync = IsTrue w.up × ((c : Change) × (w.pending ≡ Some c))
Enabled w SyncFail = IsTrue w.up × ((c : Change) × (w.pending ≡ Some c))
Enabled w Settle = IsTrue w.up × ((c : Change) × (w.doubt ≡ Some c))
Enabled w (Sign n) = IsTrue w.up × (1 ≤ n) × (n ≤ w.acked)
Enabled w (Send n) = IsTrue w.up × (1 ≤ n) × (n ≤ w.acked)
Enabled w (Crash keep) = IsTrue w.up
Enabled w Reopen = w.up ≡ false

-- the world after a step that can be taken
abbrev pub after : World → Step → World
after w (Found c) = record w { durable = c ∷ [] }
after w (Propose c) = record w { pending = Some c }
after w Sync = record w { durable = with_change w.durable w.pending; acked = length (with_change w.durable w.pending); pending = None }
after w SyncFail = record w { doubt = w.pending; pending = None }
after w Settle = record w { doubt = None }
after w (Sign n) = record w { signed = with_place (with_place w.signed w.durable 1) w.durable n }
after w (Send n) = record w { sent = w.sent ++ n ∷ [] }
after w (Crash keep) = record w { durable = if keep then with_change (with_change w.durable w.pending) w.doubt else w.durable; pending = None; doubt = None; up = false }
after w Reopen = record w { acked = length w.durable; up = true }

-- A step leads to the world after it, and where it can't be taken it leaves the world as it is.
abbrev pub Leads : World → Step → World → Type 0
Leads w s v = (Enabled w s × (v ≡ after w s)) ⊎ ((Enabled w s → ⊥) × (v ≡ w))

-- the world that the steps leave
abbrev pub Run : World → List Step → World → Type 0
Run w [] v = v ≡ w
Run w (s ∷ ss) v = (u : World) × Leads w s u × Run u ss v
