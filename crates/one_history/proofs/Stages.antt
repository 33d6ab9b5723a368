-- Where the service stands between two runs: what is known of the world, and of the images of the disk.
use Rattle.std.proofs.Common.{◌≡◌, ℕ, false, List, [], ◌∷◌, Option}
use Rattle.std.specs.Prelude.{◌⊎◌, IfSome}
use Rattle.journal_core.specs.Log.{is_founded}
use Rattle.deal_changes.specs.declared.change.Change.{Change}
use Rattle.deal_model.specs.Views.{History}
use Rattle.deal_model.specs.Rules.{Allowed, Legal}
use Rattle.deal_table.specs.History.{Begins}
use Rattle.desk.specs.Images.{Recovers, RecoversWith, IsDoubt}
use Rattle.world_core.specs.declared.world.World.{World}
use Rattle.world_core.specs.Steps.{founded}
use Rattle.desk_steps.specs.Steps.{StandsFor}
use Rattle.one_history.specs.Worlds.{State, Unfounded, Running, Stopped}
use Rattle.one_history.proofs.Made.{AreMade}
use Rattle.one_history.proofs.Leads.{IsDown}

-- nothing was found; the service runs with this history and doubt; it was stopped with this history
pub data Stage : Type 0 where
  First : Stage
  Up : History → Option Change → Stage
  Down : History → Stage

abbrev pub state_of : Stage → State
state_of First = Unfounded
state_of (Up h e) = Running
state_of (Down h) = Stopped

-- the history of the stage begins this one
abbrev pub Extends : Stage → History → Type 0
Extends First k = Unit {0}
Extends (Up h e) k = Begins h k
Extends (Down h) k = Begins h k

-- The service runs: history and doubt are lawful, and each change has been made by somebody.
pub record IsUp (M : History → Change → Type 0) (h : History) (e : Option Change) (w : World) : Type 0 where
  pub stands : StandsFor w h e
  pub legal : Legal h
  pub may : IfSome e (Allowed h)
  pub made : AreMade M h
  pub doubted : IfSome e (M h)

pub record IsHalted (M : History → Change → Type 0) (h : History) (w : World) : Type 0 where
  pub down : IsDown w h
  pub legal : Legal h
  pub made : AreMade M h

-- what is known of the world
abbrev pub Knows : (History → Change → Type 0) → Stage → World → Type 0
Knows M First w = w ≡ founded
Knows M (Up h e) w = IsUp M h e w
Knows M (Down h) w = IsHalted M h w

-- a first change, which may have been made
abbrev pub IsFirst : (History → Change → Type 0) → List ℕ → Change → Type 0
IsFirst M image c = M [] c × Allowed [] c × Recovers image (c ∷ [])

-- what is known of an image of the disk
abbrev pub Shows : (History → Change → Type 0) → Stage → List ℕ → Type 0
Shows M First image = (is_founded image ≡ false) ⊎ ((c : Change) × IsFirst M image c)
Shows M (Up h e) image = RecoversWith h (IsDoubt e) image
Shows M (Down h) image = Recovers image h
