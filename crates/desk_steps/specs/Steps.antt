-- What a desk stands for in the world, and where steps of the world lead it.
use Rattle.std.specs.Prelude.{◌≡◌, ℕ, Bool, false, List, [], ◌∷◌, ◌++◌, length, take, Option, Some, None, IsTrue, IfSome}
use Rattle.deal_changes.specs.declared.change.Change.{Change}
use Rattle.deal_model.specs.Views.{History}
use Rattle.deal_model.specs.Rules.{Allowed, Legal}
use Rattle.world_core.specs.declared.world.World.{World}
use Rattle.world_core.specs.declared.world.Step.{Step}
use Rattle.world_core.specs.declared.world.Step.TheVariants.{Propose, Sync, SyncFail, Settle, Crash}
use Rattle.world_core.specs.Steps.{Run}

-- A desk with this history, and this change in doubt, stands for the world: it runs, the history is durable, and all of it is
-- acknowledged; nothing is on its way.
pub record StandsFor (w : World) (h : History) (d : Option Change) : Type 0 where
  pub up : IsTrue w.up
  pub durable : w.durable ≡ h
  pub pending : w.pending ≡ None
  pub doubt : w.doubt ≡ d
  pub acked : w.acked ≡ length h

-- The service is stopped, and this history is durable; nothing is on its way or in doubt.
pub record IsStopped (w : World) (h : History) : Type 0 where
  pub down : w.up ≡ false
  pub durable : w.durable ≡ h
  pub pending : w.pending ≡ None
  pub doubt : w.doubt ≡ None

-- nothing is signed or sent
pub record SendsNothing (w v : World) : Type 0 where
  pub signed : v.signed ≡ w.signed
  pub sent : v.sent ≡ w.sent

-- ---- steps

-- the change in doubt, where there is one, is taken back
abbrev pub settling : Option Change → List Step
settling None = []
settling (Some c) = Settle ∷ []

-- behind that a change is added; or it is written, and then in doubt
abbrev pub adding : Option Change → Change → List Step
adding d c = settling d ++ Propose c ∷ Sync ∷ []

abbrev pub failing : Option Change → Change → List Step
failing d c = settling d ++ Propose c ∷ SyncFail ∷ []

-- The steps lead from every world that the desk stands for before them to one that it stands for after them.
abbrev pub Lead : History → Option Change → List Step → History → Option Change → Type 0
Lead h d ss g e = (w : World) → StandsFor w h d → (v : World) × Run w ss v × StandsFor v g e × SendsNothing w v

-- some of the steps are done, and then the service stops; what is on its way is kept or lost
abbrev pub StopsIn : World → List Step → World → Type 0
StopsIn w ss v = (n : ℕ) × (keep : Bool) × Run w (take n ss ++ Crash keep ∷ []) v

-- ---- desks

-- the history is legal, and what is in doubt may come next, as every desk's are
abbrev pub IsLawful : History → Option Change → Type 0
IsLawful h d = Legal h × IfSome d (Allowed h)

-- there are such steps, and they lead there
abbrev pub AreSteps : (List Step → Type 0) → History → Option Change → History → Option Change → Type 0
AreSteps By h d g e = (ss : List Step) × By ss × Lead h d ss g e
