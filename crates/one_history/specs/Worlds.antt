-- Which steps of the world runs are, and that all runs on one disk have one history.
use Rattle.std.specs.Prelude.{◌≡◌, ◌⊎◌, ℕ, suc, Bool, List, [], ◌∷◌, ◌++◌, take, Option, Some, None, slice_get}
use Rattle.deal_changes.specs.declared.change.Change.{Change}
use Rattle.deal_model.specs.Views.{History}
use Rattle.deal_model.specs.Rules.{Legal}
use Rattle.deal_table.specs.History.{Begins}
use Rattle.world_core.specs.declared.world.World.{World}
use Rattle.world_core.specs.declared.world.Step.{Step}
use Rattle.world_core.specs.declared.world.Step.TheVariants.{Found, Propose, Sync, SyncFail, Sign, Send, Crash, Reopen}
use Rattle.world_core.specs.Steps.{founded, Run}
use Rattle.desk_steps.specs.Steps.{StandsFor}
use Rattle.one_history.specs.Visits.{Ending, Ended, HaltedAfter, StoppedInside, Finding, Nothing, Blank, Holding, Visit}

-- ---- the steps of a run

-- changes are made, each written and acknowledged
abbrev pub making : List Change → List Step
making [] = []
making (c ∷ cs) = Propose c ∷ Sync ∷ making cs

-- one is written, and is in doubt
abbrev pub doubting : Option Change → List Step
doubting None = []
doubting (Some c) = Propose c ∷ SyncFail ∷ []

-- replies are signed, and sent
abbrev pub sending : List ℕ → List Step
sending [] = []
sending (n ∷ ns) = Sign n ∷ Send n ∷ sending ns

-- the service before a run: nothing was found so far; it runs; it was stopped
pub data State : Type 0 where
  Unfounded Running Stopped : State

-- How a run comes by its history: the first that finds one finds the service founded; a later one takes over from the run before it,
-- whose change in doubt is kept or lost; or the service starts again.
abbrev pub IsOpening : State → History → List Step → Type 0
IsOpening Unfounded h opening = (c : Change) × (h ≡ c ∷ []) × (opening ≡ Found c ∷ [])
IsOpening Running h opening = (keep : Bool) × (opening ≡ Crash keep ∷ Reopen ∷ [])
IsOpening Stopped h opening = opening ≡ Reopen ∷ []

-- Of the steps of a run that is stopped inside its work some are done. Before a service is found there may be nothing to stop.
abbrev pub IsStop : State → List Step → List Step → State → Type 0
IsStop Unfounded all done next = ((done ≡ []) × (next ≡ Unfounded)) ⊎ ((n : ℕ) × (keep : Bool) × (done ≡ take (suc n) all ++ Crash keep ∷ []) × (next ≡ Stopped))
IsStop Running all done next = (n : ℕ) × (keep : Bool) × (done ≡ take n all ++ Crash keep ∷ []) × (next ≡ Stopped)
IsStop Stopped all done next = (n : ℕ) × (keep : Bool) × (done ≡ take n all ++ Crash keep ∷ []) × (next ≡ Stopped)

abbrev pub IsDone : Ending → State → List Step → List Step → State → Type 0
IsDone StoppedInside before all done next = IsStop before all done next
IsDone Ended before all done next = (done ≡ all) × (next ≡ Running)
IsDone HaltedAfter before all done next = (done ≡ all) × (next ≡ Running)

-- the run comes to the end of its work
abbrev pub Works : Ending → Type 0
Works ending = ending ≡ StoppedInside → ⊥

-- The steps of a run, by what it finds. A founding is a step where it is acknowledged. Of a run that is stopped, the changes that it
-- was about to make may be others.
abbrev pub Does : {D A : Type 0} → Visit D A → Finding → State → List Step → State → Type 0
Does v Nothing before done next = (done ≡ []) × (next ≡ before)
Does v Blank before done next = ((done ≡ []) × (next ≡ before) × ((v.ending ≡ StoppedInside) ⊎ (v.made ≡ [])))
    ⊎ ((c : Change) × (v.made ≡ c ∷ []) × (done ≡ Found c ∷ []) × (next ≡ Running) × Works v.ending)
Does v (Holding h) before done next = (opening : List Step) × (made : List Change) × IsOpening before h opening
    × IsDone v.ending before (opening ++ (making made ++ (doubting v.doubt ++ sending v.sent))) done next × (Works v.ending → made ≡ v.made)

-- run after run
abbrev pub Do : {D A : Type 0} → List (Visit D A) → State → List Step → Type 0
Do [] before done = done ≡ []
Do (v ∷ vs) before done = (own : List Step) × (more : List Step) × (next : State) × (done ≡ own ++ more) × Does v v.finding before own next × Do vs next more

-- ---- one history

-- the run found this history, and came to the end of its work
abbrev pub WorkedOn : {D A : Type 0} → Visit D A → History → Type 0
WorkedOn v h = Works v.ending × (v.finding ≡ Holding h)

-- what stood at the end of its work: what it found with what it made, or what it founded
abbrev pub StoodAfter : {D A : Type 0} → Visit D A → Finding → History → Type 0
StoodAfter v Nothing h = ⊥
StoodAfter v Blank h = h ≡ v.made
StoodAfter v (Holding found) h = h ≡ found ++ v.made

-- the change behind this history is one that some run makes for what it was asked
abbrev pub IsMadeBy : {D A : Type 0} → (A → History → Change → Type 0) → List (Visit D A) → History → Change → Type 0
IsMadeBy {D} {A} Own vs h c = (i : ℕ) × (v : Visit D A) × (slice_get vs i ≡ Some v) × Own v.asked h c

-- The runs are one run of the world, from its beginning on, which leaves this history, with this change in doubt. What stood by a
-- run at the end of its work begins the history, and each change of the history is one that a run was asked for.
pub record AreOne {D A : Type 0} (Own : A → History → Change → Type 0) (vs : List (Visit D A)) (h : History) (d : Option Change) : Type 0 where
  pub legal : Legal h
  pub keeps : (i : ℕ) (v : Visit D A) (k : History) → slice_get vs i ≡ Some v → Works v.ending → StoodAfter v v.finding k → Begins k h
  pub made : (n : ℕ) (c : Change) → slice_get h n ≡ Some c → IsMadeBy Own vs (take n h) c
  pub done : List Step
  pub does : Do vs Unfounded done
  pub world : World
  pub run : Run founded done world
  pub stands : StandsFor world h d
