-- Run after run, from stage to stage.
use Rattle.std.proofs.Common.{◌≡◌, ℕ, zero, suc, List, [], ◌∷◌, ◌++◌, Option, Some, refl, sym, subst, inl}
use Rattle.std.specs.Prelude.{slice_get}
use Rattle.std.proofs.lemmas.Option.{none-some, same_Some}
use Rattle.cmp_ports.specs.Disk.{Every}
use Rattle.cmp_ports.specs.declared.disk.Disk.{Ghosts}
use Rattle.deal_changes.specs.declared.change.Change.{Change}
use Rattle.deal_model.specs.Views.{History}
use Rattle.deal_model.specs.Laws.{GrowsLegally}
use Rattle.deal_table.specs.History.{Begins}
use Rattle.world_core.specs.declared.world.World.{World}
use Rattle.world_core.specs.declared.world.Step.{Step}
use Rattle.world_core.specs.Steps.{founded, Run}
use Rattle.desk_steps.proofs.Leading.{run_both}
use Rattle.one_history.specs.Visits.{Visit, IsVisit, AreRuns, IsEmpty}
use Rattle.one_history.specs.Worlds.{Works, Do, WorkedOn, StoodAfter, IsMadeBy, AreOne}
use Rattle.one_history.proofs.Images.{AtMostOne}
use Rattle.one_history.proofs.Made.{begins_same}
use Rattle.one_history.proofs.Stages.{Stage, First, Up, state_of, Extends, Knows, Shows}
use Rattle.one_history.proofs.Stepping.{IsStepped, IsDisk, stepped}

-- The runs have led to the history of the last one.
pub record IsLed {D A : Type 0} (M : History → Change → Type 0) (vs : List (Visit D A)) (h : History) (e : Option Change) (s : Stage) (w : World) : Type 0 where
  pub done : List Step
  pub does : Do vs (state_of s) done
  pub world : World
  pub run : Run w done world
  pub knows : Knows M (Up h e) world
  pub extends : Extends s h
  pub keeps : (i : ℕ) (v : Visit D A) (k : History) → slice_get vs i ≡ Some v → Works v.ending → StoodAfter v v.finding k → Begins k h

-- one run more in front
in_front : {D A : Type 0} (g : Ghosts D) (M : History → Change → Type 0) (v : Visit D A) (vs : List (Visit D A)) (h : History) (e : Option Change) (s : Stage) (w : World) (next : D)
    → (step : IsStepped g M v v.finding s w next) → IsLed M vs h e step.to step.world → IsLed M (v ∷ vs) h e s w
in_front {D} {A} g M v vs h e s w next step rest = record {
  done = step.own ++ rest.done;
  does = (step.own, rest.done, state_of step.to, refl, step.does, rest.does);
  world = rest.world;
  run = run_both w step.own rest.done step.world rest.world step.run rest.run;
  knows = rest.knows;
  extends = step.extends h rest.extends;
  keeps = keeps;
}
  where
    keeps : (i : ℕ) (x : Visit D A) (k : History) → slice_get (v ∷ vs) i ≡ Some x → Works x.ending → StoodAfter x x.finding k → Begins k h
    keeps zero x k is = subst (λ (y : Visit D A). Works y.ending → StoodAfter y y.finding k → Begins k h) (same_Some v x is) (λ works stood. step.keeps k h works stood rest.extends)
    keeps (suc i) x k is = rest.keeps i x k is

-- no more runs
at_end : {D A : Type 0} (M : History → Change → Type 0) (h : History) (e : Option Change) (s : Stage) (w : World) → s ≡ Up h e → Knows M s w → IsLed {D = D} {A = A} M [] h e s w
at_end {D} {A} M h e s w is known = record {
  done = [];
  does = refl;
  world = w;
  run = refl;
  knows = subst (λ (t : Stage). Knows M t w) is known;
  extends = subst (λ (t : Stage). Extends t h) (sym is) (begins_same h);
  keeps = λ i v k stands works stood. absurd (none-some v stands);
}

-- each run makes only what counts as made
abbrev pub AreMine : {D A : Type 0} → (A → History → Change → Type 0) → (History → Change → Type 0) → List (Visit D A) → Type 0
AreMine {D} {A} Own M vs = (i : ℕ) (v : Visit D A) → slice_get vs i ≡ Some v → (h : History) (c : Change) → Own v.asked h c → M h c

led : {D A : Type 0} → AtMostOne → GrowsLegally → (g : Ghosts D) → IsDisk g → (Own : A → History → Change → Type 0) (M : History → Change → Type 0) (d last : D) (vs : List (Visit D A)) (v : Visit D A) (h : History) (s : Stage) (w : World)
    → AreMine Own M (vs ++ v ∷ []) → AreRuns g Own d (vs ++ v ∷ []) last → WorkedOn v h → Knows M s w → Every (g.images d) (Shows M s) → IsLed M (vs ++ v ∷ []) (h ++ v.made) v.doubt s w
led one grows g disk Own M d last [] v h s w mine runs worked known shown =
    let step = stepped one grows g disk M (Own v.asked) (mine 0 v refl) v runs.2.0 runs.1.content runs.1.tells runs.2.1 s w known (subst (λ x. Every (g.images x) (Shows M s)) (sym runs.0) shown) v.finding runs.1.by in
    in_front g M v [] (h ++ v.made) v.doubt s w runs.2.0 step (at_end M (h ++ v.made) v.doubt step.to step.world (step.ends h worked.0 worked.1) step.knows)
led one grows g disk Own M d last (u ∷ vs) v h s w mine runs worked known shown =
    let step = stepped one grows g disk M (Own u.asked) (mine 0 u refl) u runs.2.0 runs.1.content runs.1.tells runs.2.1 s w known (subst (λ x. Every (g.images x) (Shows M s)) (sym runs.0) shown) u.finding runs.1.by in
    in_front g M u (vs ++ v ∷ []) (h ++ v.made) v.doubt s w runs.2.0 step (led one grows g disk Own M runs.2.0 last vs v h step.to step.world (λ i x is. mine (suc i) x is) runs.2.2 worked step.knows step.images)

-- all runs are one
pub are_one : {D A : Type 0} → AtMostOne → GrowsLegally → (g : Ghosts D) → IsDisk g → (Own : A → History → Change → Type 0) (d last : D) (vs : List (Visit D A)) (v : Visit D A) (h : History)
    → IsEmpty g d → AreRuns g Own d (vs ++ v ∷ []) last → WorkedOn v h → AreOne Own (vs ++ v ∷ []) (h ++ v.made) v.doubt
are_one one grows g disk Own d last vs v h empty runs worked =
    let all = led one grows g disk Own (IsMadeBy Own (vs ++ v ∷ [])) d last vs v h First founded (λ i x is k c own. (i, x, is, own)) runs worked refl (λ c here. inl (empty c here)) in
    record {
      legal = all.knows.legal;
      keeps = all.keeps;
      made = all.knows.made;
      done = all.done;
      does = all.does;
      world = all.world;
      run = all.run;
      stands = all.knows.stands;
    }

-- each of them is a run
pub visit_at : {D A : Type 0} (g : Ghosts D) (Own : A → History → Change → Type 0) (d last : D) (vs : List (Visit D A)) → AreRuns g Own d vs last → (i : ℕ) (v : Visit D A) → slice_get vs i ≡ Some v → IsVisit g (Own v.asked) v
visit_at g Own d last [] runs i v is = absurd (none-some v is)
visit_at g Own d last (u ∷ vs) runs zero v is = subst (λ x. IsVisit g (Own x.asked) x) (same_Some u v is) runs.1
visit_at g Own d last (u ∷ vs) runs (suc i) v is = visit_at g Own runs.2.0 last vs runs.2.2 i v is
