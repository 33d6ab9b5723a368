-- All runs of the program have one history: they are visits, one after the other.
use Rattle.std.proofs.Common.{◌≡◌, ℕ, zero, suc, List, [], ◌∷◌, ◌++◌, Some, refl, sym, subst, ◌∙◌}
use Rattle.std.specs.Prelude.{slice_get}
use Rattle.std.proofs.lemmas.Option.{none-some, same_Some}
use Rattle.cmp_ports.specs.declared.disk.Disk.{Ghosts}
use Rattle.signed_texts.specs.Laws.{Stands}
use Rattle.one_history.specs.Visits.{Ending, Ended, HaltedAfter, StoppedInside, Visit, HandsOn, AreRuns}
use Rattle.one_history.specs.Causes.{Asked}
use Rattle.one_history.specs.Headline.{MayCause, AnswersRight, AllRunsHaveOneHistory}
use Rattle.program_runs.specs.Runs.{EveryRunIsAVisit}
use Rattle.program_runs.specs.All.{ProgramRun, Tellers, HasRun, LeavesTo, AreProgramRuns, IsVisitOf, AreVisitsOf, AllProgramRunsHaveOneHistory}

-- ---- one run

-- what the run leaves to the next one its visit hands on
hands_on : {D S K C E : Type 0} (g : Ghosts D) (r : ProgramRun D S K C E) (v : Visit D Asked) (next : D) → v.old ≡ r.old → v.new ≡ r.new → (ending : Ending) → LeavesTo g r ending next → HandsOn g v ending next
hands_on g r v next from to Ended left = left ∙ sym to
hands_on {D} g r v next from to HaltedAfter left = (left.0, subst (λ (x : D). g.images x left.0) (sym to) left.1, left.2)
hands_on {D} g r v next from to StoppedInside left =
    (left.0, subst (λ (x : D). g.left_since x (g.moment v.old) left.0) (sym to) (subst (λ (x : D). g.left_since r.new (g.moment x) left.0) (sym from) left.1), left.2)

-- ---- run after run

-- The runs are these visits, one after the other, whose answers are right.
record AreFollowed {D S K C E : Type 0} (g : Ghosts D) (t : Tellers S K C E) (d last : D) (rs : List (ProgramRun D S K C E)) : Type 0 where
  pub visits : List (Visit D Asked)
  pub are : AreVisitsOf g t rs visits
  pub runs : AreRuns g MayCause d visits last
  pub right : (w : Visit D Asked) → Stands w visits → AnswersRight w

in_front : {D S K C E : Type 0} (g : Ghosts D) (t : Tellers S K C E) (d last next : D) (r : ProgramRun D S K C E) (rs : List (ProgramRun D S K C E)) (v : Visit D Asked)
    → r.old ≡ d → LeavesTo g r r.ending next → IsVisitOf g t r v → AreFollowed g t next last rs → AreFollowed g t d last (r ∷ rs)
in_front {D} g t d last next r rs v starts left of rest = record {
  visits = of.run.visit ∷ rest.visits;
  are = (record { run = of.run; visited = refl }, rest.are);
  runs = (of.run.from ∙ starts, of.run.is, (next, subst (λ (e : Ending). HandsOn g of.run.visit e next) (sym of.run.ends) (hands_on g r of.run.visit next of.run.from of.run.to r.ending left), rest.runs));
  right = right;
}
  where
    right : (w : Visit D Asked) → Stands w (of.run.visit ∷ rest.visits) → AnswersRight w
    right w (zero, is) = subst (λ (x : Visit D Asked). AnswersRight x) (same_Some of.run.visit w is) of.run.right
    right w (suc i, is) = rest.right w (i, is)

module _ {D S K C E : Type 0} (g : Ghosts D) (t : Tellers S K C E) (each : EveryRunIsAVisit g t.input_faults t.key_faults t.entropy_faults t.readings t.draws) where
  visit_of : (r : ProgramRun D S K C E) (content : List ℕ) → g.content r.old ≡ Some content → HasRun g t r → (v : Visit D Asked) × IsVisitOf g t r v
  visit_of r content tells has =
      let run = each r.old r.new r.input r.input_after r.key r.key_after r.clock r.clock_after r.entropy r.entropy_after r.command content r.message r.key_file r.status r.text r.ending tells has in
      (run.visit, record { run = run; visited = refl })

  followed : (d last : D) (rs : List (ProgramRun D S K C E)) → AreProgramRuns g t d rs last → AreFollowed g t d last rs
  followed d last [] runs = record { visits = []; are = tt; runs = runs; right = λ w among. absurd (none-some w among.1) }
  followed d last (r ∷ rs) (starts, (content, tells), has, (next, left, more)) =
      let of = visit_of r content tells has in
      in_front g t d last next r rs of.0 starts left of.1 (followed next last rs more)

-- ---- the runs up to one of them

runs_upto : {D : Type 0} (g : Ghosts D) (d last : D) (us ws : List (Visit D Asked)) (v : Visit D Asked) → AreRuns g MayCause d (us ++ v ∷ ws) last → (middle : D) × AreRuns g MayCause d (us ++ v ∷ []) middle
runs_upto g d last [] ws v (starts, is, (next, hand, more)) = (next, (starts, is, (next, hand, refl)))
runs_upto g d last (u ∷ us) ws v (starts, is, (next, hand, more)) =
    let rest = runs_upto g next last us ws v more in
    (rest.0, (starts, is, (next, hand, rest.1)))

stands_upto : {X : Type 0} (us ws : List X) (v w : X) (i : ℕ) → slice_get (us ++ v ∷ []) i ≡ Some w → slice_get (us ++ v ∷ ws) i ≡ Some w
stands_upto [] ws v w zero is = is
stands_upto [] ws v w (suc i) is = absurd (none-some w is)
stands_upto (u ∷ us) ws v w zero is = is
stands_upto (u ∷ us) ws v w (suc i) is = stands_upto us ws v w i is

-- ---- all

pub all_law : {D S K C E : Type 0} (g : Ghosts D) (t : Tellers S K C E) → EveryRunIsAVisit g t.input_faults t.key_faults t.entropy_faults t.readings t.draws → AllRunsHaveOneHistory g → AllProgramRunsHaveOneHistory g t
all_law {D} g t each one d last rs empty runs =
    let all = followed g t each d last rs runs in (
      all.visits,
      all.are,
      λ us ws v h same worked.
          let cut = runs_upto g d last us ws v (subst (λ (vs : List (Visit D Asked)). AreRuns g MayCause d vs last) same all.runs) in
          one d cut.0 us v h empty cut.1 (λ w among. all.right w (subst (λ (vs : List (Visit D Asked)). Stands w vs) (sym same) (among.0, stands_upto us ws v w among.0 among.1))) worked,
    )
