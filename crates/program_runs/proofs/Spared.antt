-- A run that changes nothing makes a visit.
use Rattle.std.proofs.Common.{◌≡◌, ℕ, List, [], Option, Some, None, Ok, refl, sym, subst, ◌∙◌, inl, inr}
use Rattle.std.specs.Prelude.{◌⊎◌, IfSome}
use Rattle.std.proofs.lemmas.List.{append-nil}
use Rattle.std.proofs.lemmas.Option.{none-some}
use Rattle.cmp_ports.specs.Disk.{Every}
use Rattle.cmp_ports.specs.declared.disk.Disk.{Ghosts}
use Rattle.deal_model.specs.Views.{History}
use Rattle.desk.specs.Images.{Recovers, RecoversWith, IsDoubt}
use Rattle.signed_texts.specs.Laws.{Stands}
use Rattle.one_history.specs.Visits.{Ending, Finding, Nothing, Holding, Visit, IsCut, IsVisit}
use Rattle.one_history.specs.Causes.{Cause, Asked}
use Rattle.one_history.specs.Headline.{MayCause}
use Rattle.cmpca_tool.specs.Mounts.{IsAnswer}
use Rattle.cmpca_tool.specs.Changes.{run_of, IsUnchanged}
use Rattle.cmpca_tool.specs.Reply.{IsShowReply}
use Rattle.cmpca_tool.specs.declared.status.Status.{Status}
use Rattle.cmpca_tool.specs.declared.words.Command.{Command}
use Rattle.cmpca_tool.specs.declared.words.Command.TheVariants.{Show}
use Rattle.program_runs.specs.Runs.{AreCauses, AreAnswers, Acknowledges, Shows, IsRun}
use Rattle.program_runs.proofs.Changed.{leaves_more}
use Rattle.program_runs.proofs.Undone.{never_done}

-- ---- two visits that make nothing

-- it finds what it finds, makes nothing, and leaves nothing in doubt
abbrev pub idle_visit : {D : Type 0} (old new : D) (asked : Asked) (ending : Ending) (finding : Finding) → Visit D Asked
idle_visit old new asked ending finding = record { asked = asked; old = old; new = new; ending = ending; finding = finding; made = []; doubt = None; sent = [] }

-- of a run that goes on from nothing
pub spared : {D : Type 0} (g : Ghosts D) (old new : D) (asked : Asked) (ending : Ending) (content : List ℕ) → g.content old ≡ Some content → IsUnchanged (run_of g.content g.images g.moment g.left_since old new)
    → IsVisit g (MayCause asked) (idle_visit old new asked ending Nothing)
spared g old new asked ending content tells same = record {
  content = content;
  tells = tells;
  by = (record { content = same.content; crash = same.crash; moments = same.moments }, refl, refl, refl);
}

-- of a run that goes on from the history that is mounted, and leaves it so
pub rested : {D : Type 0} (g : Ghosts D) (old new : D) (asked : Asked) (ending : Ending) (content : List ℕ) (h : History) → g.content old ≡ Some content → IsUnchanged (run_of g.content g.images g.moment g.left_since old new)
    → IfSome (g.content old) (λ f. IsAnswer f (Ok h)) → Every (g.images new) (λ f. Recovers f h) → IsVisit g (MayCause asked) (idle_visit old new asked ending (Holding h))
rested g old new asked ending content h tells same holds images =
    let mounted : IsAnswer content (Ok h) = subst (λ (o : Option (List ℕ)). IfSome o (λ f. IsAnswer f (Ok h))) tells holds in
    record {
      content = content;
      tells = tells;
      by = record {
        legal = mounted.holds.2;
        found = subst (λ (o : Option (List ℕ)). IfSome o (λ f. Recovers f h)) (sym tells) mounted.holds.1;
        makes = tt;
        doubts = tt;
        images = subst (λ (x : History). Every (g.images new) (RecoversWith x (IsDoubt None))) (sym (append-nil h)) (λ c here. inl (images c here));
        moments = leaves_more g.moment g.left_since old new (g.images old) (λ c. g.images old c ⊎ IsCut (MayCause asked) h c) (λ c here. inl here) same.moments;
        sends = tt;
      };
    }

-- ---- runs that answer no message

pub never_stands : {X : Type 0} (x : X) → Stands x [] → ⊥
never_stands x s = none-some x s.1

-- the causes, and no answer
abbrev pub unanswered : List (Cause × ℕ) → Asked
unanswered causes = record { causes = causes; answers = [] }

-- a visit that gives no answer is a run
pub quiet_run : {D : Type 0} (g : Ghosts D) (old new : D) (IsReading : ℕ → Type 0) (IsDraw : Option (List ℕ) → Type 0) (command : Option Command) (input key : List ℕ) (status : Status) (text : List ℕ) (ending : Ending)
    (causes : List (Cause × ℕ)) (v : Visit D Asked) → v.asked ≡ unanswered causes → v.old ≡ old → v.new ≡ new → v.ending ≡ ending → IsVisit g (MayCause v.asked) v
    → AreCauses IsReading IsDraw input key command causes → AreAnswers input key status text command [] → Acknowledges status command v.made → Shows status text command v.finding → IsRun g old new IsReading IsDraw command input key status text ending
quiet_run g old new IsReading IsDraw command input key status text ending causes v asks from to ends is are none acknowledged shown = record {
  visit = v;
  from = from;
  to = to;
  ends = ends;
  is = is;
  found = λ a stands. absurd (never_stands a (subst (λ (x : Asked). Stands a x.answers) asks stands));
  right = λ k a found stands. absurd (never_stands a (subst (λ (x : Asked). Stands a x.answers) asks stands));
  causes = subst (λ (x : Asked). AreCauses IsReading IsDraw input key command x.causes) (sym asks) are;
  answers = subst (λ (x : Asked). AreAnswers input key status text command x.answers) (sym asks) none;
  acknowledged = acknowledged;
  shown = shown;
}

-- the disk is as it was
pub spared_run : {D : Type 0} (g : Ghosts D) (old new : D) (IsReading : ℕ → Type 0) (IsDraw : Option (List ℕ) → Type 0) (command : Option Command) (input key : List ℕ) (status : Status) (text : List ℕ) (ending : Ending)
    (content : List ℕ) (causes : List (Cause × ℕ)) → g.content old ≡ Some content → IsUnchanged (run_of g.content g.images g.moment g.left_since old new)
    → AreCauses IsReading IsDraw input key command causes → AreAnswers input key status text command [] → Acknowledges status command [] → Shows status text command Nothing → IsRun g old new IsReading IsDraw command input key status text ending
spared_run g old new IsReading IsDraw command input key status text ending content causes tells same are none acknowledged shown =
    quiet_run g old new IsReading IsDraw command input key status text ending causes (idle_visit old new (unanswered causes) ending Nothing) refl refl refl refl (spared g old new (unanswered causes) ending content tells same) are none acknowledged shown

-- the same, where the history is told
pub rested_run : {D : Type 0} (g : Ghosts D) (old new : D) (IsReading : ℕ → Type 0) (IsDraw : Option (List ℕ) → Type 0) (command : Option Command) (input key : List ℕ) (status : Status) (text : List ℕ) (ending : Ending)
    (content : List ℕ) (causes : List (Cause × ℕ)) (h : History) → g.content old ≡ Some content → IsUnchanged (run_of g.content g.images g.moment g.left_since old new)
    → IfSome (g.content old) (λ f. IsAnswer f (Ok h)) → Every (g.images new) (λ f. Recovers f h)
    → AreCauses IsReading IsDraw input key command causes → AreAnswers input key status text command [] → Acknowledges status command [] → Shows status text command (Holding h) → IsRun g old new IsReading IsDraw command input key status text ending
rested_run g old new IsReading IsDraw command input key status text ending content causes h tells same holds images are none acknowledged shown =
    quiet_run g old new IsReading IsDraw command input key status text ending causes (idle_visit old new (unanswered causes) ending (Holding h)) refl refl refl refl (rested g old new (unanswered causes) ending content h tells same holds images) are none acknowledged shown

-- ---- show

pub show_run : {D : Type 0} (g : Ghosts D) (old new : D) (IsReading : ℕ → Type 0) (IsDraw : Option (List ℕ) → Type 0) (input key : List ℕ) (status : Status) (text : List ℕ) (ending : Ending) (content : List ℕ) → g.content old ≡ Some content
    → IsUnchanged (run_of g.content g.images g.moment g.left_since old new) → IsShowReply (run_of g.content g.images g.moment g.left_since old new) status text → IsRun g old new IsReading IsDraw (Some Show) input key status text ending
show_run g old new IsReading IsDraw input key status text ending content tells same (inl shown) = rested_run g old new IsReading IsDraw (Some Show) input key status text ending content [] shown.history tells same shown.mounted shown.images refl refl tt (λ _. (shown.history, refl, shown.says))
show_run g old new IsReading IsDraw input key status text ending content tells same (inr fault) = spared_run g old new IsReading IsDraw (Some Show) input key status text ending content [] tells same refl refl tt (λ done. absurd (never_done fault.fault (sym fault.ends ∙ done)))
