-- All runs of the program on one disk, one after the other.
use Rattle.std.specs.Prelude.{◌≡◌, ℕ, List, [], ◌∷◌, ◌++◌, Option, Some}
use Rattle.cmp_ports.specs.Coming.{Gives}
use Rattle.cmp_ports.specs.declared.disk.Disk.{Ghosts}
use Rattle.deal_model.specs.Views.{History}
use Rattle.one_history.specs.Visits.{Ending, Ended, HaltedAfter, StoppedInside, Visit, Restarts, IsEmpty}
use Rattle.one_history.specs.Worlds.{WorkedOn}
use Rattle.one_history.specs.Causes.{Asked}
use Rattle.one_history.specs.Headline.{HaveOneHistory}
use Rattle.cmpca_tool.specs.Sources.{devices_of}
use Rattle.cmpca_tool.specs.declared.status.Status.{Status}
use Rattle.cmpca_tool.specs.declared.words.Command.{Command}
use Rattle.program_runs.specs.Runs.{Ran, IsRun}

-- ---- runs

-- A run of the program: the disk, the input, the key file, the clock and the entropy before it and after it; what its words ask for; the
-- octets of the input and of the key file; the status and the text of its reply; and how it ends. Of a run that is stopped this is what
-- it would be without the stop.
pub record ProgramRun (D S K C E : Type 0) : Type 0 where
  pub old : D
  pub new : D
  pub input : S
  pub input_after : S
  pub key : K
  pub key_after : K
  pub clock : C
  pub clock_after : C
  pub entropy : E
  pub entropy_after : E
  pub command : Option Command
  pub message : List ℕ
  pub key_file : List ℕ
  pub status : Status
  pub text : List ℕ
  pub ending : Ending

-- What tells of the devices that a run is lent: their faults, what the clock reads and what the entropy draws.
pub record Tellers (S K C E : Type 0) : Type 0 where
  pub input_faults : S → ℕ
  pub key_faults : K → ℕ
  pub entropy_faults : E → ℕ
  pub readings : C → Option (ℕ → ℕ)
  pub draws : E → Option (ℕ → Option (List ℕ))

-- the run does what the contract of `run_tool` says
abbrev pub HasRun : {D S K C E : Type 0} → Ghosts D → Tellers S K C E → ProgramRun D S K C E → Type 0
HasRun g t r = Ran g r.old r.new (devices_of t.input_faults t.key_faults t.entropy_faults r.input r.input_after r.key r.key_after r.clock r.clock_after r.entropy r.entropy_after)
    (Gives (t.readings r.clock) (t.readings r.clock_after)) (Gives (t.draws r.entropy) (t.draws r.entropy_after)) r.command r.message r.key_file r.status r.text

-- What the next run finds: the same disk; or, where the machine stopped, an image of the run's end, or one of some moment inside it.
abbrev pub LeavesTo : {D S K C E : Type 0} → Ghosts D → ProgramRun D S K C E → Ending → D → Type 0
LeavesTo g r Ended next = next ≡ r.new
LeavesTo g r HaltedAfter next = (image : List ℕ) × g.images r.new image × Restarts g image next
LeavesTo g r StoppedInside next = (image : List ℕ) × g.left_since r.new (g.moment r.old) image × Restarts g image next

-- The runs follow on one another, from this disk to the last one, which tells what it holds before each.
abbrev pub AreProgramRuns : {D S K C E : Type 0} → Ghosts D → Tellers S K C E → D → List (ProgramRun D S K C E) → D → Type 0
AreProgramRuns g t d [] last = last ≡ d
AreProgramRuns {D} g t d (r ∷ rs) last =
    (r.old ≡ d) × ((content : List ℕ) × (g.content r.old ≡ Some content)) × HasRun g t r × ((next : D) × LeavesTo g r r.ending next × AreProgramRuns g t next rs last)

-- ---- their visits

-- the run is this visit
pub record IsVisitOf {D S K C E : Type 0} (g : Ghosts D) (t : Tellers S K C E) (r : ProgramRun D S K C E) (v : Visit D Asked) : Type 0 where
  pub run : IsRun g r.old r.new (Gives (t.readings r.clock) (t.readings r.clock_after)) (Gives (t.draws r.entropy) (t.draws r.entropy_after)) r.command r.message r.key_file r.status r.text r.ending
  pub visited : run.visit ≡ v

-- each run is the visit at its place
abbrev pub AreVisitsOf : {D S K C E : Type 0} → Ghosts D → Tellers S K C E → List (ProgramRun D S K C E) → List (Visit D Asked) → Type 0
AreVisitsOf g t [] [] = Unit {0}
AreVisitsOf g t (r ∷ rs) (v ∷ vs) = IsVisitOf g t r v × AreVisitsOf g t rs vs
AreVisitsOf g t _ _ = ⊥

-- ---- the law

-- Take any runs of the program, one after the other, on a disk where no service was founded, whatever they were asked, whatever failed,
-- and wherever the machine stopped. They are visits of the disk; and behind each run that found a history and came to the end of its
-- work all runs up to it have one history.
abbrev pub AllProgramRunsHaveOneHistory : {D S K C E : Type 0} → Ghosts D → Tellers S K C E → Type 0
AllProgramRunsHaveOneHistory {D} {S} {K} {C} {E} g t = (d last : D) (rs : List (ProgramRun D S K C E)) → IsEmpty g d → AreProgramRuns g t d rs last
    → (vs : List (Visit D Asked)) × AreVisitsOf g t rs vs
    × ((us ws : List (Visit D Asked)) (v : Visit D Asked) (h : History) → vs ≡ us ++ v ∷ ws → WorkedOn v h → HaveOneHistory (us ++ v ∷ []) (h ++ v.made) v.doubt)
