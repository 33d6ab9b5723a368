-- A run of the program is a visit of its disk, by the contract of the run.
use Rattle.std.proofs.Common.{◌≡◌, ℕ, false, List, Option, Some, None, refl}
use Rattle.std.specs.Prelude.{IfSome}
use Rattle.cmp_ports.specs.Disk.{Among, LeavesOnly}
use Rattle.cmp_ports.specs.declared.disk.Disk.{Ghosts}
use Rattle.one_history.specs.Visits.{Ending}
use Rattle.cmpca_tool.specs.Changes.{run_of}
use Rattle.cmpca_tool.specs.Reply.{IsReply, RanKeyed}
use Rattle.cmpca_tool.specs.Sources.{Devices}
use Rattle.cmpca_tool.specs.Words.{changes_history}
use Rattle.cmpca_tool.specs.declared.status.Status.{Status}
use Rattle.cmpca_tool.specs.declared.words.Command.{Command}
use Rattle.program_runs.specs.Runs.{Ran, IsRun}
use Rattle.program_runs.specs.Program.{IsVisitingRun}

-- where there is a value, what follows of each value that it is
where_some : (o : Option (List ℕ)) (P : Type 0) → ((x : List ℕ) → o ≡ Some x → P) → IfSome o (λ x. P)
where_some None P each = tt
where_some (Some x) P each = each x refl

module _ {D : Type 0} (g : Ghosts D) (old new : D) (devices : Devices) (IsReading : ℕ → Type 0) (IsDraw : Option (List ℕ) → Type 0) (command : Option Command) where
  abbrev pub Visits : Type 0
  Visits = (content input key : List ℕ) (status : Status) (text : List ℕ) (ending : Ending) → g.content old ≡ Some content → Ran g old new devices IsReading IsDraw command input key status text → IsRun g old new IsReading IsDraw command input key status text ending

  visiting : Visits → (input key : List ℕ) (status : Status) (text : List ℕ) → Ran g old new devices IsReading IsDraw command input key status text → IsVisitingRun g old new devices IsReading IsDraw command input key status text
  visiting law input key status text r = (r, where_some (g.content old) ((ending : Ending) → IsRun g old new IsReading IsDraw command input key status text ending) (λ content tells ending. law content input key status text ending tells r))

  pub program_visits : Visits → (left key_left before after : Option (List ℕ)) (status : Status)
      → RanKeyed left key_left (IsReply command devices IsReading IsDraw (run_of g.content g.images g.moment g.left_since old new)) before after status
      → (changes_history command ≡ false → g.content new ≡ g.content old)
      → (changes_history command ≡ false → Among (g.images old) (g.images new))
      → (changes_history command ≡ false → LeavesOnly g.moment g.left_since old new (g.images old))
      → RanKeyed left key_left (IsVisitingRun g old new devices IsReading IsDraw command) before after status
  program_visits law left key_left before after status ran same crash moments =
      let p = ran.replied in
      record {
        input = ran.input;
        read = ran.read;
        key = ran.key;
        key_read = ran.key_read;
        replied = record {
          reply = p.reply;
          text = p.text;
          is_reply = visiting law ran.input ran.key p.reply p.text (record { reply = p.is_reply; same = same; crash = crash; moments = moments });
          wrote = p.wrote;
        };
      }
