-- Each run of the program is a visit of its disk.
use Rattle.std.proofs.Common.{◌≡◌, ℕ, false, List, [], Option, Some, None, refl}
use Rattle.cmp_ports.specs.Coming.{Gives}
use Rattle.cmp_ports.specs.declared.disk.Disk.{Ghosts}
use Rattle.one_history.specs.Visits.{Ending}
use Rattle.cmpca_tool.specs.Changes.{run_of, IsUnchanged}
use Rattle.cmpca_tool.specs.Sources.{Devices, devices_of}
use Rattle.cmpca_tool.specs.Words.{changes_history}
use Rattle.cmpca_tool.specs.declared.status.Status.{Status}
use Rattle.cmpca_tool.specs.declared.words.Command.{Command}
use Rattle.cmpca_tool.specs.declared.words.Command.TheVariants.{Verify, Init, Take, Show, Enlist, Dismiss, Release, Deny}
use Rattle.program_runs.specs.Runs.{Ran, IsRun, EveryRunIsAVisit}
use Rattle.program_runs.proofs.Spared.{spared_run, show_run}
use Rattle.program_runs.proofs.Init.{init_run}
use Rattle.program_runs.proofs.Take.{take_run}
use Rattle.program_runs.proofs.Listed.{enlist_run, dismiss_run, release_run, deny_run}

module _ {D : Type 0} (g : Ghosts D) (old new : D) (devices : Devices) (IsReading : ℕ → Type 0) (IsDraw : Option (List ℕ) → Type 0) (input key : List ℕ) (status : Status) (text : List ℕ) (ending : Ending) (content : List ℕ) (tells : g.content old ≡ Some content) where
  -- a command that doesn't change the history leaves the disk as it was
  same_disk : (command : Option Command) → changes_history command ≡ false → Ran g old new devices IsReading IsDraw command input key status text → IsUnchanged (run_of g.content g.images g.moment g.left_since old new)
  same_disk command keeps r = record { content = r.same keeps; crash = r.crash keeps; moments = r.moments keeps }

  ran : (command : Option Command) → Ran g old new devices IsReading IsDraw command input key status text → IsRun g old new IsReading IsDraw command input key status text ending
  ran None r = spared_run g old new IsReading IsDraw None input key status text ending content [] tells (same_disk None refl r) refl refl tt tt
  ran (Some (Verify secret)) r = spared_run g old new IsReading IsDraw (Some (Verify secret)) input key status text ending content [] tells (same_disk (Some (Verify secret)) refl r) refl refl tt tt
  ran (Some Show) r = show_run g old new IsReading IsDraw input key status text ending content tells (same_disk (Some Show) refl r) r.reply
  ran (Some Init) r = init_run g old new IsReading IsDraw input key status text ending content tells devices.input devices.key r.reply
  ran (Some Take) r = take_run g old new IsReading IsDraw input key status text ending content tells devices r.reply
  ran (Some Enlist) r = enlist_run g old new IsReading IsDraw input key status text ending content tells devices r.reply
  ran (Some (Dismiss kind id)) r = dismiss_run g old new IsReading IsDraw input key status text ending content tells devices kind id r.reply
  ran (Some (Release tid)) r = release_run g old new IsReading IsDraw input key status text ending content tells devices tid r.reply
  ran (Some (Deny tid)) r = deny_run g old new IsReading IsDraw input key status text ending content tells devices tid r.reply

pub law : {D S K C E : Type 0} (g : Ghosts D) (input_faults : S → ℕ) (key_faults : K → ℕ) (entropy_faults : E → ℕ) (readings : C → Option (ℕ → ℕ)) (draws : E → Option (ℕ → Option (List ℕ))) → EveryRunIsAVisit g input_faults key_faults entropy_faults readings draws
law g input_faults key_faults entropy_faults readings draws old new i j k l c d e f command content input key status text ending tells r =
    ran g old new (devices_of input_faults key_faults entropy_faults i j k l c d e f) (Gives (readings c) (readings d)) (Gives (draws e) (draws f)) input key status text ending content tells command r
