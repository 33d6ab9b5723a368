-- What the parts of an answer promise each other. No clause of a public call reads these words, so a reader can skip them.
use Rattle.std.specs.Prelude.{◌≡◌, ◌≢◌, ◌⊎◌, ℕ, ◌≤◌, Bool, true, false, is_some, List, [], ◌++◌, length, Option, Some, None, IfSome, IsSome, if◌then◌else◌}
use Rattle.std.specs.Str.{bytes_eq}
use Rattle.cmp_ports.specs.Disk.{LeavesOnly}
use Rattle.cmp_ports.specs.Faults.{Rose}
use Rattle.cmp_values.specs.declared.fail_info.FailInfo.{FailInfo}
use Rattle.cmp_values.specs.declared.fail_info.FailInfo.TheVariants.{SystemFailure}
use Rattle.cmp_ports.specs.declared.note.Answered.{Answered}
use Rattle.cmp_ports.specs.declared.note.Answered.TheVariants as answered
use Rattle.cmp_ports.specs.declared.note.Outcome.{Outcome}
use Rattle.cmp_ports.specs.declared.note.Outcome.TheVariants as outcome
use Rattle.deal_changes.specs.declared.change.Change.{Change}
use Rattle.deal_changes.specs.declared.change.Settings.{Settings}
use Rattle.deal_changes.specs.Times.{time_of_change}
use Rattle.deal_model.specs.declared.asking.Checked.{Checked}
use Rattle.deal_model.specs.declared.asking.Echo.{Echo}
use Rattle.deal_model.specs.declared.asking.Job.{Job}
use Rattle.deal_model.specs.declared.asking.Job.TheVariants.{Confirm}
use Rattle.deal_model.specs.Views.{History}
use Rattle.deal_table.specs.Carry.{FitsChecked, Carries, untold, HashIsTold, is_confirm_job, carried_to}
use Rattle.deal_table.specs.History.{Receipted, Begins, grant_receipt}
use Rattle.deal_table.specs.Looked.{looked_to}
use Rattle.deal_table.specs.Message.{Letter, Echoed, echoed}
use Rattle.deal_table.specs.Table.{To}
use Rattle.deal_table.specs.declared.look.Look.{Look}
use Rattle.desk.specs.declared.clerk.Clerk.{Ghosts}
use Rattle.desk.specs.declared.verdict.Verdict.{Verdict}
use Rattle.desk.specs.declared.verdict.Verdict.TheVariants as verdict
use Rattle.desk.specs.Clerks.{decided_place, IsDecidedAlone}
use Rattle.desk.specs.Images.{RecoversWith, IsDoubt, MayCome, DoubtOr}
use Rattle.desk.specs.Verdicts.{Decides, IsInTime, LeftMakes, IsLeft}
use Rattle.intake.specs.Fit.{ComparesHash}
use Rattle.intake.specs.declared.request.Request.{Request}
use Rattle.intake.specs.declared.unfit.Unfit.{Unfit}
use Rattle.intake.specs.declared.unfit.Unfit.TheVariants as unfit
use Rattle.reply_maker.specs.InForce.{IsInForce}
use Rattle.reply_maker.specs.Refusals.{refusal_of}
use Rattle.reply_maker.specs.Replies.{Replier, reply_of, certificate_hash}
use Rattle.front.specs.Answers.{ForLetter, IsOwn}
use Rattle.front.specs.Clerks.{Clerked, clerked, IsAlone, IsLawful, Goes}
use Rattle.front.specs.Ends.{IsReplied, IsSpent, failed_by}
use Rattle.front.specs.declared.device.Device.{Device}
use Rattle.front.specs.declared.reply.Reply.{Reply}

-- ---- calls of a clerk

-- It was asked, and made nothing.
pub record IsAsked {K : Type 0} (g : Ghosts K) (old new : K) : Type 0 where
  pub grown : Begins (g.seen old) (g.seen new)
  pub lawful : IsLawful (clerked g new)
  pub held : (clerked g new).held ≡ (clerked g old).held
  pub mine : g.mine new ≡ g.mine old
  pub faults : g.faults new ≡ g.faults old
  pub alone : IsAlone (clerked g old) → g.seen new ≡ g.seen old
  pub doubt : g.doubt new ≡ g.doubt old
  pub moments : LeavesOnly g.moment g.left_since old new (RecoversWith (g.seen old) (IsDoubt (g.doubt old)))

-- It decided what was checked.
pub record IsDecided {K : Type 0} (g : Ghosts K) (old new : K) (c : Checked) (now : ℕ) (w : List ℕ) (v : Verdict) : Type 0 where
  pub grown : Begins (g.seen old) (g.seen new)
  pub lawful : IsLawful (clerked g new)
  pub held : (clerked g new).held ≡ (clerked g old).held
  pub decides : (l : Letter) (looked : History) → Begins looked (g.seen old) → Carries l (untold c) looked → HashIsTold l c (g.seen old) → Decides l c (g.seen old) (g.seen new) now w v
  pub timely : IsInTime v
  pub mine : g.mine new ≡ g.mine old ++ decided_place v
  pub fault : v ≡ verdict.DiskFault → Rose (g.faults old) (g.faults new)
  pub kept : v ≢ verdict.DiskFault → g.faults new ≡ g.faults old
  pub later : g.faults old ≤ g.faults new
  pub alone : IsAlone (clerked g old) → IsLeft c now w (g.seen old) (g.doubt old) v (g.seen new) (g.doubt new)
  pub doubt : IfSome (g.doubt new) (DoubtOr (g.doubt old) (MayCome (LeftMakes (g.seen old) c now w) (g.seen old)))
  pub moments : LeavesOnly g.moment g.left_since old new (RecoversWith (g.seen old) (DoubtOr (g.doubt old) (MayCome (LeftMakes (g.seen old) c now w) (g.seen old))))

-- ---- what was checked

-- What was checked carries the octets, by a history that the clerk has seen, and what is told of certHash is true.
pub record IsCarried (k : Replier) (b : List ℕ) (seen : History) (c : Checked) : Type 0 where
  pub looked : History
  pub begun : Begins looked seen
  pub carries : ForLetter k b (λ l. Carries l (untold c) looked)
  pub told : ForLetter k b (λ l. HashIsTold l c seen)
  pub compares : ComparesHash b c
  pub fits : FitsChecked c

-- certHash held against the certificate of the transaction's Grant, where nobody did and there is one
abbrev pub told_by : Replier → Checked → Job → Option Bool → Option Receipted → Checked
told_by k c (Confirm id_ok hash hash_alg_ok count status) None (Some r) = record c { hash_ok = Some (bytes_eq hash (certificate_hash k r)) }
told_by k c job told r = c

-- the hash of a certConf, where nobody has compared it
abbrev pub asked_hash : Job → Option Bool → Option (List ℕ)
asked_hash (Confirm id_ok hash hash_alg_ok count status) None = Some hash
asked_hash job told = None

abbrev pub told_of : Replier → History → Checked → Checked
told_of k h c = told_by k c c.job c.hash_ok (grant_receipt h c.ask.tid)

-- certHash can be held against a certificate
pub record IsTellable (h : History) (c : Checked) : Type 0 where
  pub confirms : is_confirm_job c.job ≡ true
  pub stands : is_some (grant_receipt h c.ask.tid) ≡ true

-- ---- verdicts

abbrev pub is_stale : Verdict → Bool
is_stale (verdict.Stale place) = true
is_stale _ = false

-- what a decision does to what was in doubt, where nobody else decides: it is settled, but where the disk or memory fails
abbrev pub IsClearBy : Option Change → Option Change → Verdict → Type 0
IsClearBy old new verdict.DiskFault = IsSome new
IsClearBy old new verdict.NoMemory = (new ≡ None) ⊎ (new ≡ old)
IsClearBy old new _ = new ≡ None

-- How a clerk, asked or not before, decided what carries the octets.
pub record IsRuled {K : Type 0} (g : Ghosts K) (k : Replier) (b : List ℕ) (old new : K) (now : ℕ) (w : List ℕ) (c : Checked) (v : Verdict) : Type 0 where
  pub goes : Goes g old new (IsOwn k b (g.seen old) now w)
  pub carried : IsCarried k b (g.seen new) c
  pub decides : ForLetter k b (λ l. Decides l c (g.seen old) (g.seen new) now w v)
  pub timely : IsInTime v
  pub mine : g.mine new ≡ g.mine old ++ decided_place v
  pub fault : v ≡ verdict.DiskFault → Rose (g.faults old) (g.faults new)
  pub kept : v ≢ verdict.DiskFault → g.faults new ≡ g.faults old
  pub alone : IsAlone (clerked g old) → IsDecidedAlone (g.seen old) (g.seen new) v
  pub clears : IsAlone (clerked g old) → IsClearBy (g.doubt old) (g.doubt new) v
  pub stale : is_stale v ≡ true → IsTellable (g.seen new) c

-- ---- replies

-- the reply to a verdict's change can be made
abbrev pub IsSealable : Settings → Verdict → Type 0
IsSealable s (verdict.Done r) = IsInForce s r
IsSealable s (verdict.Again r place time) = IsInForce s r
IsSealable s _ = Unit {0}

-- what a refusal of a request repeats isn't longer than a message
pub record AreShort (r : Request) : Type 0 where
  pub inner : length r.echo.sender.now ≤ 131072
  pub outer : length r.outer_echo.sender.now ≤ 131072

abbrev pub echo_in : Request → Bool → Echoed
echo_in r outer = echoed (if outer then r.outer_echo else r.echo)

-- what a message is refused for isn't a failure of the service itself
abbrev pub HasReason : Unfit → Type 0
HasReason (unfit.Refused fail is_guarded to_outer) = fail ≢ SystemFailure
HasReason unfit.NoMemory = Unit {0}

abbrev pub IsReasoned : Verdict → Type 0
IsReasoned (verdict.Refused fail place time is_guarded to_outer) = fail ≢ SystemFailure
IsReasoned _ = Unit {0}

-- the answer that a device failed, at a look
pub record IsFailed (k : Replier) (echo : Echo) (look : Look) (w : List ℕ) (reply : Reply) : Type 0 where
  pub note : reply.note ≡ record { place = look.place; time = look.time; words = w; outcome = outcome.SystemFailure }
  pub octets : reply.octets ≡ refusal_of k.keys (echoed echo) SystemFailure None look.time None

-- a refusal, at a place and a time
pub record IsRefused (k : Replier) (r : Request) (place time : ℕ) (w : List ℕ) (fail : FailInfo) (to : To) (reply : Reply) : Type 0 where
  pub note : reply.note ≡ record { place = place; time = time; words = w; outcome = outcome.Refused fail }
  pub octets : reply.octets ≡ refusal_of k.keys (echo_in r to.outer) fail to.guard time (Some w)

-- the refusal of a request by what a look told
abbrev pub IsTurned : Replier → Request → Look → List ℕ → Unfit → Reply → Type 0
IsTurned k r look w (unfit.Refused fail is_guarded to_outer) reply = IsRefused k r look.place look.time w fail (looked_to r.ask look to_outer is_guarded) reply
IsTurned k r look w unfit.NoMemory reply = ⊥

-- the reply to a change, at a place and a time
pub record IsSealed (k : Replier) (receipt : Receipted) (place time : ℕ) (w : List ℕ) (o : Outcome) (reply : Reply) : Type 0 where
  pub note : reply.note ≡ record { place = place; time = time; words = w; outcome = o }
  pub octets : reply.octets ≡ reply_of k receipt

-- the reply to what was checked, by its verdict
abbrev pub IsFinished : Replier → Request → Checked → Look → List ℕ → Verdict → Reply → Type 0
IsFinished k r c look w (verdict.Done receipt) reply = IsSealed k receipt receipt.place (time_of_change receipt.change) w outcome.Done reply
IsFinished k r c look w (verdict.Again receipt place time) reply = IsSealed k receipt place time w outcome.Again reply
IsFinished k r c look w (verdict.Refused fail place time is_guarded to_outer) reply = IsRefused k r place time w fail (carried_to c to_outer is_guarded) reply
IsFinished k r c look w (verdict.Stale place) reply = ⊥
IsFinished k r c look w verdict.DiskFault reply = IsFailed k r.outer_echo look w reply
IsFinished k r c look w verdict.NoMemory reply = ⊥

-- the response, or none for want of memory
abbrev pub IsResponse : Replier → List ℕ → Clerked → Clerked → ℕ → Option (List ℕ) → Option Reply → Type 0
IsResponse k b old new now drawn (Some r) = IsReplied k b old new now drawn r.note r.octets
IsResponse k b old new now drawn None = IsSpent k b old new now drawn

-- it was handed over
abbrev pub IsHanded : Option Reply → List ℕ → Answered → Type 0
IsHanded (Some r) reply end = (reply ≡ r.octets) × (end ≡ answered.Replied r.note)
IsHanded None reply end = (reply ≡ []) × (end ≡ answered.NoMemory)

-- the device that failed, where that is the response
abbrev pub failed_of : Option Reply → Option (List ℕ) → Option Device
failed_of (Some r) drawn = failed_by r.note.outcome drawn
failed_of None drawn = None
