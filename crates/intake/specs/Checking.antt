-- How a request is checked, part by part. No clause of a public call reads these words.
use Rattle.std.specs.Prelude.{◌≡◌, ℕ, Bool, true, false, not, is_some, is_none, List, [], ◌∷◌, length, Option, Some, None, Result, Ok, Err}
use Rattle.asn_types.specs.Name as names
use Rattle.pki_message.specs.Message.{MessageForm, IsMessage}
use Rattle.deal_changes.specs.declared.change.Kind.{Kind}
use Rattle.deal_changes.specs.declared.change.Kind.TheVariants.{Lms}
use Rattle.deal_model.specs.declared.asking.Ask.{Ask}
use Rattle.deal_model.specs.declared.asking.Checked.{Checked}
use Rattle.deal_model.specs.declared.asking.Echo.{Echo}
use Rattle.deal_model.specs.declared.asking.Job.{Job}
use Rattle.deal_model.specs.declared.asking.Job.TheVariants.{Repeat, Enrol, Confirm, Poll, Withdraw}
use Rattle.deal_model.specs.declared.states.Owner.{Owner}
use Rattle.deal_model.specs.declared.states.Standing.{Standing}
use Rattle.deal_model.specs.declared.states.Standing.TheVariants.{Good}
use Rattle.cmp_values.specs.declared.fail_info.FailInfo.{FailInfo}
use Rattle.cmp_values.specs.declared.fail_info.FailInfo.TheVariants.{BadMessageCheck, BadAlg, BadDataFormat}
use Rattle.protect.specs.declared.key.Key as protection
use Rattle.deal_table.specs.declared.look.Look.{Look}
use Rattle.deal_table.specs.Carry.{IsJob, FitsChecked}
use Rattle.deal_table.specs.History.{Receipted}
use Rattle.deal_table.specs.Looked.{looked_about, looked_passed}
use Rattle.deal_table.specs.Message.{Body, Confirms, Header, Facts}
use Rattle.deal_table.specs.Table.{◌when◌, To, Decision, Refuses, unless, pass, guard_by, guarded, known, header_rows, trusted_by, wrap_rows, repeated}
use Rattle.intake.specs.Fit.{AtLook, IsCarried, PassesLook, AreDigests, IsHashTold, IsCompared, ComparesHash, TellsNoMore, TellsNobody, IsExact}
use Rattle.intake.specs.Holds.{key_by}
use Rattle.intake.specs.Letter.{IsReading, Checks, AreChecked, facts_of}
use Rattle.intake.specs.Made.{FirstApplies, heading_of}
pub use Rattle.intake.specs.Proven.{IsOfOctets, ForFacts, IsTo, IsBack}
use Rattle.intake.specs.declared.unfit.Unfit.{Unfit}
use Rattle.intake.specs.declared.unfit.Unfit.TheVariants.{Refused, NoMemory}
use Rattle.intake.specs.declared.sender.Sender.{Sender}
use Rattle.intake.specs.declared.job.Task.{Task}
use Rattle.intake.specs.declared.subject.Subject.{Subject}

-- ---- senders

-- the rows of protection, by whether algorithm and protection are there and by the kind of it
abbrev pub IsProtection : Bool → Option Kind → Result Kind FailInfo → Type 0
IsProtection protected kind (Ok k) = (protected ≡ true) × (kind ≡ Some k)
IsProtection protected kind (Err fail) = (to : To) (next : Decision) → unless to ((BadMessageCheck when not protected) ∷ (BadAlg when is_none kind) ∷ []) next ≡ Refuses fail to

abbrev pub IsKnown : Standing → Result Owner FailInfo → Type 0
IsKnown standing (Ok o) = standing ≡ Good o.who o.key o.rights
IsKnown standing (Err fail) = (to : To) (next : Owner → Decision) → known to standing next ≡ Refuses fail to

-- a public key has 60 octets
abbrev pub IsKeyBy : Kind → List ℕ → Option protection.Key → Type 0
IsKeyBy kind key (Some k) = k ≡ key_by kind key
IsKeyBy kind key None = (kind ≡ Lms) × (length key ≡ 60 → ⊥)

-- the sender is good, and the message is its own
pub record IsTrusted (standing : Standing) (skew event : ℕ) (outer : Bool) (f : Facts) (s : Sender) : Type 0 where
  pub good : standing ≡ Good s.owner.who s.owner.key s.owner.rights
  pub protected : f.is_protected ≡ true
  pub kind : is_some f.header.kind ≡ true
  pub verified : f.verifies s.owner.key ≡ true
  pub guard : is_some (guard_by f.header.kind f.header.kid s.owner) ≡ s.guarded
  pub passes : (next : Owner → Decision) → trusted_by standing skew event outer f next ≡ next s.owner

-- ---- what a message is about

-- Nothing is told of certHash but what holds for each certificate.
abbrev pub IsHashOf : Body → Option Bool → Type 0
IsHashOf (Confirms f) (Some told) = (r : Receipted) → f.matches r ≡ Some told
IsHashOf _ _ = Unit {0}

-- Something is left of the message.
abbrev pub IsLeft : Job → Type 0
IsLeft Repeat = ⊥
IsLeft (Enrol body wish) = Unit {0}
IsLeft (Confirm id_ok hash hash_alg_ok count status) = Unit {0}
IsLeft (Poll ids_ok) = Unit {0}
IsLeft (Withdraw serial reason) = Unit {0}

-- The rows that a look tells of what a message is about pass, and this is what is left of it.
pub record IsTask (look : Look) (name : List ℕ) (o : Owner) (hashes : Receipted → List ℕ) (body : Body) (t : Task) : Type 0 where
  pub job : (c : Checked) → c.proven ≡ t.proven → c.minus_one ≡ t.minus_one → IsJob name o c body t.job
  pub passes : (to : To) (next : Decision) → looked_about look name to o body next ≡ next
  pub told : AreDigests hashes → IsHashOf body t.hash_ok
  pub compared : IsCompared hashes body t.job t.hash_ok
  pub left : IsLeft t.job
  pub no_more : TellsNoMore body t.job t.proven t.minus_one t.hash_ok

-- One of these rows applies; a refusal answers the message itself, guarded as its sender is.
abbrev pub IsRefused : Look → List ℕ → Bool → Owner → Body → Unfit → Type 0
IsRefused look name sure o body (Refused fail is_guarded to_outer) = (is_guarded ≡ sure) × (to_outer ≡ false) × ((to : To) (next : Decision) → looked_about look name to o body next ≡ Refuses fail to)
IsRefused look name sure o body NoMemory = Unit {0}

-- the name whose text is this
abbrev pub name_for : Look → List ℕ
name_for look = names.common_name look.settings.name

-- ---- a message that is about something

-- who sent the message, under which key, and what it is about
pub record IsSent (look : Look) (hashes : Receipted → List ℕ) (f : Facts) (s : Subject) : Type 0 where
  pub owner : Owner
  pub good : look.cred ≡ Good owner.who owner.key owner.rights
  pub protected : f.is_protected ≡ true
  pub verified : f.verifies owner.key ≡ true
  pub key : s.key ≡ owner.key
  pub sender : s.who ≡ owner.who
  pub job : (c : Checked) → c.proven ≡ s.task.proven → c.minus_one ≡ s.task.minus_one → IsJob (name_for look) owner c f.body s.task.job

abbrev pub IsSentFor : Look → (Receipted → List ℕ) → Facts → Subject → Job → Type 0
IsSentFor look hashes f s Repeat = (place : ℕ) × (look.repeat ≡ Some place)
IsSentFor look hashes f s (Enrol body wish) = IsSent look hashes f s
IsSentFor look hashes f s (Confirm id_ok hash hash_alg_ok count status) = IsSent look hashes f s
IsSentFor look hashes f s (Poll ids_ok) = IsSent look hashes f s
IsSentFor look hashes f s (Withdraw serial reason) = IsSent look hashes f s

-- what was checked of the message
pub record IsSubject (look : Look) (hashes : Receipted → List ℕ) (f : Facts) (s : Subject) : Type 0 where
  pub passes : (next : Decision) → looked_passed look (name_for look) f next ≡ repeated look.repeat next
  pub told : AreDigests hashes → IsHashOf f.body s.task.hash_ok
  pub compared : IsCompared hashes f.body s.task.job s.task.hash_ok
  pub sent : IsSentFor look hashes f s s.task.job
  pub no_more : TellsNoMore f.body s.task.job s.task.proven s.task.minus_one s.task.hash_ok
  pub nobody : TellsNobody s.task.job s.who s.key

-- a certHash, where it has 32 octets
abbrev pub IsDigestIn : Option (List ℕ) → Option (List ℕ) → Type 0
IsDigestIn hash (Some digest) = hash ≡ Some digest
IsDigestIn None None = Unit {0}
IsDigestIn (Some octets) None = length octets ≡ 32 → ⊥

-- ---- the whole

-- what was checked, of what was asked and is repeated, the header of the message, what is left of it, and the message around it
abbrev pub checked_by : Ask → Echo → Header → Subject → Option ℕ → Option (List ℕ) → Checked
checked_by ask echo head s outer_time outer_key = record {
  ask = ask;
  who = s.who;
  key = s.key;
  message_time = head.time;
  job = s.task.job;
  echo = echo;
  recip_nonce = head.recip_nonce;
  proven = s.task.proven;
  minus_one = s.task.minus_one;
  hash_ok = s.task.hash_ok;
  outer_time = outer_time;
  outer_key = outer_key;
}

-- What was checked is all that is promised of it.
pub record IsWhole (bytes : List ℕ) (ask : Ask) (echo : Echo) (look : Look) (c : Checked) : Type 0 where
  pub carries : IsCarried bytes ask look c
  pub hash : IsHashTold bytes c
  pub compares : ComparesHash bytes c
  pub exact : IsExact bytes c
  pub passes : AtLook bytes ask look (λ l h now. PassesLook look l h)
  pub fits : FitsChecked c
  pub asks : c.ask ≡ ask
  pub echoes : c.echo ≡ echo

-- ---- nested messages

-- the rows of a nested message itself: its sender's, and who may wrap how many messages
abbrev pub IsBackAround : Look → Facts → Unfit → Type 0
IsBackAround look f u = IsBack (Owner → Decision) (λ next. trusted_by look.outer look.settings.skew look.time true f (λ o. unless (guarded true f o) (wrap_rows f o) (next o))) u

-- octets are a message with a header in form
pub record IsInner (inside : List ℕ) (m : MessageForm) : Type 0 where
  pub found : IsMessage inside m
  pub one : (o : Option MessageForm) → IsReading inside o → o ≡ Some m
  pub header : pass (header_rows (heading_of (Some m))) ≡ true

-- What is inside is no message, which is refused to the outer one as its sender is guarded; or its header isn't in form.
abbrev pub IsBadInner : Bool → Option MessageForm → Unfit → Type 0
IsBadInner sure o NoMemory = ⊥
IsBadInner sure None (Refused fail is_guarded to_outer) = (fail ≡ BadDataFormat) × (is_guarded ≡ sure) × (to_outer ≡ true)
IsBadInner sure (Some m) (Refused fail is_guarded to_outer) = FirstApplies (header_rows (heading_of (Some m))) (Some fail) × (is_guarded ≡ false) × (to_outer ≡ false)
