-- What the check of a request answers.
use Rattle.std.specs.Prelude.{◌≡◌, ℕ, Bool, true, false, List, [], length, replicate, Option, Some, None}
use Rattle.std.specs.Str.{bytes_eq}
use Rattle.deal_changes.specs.declared.change.Who.{Who}
use Rattle.deal_changes.specs.declared.change.Who.TheVariants.{Cert}
use Rattle.deal_model.specs.declared.asking.Ask.{Ask}
use Rattle.deal_model.specs.declared.asking.Checked.{Checked}
use Rattle.deal_model.specs.declared.asking.Job.{Job}
use Rattle.deal_model.specs.declared.asking.Job.TheVariants.{Repeat, Enrol, Confirm, Poll, Withdraw}
use Rattle.deal_model.specs.Views.{History}
use Rattle.deal_table.specs.declared.look.Look.{Look}
use Rattle.deal_table.specs.Carry.{IsStatus, Carries, untold, HashIsTold}
use Rattle.deal_table.specs.History.{Receipted, IsFounded, name_of, look_of}
use Rattle.deal_table.specs.Looked.{looked, looked_to}
use Rattle.deal_table.specs.Message.{RequestId, Zero, MinusOne, OtherId, Confirmation, Body, Confirms, Polls, is_nested, Letter, subject_of}
use Rattle.deal_table.specs.Table.{Decision, Refuses, repeated, decision}
use Rattle.intake.specs.Letter.{IsLetter}
use Rattle.intake.specs.declared.unfit.Unfit.{Unfit}
use Rattle.intake.specs.declared.unfit.Unfit.TheVariants.{Refused, NoMemory}

-- Whatever letter the octets are, and at each history of a service that has this look, something holds.
abbrev pub AtLook : List ℕ → Ask → Look → (Letter → History → ℕ → Type 0) → Type 0
AtLook bytes ask look P = (hashes : Receipted → List ℕ) (l : Letter) (h : History) (now : ℕ) → IsLetter hashes bytes l → IsFounded h → look ≡ look_of h ask now → P l h now

-- The table refuses the message so, at each history that has the look.
abbrev pub IsUnfit : List ℕ → Ask → Look → Unfit → Type 0
IsUnfit bytes ask look (Refused fail is_guarded to_outer) = AtLook bytes ask look (λ l h now. (words : List ℕ) → decision h l now words ≡ Refuses fail (looked_to ask look to_outer is_guarded))
IsUnfit bytes ask look NoMemory = Unit {0}

-- what was checked carries the message
abbrev pub IsCarried : List ℕ → Ask → Look → Checked → Type 0
IsCarried bytes ask look c = AtLook bytes ask look (λ l h now. Carries l (untold c) h)

-- No row that asks no more than the look tells refuses the message, or it stands in the history.
abbrev pub PassesLook : Look → Letter → History → Type 0
PassesLook look l h = (next : Decision) → looked look (name_of h) l next ≡ repeated look.repeat next

-- ---- certHash

-- hashes of certificates are those of SHA-256
abbrev pub AreDigests : (Receipted → List ℕ) → Type 0
AreDigests hashes = (r : Receipted) → length (hashes r) ≡ 32

-- what is told of certHash is true
abbrev pub IsHashTold : List ℕ → Checked → Type 0
IsHashTold bytes c = (hashes : Receipted → List ℕ) (l : Letter) (h : History) → AreDigests hashes → IsLetter hashes bytes l → HashIsTold l c h

-- A certConf's hash is compared with those of certificates, where nothing is told of it.
abbrev pub IsCompared : (Receipted → List ℕ) → Body → Job → Option Bool → Type 0
IsCompared hashes body (Confirm id_ok hash hash_alg_ok count status) None = (f : Confirmation) × (body ≡ Confirms f) × ((r : Receipted) → f.matches r ≡ Some (bytes_eq hash (hashes r)))
IsCompared hashes body (Confirm id_ok hash hash_alg_ok count status) (Some told) = Unit {0}
IsCompared hashes body Repeat told = Unit {0}
IsCompared hashes body (Enrol wanted wish) told = Unit {0}
IsCompared hashes body (Poll ids_ok) told = Unit {0}
IsCompared hashes body (Withdraw serial reason) told = Unit {0}

abbrev pub ComparesHash : List ℕ → Checked → Type 0
ComparesHash bytes c = (hashes : Receipted → List ℕ) (l : Letter) → IsLetter hashes bytes l → IsCompared hashes (subject_of l).body c.job c.hash_ok

-- ---- nothing is told but what the message says

abbrev pub is_minus_one : RequestId → Bool
is_minus_one Zero = false
is_minus_one MinusOne = true
is_minus_one OtherId = false

-- a hash is told, or zeros stand in its place
abbrev pub IsHashOrZeros : List ℕ → Option Bool → Type 0
IsHashOrZeros hash None = Unit {0}
IsHashOrZeros hash (Some told) = (told ≡ false) × (hash ≡ replicate 32 0)

-- Possession is told of a request alone, a certReqId of -1 of a certConf and a pollReq, and certHash of a certConf; of a certConf
-- its certReqId, its algorithm and its status also where it has no status.
abbrev pub TellsNoMore : Body → Job → Bool → Bool → Option Bool → Type 0
TellsNoMore body Repeat proven minus_one told = (proven ≡ false) × (minus_one ≡ false) × (told ≡ None)
TellsNoMore body (Enrol wanted wish) proven minus_one told = (minus_one ≡ false) × (told ≡ None)
TellsNoMore (Confirms f) (Confirm id_ok hash hash_alg_ok count status) proven minus_one told = (proven ≡ false) × (minus_one ≡ is_minus_one f.id) × IsStatus f id_ok minus_one hash_alg_ok status × IsHashOrZeros hash told
TellsNoMore (Polls p) (Poll ids_ok) proven minus_one told = (proven ≡ false) × (minus_one ≡ is_minus_one p.id) × (told ≡ None)
TellsNoMore body (Withdraw serial reason) proven minus_one told = (proven ≡ false) × (minus_one ≡ false) × (told ≡ None)
TellsNoMore _ _ proven minus_one told = ⊥

-- of a message that stands in the history no sender is told
abbrev pub TellsNobody : Job → Who → List ℕ → Type 0
TellsNobody Repeat who key = (who ≡ Cert 0) × (key ≡ [])
TellsNobody (Enrol wanted wish) who key = Unit {0}
TellsNobody (Confirm id_ok hash hash_alg_ok count status) who key = Unit {0}
TellsNobody (Poll ids_ok) who key = Unit {0}
TellsNobody (Withdraw serial reason) who key = Unit {0}

-- Each field of what was checked is told by the letter, or says nothing: of a message that no other one nests nothing is told of one
-- around it.
pub record TellsOnly (l : Letter) (c : Checked) : Type 0 where
  pub no_more : TellsNoMore (subject_of l).body c.job c.proven c.minus_one c.hash_ok
  pub nobody : TellsNobody c.job c.who c.key
  pub around : is_nested l.message.body ≡ false → (c.outer_time ≡ None) × (c.outer_key ≡ None)

abbrev pub IsExact : List ℕ → Checked → Type 0
IsExact bytes c = (hashes : Receipted → List ℕ) (l : Letter) → IsLetter hashes bytes l → TellsOnly l c
