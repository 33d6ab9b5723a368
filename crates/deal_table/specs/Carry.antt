-- What was checked of a message, and how what is left of it is decided.
--
-- Whoever has checked a message at a history hands on a Checked. It is turned back into a message, of which what was settled
-- passes and what is left is as it was; and the same table decides that message, at any later history.
use Rattle.std.specs.Prelude.{◌≡◌, ℕ, ◌<◌, ◌^◌, Bool, true, false, ◌&&◌, not, List, [], length, Option, Some, None, IfSome, ◌⊎◌, if◌then◌else◌}
use Rattle.deal_changes.specs.declared.change.Kind.{Kind}
use Rattle.deal_changes.specs.declared.change.Body4.{Body4}
use Rattle.deal_changes.specs.declared.change.Wish.{Wish}
use Rattle.deal_changes.specs.Spelling.{IsBlob, IsShort, IsTid, IsWish}
use Rattle.deal_model.specs.declared.asking.Job.{Job}
use Rattle.deal_model.specs.declared.asking.Job.TheVariants.{Repeat, Enrol, Confirm, Poll, Withdraw}
use Rattle.deal_model.specs.declared.asking.Checked.{Checked}
use Rattle.deal_model.specs.declared.states.Owner.{Owner}
use Rattle.deal_model.specs.Views.{History}
use Rattle.deal_table.specs.History.{Receipted, IsFounded, name_of, place_of_digest, owner_for, grant_receipt}
use Rattle.deal_table.specs.Message.{RequestId, Zero, MinusOne, OtherId, Enrolment, Confirmation, Withdrawal, Body, Enrols, Confirms, Polls, Withdraws, Nests, OtherBody, is_nested, Header, Facts, Letter, subject_of, blind}
use Rattle.deal_table.specs.Table.{Secret, To, Decision, Makes, Repeats, Refuses, Asks, pass, form_rows, header_rows, wish_rows, is_possessed, reason_rows, decision}

-- ---- what is left, as a message

-- the certReqId, by whether it is 0 or -1 and whether it is -1
abbrev pub id_by : Bool → Bool → RequestId
id_by true true = MinusOne
id_by true false = Zero
id_by false minus_one = OtherId

-- of a request all is settled but the sender's rights, the key and the possession
abbrev pub rest_enrolment : Body4 → Wish → Bool → Enrolment
rest_enrolment body wish proven = record { body = body; is_one = true; has_subject = true; has_key = true; has_bad_field = false; issuer = None; has_bad_extension = false; has_bad_alg = false; old = None; wish = wish; by_ra = false; is_proven = proven }

-- of an rr all is settled but what the history says of the certificate; its issuer is the authority
abbrev pub rest_withdrawal : List ℕ → Option ℕ → ℕ → Withdrawal
rest_withdrawal name serial reason = record { is_one = true; reason = Some reason; certificate = record { issuer = Some name; serial = serial } }

abbrev pub rest_body : List ℕ → Checked → Job → Body
rest_body name c Repeat = OtherBody
rest_body name c (Enrol body wish) = Enrols (rest_enrolment body wish c.proven)
rest_body name c (Confirm id_ok hash hash_alg_ok count status) = Confirms (record { count = count; id = id_by id_ok c.minus_one; status = status; has_known_hash = hash_alg_ok; matches = λ r. c.hash_ok })
rest_body name c (Poll ids_ok) = Polls (record { is_one = ids_ok; id = id_by true c.minus_one })
rest_body name c (Withdraw serial reason) = Withdraws (rest_withdrawal name serial reason)

-- the header of the message that was checked
abbrev pub header_by : Checked → Header
header_by c = record { pvno = c.echo.pvno; sender = c.echo.sender.now; kid = c.ask.kid; tid = Some c.ask.tid; sender_nonce = c.echo.nonce; recip_nonce = c.recip_nonce; time = c.message_time; kind = c.ask.kind }

-- its protection verifies under the key that was found
abbrev pub rest_facts : List ℕ → Checked → Facts
rest_facts name c = record { is_message = true; digest = c.ask.digest; header = header_by c; is_protected = true; verifies = λ key. true; body = rest_body name c c.job }

-- of the nested message around it only the sender and the time are left
abbrev pub rest_outer : Checked → Kind × List ℕ → Facts
rest_outer c o = record { is_message = true; digest = []; header = record { pvno = 2; sender = []; kid = o.1; tid = Some []; sender_nonce = Some []; recip_nonce = None; time = c.outer_time; kind = Some o.0 }; is_protected = true; verifies = λ key. true; body = Nests 1 }

abbrev pub rest_message : List ℕ → Checked → Option (Kind × List ℕ) → Facts
rest_message name c (Some o) = rest_outer c o
rest_message name c None = rest_facts name c

-- what is left of the message that was checked, where this is the authority's name
abbrev pub rest : List ℕ → Checked → Letter
rest name c = record { message = rest_message name c c.ask.outer; inner = rest_facts name c }

-- how what is left is decided
abbrev pub left : History → Checked → ℕ → List ℕ → Decision
left h c now w = decision h (rest (name_of h) c) now w

-- ---- when a Checked carries a message

-- the message has the form of one, and a header with all its parts
pub record IsReadable (m : Facts) : Type 0 where
  pub form : pass (form_rows m) ≡ true
  pub header : pass (header_rows m.header) ≡ true

-- The protection holds under the key of the credential's owner.
pub record IsProtected (h : History) (m : Facts) (o : Owner) : Type 0 where
  pub stands : owner_for h m.header.kind m.header.kid ≡ Some o
  pub protected : m.is_protected ≡ true
  pub verified : m.verifies o.key ≡ true

-- what the one status of a certConf says
pub record IsStatus (f : Confirmation) (id_ok minus_one hash_alg_ok : Bool) (status : ℕ) : Type 0 where
  pub id : f.id ≡ id_by id_ok minus_one
  pub algorithm : f.has_known_hash ≡ hash_alg_ok
  pub outcome : f.status ≡ status

abbrev pub is_other : RequestId → Bool
is_other Zero = false
is_other MinusOne = false
is_other OtherId = true

-- The job is what the body is about, under this sender and this name of the authority; of a request and an rr the rows that ask
-- neither for keys nor for certificates of the history pass. Where a certConf has no status nothing else of it is asked.
abbrev pub IsJob : List ℕ → Owner → Checked → Body → Job → Type 0
IsJob name o c (Enrols e) (Enrol body wish) = (pass (wish_rows name o e) ≡ true) × (e.body ≡ body) × (e.wish ≡ wish) × (is_possessed o e ≡ c.proven)
IsJob name o c (Confirms f) (Confirm id_ok hash hash_alg_ok count status) = (f.count ≡ count) × ((count ≡ 0) ⊎ IsStatus f id_ok c.minus_one hash_alg_ok status)
IsJob name o c (Polls p) (Poll ids_ok) = ((p.is_one && not (is_other p.id)) ≡ ids_ok) × (ids_ok ≡ true → p.id ≡ id_by true c.minus_one)
IsJob name o c (Withdraws w) (Withdraw serial reason) = (pass (reason_rows name w) ≡ true) × (w.certificate.serial ≡ serial) × (w.reason ≡ Some reason)
IsJob name o c _ _ = ⊥

-- who sent the message, under which key, and what it is about
pub record IsChecked (h : History) (m : Facts) (c : Checked) : Type 0 where
  pub owner : Owner
  pub protection : IsProtected h m owner
  pub key : c.key ≡ owner.key
  pub sender : c.who ≡ owner.who
  pub job : IsJob (name_of h) owner c m.body c.job

-- of a message that is repeated only that it stands in the history is asked
abbrev pub IsForJob : History → Facts → Checked → Job → Type 0
IsForJob h m c Repeat = (place : ℕ) × (place_of_digest h m.digest ≡ Some place)
IsForJob h m c (Enrol body wish) = IsChecked h m c
IsForJob h m c (Confirm id_ok hash hash_alg_ok count status) = IsChecked h m c
IsForJob h m c (Poll ids_ok) = IsChecked h m c
IsForJob h m c (Withdraw serial reason) = IsChecked h m c

-- the nested message around it, under the credential that was asked for
pub record IsWrapped (h : History) (m : Facts) (c : Checked) (o : Kind × List ℕ) : Type 0 where
  pub body : m.body ≡ Nests 1
  pub kind : m.header.kind ≡ Some o.0
  pub kid : m.header.kid ≡ o.1
  pub time : m.header.time ≡ c.outer_time
  pub owner : Owner
  pub protection : IsProtected h m owner
  pub key : c.outer_key ≡ Some owner.key

abbrev pub IsInside : History → Facts → Checked → Option (Kind × List ℕ) → Type 0
IsInside h m c (Some o) = IsWrapped h m c o
IsInside h m c None = is_nested m.body ≡ false

-- What was checked carries the message, at a history that whoever checked it has seen.
pub record Carries (l : Letter) (c : Checked) (h : History) : Type 0 where
  pub founded : IsFounded h
  pub outside : IsReadable l.message
  pub readable : IsReadable (subject_of l)
  pub digest : (subject_of l).digest ≡ c.ask.digest
  pub header : (subject_of l).header ≡ header_by c
  pub inside : IsInside h l.message c c.ask.outer
  pub job : IsForJob h (subject_of l) c c.job

-- the job can be spelled
abbrev pub FitsJob : Job → Type 0
FitsJob Repeat = Unit {0}
FitsJob (Enrol body wish) = IsWish wish
FitsJob (Confirm id_ok hash hash_alg_ok count status) = Unit {0}
FitsJob (Poll ids_ok) = Unit {0}
FitsJob (Withdraw serial reason) = reason < 2 ^ 8

-- What a change keeps of a Checked fits its places there.
pub record FitsChecked (c : Checked) : Type 0 where
  pub digest : length c.ask.digest ≡ 32
  pub tid : IsTid c.ask.tid
  pub sender : IsBlob c.echo.sender.now
  pub nonce : IfSome c.echo.nonce IsShort
  pub job : FitsJob c.job

-- ---- whether certHash was compared

-- nothing is told of certHash
abbrev pub untold : Checked → Checked
untold c = record c { hash_ok = None }

-- that certHash was compared: it is no certificate's, or it was held against that of the transaction's Grant
abbrev pub IsTold : Body → Option Bool → List ℕ → History → Type 0
IsTold (Confirms f) (Some told) tid h = ((r : Receipted) → f.matches r ≡ Some told) ⊎ ((r : Receipted) × (grant_receipt h tid ≡ Some r) × (f.matches r ≡ Some told))
IsTold _ _ tid h = Unit {0}

-- what is told of certHash is true, at a history that whoever told it has seen
abbrev pub HashIsTold : Letter → Checked → History → Type 0
HashIsTold l c h = IsTold (subject_of l).body c.hash_ok c.ask.tid h

-- the message, as far as certHash was compared
abbrev pub as_told : Option Bool → Letter → Letter
as_told (Some told) l = l
as_told None l = blind l

-- an answer: nothing has to be compared first
abbrev pub IsAnswer : Decision → Type 0
IsAnswer (Makes c) = Unit {0}
IsAnswer (Repeats place) = Unit {0}
IsAnswer (Refuses fail to) = Unit {0}
IsAnswer (Asks place) = ⊥

abbrev pub is_confirm_job : Job → Bool
is_confirm_job Repeat = false
is_confirm_job (Enrol body wish) = false
is_confirm_job (Confirm id_ok hash hash_alg_ok count status) = true
is_confirm_job (Poll ids_ok) = false
is_confirm_job (Withdraw serial reason) = false

-- certHash has to be compared first with the certificate of the transaction's Grant, at this place
pub record IsStale (h : History) (c : Checked) (place : ℕ) : Type 0 where
  pub untold : c.hash_ok ≡ None
  pub confirms : is_confirm_job c.job ≡ true
  pub receipt : Receipted
  pub stands : grant_receipt h c.ask.tid ≡ Some receipt
  pub there : receipt.place ≡ place

-- ---- what protects a refusal

abbrev pub secret_by : Option (Kind × List ℕ) → Option (List ℕ) → Option Secret
secret_by (Some o) (Some key) = Some (record { kid = o.1; key = key })
secret_by (Some o) None = None
secret_by None key = None

-- the secret under which the message, or the nested one around it, was checked
abbrev pub carried_secret : Checked → Bool → Option Secret
carried_secret c outer = if outer then secret_by c.ask.outer c.outer_key else Some (record { kid = c.ask.kid; key = c.key })

-- whom a refusal answers, guarded by the secret that is carried or not at all
abbrev pub carried_to : Checked → Bool → Bool → To
carried_to c outer is_guarded = record { outer = outer; guard = if is_guarded then carried_secret c outer else None }
