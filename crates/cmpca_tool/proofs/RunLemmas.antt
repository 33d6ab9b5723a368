-- The reply of a run, where the source tells its octets and where it does not.
use Rattle.std.specs.Prelude.{ℕ, List, [], Option, Some, None, IfSome, ◌≡◌, ◌+◌, ◌<◌, length, take, refl, codes}
use Rattle.std.proofs.Common.{arith, sym, ◌∙◌, subst, inl, inr, length-take-le}
use Rattle.std.proofs.KnownBytes.{Consumes-nil}
use Rattle.std.proofs.lemmas.List.{take_all}
use Rattle.std.proofs.lemmas.Bool.{cases_lt}
use Rattle.cmp_ports.specs.declared.order.Order.TheVariants as orders
use Rattle.cmp_ports.specs.Whole.{TakesUpTo}
use Rattle.deal_changes.specs.declared.change.Kind.{Kind}
use Rattle.pki_message.specs.Frame.{FrameForm, IsFrame, message_limit}
use Rattle.cmpca_tool.specs.declared.words.Command.{Command}
use Rattle.cmpca_tool.specs.declared.words.Command.TheVariants.{Verify, Init, Take, Show, Enlist, Dismiss, Release, Deny}
use Rattle.cmpca_tool.specs.Causes.{IsSoleVerdict}
use Rattle.cmpca_tool.specs.Lines.{line}
use Rattle.cmpca_tool.specs.Changes.{DiskRun}
use Rattle.cmpca_tool.specs.Sources.{Devices, Told, ToldBoth}
use Rattle.cmpca_tool.specs.Deeds.{IsCutShort, Dismisses, IsDismissedAt}
use Rattle.cmpca_tool.specs.Inits.{IsInitReply}
use Rattle.cmpca_tool.specs.Takes.{IsTakeReply}
use Rattle.cmpca_tool.specs.Reply.{RanKeyed, Wrote, IsReply, IsVerifyReply, IsShowReply, IsChangeReply, IsEnlistReply, IsOrderReply, TellsVerdict, verdict_status, verdict_line, usage_line}
use Rattle.cmpca_tool.specs.declared.verdict.Verdict.{Verdict}
use Rattle.cmpca_tool.specs.declared.verdict.Verdict.TheVariants.{Verified, BadDataFormat, Unprotected, BadAlg, WrongMac}
use Rattle.cmpca_tool.specs.declared.status.Status.{Status}
use Rattle.cmpca_tool.specs.declared.status.Status.TheVariants.{Usage, ReadFault, WriteFault, NoMemory}
use Rattle.cmpca_tool.proofs.CauseLemmas.{no_frame_verdict}

-- octets that a source had left, where it tells them
pub some_input : (left : Option (List ℕ)) → (input : List ℕ) × IfSome left (λ all. all ≡ input)
some_input None = ([], tt)
some_input (Some all) = (all, refl)

-- more octets than the limit are no frame
long_none : (octets : List ℕ) → message_limit < length octets → (f : FrameForm) → IsFrame octets f → ⊥
long_none octets long f is = omega (arith, long, is.limited)

long_verdict : (secret octets all : List ℕ) (v : Verdict) → message_limit < length octets → message_limit < length all → IsSoleVerdict secret octets v → IsSoleVerdict secret all v
long_verdict secret octets all v long long_all h =
    subst (IsSoleVerdict secret all) (h.sole BadDataFormat record { no_frame = long_none octets long }) (no_frame_verdict secret all (long_none all long_all))

-- one octet past the limit tells as much as all octets
front_verdict : (secret all : List ℕ) (v : Verdict) → IsSoleVerdict secret (take (message_limit + 1) all) v → IsSoleVerdict secret all v
front_verdict secret all v h = elim (cases_lt message_limit (length all)) [
  | inl long ↦ long_verdict secret (take (message_limit + 1) all) all v (omega (arith, length-take-le (message_limit + 1) all (omega arith))) long h
  | inr short ↦ subst (λ (l : List ℕ). IsSoleVerdict secret l v) (take_all (message_limit + 1) all (omega arith)) h
]

-- the input that the source had left, with the verdict on what was read of it
record IsToldInput (left : Option (List ℕ)) (secret : List ℕ) (v : Verdict) : Type 0 where
  input : List ℕ
  read : IfSome left (λ all. all ≡ input)
  is_verdict : IsSoleVerdict secret input v

told_input : (left : Option (List ℕ)) (secret octets : List ℕ) (v : Verdict) → IfSome left (λ all. octets ≡ take (message_limit + 1) all) → IsSoleVerdict secret octets v → IsToldInput left secret v
told_input None secret octets v read h = record { input = octets; read = tt; is_verdict = h }
told_input (Some all) secret octets v read h =
    record { input = all; read = refl; is_verdict = front_verdict secret all v (subst (λ (l : List ℕ). IsSoleVerdict secret l v) read h) }

-- a verdict is a reply
told_reply : (Failed : Type 0) (secret input text : List ℕ) (v : Verdict) → TellsVerdict secret input (verdict_status v) text → IsVerifyReply Failed secret input (verdict_status v) text
told_reply Failed secret input text Verified h = h
told_reply Failed secret input text BadDataFormat h = h
told_reply Failed secret input text Unprotected h = h
told_reply Failed secret input text BadAlg h = h
told_reply Failed secret input text WrongMac h = h

-- ---- replies by what is read

-- a reply for each input
pub told_any : (left : Option (List ℕ)) (P : List ℕ → Status → List ℕ → Type 0) (status : Status) (text : List ℕ) → ((input : List ℕ) → P input status text) → Told left P status text
told_any left P status text is = let i = some_input left in record { input = i.0; read = i.1; is_reply = is i.0 }

-- the same for each input and each key file
any_both : (left key : Option (List ℕ)) (Q : List ℕ → List ℕ → Status → List ℕ → Type 0) (status : Status) (text : List ℕ) → ((input file : List ℕ) → Q input file status text) → ToldBoth left key Q status text
any_both left key Q status text is =
    let i = some_input left in
    let k = some_input key in
    record { input = i.0; read = i.1; key = k.0; key_read = k.1; is_reply = is i.0 k.0 }

-- a reply by the input alone
told_both : (left key : Option (List ℕ)) (P : List ℕ → Status → List ℕ → Type 0) (Q : List ℕ → List ℕ → Status → List ℕ → Type 0) (status : Status) (text : List ℕ)
    → ((input file : List ℕ) → P input status text → Q input file status text) → Told left P status text → ToldBoth left key Q status text
told_both left key P Q status text form t =
    let k = some_input key in
    record { input = t.input; read = t.read; key = k.0; key_read = k.1; is_reply = form t.input k.0 t.is_reply }

-- a reply by both
both_form : (left key : Option (List ℕ)) (P Q : List ℕ → List ℕ → Status → List ℕ → Type 0) (status : Status) (text : List ℕ)
    → ((input file : List ℕ) → P input file status text → Q input file status text) → ToldBoth left key P status text → ToldBoth left key Q status text
both_form left key P Q status text form t = record { input = t.input; read = t.read; key = t.key; key_read = t.key_read; is_reply = form t.input t.key t.is_reply }

-- ---- verify

pub told_verdict : (Failed : Type 0) (left : Option (List ℕ)) (status : Status) (secret octets text : List ℕ) (v : Verdict)
    → IfSome left (λ all. octets ≡ take (message_limit + 1) all) → IsSoleVerdict secret octets v
    → status ≡ verdict_status v → text ≡ verdict_line v → Told left (IsVerifyReply Failed secret) status text
told_verdict Failed left status secret octets text v read is ends says =
    let i = told_input left secret octets v read is in
    record {
      input = i.input;
      read = i.read;
      is_reply = subst (λ (r : Status). IsVerifyReply Failed secret i.input r text) (sym ends)
          (told_reply Failed secret i.input text v record { verdict = v; is_verdict = i.is_verdict; ends = refl; says = says });
    }

-- where none is read, or there is no memory for it
pub cut_read : (Failed : Type 0) (left : Option (List ℕ)) (secret : List ℕ) (status : Status) (text : List ℕ) → Failed → status ≡ ReadFault → text ≡ line (codes "read fault") → Told left (IsVerifyReply Failed secret) status text
cut_read Failed left secret status text failed ends says =
    told_any left (IsVerifyReply Failed secret) status text (λ input. subst (λ (r : Status). IsVerifyReply Failed secret input r text) (sym ends) (failed, says))

pub cut_memory : (Failed : Type 0) (left : Option (List ℕ)) (secret : List ℕ) (status : Status) (text : List ℕ) → status ≡ NoMemory → text ≡ line (codes "no memory") → Told left (IsVerifyReply Failed secret) status text
cut_memory Failed left secret status text ends says =
    told_any left (IsVerifyReply Failed secret) status text (λ input. subst (λ (r : Status). IsVerifyReply Failed secret input r text) (sym ends) says)

-- ---- cut short

pub short_read : (Failed : Type 0) (status : Status) (text : List ℕ) → Failed → status ≡ ReadFault → text ≡ line (codes "read fault") → IsCutShort Failed status text
short_read Failed status text failed ends says = subst (λ (s : Status). IsCutShort Failed s text) (sym ends) (failed, says)

pub short_memory : (Failed : Type 0) (status : Status) (text : List ℕ) → status ≡ NoMemory → text ≡ line (codes "no memory") → IsCutShort Failed status text
short_memory Failed status text ends says = subst (λ (s : Status). IsCutShort Failed s text) (sym ends) says

-- ---- how far a source is read

-- it isn't
pub none_taken : (most : ℕ) (left : Option (List ℕ)) → TakesUpTo most left left
none_taken most left = ([], Consumes-nil left, omega arith)

-- by the command
pub taken_by : (o command : Option Command) (most : Option Command → ℕ) (old new : Option (List ℕ)) → o ≡ command → TakesUpTo (most command) old new → TakesUpTo (most o) old new
taken_by o command most old new asked taken = subst (λ (c : Option Command). TakesUpTo (most c) old new) (sym asked) taken

-- ---- each command of the words

module _ (o : Option Command) (left key : Option (List ℕ)) (devices : Devices) (IsReading : ℕ → Type 0) (IsDraw : Option (List ℕ) → Type 0) (disk : DiskRun) (status : Status) (text : List ℕ) where
  -- the reply to what the words ask for
  abbrev Run : Type 0
  Run = ToldBoth left key (IsReply o devices IsReading IsDraw disk) status text

  -- the same, for a command
  as_asked : (command : Option Command) → o ≡ command → ToldBoth left key (IsReply command devices IsReading IsDraw disk) status text → Run
  as_asked command asked r = subst (λ (c : Option Command). ToldBoth left key (IsReply c devices IsReading IsDraw disk) status text) (sym asked) r

  pub asked_nothing : o ≡ None → status ≡ Usage → text ≡ usage_line → Run
  asked_nothing none ends says = as_asked None none (any_both left key _ status text (λ input file. (ends, says)))

  pub asked_verify : (secret : List ℕ) → o ≡ Some (Verify secret) → Told left (IsVerifyReply devices.input.failed secret) status text → Run
  asked_verify secret asked r = as_asked (Some (Verify secret)) asked (told_both left key _ _ status text (λ input file is. is) r)

  pub asked_init : (now : ℕ) → IsReading now → o ≡ Some Init → ToldBoth left key (IsInitReply disk devices.input devices.key now) status text → Run
  asked_init now reading asked r = as_asked (Some Init) asked (both_form left key _ _ status text (λ input file is. (now, reading, is)) r)

  pub asked_take : o ≡ Some Take → ToldBoth left key (IsTakeReply disk devices IsReading IsDraw) status text → Run
  asked_take asked r = as_asked (Some Take) asked (both_form left key _ _ status text (λ input file is. is) r)

  pub asked_show : o ≡ Some Show → IsShowReply disk status text → Run
  asked_show asked is = as_asked (Some Show) asked (any_both left key _ status text (λ input file. is))

  pub asked_enlist : (now : ℕ) → IsReading now → o ≡ Some Enlist → Told left (IsEnlistReply disk devices.input now) status text → Run
  asked_enlist now reading asked r = as_asked (Some Enlist) asked (told_both left key _ _ status text (λ input file is. (now, reading, is)) r)

  pub asked_dismiss : (now : ℕ) (kind : Kind) (id : List ℕ) → IsReading now → o ≡ Some (Dismiss kind id) → IsChangeReply disk (Dismisses kind id now) (IsDismissedAt kind id now) status text → Run
  asked_dismiss now kind id reading asked is = as_asked (Some (Dismiss kind id)) asked (any_both left key _ status text (λ input file. (now, reading, is)))

  pub asked_release : (now : ℕ) (tid : List ℕ) → IsReading now → o ≡ Some (Release tid) → IsOrderReply disk (orders.Release tid) (line (codes "released")) now status text → Run
  asked_release now tid reading asked is = as_asked (Some (Release tid)) asked (any_both left key _ status text (λ input file. (now, reading, is)))

  pub asked_deny : (now : ℕ) (tid : List ℕ) → IsReading now → o ≡ Some (Deny tid) → IsOrderReply disk (orders.Deny tid) (line (codes "denied")) now status text → Run
  asked_deny now tid reading asked is = as_asked (Some (Deny tid)) asked (any_both left key _ status text (λ input file. (now, reading, is)))

-- ---- what is written

pub ran_of : (left key : Option (List ℕ)) (Q : List ℕ → List ℕ → Status → List ℕ → Type 0) (old new : Option (List ℕ)) (reply status : Status) (text : List ℕ)
    → ToldBoth left key Q reply text → Wrote old new reply text status → RanKeyed left key Q old new status
ran_of left key Q old new reply status text t wrote =
    record { input = t.input; read = t.read; key = t.key; key_read = t.key_read; replied = record { reply = reply; text = text; is_reply = t.is_reply; wrote = wrote } }

-- a status that no failed write has is the reply's
pub ends_so : (old new : Option (List ℕ)) (reply status s : Status) (text : List ℕ) → Wrote old new reply text status → (s ≡ WriteFault → ⊥) → status ≡ s → reply ≡ s
ends_so old new reply status s text wrote other is = elim wrote [
  | inl w ↦ sym w.0 ∙ is
  | inr w ↦ absurd (other (sym is ∙ w.0))
]
