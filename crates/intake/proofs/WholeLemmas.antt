-- What was checked of a message carries it, and what refuses it refuses its letter.
use Rattle.std.proofs.Common.{◌≡◌, inl, ℕ, ◌+◌, ◌<◌, ◌≤◌, ◌^◌, ◌++◌, Bool, true, false, not, cond, List, [], ◌∷◌, length, eqb-true, Option, Some, None, IsTrue, is_some, is_none, refl, sym, ap, subst, ◌∙◌, arith}
use Rattle.std.specs.Prelude.{◌==◌}
use Rattle.asn_fields.proofs.FieldLemmas.{none_some, some_same}
use Rattle.pki_message.specs.Message.{MessageForm, IsMessage}
use Rattle.deal_changes.specs.declared.change.Kind.{Kind}
use Rattle.deal_model.specs.declared.asking.Ask.{Ask}
use Rattle.deal_model.specs.declared.asking.Echo.{Echo}
use Rattle.deal_model.specs.declared.asking.Checked.{Checked}
use Rattle.deal_model.specs.declared.asking.Job.{Job}
use Rattle.deal_model.specs.declared.asking.Job.TheVariants.{Repeat, Enrol, Confirm, Poll, Withdraw}
use Rattle.deal_model.specs.declared.states.Owner.{Owner}
use Rattle.deal_model.specs.declared.states.Standing.TheVariants.{Good}
use Rattle.deal_model.specs.Views.{History}
use Rattle.cmp_values.specs.declared.fail_info.FailInfo.{FailInfo}
use Rattle.deal_table.specs.declared.look.Look.{Look}
use Rattle.deal_table.specs.Carry.{IsReadable, IsProtected, IsJob, IsChecked, IsForJob, IsWrapped, IsInside, Carries, IsTold, untold, header_by}
use Rattle.deal_table.specs.History.{Receipted, IsFounded, name_of, owner_for, place_of_digest, look_of}
use Rattle.deal_table.specs.Laws.{LookRefuses, RefusesToTheLooked, LookTellsTheOwner, LookTellsTheOuterOwner}
use Rattle.deal_table.specs.Looked.{IsAskOf, looked_about, looked_passed, looked_opened, looked, looked_to, IsRefusedByLook}
use Rattle.deal_table.specs.Message.{Body, Enrols, Confirms, Polls, Withdraws, Nests, OtherBody, is_nested, Header, Facts, Letter, subject_of}
use Rattle.deal_table.specs.Table.{To, Decision, Refuses, unless, pass, bare, guarded, form_rows, header_rows, wrap_rows, nested_count, trusted_by, read, decision}
use Rattle.deal_table.proofs.Rows.{unless_passed}
use Rattle.intake.specs.Checking.{IsTo, IsBack, IsHashOf, IsSent, IsSentFor, IsTrusted, checked_by, name_for}
use Rattle.intake.specs.declared.sender.Sender.{Sender}
use Rattle.intake.specs.declared.subject.Subject.{Subject}
use Rattle.intake.specs.declared.unfit.Unfit.{Unfit}
use Rattle.intake.specs.declared.unfit.Unfit.TheVariants.{Refused, NoMemory}

-- ---- refusals

-- what decides alike refuses alike
pub back_same : (X Y : Type 0) (d : X → Decision) (e : Y → Decision) (at : X → Y) (u : Unfit) → ((next : X) → d next ≡ e (at next)) → IsBack Y e u → IsBack X d u
back_same X Y d e at NoMemory same back = tt
back_same X Y d e at (Refused fail sure outer) same back = (back.0, back.1, λ next. same next ∙ back.2 (at next))

-- a refusal by the look is one of the table, to whom the look tells
pub unfit_at : LookRefuses → RefusesToTheLooked → (look : Look) (name : List ℕ) (l : Letter) (h : History) (ask : Ask) (now : ℕ) (words : List ℕ) (fail : FailInfo) (sure outer : Bool)
    → IsAskOf l ask → look ≡ look_of h ask now → name ≡ name_of h → IsBack Decision (looked look name l) (Refused fail sure outer) → decision h l now words ≡ Refuses fail (looked_to ask look outer sure)
unfit_at refuses sends look name l h ask now words fail sure outer asks e n back =
    let it : IsRefusedByLook look name l fail back.0 = back.2 in
    let at : IsRefusedByLook (look_of h ask now) (name_of h) l fail back.0 =
    subst (λ (x : Look). IsRefusedByLook x (name_of h) l fail back.0) e (subst (λ (x : List ℕ). IsRefusedByLook look x l fail back.0) n it) in
    let to : back.0 ≡ looked_to ask look back.0.outer (is_some back.0.guard) = sends l ask look name fail back.0 asks it in
    refuses h l ask now words fail back.0 asks at
    ∙ ap (Refuses fail) (to ∙ ap (λ (b : Bool). looked_to ask look b (is_some back.0.guard)) back.1.outer ∙ ap (λ (b : Bool). looked_to ask look outer b) back.1.guard)

-- ---- certHash

pub told_is : (body : Body) (told : Option Bool) (tid : List ℕ) (h : History) → IsHashOf body told → IsTold body told tid h
told_is (Confirms f) (Some told) tid h each = inl each
told_is (Confirms f) None tid h each = tt
told_is (Enrols e) told tid h each = tt
told_is (Polls p) told tid h each = tt
told_is (Withdraws w) told tid h each = tt
told_is (Nests n) told tid h each = tt
told_is OtherBody told tid h each = tt

-- ---- what was checked

module _ (look : Look) (h : History) (now : ℕ) (ask : Ask) (echo : Echo) (hashes : Receipted → List ℕ) (f : Facts) (s : Subject) (head : Header) (outer_time : Option ℕ) (outer_key : Option (List ℕ))
    (owners : LookTellsTheOwner) (e : look ≡ look_of h ask now) (name : name_for look ≡ name_of h) (digest : f.digest ≡ ask.digest) (header : f.header ≡ header_by (checked_by ask echo head s outer_time outer_key)) where
  stands : (o : Owner) → look.cred ≡ Good o.who o.key o.rights → owner_for h f.header.kind f.header.kid ≡ Some o
  stands o good =
      let at : (look_of h ask now).cred ≡ Good o.who o.key o.rights = subst (λ (x : Look). x.cred ≡ Good o.who o.key o.rights) e good in
      subst (λ (x : Header). owner_for h x.kind x.kid ≡ Some o) (sym header) (owners h ask now o at)

  is_sent : IsSent look hashes f s → IsChecked h f (untold (checked_by ask echo head s outer_time outer_key))
  is_sent p = record {
    owner = p.owner;
    protection = record { stands = stands p.owner p.good; protected = p.protected; verified = p.verified };
    key = p.key;
    sender = p.sender;
    job = subst (λ (x : List ℕ). IsJob x p.owner (untold (checked_by ask echo head s outer_time outer_key)) f.body s.task.job) name (p.job (untold (checked_by ask echo head s outer_time outer_key)) refl refl);
  }

  pub for_job : (j : Job) → IsSentFor look hashes f s j → IsForJob h f (untold (checked_by ask echo head s outer_time outer_key)) j
  for_job Repeat p =
      let at : (look_of h ask now).repeat ≡ Some p.0 = subst (λ (x : Look). x.repeat ≡ Some p.0) e p.1 in
      (p.0, ap (place_of_digest h) digest ∙ at)
  for_job (Enrol body wish) p = is_sent p
  for_job (Confirm id_ok hash hash_alg_ok count status) p = is_sent p
  for_job (Poll ids_ok) p = is_sent p
  for_job (Withdraw serial reason) p = is_sent p

-- ---- letters

pub carries_plain : (h : History) (l : Letter) (c : Checked) → is_nested l.message.body ≡ false → IsFounded h → IsReadable l.message → l.message.digest ≡ c.ask.digest → l.message.header ≡ header_by c → c.ask.outer ≡ None
    → IsForJob h l.message c c.job → Carries l c h
carries_plain h l c n founded readable digest header none job = record {
  founded = founded;
  outside = readable;
  readable = subst (λ (b : Bool). IsReadable (cond b l.inner l.message)) (sym n) readable;
  digest = subst (λ (b : Bool). (cond b l.inner l.message).digest ≡ c.ask.digest) (sym n) digest;
  header = subst (λ (b : Bool). (cond b l.inner l.message).header ≡ header_by c) (sym n) header;
  inside = subst (λ (o : Option (Kind × List ℕ)). IsInside h l.message c o) (sym none) n;
  job = subst (λ (b : Bool). IsForJob h (cond b l.inner l.message) c c.job) (sym n) job;
}

pub carries_nested : (h : History) (l : Letter) (c : Checked) (o : Kind × List ℕ) → is_nested l.message.body ≡ true → IsFounded h → IsReadable l.message → IsReadable l.inner → l.inner.digest ≡ c.ask.digest → l.inner.header ≡ header_by c
    → c.ask.outer ≡ Some o → IsWrapped h l.message c o → IsForJob h l.inner c c.job → Carries l c h
carries_nested h l c o n founded outside readable digest header some wrapped job = record {
  founded = founded;
  outside = outside;
  readable = subst (λ (b : Bool). IsReadable (cond b l.inner l.message)) (sym n) readable;
  digest = subst (λ (b : Bool). (cond b l.inner l.message).digest ≡ c.ask.digest) (sym n) digest;
  header = subst (λ (b : Bool). (cond b l.inner l.message).header ≡ header_by c) (sym n) header;
  inside = subst (λ (x : Option (Kind × List ℕ)). IsInside h l.message c x) (sym some) wrapped;
  job = subst (λ (b : Bool). IsForJob h (cond b l.inner l.message) c c.job) (sym n) job;
}

pub read_passes : (a b : To) (m : Facts) (next : Decision) → IsReadable m → read a b m next ≡ next
read_passes a b m next r = unless_passed a (form_rows m) (unless b (header_rows m.header) next) r.form ∙ unless_passed b (header_rows m.header) next r.header

-- a message that nests no other one is looked at itself
pub looked_plain : (look : Look) (name : List ℕ) (l : Letter) (next : Decision) → is_nested l.message.body ≡ false → IsReadable l.message → looked look name l next ≡ looked_passed look name l.message next
looked_plain look name l next n r =
    read_passes (bare false) (bare (is_nested l.message.body)) l.message (looked_opened look name l next) r
    ∙ ap (λ (b : Bool). cond b (trusted_by look.outer look.settings.skew look.time true l.message (λ o. unless (guarded true l.message o) (wrap_rows l.message o) (read (guarded true l.message o) (bare false) l.inner (looked_passed look name l.inner next)))) (looked_passed look name l.message next)) n

-- what follows the rows of a nested message's own sender
abbrev pub inside_by : Look → List ℕ → Letter → Decision → Owner → Decision
inside_by look name l next o = read (guarded true l.message o) (bare false) l.inner (looked_passed look name l.inner next)

-- of one that nests another the sender is looked at first
pub looked_nested : (look : Look) (name : List ℕ) (l : Letter) (next : Decision) → is_nested l.message.body ≡ true → IsReadable l.message
    → looked look name l next ≡ trusted_by look.outer look.settings.skew look.time true l.message (λ o. unless (guarded true l.message o) (wrap_rows l.message o) (inside_by look name l next o))
looked_nested look name l next n r =
    read_passes (bare false) (bare (is_nested l.message.body)) l.message (looked_opened look name l next) r
    ∙ ap (λ (b : Bool). cond b (trusted_by look.outer look.settings.skew look.time true l.message (λ o. unless (guarded true l.message o) (wrap_rows l.message o) (read (guarded true l.message o) (bare false) l.inner (looked_passed look name l.inner next)))) (looked_passed look name l.message next)) n

-- where that one is trusted and may wrap, the message inside is looked at
pub looked_inside : (look : Look) (name : List ℕ) (l : Letter) (next : Decision) (s : Sender) → is_nested l.message.body ≡ true → IsReadable l.message → IsTrusted look.outer look.settings.skew look.time true l.message s
    → pass (wrap_rows l.message s.owner) ≡ true → looked look name l next ≡ inside_by look name l next s.owner
looked_inside look name l next s n r t w =
    looked_nested look name l next n r ∙ t.passes (λ o. unless (guarded true l.message o) (wrap_rows l.message o) (inside_by look name l next o))
    ∙ unless_passed (guarded true l.message s.owner) (wrap_rows l.message s.owner) (inside_by look name l next s.owner) w

-- one message is nested
pub nests_one : (b : Body) → is_nested b ≡ true → (nested_count b == 1) ≡ true → b ≡ Nests 1
nests_one (Nests n) nested e = ap Nests (eqb-true n 1 e)
nests_one (Enrols x) nested e = absurd (let h : false ≡ true = nested in cc)
nests_one (Confirms x) nested e = absurd (let h : false ≡ true = nested in cc)
nests_one (Polls x) nested e = absurd (let h : false ≡ true = nested in cc)
nests_one (Withdraws x) nested e = absurd (let h : false ≡ true = nested in cc)
nests_one OtherBody nested e = absurd (let h : false ≡ true = nested in cc)
