-- What carries a message goes on carrying it, and what was told of certHash stays true.
use Rattle.std.proofs.Common.{◌≡◌, ℕ, Bool, true, false, cond, List, ◌++◌, Option, Some, None, refl, sym, ap, subst, ◌∙◌, inl, inr}
use Rattle.std.specs.Prelude.{unwrap_or}
use Rattle.std.proofs.lemmas.Option.{same_Some}
use Rattle.deal_changes.specs.declared.change.Kind.{Kind}
use Rattle.deal_changes.specs.declared.change.Settings.{Settings}
use Rattle.deal_model.specs.declared.asking.Job.{Job}
use Rattle.deal_model.specs.declared.asking.Job.TheVariants.{Repeat, Enrol, Confirm, Poll, Withdraw}
use Rattle.deal_model.specs.declared.asking.Checked.{Checked}
use Rattle.deal_model.specs.declared.states.Owner.{Owner}
use Rattle.deal_model.specs.Views.{History, no_settings, founding, has_digest}
use Rattle.deal_table.specs.History.{Begins, IsFounded, name_of, place_of_digest}
use Rattle.deal_table.specs.Message.{Body, Enrols, Confirms, Polls, Withdraws, Nests, OtherBody, is_nested, Facts, Letter, subject_of, blind_body, blind_facts, blind}
use Rattle.deal_table.specs.Table.{decision}
use Rattle.deal_table.specs.Carry.{left, untold, IsReadable, IsProtected, IsStatus, IsJob, IsChecked, IsForJob, IsWrapped, IsInside, Carries, IsTold, HashIsTold, as_told}
use Rattle.deal_table.proofs.Stays.{settings_stay, owner_stays, place_stays, grant_stays}
use Rattle.deal_table.proofs.Jobs.{Tells}
use Rattle.deal_table.proofs.Split.{left_told}

-- ---- in later histories

name_stays : (h more : History) → IsFounded h → name_of (h ++ more) ≡ name_of h
name_stays h more f =
    let later : founding (h ++ more) ≡ founding h = settings_stay h more f.0 f.1 ∙ sym f.1 in
    ap (λ (o : Option Settings). (unwrap_or o no_settings).name) later

protected_later : (h more : History) (m : Facts) (o : Owner) → IsProtected h m o → IsProtected (h ++ more) m o
protected_later h more m o p = record { stands = owner_stays h more m.header.kind m.header.kid o p.stands; protected = p.protected; verified = p.verified }

checked_later : (h more : History) (m : Facts) (c : Checked) → IsFounded h → IsChecked h m c → IsChecked (h ++ more) m c
checked_later h more m c f k = record { owner = k.owner; protection = protected_later h more m k.owner k.protection; key = k.key; sender = k.sender; job = subst (λ (name : List ℕ). IsJob name k.owner c m.body c.job) (sym (name_stays h more f)) k.job }

digest_stays : (h more : History) (digest : List ℕ) (place : ℕ) → place_of_digest h digest ≡ Some place → place_of_digest (h ++ more) digest ≡ Some place
unfolding place_of_digest
digest_stays h more digest place e = place_stays (has_digest digest) h more place e

job_later : (h more : History) (m : Facts) (c : Checked) (job : Job) → IsFounded h → IsForJob h m c job → IsForJob (h ++ more) m c job
job_later h more m c Repeat f k = (k.0, digest_stays h more m.digest k.0 k.1)
job_later h more m c (Enrol body wish) f k = checked_later h more m c f k
job_later h more m c (Confirm id_ok hash hash_alg_ok count status) f k = checked_later h more m c f k
job_later h more m c (Poll ids_ok) f k = checked_later h more m c f k
job_later h more m c (Withdraw serial reason) f k = checked_later h more m c f k

inside_later : (h more : History) (m : Facts) (c : Checked) (outer : Option (Kind × List ℕ)) → IsInside h m c outer → IsInside (h ++ more) m c outer
inside_later h more m c None plain = plain
inside_later h more m c (Some o) w = record { body = w.body; kind = w.kind; kid = w.kid; time = w.time; owner = w.owner; protection = protected_later h more m w.owner w.protection; key = w.key }

pub carries_more : (l : Letter) (c : Checked) (h more : History) → Carries l c h → Carries l c (h ++ more)
carries_more l c h more k = record {
  founded = (k.founded.0, settings_stay h more k.founded.0 k.founded.1, k.founded.2);
  outside = k.outside;
  readable = k.readable;
  digest = k.digest;
  header = k.header;
  inside = inside_later h more l.message c c.ask.outer k.inside;
  job = job_later h more (subject_of l) c c.job k.founded k.job;
}

pub carries_later : (l : Letter) (c : Checked) (h later : History) → Begins h later → Carries l c h → Carries l c later
carries_later l c h later b k = subst (λ (g : History). Carries l c g) (sym b.1) (carries_more l c h b.0 k)

-- ---- what is told of certHash is asked nowhere

job_told : (name : List ℕ) (o : Owner) (c : Checked) (told : Option Bool) (body : Body) (job : Job) → IsJob name o (untold c) body job → IsJob name o (record c { hash_ok = told }) body job
job_told name o c told (Enrols e) (Enrol body wish) k = k
job_told name o c told (Confirms f) (Confirm id_ok hash hash_alg_ok count status) k = k
job_told name o c told (Polls p) (Poll ids_ok) k = k
job_told name o c told (Withdraws w) (Withdraw serial reason) k = k
job_told name o c told _ _ k = elim k [ ]

checked_told : (h : History) (m : Facts) (c : Checked) → IsChecked h m (untold c) → IsChecked h m c
checked_told h m c k = record { owner = k.owner; protection = k.protection; key = k.key; sender = k.sender; job = job_told (name_of h) k.owner c c.hash_ok m.body c.job k.job }

for_job_told : (h : History) (m : Facts) (c : Checked) (job : Job) → IsForJob h m (untold c) job → IsForJob h m c job
for_job_told h m c Repeat k = k
for_job_told h m c (Enrol body wish) k = checked_told h m c k
for_job_told h m c (Confirm id_ok hash hash_alg_ok count status) k = checked_told h m c k
for_job_told h m c (Poll ids_ok) k = checked_told h m c k
for_job_told h m c (Withdraw serial reason) k = checked_told h m c k

inside_told : (h : History) (m : Facts) (c : Checked) (outer : Option (Kind × List ℕ)) → IsInside h m (untold c) outer → IsInside h m c outer
inside_told h m c None plain = plain
inside_told h m c (Some o) w = record { body = w.body; kind = w.kind; kid = w.kid; time = w.time; owner = w.owner; protection = w.protection; key = w.key }

pub carries_told : (l : Letter) (c : Checked) (h : History) → Carries l (untold c) h → Carries l c h
carries_told l c h k = record { founded = k.founded; outside = k.outside; readable = k.readable; digest = k.digest; header = k.header; inside = inside_told h l.message c c.ask.outer k.inside; job = for_job_told h (subject_of l) c c.job k.job }

-- ---- a message of which nobody has compared certHash

nested_blind : (body : Body) → is_nested (blind_body body) ≡ is_nested body
nested_blind (Enrols e) = refl
nested_blind (Confirms f) = refl
nested_blind (Polls p) = refl
nested_blind (Withdraws w) = refl
nested_blind (Nests count) = refl
nested_blind OtherBody = refl

pub subject_blind : (l : Letter) → subject_of (blind l) ≡ blind_facts (subject_of l)
subject_blind l = rw (nested_blind l.message.body) (elim (is_nested l.message.body) as (λ b. cond b (blind_facts l.inner) (blind_facts l.message) ≡ blind_facts (cond b l.inner l.message)) [ true ↦ refl | false ↦ refl ])

readable_blind : (m : Facts) → IsReadable m → IsReadable (blind_facts m)
readable_blind m r = record { form = r.form; header = r.header }

protected_blind : (h : History) (m : Facts) (o : Owner) → IsProtected h m o → IsProtected h (blind_facts m) o
protected_blind h m o p = record { stands = p.stands; protected = p.protected; verified = p.verified }

job_blind : (name : List ℕ) (o : Owner) (c : Checked) (body : Body) (job : Job) → IsJob name o c body job → IsJob name o c (blind_body body) job
job_blind name o c (Enrols e) (Enrol body wish) k = k
job_blind name o c (Confirms f) (Confirm id_ok hash hash_alg_ok count status) (same, inl none) = (same, inl none)
job_blind name o c (Confirms f) (Confirm id_ok hash hash_alg_ok count status) (same, inr one) = (same, inr (record { id = one.id; algorithm = one.algorithm; outcome = one.outcome }))
job_blind name o c (Polls p) (Poll ids_ok) k = k
job_blind name o c (Withdraws w) (Withdraw serial reason) k = k
job_blind name o c _ _ k = elim k [ ]

checked_blind : (h : History) (m : Facts) (c : Checked) → IsChecked h m c → IsChecked h (blind_facts m) c
checked_blind h m c k = record { owner = k.owner; protection = protected_blind h m k.owner k.protection; key = k.key; sender = k.sender; job = job_blind (name_of h) k.owner c m.body c.job k.job }

for_job_blind : (h : History) (m : Facts) (c : Checked) (job : Job) → IsForJob h m c job → IsForJob h (blind_facts m) c job
for_job_blind h m c Repeat k = k
for_job_blind h m c (Enrol body wish) k = checked_blind h m c k
for_job_blind h m c (Confirm id_ok hash hash_alg_ok count status) k = checked_blind h m c k
for_job_blind h m c (Poll ids_ok) k = checked_blind h m c k
for_job_blind h m c (Withdraw serial reason) k = checked_blind h m c k

inside_blind : (h : History) (m : Facts) (c : Checked) (outer : Option (Kind × List ℕ)) → IsInside h m c outer → IsInside h (blind_facts m) c outer
inside_blind h m c None plain = nested_blind m.body ∙ plain
inside_blind h m c (Some o) w = record { body = ap blind_body w.body; kind = w.kind; kid = w.kid; time = w.time; owner = w.owner; protection = protected_blind h m w.owner w.protection; key = w.key }

pub carries_blind : (l : Letter) (c : Checked) (h : History) → Carries l c h → Carries (blind l) c h
carries_blind l c h k =
    let to : (P : Facts → Type 0) → P (blind_facts (subject_of l)) → P (subject_of (blind l)) = λ P p. subst P (sym (subject_blind l)) p in
    record {
      founded = k.founded;
      outside = readable_blind l.message k.outside;
      readable = to IsReadable (readable_blind (subject_of l) k.readable);
      digest = to (λ m. m.digest ≡ c.ask.digest) k.digest;
      header = to (λ m. m.header ≡ Rattle.deal_table.specs.Carry.header_by c) k.header;
      inside = inside_blind h l.message c c.ask.outer k.inside;
      job = to (λ m. IsForJob h m c c.job) (for_job_blind h (subject_of l) c c.job k.job);
    }

-- ---- what is told

told_blind : (h : History) (tid : List ℕ) (body : Body) → Tells h tid None (blind_body body)
told_blind h tid (Enrols e) = tt
told_blind h tid (Confirms f) = λ r e. refl
told_blind h tid (Polls p) = tt
told_blind h tid (Withdraws w) = tt
told_blind h tid (Nests count) = tt
told_blind h tid OtherBody = tt

told_later : (h more : History) (tid : List ℕ) (told : Bool) (body : Body) → IsTold body (Some told) tid h → Tells (h ++ more) tid (Some told) body
told_later h more tid told (Confirms f) (inl all) = λ r e. all r
told_later h more tid told (Confirms f) (inr one) = λ r e. ap f.matches (same_Some r one.0 (sym e ∙ grant_stays h more tid one.0 one.1)) ∙ one.2
told_later h more tid told (Enrols e) k = tt
told_later h more tid told (Polls p) k = tt
told_later h more tid told (Withdraws w) k = tt
told_later h more tid told (Nests count) k = tt
told_later h more tid told OtherBody k = tt

told_at : (l : Letter) (c : Checked) (h later : History) (now : ℕ) (w : List ℕ) (told : Option Bool) → told ≡ c.hash_ok → Begins h later → Carries l c later → IsTold (subject_of l).body told c.ask.tid h → decision later (as_told told l) now w ≡ left later c now w
told_at l c h later now w None e b k t = left_told (blind l) c later now w (carries_blind l c later k) (subst (λ (o : Option Bool). Tells later c.ask.tid o (subject_of (blind l)).body) e (subst (λ (m : Facts). Tells later c.ask.tid None m.body) (sym (subject_blind l)) (told_blind later c.ask.tid (subject_of l).body)))
told_at l c h later now w (Some told) e b k t = left_told l c later now w k (subst (λ (o : Option Bool). Tells later c.ask.tid o (subject_of l).body) e (subst (λ (g : History). Tells g c.ask.tid (Some told) (subject_of l).body) (sym b.1) (told_later h b.0 c.ask.tid told (subject_of l).body t)))

pub decision_left : (l : Letter) (c : Checked) (looked told h : History) (now : ℕ) (w : List ℕ) → Carries l (untold c) looked → Begins looked h → HashIsTold l c told → Begins told h → decision h (as_told c.hash_ok l) now w ≡ left h c now w
decision_left l c looked told h now w k b t s = told_at l c told h now w c.hash_ok refl s (carries_later l c looked h b (carries_told l c looked k)) t
