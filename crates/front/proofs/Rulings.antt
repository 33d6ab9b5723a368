-- How a message that was checked is decided, whatever letter its octets are.
use Rattle.std.proofs.Common.{◌≡◌, ℕ, ◌≤◌, ◌⊎◌, Bool, true, false, List, [], ◌∷◌, ◌++◌, Option, Some, None, refl, sym, ap, subst, ◌∙◌, inl, inr, ⊎_elim, arith}
use Rattle.std.specs.Prelude.{is_some, IsSome}
use Rattle.std.specs.Str.{bytes_eq}
use Rattle.std.proofs.lemmas.List.{append-nil}
use Rattle.std.proofs.lemmas.Option.{none-some}
use Rattle.sha2.proofs.Facts256.{length-sha256}
use Rattle.cmp_ports.specs.Faults.{Rose}
use Rattle.deal_changes.specs.declared.change.Change.{Change}
use Rattle.deal_model.specs.declared.asking.Ask.{Ask}
use Rattle.deal_model.specs.declared.asking.Checked.{Checked}
use Rattle.deal_model.specs.declared.asking.Job.{Job}
use Rattle.deal_model.specs.declared.asking.Job.TheVariants.{Repeat, Enrol, Confirm, Poll, Withdraw}
use Rattle.deal_model.specs.Views.{History}
use Rattle.deal_table.proofs.Sends.{left_answers}
use Rattle.deal_table.proofs.Stays.{grant_stays}
use Rattle.deal_table.specs.Carry.{FitsChecked, Carries, untold, IsTold, HashIsTold, is_confirm_job}
use Rattle.deal_table.specs.History.{Receipted, Begins, IsFounded, grant_receipt, look_of}
use Rattle.deal_table.specs.declared.look.Look.{Look}
use Rattle.deal_table.specs.Message.{Body, Enrols, Confirms, Polls, Withdraws, Nests, OtherBody, Letter, subject_of}
use Rattle.deal_table.specs.Table.{Makes}
use Rattle.desk.specs.declared.clerk.Clerk.{Ghosts}
use Rattle.desk.specs.declared.verdict.Verdict.{Verdict}
use Rattle.desk.specs.declared.verdict.Verdict.TheVariants.{Done, Again, Refused, Stale, DiskFault, NoMemory}
use Rattle.desk.specs.Clerks.{decided_place, IsDecidedAlone}
use Rattle.desk.specs.Verdicts.{Decides, LeftMakes, IsLeft}
use Rattle.desk.proofs.ClerkLemmas.{left_alone}
use Rattle.intake.specs.Fit as fit
use Rattle.intake.specs.Fit.{AreDigests, IsHashTold, IsCompared, ComparesHash}
use Rattle.reply_maker.specs.Replies.{Replier, certificate_hash}
use Rattle.front.specs.Answers.{ForLetter, addressed, IsOwn}
use Rattle.front.specs.Clerks.{Goes}
use Rattle.front.specs.Courses.{IsAsked, IsDecided, IsCarried, told_by, told_of, IsTellable, is_stale, IsClearBy, IsRuled}
use Rattle.front.proofs.Decided.{Known}
use Rattle.front.proofs.Joins.{begins_itself, begins_on, asked_goes, goes_on, goes_as}
use Rattle.front.proofs.Letters.{by_letter}

pub true_known : (b : Bool) → Known (b ≡ true)
true_known true = inl refl
true_known false = inr (λ e. cc e)

false_known : (b : Bool) → Known (b ≡ false)
false_known false = inl refl
false_known true = inr (λ e. cc e)

-- ---- what is told of certHash

-- what holds of what was checked, and with certHash told too, holds of it once it is told as far as can be
told_so : (P : Checked → Type 0) (k : Replier) (c : Checked) (job : Job) (told : Option Bool) (found : Option Receipted) → P c
    → ((id_ok : Bool) (hash : List ℕ) (alg : Bool) (count status : ℕ) (r : Receipted) → job ≡ Confirm id_ok hash alg count status → told ≡ None → found ≡ Some r → P (record c { hash_ok = Some (bytes_eq hash (certificate_hash k r)) }))
    → P (told_by k c job told found)
told_so P k c (Confirm id_ok hash alg count status) None (Some r) same new = new id_ok hash alg count status r refl refl refl
told_so P k c (Confirm id_ok hash alg count status) None None same new = same
told_so P k c (Confirm id_ok hash alg count status) (Some told) found same new = same
told_so P k c Repeat told found same new = same
told_so P k c (Enrol body wish) told found same new = same
told_so P k c (Poll ids_ok) told found same new = same
told_so P k c (Withdraw serial reason) told found same new = same

-- what is told stays true
told_on : (body : Body) (told : Option Bool) (tid : List ℕ) (a b : History) → Begins a b → IsTold body told tid a → IsTold body told tid b
told_on (Confirms f) (Some told) tid a b (more, e) (inl all) = inl all
told_on (Confirms f) (Some told) tid a b (more, e) (inr found) = inr (found.0, subst (λ (h : History). grant_receipt h tid ≡ Some found.0) (sym e) (grant_stays a more tid found.0 found.1), found.2)
told_on (Confirms f) None tid a b begins told = tt
told_on (Enrols e) x tid a b begins told = tt
told_on (Polls p) x tid a b begins told = tt
told_on (Withdraws w) x tid a b begins told = tt
told_on (Nests count) x tid a b begins told = tt
told_on OtherBody x tid a b begins told = tt

-- certHash was held against the certificate of the Grant
told_now : (k : Replier) (h : History) (tid : List ℕ) (body : Body) (job : Job) (told : Option Bool) (id_ok : Bool) (hash : List ℕ) (alg : Bool) (count status : ℕ) (r : Receipted)
    → IsCompared (certificate_hash k) body job told → job ≡ Confirm id_ok hash alg count status → told ≡ None → grant_receipt h tid ≡ Some r
    → IsTold body (Some (bytes_eq hash (certificate_hash k r))) tid h
told_now k h tid body job told id_ok hash alg count status r compared e n found =
    let f = subst (λ (j : Job). IsCompared (certificate_hash k) body j None) e (subst (IsCompared (certificate_hash k) body job) n compared) in
    subst (λ (x : Body). IsTold x (Some (bytes_eq hash (certificate_hash k r))) tid h) (sym f.1) (inr (r, found, f.2 r))

-- what a history tells of certHash is carried too
told_carried : (k : Replier) (b : List ℕ) (seen h : History) (c : Checked) → Begins seen h → IsCarried k b seen c → IsCarried k b h (told_of k h c)
told_carried k b seen h c begins is = record {
  looked = is.looked;
  begun = begins_on is.looked seen h is.begun begins;
  carries = λ l letter. told_so (λ (x : Checked). Carries l (untold x) is.looked) k c c.job c.hash_ok (grant_receipt h c.ask.tid) (is.carries l letter) (λ id_ok hash alg count status r e n found. is.carries l letter);
  told = λ l letter. told_so (λ (x : Checked). HashIsTold l x h) k c c.job c.hash_ok (grant_receipt h c.ask.tid) (told_on (subject_of l).body c.hash_ok c.ask.tid seen h begins (is.told l letter))
      (λ id_ok hash alg count status r e n found. told_now k h c.ask.tid (subject_of l).body c.job c.hash_ok id_ok hash alg count status r (is.compares (certificate_hash k) l letter) e n found);
  compares = told_so (ComparesHash b) k c c.job c.hash_ok (grant_receipt h c.ask.tid) is.compares
      (λ id_ok hash alg count status r e n found. λ hashes l letter. subst (λ (j : Job). IsCompared hashes (subject_of l).body j (Some (bytes_eq hash (certificate_hash k r)))) (sym e) tt);
  fits = told_fits k h c is.fits;
}
  where
    told_fits : (k : Replier) (h : History) (c : Checked) → FitsChecked c → FitsChecked (told_of k h c)
    told_fits k h c f = told_so FitsChecked k c c.job c.hash_ok (grant_receipt h c.ask.tid) f (λ id_ok hash alg count status r e n found. record { digest = f.digest; tid = f.tid; sender = f.sender; nonce = f.nonce; job = f.job })

-- certHash that can be told is told
told_open : (k : Replier) (c : Checked) (job : Job) (told : Option Bool) (found : Option Receipted) → told ≡ c.hash_ok → is_confirm_job job ≡ true → is_some found ≡ true → (told_by k c job told found).hash_ok ≡ None → ⊥
told_open k c (Confirm id_ok hash alg count status) None (Some r) same is some none = none-some (bytes_eq hash (certificate_hash k r)) (sym none)
told_open k c (Confirm id_ok hash alg count status) None None same is some none = let e : false ≡ true = some in cc
told_open k c (Confirm id_ok hash alg count status) (Some t) found same is some none = none-some t (sym none ∙ sym same)
told_open k c Repeat told found same is some none = let e : false ≡ true = is in cc
told_open k c (Enrol body wish) told found same is some none = let e : false ≡ true = is in cc
told_open k c (Poll ids_ok) told found same is some none = let e : false ≡ true = is in cc
told_open k c (Withdraw serial reason) told found same is some none = let e : false ≡ true = is in cc

some_stays : (h more : History) (tid : List ℕ) (found : Option Receipted) → grant_receipt h tid ≡ found → is_some found ≡ true → is_some (grant_receipt (h ++ more) tid) ≡ true
some_stays h more tid (Some r) e some = ap is_some (grant_stays h more tid r e)
some_stays h more tid None e some = absurd (let f : false ≡ true = some in cc)

some_on : (a b : History) (tid : List ℕ) → Begins a b → is_some (grant_receipt a tid) ≡ true → is_some (grant_receipt b tid) ≡ true
some_on a b tid (more, e) some = subst (λ (h : History). is_some (grant_receipt h tid) ≡ true) (sym e) (some_stays a more tid (grant_receipt a tid) refl some)

-- ---- decisions

-- what a clerk decides that has seen more, it decides for whoever has seen less
pub decides_since : (l : Letter) (c : Checked) (old mid new : History) (now : ℕ) (w : List ℕ) (v : Verdict) → Begins old mid → Decides l c mid new now w v → Decides l c old new now w v
decides_since l c old mid new now w (Done r) begins d = record { before = d.before; begun = begins_on old mid d.before begins d.begun; decided = d.decided; made = d.made }
decides_since l c old mid new now w (Again r place time) begins d = d
decides_since l c old mid new now w (Refused fail place time is_guarded to_outer) begins d = d
decides_since l c old mid new now w (Stale place) begins d = d
decides_since l c old mid new now w DiskFault begins d = d
decides_since l c old mid new now w NoMemory begins d = d

pub alone_since : (old mid new : History) (v : Verdict) → mid ≡ old → IsDecidedAlone mid new v → IsDecidedAlone old new v
alone_since old mid new (Done r) e d = subst (λ (h : History). new ≡ h ++ r.change ∷ []) e d
alone_since old mid new (Again r place time) e d = d ∙ e
alone_since old mid new (Refused fail place time is_guarded to_outer) e d = d ∙ e
alone_since old mid new (Stale place) e d = d ∙ e
alone_since old mid new DiskFault e d = d ∙ e
alone_since old mid new NoMemory e d = d ∙ e

-- what a clerk leaves in doubt that is alone
some_doubt : (o : Option Change) (c : Change) → o ≡ Some c → IsSome o
some_doubt None c e = absurd (none-some c e)
some_doubt (Some x) c e = refl

fault_doubt : (P : Change → Type 0) (d e : Option Change) → ((c : Change) × P c × (e ≡ Some c)) ⊎ (IsSome d × (e ≡ d)) → IsSome e
fault_doubt P d e (inl (c, makes, own)) = some_doubt e c own
fault_doubt P d e (inr (some, same)) = subst (λ (o : Option Change). IsSome o) (sym same) some

left_clears : (c : Checked) (now : ℕ) (w : List ℕ) (h : History) (d : Option Change) (v : Verdict) (g : History) (e : Option Change) → IsLeft c now w h d v g e → IsClearBy d e v
left_clears c now w h d (Done r) g e is = is.2
left_clears c now w h d (Again r place time) g e is = is.3.1
left_clears c now w h d (Refused fail place time is_guarded to_outer) g e is = is.2.1
left_clears c now w h d (Stale place) g e is = is.1.1
left_clears c now w h d DiskFault g e is = fault_doubt (LeftMakes h c now w) d e is.1
left_clears c now w h d NoMemory g e is = inr is.1

-- .. after others that left the same in doubt, or nothing
clears_since : (d m e : Option Change) (v : Verdict) → (m ≡ None) ⊎ (m ≡ d) → IsClearBy m e v → IsClearBy d e v
clears_since d m e (Done r) first is = is
clears_since d m e (Again r place time) first is = is
clears_since d m e (Refused fail place time is_guarded to_outer) first is = is
clears_since d m e (Stale place) first is = is
clears_since d m e DiskFault first is = is
clears_since d m e NoMemory (inl none) is = ⊎_elim (λ n. inl n) (λ same. inl (same ∙ none)) is
clears_since d m e NoMemory (inr kept) is = ⊎_elim (λ n. inl n) (λ same. inr (same ∙ kept)) is

-- a verdict that certHash has to be compared says so of what can be told
stale_open : (k : Replier) (b : List ℕ) (old new : History) (now : ℕ) (w : List ℕ) (c : Checked) (v : Verdict) → ForLetter k b (λ l. Decides l c old new now w v) → is_stale v ≡ true → IsTellable new c
stale_open k b old new now w c (Stale place) decides is = record {
  confirms = by_letter (certificate_hash k) b (true_known _) (λ l letter. (decides l letter).1.confirms);
  stands = by_letter (certificate_hash k) b (true_known _) (λ l letter. ap is_some (decides l letter).1.stands);
}
stale_open k b old new now w c (Done r) decides is = absurd (let e : false ≡ true = is in cc)
stale_open k b old new now w c (Again r place time) decides is = absurd (let e : false ≡ true = is in cc)
stale_open k b old new now w c (Refused fail place time is_guarded to_outer) decides is = absurd (let e : false ≡ true = is in cc)
stale_open k b old new now w c DiskFault decides is = absurd (let e : false ≡ true = is in cc)
stale_open k b old new now w c NoMemory decides is = absurd (let e : false ≡ true = is in cc)

never_stale : (k : Replier) (b : List ℕ) (old new : History) (now : ℕ) (w : List ℕ) (c : Checked) (v : Verdict) → ForLetter k b (λ l. Decides l c old new now w v) → (c.hash_ok ≡ None → ⊥) → is_stale v ≡ false
never_stale k b old new now w c (Stale place) decides told = by_letter (certificate_hash k) b (false_known _) (λ l letter. absurd (told (decides l letter).1.untold))
never_stale k b old new now w c (Done r) decides told = refl
never_stale k b old new now w c (Again r place time) decides told = refl
never_stale k b old new now w c (Refused fail place time is_guarded to_outer) decides told = refl
never_stale k b old new now w c DiskFault decides told = refl
never_stale k b old new now w c NoMemory decides told = refl

-- what is left of what was checked makes the message's own change
left_own : (k : Replier) (b : List ℕ) (h : History) (now : ℕ) (w : List ℕ) (c : Checked) → IsCarried k b h c → (x : Change) → LeftMakes h c now w x → IsOwn k b h now w x
left_own k b h now w c is x makes = λ l letter. ap (addressed l) (left_answers l c is.looked h h now w (Makes x) (is.carries l letter) is.begun (is.told l letter) (begins_itself h) makes tt)

module _ {K : Type 0} (g : Ghosts K) (k : Replier) (b : List ℕ) where
  -- decided, after it was asked
  decided_goes : (old mid new : K) (now : ℕ) (w : List ℕ) (c : Checked) (v : Verdict) → IsAsked g old mid → IsCarried k b (g.seen mid) c → IsDecided g mid new c now w v → Goes g old new (IsOwn k b (g.seen old) now w)
  decided_goes old mid new now w c v asked is d = goes_on g old mid new (IsOwn k b (g.seen old) now w)
      (asked_goes g old mid (IsOwn k b (g.seen old) now w) asked) asked.alone
      (goes_as g mid new (LeftMakes (g.seen mid) c now w) (IsOwn k b (g.seen old) now w) (record { grown = d.grown; lawful = d.lawful; held = d.held; later = d.later; doubt = λ alone. d.doubt; moments = λ alone. d.moments })
      (λ alone x makes. subst (λ (h : History). IsOwn k b h now w x) (asked.alone (ap (λ h. h.table) (sym asked.held) ∙ alone)) (left_own k b (g.seen mid) now w c is x makes)))

  pub ruled : (old mid new : K) (now : ℕ) (w : List ℕ) (c : Checked) (v : Verdict) → IsAsked g old mid → IsCarried k b (g.seen old) c → IsDecided g mid new (told_of k (g.seen mid) c) now w v → IsRuled g k b old new now w (told_of k (g.seen mid) c) v
  ruled old mid new now w c v asked is d = record {
    goes = decided_goes old mid new now w t v asked at_mid d;
    carried = record {
      looked = at_mid.looked;
      begun = begins_on at_mid.looked (g.seen mid) (g.seen new) at_mid.begun d.grown;
      carries = at_mid.carries;
      told = λ l letter. told_on (subject_of l).body t.hash_ok t.ask.tid (g.seen mid) (g.seen new) d.grown (at_mid.told l letter);
      compares = at_mid.compares;
      fits = at_mid.fits;
    };
    decides = λ l letter. decides_since l t (g.seen old) (g.seen mid) (g.seen new) now w v asked.grown (by_mid l letter);
    timely = d.timely;
    mine = d.mine ∙ ap (λ (x : List ℕ). x ++ decided_place v) asked.mine;
    fault = λ e. subst (λ (n : ℕ). Rose n (g.faults new)) asked.faults (d.fault e);
    kept = λ other. d.kept other ∙ asked.faults;
    alone = λ alone. alone_since (g.seen old) (g.seen mid) (g.seen new) v (asked.alone alone)
        (left_alone t now w (g.seen mid) (g.doubt mid) v (g.seen new) (g.doubt new) (d.alone (ap (λ h. h.table) asked.held ∙ alone)));
    clears = λ alone. clears_since (g.doubt old) (g.doubt mid) (g.doubt new) v (inr asked.doubt)
        (left_clears t now w (g.seen mid) (g.doubt mid) v (g.seen new) (g.doubt new) (d.alone (ap (λ h. h.table) asked.held ∙ alone)));
    stale = stale_open k b (g.seen mid) (g.seen new) now w t v by_mid;
  }
    where
      t : Checked
      t = told_of k (g.seen mid) c

      at_mid : IsCarried k b (g.seen mid) t
      at_mid = told_carried k b (g.seen old) (g.seen mid) c asked.grown is

      by_mid : ForLetter k b (λ l. Decides l t (g.seen mid) (g.seen new) now w v)
      by_mid = λ l letter. d.decides l at_mid.looked at_mid.begun (at_mid.carries l letter) (at_mid.told l letter)

  -- where certHash can be told, it is
  pub ruled_told : (old mid new : K) (now : ℕ) (w : List ℕ) (c : Checked) (v : Verdict) → IsAsked g old mid → IsCarried k b (g.seen old) c → IsDecided g mid new (told_of k (g.seen mid) c) now w v → IsTellable (g.seen old) c → is_stale v ≡ false
  ruled_told old mid new now w c v asked is d can =
      let is_mid = told_carried k b (g.seen old) (g.seen mid) c asked.grown is in
      never_stale k b (g.seen mid) (g.seen new) now w (told_of k (g.seen mid) c) v (λ l letter. d.decides l is_mid.looked is_mid.begun (is_mid.carries l letter) (is_mid.told l letter))
      (told_open k c c.job c.hash_ok (grant_receipt (g.seen mid) c.ask.tid) refl can.confirms (some_on (g.seen old) (g.seen mid) c.ask.tid asked.grown can.stands))

  pub ruled_by : (old mid new : K) (now : ℕ) (w : List ℕ) (c d : Checked) (v : Verdict) → IsAsked g old mid → d ≡ told_of k (g.seen mid) c → IsDecided g mid new d now w v → IsCarried k b (g.seen old) c → IsRuled g k b old new now w d v
  ruled_by old mid new now w c d v asked e decided is = subst (λ (x : Checked). IsRuled g k b old new now w x v) (sym e) (ruled old mid new now w c v asked is (subst (λ (x : Checked). IsDecided g mid new x now w v) e decided))

  pub told_by_then : (old mid new : K) (now : ℕ) (w : List ℕ) (c d : Checked) (v : Verdict) → IsAsked g old mid → d ≡ told_of k (g.seen mid) c → IsDecided g mid new d now w v → IsCarried k b (g.seen old) c → IsTellable (g.seen old) c → is_stale v ≡ false
  told_by_then old mid new now w c d v asked e decided is can = ruled_told old mid new now w c v asked is (subst (λ (x : Checked). IsDecided g mid new x now w v) e decided) can

  -- memory ran out before it was decided
  pub ruled_spent : (old new : K) (now : ℕ) (w : List ℕ) (c : Checked) → IsAsked g old new → IsCarried k b (g.seen old) c → IsRuled g k b old new now w c NoMemory
  ruled_spent old new now w c asked is = record {
    goes = asked_goes g old new (IsOwn k b (g.seen old) now w) asked;
    carried = record {
      looked = is.looked;
      begun = begins_on is.looked (g.seen old) (g.seen new) is.begun asked.grown;
      carries = is.carries;
      told = λ l letter. told_on (subject_of l).body c.hash_ok c.ask.tid (g.seen old) (g.seen new) asked.grown (is.told l letter);
      compares = is.compares;
      fits = is.fits;
    };
    decides = λ l letter. tt;
    timely = tt;
    mine = asked.mine ∙ sym (append-nil (g.mine old));
    fault = λ e. absurd (cc e);
    kept = λ other. asked.faults;
    alone = asked.alone;
    clears = λ alone. inr asked.doubt;
    stale = λ e. absurd (let f : false ≡ true = e in cc);
  }

  pub spent_by : (old new : K) (now : ℕ) (w : List ℕ) (c d : Checked) → IsAsked g old new → d ≡ c → IsCarried k b (g.seen old) c → IsRuled g k b old new now w d NoMemory
  spent_by old new now w c d asked e is = subst (λ (x : Checked). IsRuled g k b old new now w x NoMemory) (sym e) (ruled_spent old new now w c asked is)

  rose_since : (a m n : ℕ) → a ≤ m → Rose m n → Rose a n
  rose_since a m n le rose = omega arith

  -- decided once more, where certHash had to be compared first
  pub ruled_again : (old mid new : K) (now : ℕ) (w : List ℕ) (c d : Checked) (place : ℕ) (v : Verdict) → IsRuled g k b old mid now w c (Stale place) → IsRuled g k b mid new now w d v → IsRuled g k b old new now w d v
  ruled_again old mid new now w c d place v first second = record {
    goes = goes_on g old mid new (IsOwn k b (g.seen old) now w) first.goes first.alone
        (goes_as g mid new (IsOwn k b (g.seen mid) now w) (IsOwn k b (g.seen old) now w) second.goes (λ alone x own. subst (λ (h : History). IsOwn k b h now w x) (first.alone (ap (λ h. h.table) (sym first.goes.held) ∙ alone)) own));
    carried = second.carried;
    decides = λ l letter. decides_since l d (g.seen old) (g.seen mid) (g.seen new) now w v first.goes.grown (second.decides l letter);
    timely = second.timely;
    mine = second.mine ∙ ap (λ (x : List ℕ). x ++ decided_place v) (first.mine ∙ append-nil (g.mine old));
    fault = λ e. rose_since (g.faults old) (g.faults mid) (g.faults new) first.goes.later (second.fault e);
    kept = λ other. second.kept other ∙ first.kept (λ e. cc e);
    alone = λ alone. alone_since (g.seen old) (g.seen mid) (g.seen new) v (first.alone alone) (second.alone (ap (λ h. h.table) first.goes.held ∙ alone));
    clears = λ alone. clears_since (g.doubt old) (g.doubt mid) (g.doubt new) v (inl (first.clears alone)) (second.clears (ap (λ h. h.table) first.goes.held ∙ alone));
    stale = second.stale;
  }

  -- looked at, and then decided
  pub served_goes : (old mid new : K) (now : ℕ) (w : List ℕ) (c : Checked) (v : Verdict) → IsAsked g old mid → IsRuled g k b mid new now w c v → Goes g old new (IsOwn k b (g.seen old) now w)
  served_goes old mid new now w c v asked rules = goes_on g old mid new (IsOwn k b (g.seen old) now w) (asked_goes g old mid (IsOwn k b (g.seen old) now w) asked) asked.alone
      (goes_as g mid new (IsOwn k b (g.seen mid) now w) (IsOwn k b (g.seen old) now w) rules.goes (λ alone x own. subst (λ (h : History). IsOwn k b h now w x) (asked.alone (ap (λ h. h.table) (sym asked.held) ∙ alone)) own))

-- ---- what was checked

digests : (k : Replier) → AreDigests (certificate_hash k)
unfolding certificate_hash
digests k r = length-sha256 _

pub carried_by : (k : Replier) (b : List ℕ) (ask : Ask) (look : Look) (h : History) (now : ℕ) (c : Checked) → IsFounded h → look ≡ look_of h ask now → fit.IsCarried b ask look c → IsHashTold b c → ComparesHash b c → FitsChecked c → IsCarried k b h c
carried_by k b ask look h now c founded is_look carries told compares fits = record {
  looked = h;
  begun = begins_itself h;
  carries = λ l letter. carries (certificate_hash k) l h now letter founded is_look;
  told = λ l letter. told (certificate_hash k) l h (digests k) letter;
  compares = compares;
  fits = fits;
}
