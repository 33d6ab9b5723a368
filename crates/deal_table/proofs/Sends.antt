-- Whom a refusal of what is left answers, and when what is left asks.
use Rattle.std.proofs.Common.{◌≡◌, ℕ, max, Bool, true, false, cond, List, [], ◌∷◌, ◌++◌, Option, Some, None, is_some, refl, sym, ap, subst, ◌∙◌, inl, inr, ◌⊎◌, arith}
use Rattle.std.specs.Prelude.{if◌then◌else◌, unwrap_or, nat_lt, ◌==◌}
use Rattle.std.proofs.lemmas.Option.{none-some, same_Some}
use Rattle.deal_changes.specs.declared.change.Kind.{Kind}
use Rattle.deal_changes.specs.declared.change.Kind.TheVariants.{Mac, Lms}
use Rattle.deal_changes.specs.declared.change.Change.{Change}
use Rattle.deal_changes.specs.declared.change.Change.TheVariants.{Settled, Revoke}
use Rattle.deal_model.specs.declared.asking.Job.{Job}
use Rattle.deal_model.specs.declared.asking.Job.TheVariants.{Repeat, Enrol, Confirm, Poll, Withdraw}
use Rattle.deal_model.specs.declared.asking.Checked.{Checked}
use Rattle.deal_model.specs.declared.states.DealState.{DealState}
use Rattle.deal_model.specs.declared.states.Owner.{Owner}
use Rattle.deal_model.specs.declared.states.Standing.{Standing}
use Rattle.deal_model.specs.declared.states.Standing.TheVariants.{Unknown, OtherKind, Barred, Good}
use Rattle.deal_model.specs.Views.{History, is_told, time_of}
use Rattle.cmp_values.specs.declared.fail_info.FailInfo.{FailInfo}
use Rattle.deal_table.specs.History.{Receipted, Deal, Begins, name_of, skew_of, place_of_digest, event_time, grant_receipt, owner_for, standing_for}
use Rattle.deal_table.specs.Message.{Compares, Confirmation, Body, Enrols, Confirms, Polls, Withdraws, Nests, OtherBody, is_nested, Header, Facts, Letter, subject_of, blind}
use Rattle.deal_table.specs.Table.{Row, To, Decision, Makes, Repeats, Refuses, Asks, Event, Sent, unless, bare, guard_by, guarded, known, protection_rows, check_rows, time_rows, standing_now, trusted_by, trusted, old_rows, new_rows, party_rows, confirm_rows, poll_rows, entry_rows, reason_rows, revoke_rows, wish_rows, key_rows, proof_rows, is_possessed, enrolled, polled, poll_made, deal_certificate, state_now, deal_now, tid_of, status_rows, compared, compared_with, settles, stamp_by, room_rows, made, about, repeated, passed, served_rows, form_rows, header_rows, wrap_rows, read, opened, decision}
use Rattle.deal_table.specs.Carry.{HashIsTold, as_told, IsAnswer, header_by, rest_body, rest_facts, rest_outer, rest_message, rest, left, untold, IsChecked, IsForJob, IsInside, Carries, is_confirm_job, IsStale, secret_by, carried_to}
use Rattle.deal_table.proofs.Owners.{owner_good}
use Rattle.deal_table.proofs.Split.{opened_plain, outer_protected, rest_plain}
use Rattle.deal_table.proofs.Blind.{blind_refines}
use Rattle.deal_table.proofs.Later.{decision_left, carries_later, carries_told}

-- ---- every refusal goes where R says, and every question where A says

abbrev pub Goes : (To → Type 0) → (ℕ → Type 0) → Decision → Type 0
Goes R A (Makes c) = Unit {0}
Goes R A (Repeats place) = Unit {0}
Goes R A (Refuses fail to) = R to
Goes R A (Asks place) = A place

-- a certConf whose certHash wasn't compared asks where A says
abbrev pub MayAsk : (ℕ → Type 0) → History → List ℕ → Body → Type 0
MayAsk A h tid (Confirms f) = (r : Receipted) → grant_receipt h tid ≡ Some r → f.matches r ≡ None → A r.place
MayAsk A h tid _ = Unit {0}

module _ (R : To → Type 0) (A : ℕ → Type 0) where
  pub unless_goes : (to : To) (rows : List Row) (next : Decision) → R to → Goes R A next → Goes R A (unless to rows next)
  unless_goes to [] next r g = g
  unless_goes to (row ∷ rows) next r g = elim row.applies as (λ v. Goes R A (cond v (Refuses row.fail to) (unless to rows next))) [ true ↦ r | false ↦ unless_goes to rows next r g ]

  made_goes : (v : Event) (s : Sent) (c : Change) → R s.to → Goes R A (made v s c)
  made_goes v s c r = unless_goes s.to (room_rows v.history c) (Makes c) r tt

  known_goes : (to : To) (s : Standing) (next : Owner → Decision) → R to → ((o : Owner) → s ≡ Good o.who o.key o.rights → Goes R A (next o)) → Goes R A (known to s next)
  known_goes to Unknown next r g = r
  known_goes to OtherKind next r g = r
  known_goes to Barred next r g = r
  known_goes to (Good who key rights) next r g = g (record { who = who; key = key; rights = rights }) refl

  pub trusted_by_goes : (standing : Standing) (skew t : ℕ) (outer : Bool) (m : Facts) (next : Owner → Decision) → R (bare outer) → ((o : Owner) → standing ≡ Good o.who o.key o.rights → R (guarded outer m o))
      → ((o : Owner) → standing ≡ Good o.who o.key o.rights → Goes R A (next o)) → Goes R A (trusted_by standing skew t outer m next)
  trusted_by_goes standing skew t outer m next r q g = unless_goes (bare outer) (protection_rows m) _ r (known_goes (bare outer) standing _ r
      (λ o e. unless_goes (bare outer) (check_rows m o) _ r (unless_goes (guarded outer m o) (time_rows m skew t) _ (q o e) (g o e))))

  trusted_goes : (h : History) (t : ℕ) (outer : Bool) (m : Facts) (next : Owner → Decision) → R (bare outer) → ((o : Owner) → standing_now h t m ≡ Good o.who o.key o.rights → R (guarded outer m o))
      → ((o : Owner) → standing_now h t m ≡ Good o.who o.key o.rights → Goes R A (next o)) → Goes R A (trusted h t outer m next)
  trusted_goes h t outer m next r q g = trusted_by_goes (standing_now h t m) (skew_of h) t outer m next r q g

  compared_goes : (to : To) (place : ℕ) (told : Option Bool) (next : Decision) → R to → (told ≡ None → A place) → Goes R A next → Goes R A (compared to place told next)
  compared_goes to place (Some true) next r a g = g
  compared_goes to place (Some false) next r a g = r
  compared_goes to place None next r a g = a refl

  compared_with_goes : (to : To) (matches : Receipted → Option Bool) (found : Option Receipted) (next : Decision) → R to → ((r : Receipted) → found ≡ Some r → matches r ≡ None → A r.place) → Goes R A next → Goes R A (compared_with to matches found next)
  compared_with_goes to matches (Some r) next q a g = compared_goes to r.place (matches r) next q (a r refl) g
  compared_with_goes to matches None next q a g = q

  settles_goes : (v : Event) (s : Sent) (f : Confirmation) → R s.to → ((r : Receipted) → grant_receipt v.history (tid_of s.header) ≡ Some r → f.matches r ≡ None → A r.place) → Goes R A (settles v s f)
  settles_goes v s f q a = elim (f.count == 0) as (λ b. Goes R A (cond b (made v s (Settled (stamp_by v s) false)) (unless s.to (status_rows (deal_now v s) f) (compared_with s.to f.matches (grant_receipt v.history (tid_of s.header)) (made v s (Settled (stamp_by v s) (nat_lt f.status 2))))))) [
    | true ↦ made_goes v s (Settled (stamp_by v s) false) q
    | false ↦ unless_goes s.to (status_rows (deal_now v s) f) _ q (compared_with_goes s.to f.matches (grant_receipt v.history (tid_of s.header)) _ q a (made_goes v s (Settled (stamp_by v s) (nat_lt f.status 2)) q))
  ]

  poll_goes : (v : Event) (s : Sent) (state : DealState) (d : Option Deal) → R s.to → Goes R A (poll_made v s state d)
  poll_goes v s state (Some d) r = made_goes v s (polled v s state d) r
  poll_goes v s state None r = r

  about_goes : (v : Event) (s : Sent) (body : Body) → R s.to → MayAsk A v.history (tid_of s.header) body → Goes R A (about v s body)
  about_goes v s (Enrols e) r a = unless_goes s.to (new_rows (state_now v s) ++ wish_rows (name_of v.history) s.owner e ++ key_rows v.history e ++ proof_rows (is_possessed s.owner e)) _ r (made_goes v s (enrolled v s e) r)
  about_goes v s (Confirms f) r a = unless_goes s.to (old_rows (state_now v s) ++ party_rows v.history s.header s.owner.who ++ confirm_rows (deal_certificate v.history (tid_of s.header)) v.time) _ r (settles_goes v s f r a)
  about_goes v s (Polls p) r a = unless_goes s.to (old_rows (state_now v s) ++ party_rows v.history s.header s.owner.who ++ poll_rows (state_now v s) (is_told v.history (tid_of s.header)) ++ entry_rows (deal_now v s) p) _ r (poll_goes v s (state_now v s) (deal_now v s) r)
  about_goes v s (Withdraws w) r a = unless_goes s.to (new_rows (state_now v s) ++ reason_rows (name_of v.history) w ++ revoke_rows v.history s.owner (unwrap_or w.certificate.serial 0)) _ r (made_goes v s (Revoke (stamp_by v s) (unwrap_or w.certificate.serial 0) (unwrap_or w.reason 0)) r)
  about_goes v s (Nests count) r a = r
  about_goes v s OtherBody r a = r

  pub repeated_goes : (found : Option ℕ) (next : Decision) → (found ≡ None → Goes R A next) → Goes R A (repeated found next)
  repeated_goes (Some place) next g = tt
  repeated_goes None next g = g refl

  passed_goes : (v : Event) (m : Facts) → R (bare false) → (place_of_digest v.history m.digest ≡ None → (o : Owner) → standing_now v.history v.time m ≡ Good o.who o.key o.rights → R (guarded false m o)) → MayAsk A v.history (tid_of m.header) m.body → Goes R A (passed v m)
  passed_goes v m r q a = repeated_goes (place_of_digest v.history m.digest) _ (λ new. unless_goes (bare false) (served_rows m) _ r (trusted_goes v.history v.time false m _ r (q new)
      (λ o e. about_goes v (record { to = guarded false m o; digest = m.digest; header = m.header; owner = o }) m.body (q new o e) a)))

  pub read_goes : (unreadable to : To) (m : Facts) (next : Decision) → R unreadable → R to → Goes R A next → Goes R A (read unreadable to m next)
  read_goes unreadable to m next r q g = unless_goes unreadable (form_rows m) _ r (unless_goes to (header_rows m.header) _ q g)

  -- what protects a refusal to the nested message around it
  abbrev GuardsOuter : History → ℕ → Checked → Option (Kind × List ℕ) → Type 0
  GuardsOuter h t c (Some p) = (o : Owner) → standing_for h (Some p.0) p.1 t ≡ Good o.who o.key o.rights → R (guarded true (rest_outer c p) o)
  GuardsOuter h t c None = Unit {0}

  rest_goes : (v : Event) (c : Checked) (outer : Option (Kind × List ℕ)) → R (bare true) → R (bare false) → GuardsOuter v.history v.time c outer
      → (place_of_digest v.history c.ask.digest ≡ None → (o : Owner) → standing_for v.history c.ask.kind c.ask.kid v.time ≡ Good o.who o.key o.rights → R (guarded false (rest_facts (name_of v.history) c) o))
      → MayAsk A v.history c.ask.tid (rest_body (name_of v.history) c c.job) → Goes R A (opened v (record { message = rest_message (name_of v.history) c outer; inner = rest_facts (name_of v.history) c }))
  rest_goes v c None far near p q a = subst (Goes R A) (sym (opened_plain v (record { message = rest_facts (name_of v.history) c; inner = rest_facts (name_of v.history) c }) (rest_plain (name_of v.history) c c.job))) (passed_goes v (rest_facts (name_of v.history) c) near q a)
  rest_goes v c (Some o) far near p q a = trusted_goes v.history v.time true (rest_outer c o) _ far p
      (λ u e. unless_goes (guarded true (rest_outer c o) u) (wrap_rows (rest_outer c o) u) _ (p u e)
      (read_goes (guarded true (rest_outer c o) u) (bare false) (rest_facts (name_of v.history) c) _ (p u e) near (passed_goes v (rest_facts (name_of v.history) c) near q a)))

  left_goes : (h : History) (c : Checked) (now : ℕ) (w : List ℕ) → R (bare true) → R (bare false) → GuardsOuter h (event_time h now) c c.ask.outer
      → (place_of_digest h c.ask.digest ≡ None → (o : Owner) → standing_for h c.ask.kind c.ask.kid (event_time h now) ≡ Good o.who o.key o.rights → R (guarded false (rest_facts (name_of h) c) o))
      → MayAsk A h c.ask.tid (rest_body (name_of h) c c.job) → Goes R A (left h c now w)
  left_goes h c now w far near p q a = read_goes (bare false) (bare (is_nested (rest (name_of h) c).message.body)) (rest (name_of h) c).message _ near (either (is_nested (rest (name_of h) c).message.body)) (rest_goes (record { history = h; time = event_time h now; words = w }) c c.ask.outer far near p q a)
    where
      either : (b : Bool) → R (bare b)
      either true = far
      either false = near

-- ---- senders that are good

-- a sender that is good is the credential's owner
pub good_owner : (h : History) (t : ℕ) (kind : Option Kind) (kid : List ℕ) (o u : Owner) → owner_for h kind kid ≡ Some o → standing_for h kind kid t ≡ Good u.who u.key u.rights → u ≡ o
good_owner h t kind kid o u e g = same_Some u o (sym (owner_good h t kind kid u g).0 ∙ e)

-- ---- a refusal answers nobody's secret, or the one that was carried

-- nobody's secret, or the one that this credential's owner has
abbrev pub IsCarriedAs : Checked → Option (Kind × List ℕ) → To → Type 0
IsCarriedAs c outer to = to ≡ record { outer = to.outer; guard = if is_some to.guard then (if to.outer then secret_by outer c.outer_key else Some (record { kid = c.ask.kid; key = c.key })) else None }

guard_outer : (c : Checked) (o : Kind × List ℕ) (kind : Kind) (u : Owner) → c.outer_key ≡ Some u.key → IsCarriedAs c (Some o) (record { outer = true; guard = guard_by (Some kind) o.1 u })
guard_outer c o Mac u e = rw e refl
guard_outer c o Lms u e = refl

outer_goes : (l : Letter) (c : Checked) (h : History) (t : ℕ) (outer : Option (Kind × List ℕ)) → IsInside h l.message c outer → GuardsOuter (IsCarriedAs c outer) (λ n. Unit {0}) h t c outer
outer_goes l c h t None plain = tt
outer_goes l c h t (Some o) w = λ u e.
    let key : u.key ≡ w.owner.key = ap (λ (x : Owner). x.key) (good_owner h t (Some o.0) o.1 w.owner u (outer_protected h l.message c o w).stands e) in
    guard_outer c o o.0 u (w.key ∙ ap (λ (k : List ℕ). Some k) (sym key))

guard_inner : (c : Checked) (outer : Option (Kind × List ℕ)) (kind : Option Kind) (u : Owner) → c.key ≡ u.key → IsCarriedAs c outer (record { outer = false; guard = guard_by kind c.ask.kid u })
guard_inner c outer (Some Mac) u e = rw e refl
guard_inner c outer (Some Lms) u e = refl
guard_inner c outer None u e = refl

by_owner : (m : Facts) (c : Checked) (h : History) (t : ℕ) (outer : Option (Kind × List ℕ)) → IsChecked h m c → m.header ≡ header_by c
    → (u : Owner) → standing_for h c.ask.kind c.ask.kid t ≡ Good u.who u.key u.rights → IsCarriedAs c outer (record { outer = false; guard = guard_by c.ask.kind c.ask.kid u })
by_owner m c h t outer k e u g =
    let stands : owner_for h c.ask.kind c.ask.kid ≡ Some k.owner = subst (λ (head : Header). owner_for h head.kind head.kid ≡ Some k.owner) e k.protection.stands in
    guard_inner c outer c.ask.kind u (k.key ∙ sym (ap (λ (x : Owner). x.key) (good_owner h t c.ask.kind c.ask.kid k.owner u stands g)))

inner_goes : (m : Facts) (c : Checked) (h : History) (t : ℕ) (outer : Option (Kind × List ℕ)) (job : Job) → IsForJob h m c job → m.digest ≡ c.ask.digest → m.header ≡ header_by c
    → place_of_digest h c.ask.digest ≡ None → (u : Owner) → standing_for h c.ask.kind c.ask.kid t ≡ Good u.who u.key u.rights → IsCarriedAs c outer (record { outer = false; guard = guard_by c.ask.kind c.ask.kid u })
inner_goes m c h t outer Repeat k d e new u g = absurd (none-some k.0 (sym new ∙ subst (λ (digest : List ℕ). place_of_digest h digest ≡ Some k.0) d k.1))
inner_goes m c h t outer (Enrol body wish) k d e new u g = by_owner m c h t outer k e u g
inner_goes m c h t outer (Confirm id_ok hash hash_alg_ok count status) k d e new u g = by_owner m c h t outer k e u g
inner_goes m c h t outer (Poll ids_ok) k d e new u g = by_owner m c h t outer k e u g
inner_goes m c h t outer (Withdraw serial reason) k d e new u g = by_owner m c h t outer k e u g

any_asks : (h : History) (tid : List ℕ) (body : Body) → MayAsk (λ n. Unit {0}) h tid body
any_asks h tid (Enrols e) = tt
any_asks h tid (Confirms f) = λ r e g. tt
any_asks h tid (Polls p) = tt
any_asks h tid (Withdraws w) = tt
any_asks h tid (Nests count) = tt
any_asks h tid OtherBody = tt

pub sent_to : (R : To → Type 0) (d : Decision) (fail : FailInfo) (to : To) → Goes R (λ n. Unit {0}) d → d ≡ Refuses fail to → R to
sent_to R d fail to g e = subst (λ x. Goes R (λ n. Unit {0}) x) e g

pub left_sends : (l : Letter) (c : Checked) (looked h : History) (now : ℕ) (w : List ℕ) (fail : FailInfo) (to : To) → Carries l (untold c) looked → Begins looked h → left h c now w ≡ Refuses fail to → to ≡ carried_to c to.outer (is_some to.guard)
left_sends l c looked h now w fail to carried b e =
    let k : Carries l c h = carries_later l c looked h b (carries_told l c looked carried) in
    let goes : Goes (IsCarriedAs c c.ask.outer) (λ n. Unit {0}) (left h c now w) =
    left_goes (IsCarriedAs c c.ask.outer) (λ n. Unit {0}) h c now w refl refl (outer_goes l c h (event_time h now) c.ask.outer k.inside) (inner_goes (subject_of l) c h (event_time h now) c.ask.outer c.job k.job k.digest k.header) (any_asks h c.ask.tid (rest_body (name_of h) c c.job)) in
    sent_to (IsCarriedAs c c.ask.outer) (left h c now w) fail to goes e

-- ---- what is left asks where certHash wasn't compared

stale_asks : (h : History) (c : Checked) (job : Job) → MayAsk (λ n. (c.hash_ok ≡ None) × (is_confirm_job job ≡ true) × (r : Receipted) × (grant_receipt h c.ask.tid ≡ Some r) × (r.place ≡ n)) h c.ask.tid (rest_body (name_of h) c job)
stale_asks h c Repeat = tt
stale_asks h c (Enrol body wish) = tt
stale_asks h c (Confirm id_ok hash hash_alg_ok count status) = λ r e f. (f, refl, r, e, refl)
stale_asks h c (Poll ids_ok) = tt
stale_asks h c (Withdraw serial reason) = tt

asked_at : (A : ℕ → Type 0) (d : Decision) (place : ℕ) → Goes (λ to. Unit {0}) A d → d ≡ Asks place → A place
asked_at A d place g e = subst (λ x. Goes (λ to. Unit {0}) A x) e g

any_guard : (h : History) (t : ℕ) (c : Checked) (outer : Option (Kind × List ℕ)) → GuardsOuter (λ to. Unit {0}) (λ n. Unit {0}) h t c outer
any_guard h t c None = tt
any_guard h t c (Some o) = λ u e. tt

pub left_asks : (h : History) (c : Checked) (now : ℕ) (w : List ℕ) (place : ℕ) → left h c now w ≡ Asks place → IsStale h c place
left_asks h c now w place e =
    let found = asked_at (λ n. (c.hash_ok ≡ None) × (is_confirm_job c.job ≡ true) × (r : Receipted) × (grant_receipt h c.ask.tid ≡ Some r) × (r.place ≡ n)) (left h c now w) place
    (left_goes (λ to. Unit {0}) (λ n. (c.hash_ok ≡ None) × (is_confirm_job c.job ≡ true) × (r : Receipted) × (grant_receipt h c.ask.tid ≡ Some r) × (r.place ≡ n)) h c now w tt tt (any_guard h (event_time h now) c c.ask.outer) (λ new u g. tt) (stale_asks h c c.job)) e in
    record { untold = found.0; confirms = found.1; receipt = found.2; stands = found.3; there = found.4 }

-- ---- a message whose certHash is compared never asks

compares_never : (h : History) (tid : List ℕ) (body : Body) → Compares body → MayAsk (λ n. ⊥) h tid body
compares_never h tid (Enrols e) k = tt
compares_never h tid (Confirms f) k = λ r e none. absurd (let differ : false ≡ true = ap (λ (x : Option Bool). is_some x) (sym none) ∙ k r in cc)
compares_never h tid (Polls p) k = tt
compares_never h tid (Withdraws w) k = tt
compares_never h tid (Nests count) k = tt
compares_never h tid OtherBody k = tt

compares_goes : (h : History) (l : Letter) (now : ℕ) (w : List ℕ) → Compares (subject_of l).body → Goes (λ to. Unit {0}) (λ n. ⊥) (decision h l now w)
compares_goes h l now w k = read_goes (λ to. Unit {0}) (λ n. ⊥) (bare false) (bare (is_nested l.message.body)) l.message _ tt tt
    (elim (is_nested l.message.body) as (λ b. Compares (cond b l.inner l.message).body → Goes (λ to. Unit {0}) (λ n. ⊥) (cond b (trusted h (event_time h now) true l.message inside) (passed (record { history = h; time = event_time h now; words = w }) l.message))) [
      | true ↦ λ q. trusted_goes (λ to. Unit {0}) (λ n. ⊥) h (event_time h now) true l.message inside tt (λ o e. tt) (λ o e. unless_goes (λ to. Unit {0}) (λ n. ⊥) (guarded true l.message o) (wrap_rows l.message o) _ tt
          (read_goes (λ to. Unit {0}) (λ n. ⊥) (guarded true l.message o) (bare false) l.inner _ tt tt (passed_goes (λ to. Unit {0}) (λ n. ⊥) (record { history = h; time = event_time h now; words = w }) l.inner tt (λ new u g. tt) (compares_never h (tid_of l.inner.header) l.inner.body q))))
      | false ↦ λ q. passed_goes (λ to. Unit {0}) (λ n. ⊥) (record { history = h; time = event_time h now; words = w }) l.message tt (λ new u g. tt) (compares_never h (tid_of l.message.header) l.message.body q)
    ] k)
  where
    inside : Owner → Decision
    inside o = unless (guarded true l.message o) (wrap_rows l.message o) (read (guarded true l.message o) (bare false) l.inner (passed (record { history = h; time = event_time h now; words = w }) l.inner))

pub never_asks : (h : History) (l : Letter) (now : ℕ) (w : List ℕ) (place : ℕ) → Compares (subject_of l).body → decision h l now w ≡ Asks place → ⊥
never_asks h l now w place k e = asked_at (λ n. ⊥) (decision h l now w) place (compares_goes h l now w k) e

-- ---- the clock's reading is asked only through the event's time

event_again : (now last : ℕ) → max (max now last) last ≡ max now last
event_again now last = omega arith

pub decided_later : (h : History) (l : Letter) (now : ℕ) (w : List ℕ) → decision h l (event_time h now) w ≡ decision h l now w
decided_later h l now w = ap (λ t. read (bare false) (bare (is_nested l.message.body)) l.message (opened (record { history = h; time = t; words = w }) l)) (event_again now (time_of h))

-- ---- the answer of what is left is that of the message

refined : (d e other : Decision) → (d ≡ e) ⊎ ((place : ℕ) × (d ≡ Asks place)) → d ≡ other → IsAnswer other → e ≡ other
refined d e other (inl same) is answer = sym same ∙ is
refined d e (Makes c) (inr asks) is answer = absurd (let f : Asks asks.0 ≡ Makes c = sym asks.1 ∙ is in cc)
refined d e (Repeats place) (inr asks) is answer = absurd (let f : Asks asks.0 ≡ Repeats place = sym asks.1 ∙ is in cc)
refined d e (Refuses fail to) (inr asks) is answer = absurd (let f : Asks asks.0 ≡ Refuses fail to = sym asks.1 ∙ is in cc)
refined d e (Asks place) (inr asks) is answer = elim answer [ ]

told_answers : (h : History) (l : Letter) (now : ℕ) (w : List ℕ) (told : Option Bool) (d : Decision) → decision h (as_told told l) now w ≡ d → IsAnswer d → decision h l now w ≡ d
told_answers h l now w (Some told) d e answer = e
told_answers h l now w None d e answer = refined (decision h (blind l) now w) (decision h l now w) d (blind_refines h l now w) e answer

pub left_answers : (l : Letter) (c : Checked) (looked told h : History) (now : ℕ) (w : List ℕ) (d : Decision) → Carries l (untold c) looked → Begins looked h → HashIsTold l c told → Begins told h → left h c now w ≡ d → IsAnswer d → decision h l now w ≡ d
left_answers l c looked told h now w d k b t s e answer = told_answers h l now w c.hash_ok d (decision_left l c looked told h now w k b t s ∙ e) answer

told_asks : (h : History) (l : Letter) (now : ℕ) (w : List ℕ) (told : Option Bool) (place : ℕ) → told ≡ None → decision h (as_told told l) now w ≡ Asks place → decision h (blind l) now w ≡ Asks place
told_asks h l now w None place none e = e
told_asks h l now w (Some told) place none e = absurd (none-some told (sym none))

pub left_stale : (l : Letter) (c : Checked) (looked told h : History) (now : ℕ) (w : List ℕ) (place : ℕ) → Carries l (untold c) looked → Begins looked h → HashIsTold l c told → Begins told h → left h c now w ≡ Asks place → (decision h (blind l) now w ≡ Asks place) × IsStale h c place
left_stale l c looked told h now w place k b t s e =
    let stale : IsStale h c place = left_asks h c now w place e in
    (told_asks h l now w c.hash_ok place stale.untold (decision_left l c looked told h now w k b t s ∙ e), stale)
