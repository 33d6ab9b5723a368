-- A message that was checked is decided as what is left of it.
use Rattle.std.proofs.Common.{◌≡◌, ℕ, true, false, not, cond, List, Option, Some, None, refl, sym, ap, subst, ◌∙◌}
use Rattle.deal_changes.specs.declared.change.Kind.{Kind}
use Rattle.deal_model.specs.declared.asking.Job.{Job}
use Rattle.deal_model.specs.declared.asking.Job.TheVariants.{Repeat, Enrol, Confirm, Poll, Withdraw}
use Rattle.deal_model.specs.declared.asking.Checked.{Checked}
use Rattle.deal_model.specs.declared.states.Owner.{Owner}
use Rattle.deal_model.specs.Views.{History, is_barred}
use Rattle.cmp_values.specs.declared.fail_info.FailInfo.TheVariants.{BadRequest, BadTime, NotAuthorized}
use Rattle.deal_table.specs.History.{name_of, skew_of, place_of_digest, event_time, owner_for}
use Rattle.deal_table.specs.Message.{Body, is_nested, Header, Facts, Letter, subject_of}
use Rattle.deal_table.specs.Table.{To, Decision, Refuses, Repeats, Event, unless, pass, bare, guard_by, guarded, is_apart, form_rows, header_rows, is_served, time_rows, trusted, about, repeated, passed, nested_count, wrap_rows, may_wrap, read, opened, decision}
use Rattle.deal_table.specs.Carry.{header_by, rest_body, rest_facts, rest_outer, rest_message, rest, left, IsReadable, IsProtected, IsChecked, IsForJob, IsWrapped, IsInside, Carries}
use Rattle.deal_table.proofs.Rows.{unless_passed}
use Rattle.deal_table.proofs.Trust.{trusted_at}
use Rattle.deal_table.proofs.Jobs.{Tells, job_served, about_same}

-- ---- a message whose form was checked

pub read_passed : (unreadable to : To) (m : Facts) (next : Decision) → IsReadable m → read unreadable to m next ≡ next
read_passed unreadable to m next r = unless_passed unreadable (form_rows m) (unless to (header_rows m.header) next) r.form ∙ unless_passed to (header_rows m.header) next r.header

-- ---- a message that is about something

-- what becomes of a message from a known sender that isn't repeated, by its digest, header and body
by_header : (v : Event) (o : Owner) → List ℕ → Header → Body → Decision
by_header v o digest head body = cond (is_barred v.history v.time o.who) (Refuses NotAuthorized (bare false))
    (cond (is_apart (skew_of v.history) v.time head.time) (Refuses BadTime (record { outer = false; guard = guard_by head.kind head.kid o }))
    (about v (record { to = record { outer = false; guard = guard_by head.kind head.kid o }; digest = digest; header = head; owner = o }) body))

about_by : (v : Event) (m : Facts) (o : Owner) → IsProtected v.history m o → is_served m.body ≡ true → passed v m ≡ repeated (place_of_digest v.history m.digest) (by_header v o m.digest m.header m.body)
unfolding by_header
about_by v m o p served = ap (repeated (place_of_digest v.history m.digest))
    (ap (λ b. cond (not b) (Refuses BadRequest (bare false)) (trusted v.history v.time false m (λ q. about v (record { to = guarded false m q; digest = m.digest; header = m.header; owner = q }) m.body))) served
    ∙ trusted_at v.history v.time false m o (λ q. about v (record { to = guarded false m q; digest = m.digest; header = m.header; owner = q }) m.body) p)

rest_protected : (h : History) (m : Facts) (c : Checked) (o : Owner) → IsProtected h m o → m.header ≡ header_by c → IsProtected h (rest_facts (name_of h) c) o
rest_protected h m c o p e = record { stands = subst (λ (head : Header). owner_for h head.kind head.kid ≡ Some o) e p.stands; protected = refl; verified = refl }

checked_passed : (v : Event) (m : Facts) (c : Checked) → IsChecked v.history m c → m.digest ≡ c.ask.digest → m.header ≡ header_by c → Tells v.history c.ask.tid c.hash_ok m.body → passed v m ≡ passed v (rest_facts (name_of v.history) c)
unfolding by_header
checked_passed v m c k d e told =
    let o : Owner = k.owner in
    let name : List ℕ = name_of v.history in
    let served = job_served name o c m.body c.job k.job in
    about_by v m o k.protection served.0
    ∙ ap (λ (digest : List ℕ). repeated (place_of_digest v.history digest) (by_header v o digest m.header m.body)) d
    ∙ ap (λ (head : Header). repeated (place_of_digest v.history c.ask.digest) (by_header v o c.ask.digest head m.body)) e
    ∙ ap (λ x. repeated (place_of_digest v.history c.ask.digest) (cond (is_barred v.history v.time o.who) (Refuses NotAuthorized (bare false)) (cond (is_apart (skew_of v.history) v.time c.message_time) (Refuses BadTime (record { outer = false; guard = guard_by c.ask.kind c.ask.kid o })) x)))
    (about_same v (record { to = record { outer = false; guard = guard_by c.ask.kind c.ask.kid o }; digest = c.ask.digest; header = header_by c; owner = o }) c m.body c.job k.job told)
    ∙ sym (about_by v (rest_facts name c) o (rest_protected v.history m c o k.protection e) served.1)

repeated_passed : (v : Event) (m : Facts) (place : ℕ) → place_of_digest v.history m.digest ≡ Some place → passed v m ≡ Repeats place
repeated_passed v m place e = rw e refl

passed_same : (v : Event) (m : Facts) (c : Checked) (job : Job) → IsForJob v.history m c job → m.digest ≡ c.ask.digest → m.header ≡ header_by c → Tells v.history c.ask.tid c.hash_ok m.body → passed v m ≡ passed v (rest_facts (name_of v.history) c)
passed_same v m c Repeat k d e told = repeated_passed v m k.0 k.1 ∙ sym (repeated_passed v (rest_facts (name_of v.history) c) k.0 (subst (λ (digest : List ℕ). place_of_digest v.history digest ≡ Some k.0) d k.1))
passed_same v m c (Enrol body wish) k d e told = checked_passed v m c k d e told
passed_same v m c (Confirm id_ok hash hash_alg_ok count status) k d e told = checked_passed v m c k d e told
passed_same v m c (Poll ids_ok) k d e told = checked_passed v m c k d e told
passed_same v m c (Withdraw serial reason) k d e told = checked_passed v m c k d e told

-- ---- the nested message around it

by_outer : (v : Event) (o : Owner) → Option Kind → List ℕ → Option ℕ → ℕ → Decision → Decision
by_outer v o kind kid time count next = cond (is_barred v.history v.time o.who) (Refuses NotAuthorized (bare true))
    (cond (is_apart (skew_of v.history) v.time time) (Refuses BadTime (record { outer = true; guard = guard_by kind kid o }))
    (cond (not (may_wrap o)) (Refuses NotAuthorized (record { outer = true; guard = guard_by kind kid o }))
    (cond (not (Rattle.std.specs.Prelude.nat_eq count 1)) (Refuses BadRequest (record { outer = true; guard = guard_by kind kid o })) next)))

opened_by : (v : Event) (l : Letter) (o : Owner) → IsProtected v.history l.message o → IsReadable l.inner → is_nested l.message.body ≡ true → opened v l ≡ by_outer v o l.message.header.kind l.message.header.kid l.message.header.time (nested_count l.message.body) (passed v l.inner)
unfolding by_outer
opened_by v l o p r n =
    let inside : Owner → Decision = λ q. unless (guarded true l.message q) (wrap_rows l.message q) (read (guarded true l.message q) (bare false) l.inner (passed v l.inner)) in
    ap (λ b. cond b (trusted v.history v.time true l.message inside) (passed v l.message)) n
    ∙ trusted_at v.history v.time true l.message o inside p
    ∙ ap (λ d. cond (is_barred v.history v.time o.who) (Refuses NotAuthorized (bare true)) (unless (guarded true l.message o) (time_rows l.message (skew_of v.history) v.time) (unless (guarded true l.message o) (wrap_rows l.message o) d)))
    (read_passed (guarded true l.message o) (bare false) l.inner (passed v l.inner) r)

outer_same : (v : Event) (o : Owner) (kind kind2 : Option Kind) (kid kid2 : List ℕ) (time time2 : Option ℕ) (count count2 : ℕ) (next next2 : Decision) → kind ≡ kind2 → kid ≡ kid2 → time ≡ time2 → count ≡ count2 → next ≡ next2 → by_outer v o kind kid time count next ≡ by_outer v o kind2 kid2 time2 count2 next2
outer_same v o kind kind2 kid kid2 time time2 count count2 next next2 a b c d e = cc

pub outer_protected : (h : History) (m : Facts) (c : Checked) (o : Kind × List ℕ) (w : IsWrapped h m c o) → IsProtected h (rest_outer c o) w.owner
outer_protected h m c o w =
    let by_kind : owner_for h (Some o.0) m.header.kid ≡ Some w.owner = subst (λ (kind : Option Kind). owner_for h kind m.header.kid ≡ Some w.owner) w.kind w.protection.stands in
    record { stands = subst (λ (kid : List ℕ). owner_for h (Some o.0) kid ≡ Some w.owner) w.kid by_kind; protected = refl; verified = refl }

-- ---- the whole message

pub opened_plain : (v : Event) (l : Letter) → is_nested l.message.body ≡ false → opened v l ≡ passed v l.message
opened_plain v l plain = rw plain refl

pub rest_plain : (name : List ℕ) (c : Checked) (job : Job) → is_nested (rest_body name c job) ≡ false
rest_plain name c Repeat = refl
rest_plain name c (Enrol body wish) = refl
rest_plain name c (Confirm id_ok hash hash_alg_ok count status) = refl
rest_plain name c (Poll ids_ok) = refl
rest_plain name c (Withdraw serial reason) = refl

rest_readable : (l : Letter) (c : Checked) (h : History) → Carries l c h → IsReadable (rest_facts (name_of h) c)
rest_readable l c h k = record { form = refl; header = subst (λ (head : Header). pass (header_rows head) ≡ true) k.header k.readable.header }

message_readable : (name : List ℕ) (c : Checked) (outer : Option (Kind × List ℕ)) → IsReadable (rest_facts name c) → IsReadable (rest_message name c outer)
message_readable name c (Some o) r = record { form = refl; header = refl }
message_readable name c None r = r

opened_same : (v : Event) (l : Letter) (c : Checked) (outer : Option (Kind × List ℕ)) → Carries l c v.history → IsInside v.history l.message c outer → Tells v.history c.ask.tid c.hash_ok (subject_of l).body
    → opened v l ≡ opened v (record { message = rest_message (name_of v.history) c outer; inner = rest_facts (name_of v.history) c })
opened_same v l c None k plain told =
    let name : List ℕ = name_of v.history in
    let at : (P : Facts → Type 0) → P (subject_of l) → P l.message = λ P p. subst (λ b. P (cond b l.inner l.message)) plain p in
    opened_plain v l plain
    ∙ passed_same v l.message c c.job (at (λ m. IsForJob v.history m c c.job) k.job) (at (λ m. m.digest ≡ c.ask.digest) k.digest) (at (λ m. m.header ≡ header_by c) k.header) (at (λ m. Tells v.history c.ask.tid c.hash_ok m.body) told)
    ∙ sym (opened_plain v (record { message = rest_facts name c; inner = rest_facts name c }) (rest_plain name c c.job))
opened_same v l c (Some o) k wrapped told =
    let name : List ℕ = name_of v.history in
    let nested : is_nested l.message.body ≡ true = ap is_nested wrapped.body in
    let at : (P : Facts → Type 0) → P (subject_of l) → P l.inner = λ P p. subst (λ b. P (cond b l.inner l.message)) nested p in
    let same : passed v l.inner ≡ passed v (rest_facts name c) =
    passed_same v l.inner c c.job (at (λ m. IsForJob v.history m c c.job) k.job) (at (λ m. m.digest ≡ c.ask.digest) k.digest) (at (λ m. m.header ≡ header_by c) k.header) (at (λ m. Tells v.history c.ask.tid c.hash_ok m.body) told) in
    opened_by v l wrapped.owner wrapped.protection (at IsReadable k.readable) nested
    ∙ outer_same v wrapped.owner _ _ _ _ _ _ _ _ _ _ wrapped.kind wrapped.kid wrapped.time (ap nested_count wrapped.body) same
    ∙ sym (opened_by v (record { message = rest_outer c o; inner = rest_facts name c }) wrapped.owner (outer_protected v.history l.message c o wrapped) (rest_readable l c v.history k) refl)

pub left_told : (l : Letter) (c : Checked) (h : History) (now : ℕ) (w : List ℕ) → Carries l c h → Tells h c.ask.tid c.hash_ok (subject_of l).body → decision h l now w ≡ left h c now w
left_told l c h now w k told =
    let v : Event = record { history = h; time = event_time h now; words = w } in
    read_passed (bare false) (bare (is_nested l.message.body)) l.message (opened v l) k.outside
    ∙ opened_same v l c c.ask.outer k k.inside told
    ∙ sym (read_passed (bare false) (bare (is_nested (rest (name_of h) c).message.body)) (rest (name_of h) c).message (opened v (rest (name_of h) c)) (message_readable (name_of h) c c.ask.outer (rest_readable l c h k)))
