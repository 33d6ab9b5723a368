-- What the calls add may come next.
use Rattle.std.proofs.Common.{◌≡◌, ⊎_elim, ℕ, ◌≤◌, Bool, true, false, List, [], ◌∷◌, ◌++◌, length, Option, Some, None, refl, sym, subst, arith}
use Rattle.std.specs.List.{AllByRecursion}
use Rattle.std.specs.Prelude.{find, if◌then◌else◌}
use Rattle.std.proofs.Math.Logic.{∥∥₁_elim}
use Rattle.std.proofs.Math.Nat.{le-max_right, max-le}
use Rattle.std.proofs.Props.{props}
use Rattle.std.proofs.lemmas.Option.{same_Some}
use Rattle.deal_changes.specs.declared.change.Change.{Change}
use Rattle.deal_changes.specs.declared.change.Change.TheVariants.{Found, Enlist, Dismiss, Grant, Hold, Release, Deny, Turned, Polled, Settled, Revoke, Lapse}
use Rattle.deal_changes.specs.Spelling.{IsChange, IsTid}
use Rattle.deal_changes.specs.Times.{tid_of}
use Rattle.deal_model.specs.declared.states.DealState.{DealState}
use Rattle.deal_model.specs.declared.states.DealState.TheVariants.{Unused, Held, Released, Denied, Open, Closed, Other}
use Rattle.std.specs.List.{list_any}
use Rattle.std.proofs.lemmas.Bool.{or_cases}
use Rattle.std.proofs.lemmas.Slice.Eq.{bytes_eq-Decides}
use Rattle.cmp_ports.specs.declared.order.Order.{Order}
use Rattle.cmp_ports.specs.declared.order.Order.TheVariants as orders
use Rattle.deal_model.specs.declared.states.CertificateState.{CertificateState}
use Rattle.deal_model.specs.declared.states.CertificateState.TheVariants as certificates
use Rattle.deal_model.specs.Views.{History, time_of, transaction_state, after_grant, open_or_closed, ungranted_state, is_grant_for, is_hold_for, is_deny_for, is_release_for, is_revoke_for}
use Rattle.deal_model.specs.Rules.{Legal, IsOpenUntil}
use Rattle.desk.specs.Due.{event_time, deadline_of, deadline_in, IsDue}
use Rattle.desk.specs.declared.answers.Added.{Added}
use Rattle.desk.specs.declared.answers.Added.TheVariants.{Done, Full, DiskFault, NoMemory}
use Rattle.desk.specs.declared.answers.Lapsed.TheVariants as Lapsed
use Rattle.desk.specs.Calls.{Fits, IsAdded, IsLapsed, lapse_end, IsOrder, Awaits, IsOrdered, order_end}
use Rattle.desk.proofs.LawfulLemmas.{timely_out, forms_out, some_out, time_bound}

tid_prop : (tid : List ℕ) → IsProp (IsTid tid)
tid_prop tid = Prim.hlevel props

at_middle : {X : Type 0} (P : X → Type 0) (before : List X) (x : X) (behind : List X) → AllByRecursion P (before ++ x ∷ behind) → P x
at_middle P [] x behind h = h.0
at_middle P (y ∷ before) x behind h = at_middle P before x behind h.1

-- a change whose certificate waits is a Grant
waiting_tid : (h : History) (c : Change) (d : ℕ) (tid : List ℕ) → deadline_in h c ≡ Some d → tid_of c ≡ Some tid → IsChange c → IsTid tid
waiting_tid h (Grant s b w serial leaf) d tid e n form = subst IsTid (same_Some s.tid tid n) form.0.tid
waiting_tid h (Found s) d tid e n form = absurd (cc e)
waiting_tid h (Enlist time list) d tid e n form = absurd (cc e)
waiting_tid h (Dismiss time w) d tid e n form = absurd (cc e)
waiting_tid h (Hold s b w) d tid e n form = absurd (cc e)
waiting_tid h (Release time id) d tid e n form = absurd (cc e)
waiting_tid h (Deny time id) d tid e n form = absurd (cc e)
waiting_tid h (Turned s) d tid e n form = absurd (cc e)
waiting_tid h (Polled s) d tid e n form = absurd (cc e)
waiting_tid h (Settled s accepted) d tid e n form = absurd (cc e)
waiting_tid h (Revoke s serial reason) d tid e n form = absurd (cc e)
waiting_tid h (Lapse time id) d tid e n form = absurd (cc e)

open_until : (state : DealState) (d time : ℕ) → deadline_of state ≡ Some d → d ≤ time → IsOpenUntil time state
open_until (Open serial deadline) d time e le = subst (λ (n : ℕ). n ≤ time) (sym (same_Some deadline d e)) le
open_until Unused d time e le = absurd (cc e)
open_until Held d time e le = absurd (cc e)
open_until Released d time e le = absurd (cc e)
open_until Denied d time e le = absurd (cc e)
open_until Closed d time e le = absurd (cc e)
open_until Other d time e le = absurd (cc e)

waiting_open : (h : History) (c : Change) (d time : ℕ) (tid : List ℕ) → deadline_in h c ≡ Some d → tid_of c ≡ Some tid → d ≤ time → IsOpenUntil time (transaction_state h tid)
waiting_open h (Grant s b w serial leaf) d time tid e n le = subst (λ (t : List ℕ). IsOpenUntil time (transaction_state h t)) (same_Some s.tid tid n) (open_until (transaction_state h s.tid) d time e le)
waiting_open h (Found s) d time tid e n le = absurd (cc e)
waiting_open h (Enlist t list) d time tid e n le = absurd (cc e)
waiting_open h (Dismiss t w) d time tid e n le = absurd (cc e)
waiting_open h (Hold s b w) d time tid e n le = absurd (cc e)
waiting_open h (Release t id) d time tid e n le = absurd (cc e)
waiting_open h (Deny t id) d time tid e n le = absurd (cc e)
waiting_open h (Turned s) d time tid e n le = absurd (cc e)
waiting_open h (Polled s) d time tid e n le = absurd (cc e)
waiting_open h (Settled s accepted) d time tid e n le = absurd (cc e)
waiting_open h (Revoke s serial reason) d time tid e n le = absurd (cc e)
waiting_open h (Lapse t id) d time tid e n le = absurd (cc e)

pub event_bound : {P : Type 0} (h : History) (now : ℕ) → ∥ Legal h × P ∥₁ → now ≤ 250000000000 → event_time h now ≤ 250000000000
event_bound h now t le = max-le le (time_bound h (timely_out h t))

pub fits_lapse : {P : Type 0} (h : History) (now : ℕ) (tid : List ℕ) → ∥ Legal h × P ∥₁ → now ≤ 250000000000 → IsDue h (event_time h now) tid → Fits h (Lapse (event_time h now) tid)
fits_lapse h now tid t le due =
    let n = due.1 in
    let bound = event_bound h now t le in
    record {
      form = (omega (arith, bound), ∥∥₁_elim t (tid_prop tid) (λ l. waiting_tid h n.grant due.0 tid n.waits n.named (at_middle IsChange n.before n.grant n.behind (subst (λ (x : List Change). AllByRecursion IsChange x) n.parts (forms_out h l.0)))));
      later = le-max_right now (time_of h);
      bounded = bound;
      opening = sym (some_out h t);
      holds = waiting_open h n.grant due.0 (event_time h now) tid n.waits n.named due.2;
    }

pub lapsed_ends : (h : History) (d : Option Change) (tid : List ℕ) (time : ℕ) (end : Added) (g : History) (e : Option Change) → IsDue h time tid → IsAdded h d (Lapse time tid) end g e → IsLapsed h d time (lapse_end end (length g) tid) g e
lapsed_ends h d tid time Done g e due a = (due, a, refl)
lapsed_ends h d tid time Full g e due a = (tid, due, a)
lapsed_ends h d tid time DiskFault g e due a = (tid, due, a)
lapsed_ends h d tid time NoMemory g e due a = a

pub lapse_failed : (end : Added) (place : ℕ) (tid : List ℕ) → lapse_end end place tid ≡ Lapsed.DiskFault → end ≡ DiskFault
lapse_failed Done place tid e = absurd (cc e)
lapse_failed Full place tid e = absurd (cc e)
lapse_failed DiskFault place tid e = refl
lapse_failed NoMemory place tid e = absurd (cc e)

-- ---- orders

ungranted : (deny release hold revoke : Bool) → (if deny then Denied else (if release then Released else (if hold then Held else (if revoke then Other else Unused)))) ≡ Held → hold ≡ true
ungranted true release hold revoke e = absurd (cc e)
ungranted false true hold revoke e = absurd (cc e)
ungranted false false true revoke e = refl
ungranted false false false true e = absurd (cc e)
ungranted false false false false e = absurd (cc e)

never_held : (serial : ℕ) (state : Option CertificateState) → open_or_closed serial state ≡ Held → ⊥
never_held serial (Some (certificates.Open deadline)) e = cc e
never_held serial (Some certificates.Confirmed) e = cc e
never_held serial (Some (certificates.Revoked reason)) e = cc e
never_held serial None e = cc e

past_grant : (h : History) (found : Option Change) (otherwise : DealState) → after_grant h found otherwise ≡ Held → otherwise ≡ Held
unfolding after_grant
past_grant h None otherwise e = e
past_grant h (Some (Grant s b w serial leaf)) otherwise e = absurd (never_held serial _ e)
past_grant h (Some (Found s)) otherwise e = e
past_grant h (Some (Enlist time list)) otherwise e = e
past_grant h (Some (Dismiss time w)) otherwise e = e
past_grant h (Some (Hold s b w)) otherwise e = e
past_grant h (Some (Release time tid)) otherwise e = e
past_grant h (Some (Deny time tid)) otherwise e = e
past_grant h (Some (Turned s)) otherwise e = e
past_grant h (Some (Polled s)) otherwise e = e
past_grant h (Some (Settled s accepted)) otherwise e = e
past_grant h (Some (Revoke s serial reason)) otherwise e = e
past_grant h (Some (Lapse time tid)) otherwise e = e

held_any : (h : History) (tid : List ℕ) → transaction_state h tid ≡ Held → list_any (is_hold_for tid) h ≡ true
unfolding transaction_state
held_any h tid e = ungranted (list_any (is_deny_for tid) h) (list_any (is_release_for tid) h) (list_any (is_hold_for tid) h) (list_any (is_revoke_for tid) h) (past_grant h (find (is_grant_for tid) h) (ungranted_state h tid) e)

hold_here : (c : Change) (tid : List ℕ) → is_hold_for tid c ≡ true → IsChange c → IsTid tid
hold_here (Hold s b w) tid e form = subst IsTid ((bytes_eq-Decides s.tid tid).0 e) form.0.tid
hold_here (Grant s b w serial leaf) tid e form = absurd (cc e)
hold_here (Found s) tid e form = absurd (cc e)
hold_here (Enlist time list) tid e form = absurd (cc e)
hold_here (Dismiss time w) tid e form = absurd (cc e)
hold_here (Release time id) tid e form = absurd (cc e)
hold_here (Deny time id) tid e form = absurd (cc e)
hold_here (Turned s) tid e form = absurd (cc e)
hold_here (Polled s) tid e form = absurd (cc e)
hold_here (Settled s accepted) tid e form = absurd (cc e)
hold_here (Revoke s serial reason) tid e form = absurd (cc e)
hold_here (Lapse time id) tid e form = absurd (cc e)

hold_tid : (h : List Change) (tid : List ℕ) → list_any (is_hold_for tid) h ≡ true → AllByRecursion IsChange h → IsTid tid
hold_tid [] tid e forms = absurd (cc e)
hold_tid (c ∷ h) tid e forms = ⊎_elim (λ here. hold_here c tid here forms.0) (λ later. hold_tid h tid later forms.1) (or_cases (is_hold_for tid c) (list_any (is_hold_for tid) h) e)

held_tid : {P : Type 0} (h : History) (tid : List ℕ) → ∥ Legal h × P ∥₁ → transaction_state h tid ≡ Held → IsTid tid
held_tid h tid t held = ∥∥₁_elim t (tid_prop tid) (λ l. hold_tid h tid (held_any h tid held) (forms_out h l.0))

pub fits_order : {P : Type 0} (h : History) (now : ℕ) (order : Order) (c : Change) → ∥ Legal h × P ∥₁ → now ≤ 250000000000 → Awaits h order → IsOrder order (event_time h now) c → Fits h c
fits_order h now (orders.Release tid) c t le awaits is = let bound = event_bound h now t le in
    subst (Fits h) (same_Some (Release (event_time h now) tid) c is) (record { form = (omega (arith, bound), held_tid h tid t awaits); later = le-max_right now (time_of h); bounded = bound; opening = sym (some_out h t); holds = awaits })
fits_order h now (orders.Deny tid) c t le awaits is = let bound = event_bound h now t le in
    subst (Fits h) (same_Some (Deny (event_time h now) tid) c is) (record { form = (omega (arith, bound), held_tid h tid t awaits); later = le-max_right now (time_of h); bounded = bound; opening = sym (some_out h t); holds = awaits })
fits_order h now orders.Bad c t le awaits is = absurd awaits

pub ordered_ends : (h : History) (d : Option Change) (order : Order) (time : ℕ) (c : Change) (end : Added) (g : History) (e : Option Change) → Awaits h order → IsOrder order time c → IsAdded h d c end g e → IsOrdered h d order time (order_end end (length g)) g e
ordered_ends h d order time c Done g e awaits is a = ((awaits, (c, is, a)), refl)
ordered_ends h d order time c Full g e awaits is a = (awaits, (c, is, a))
ordered_ends h d order time c DiskFault g e awaits is a = (awaits, (c, is, a))
ordered_ends h d order time c NoMemory g e awaits is a = a
