-- How a transaction of a legal history stands, and which of its changes the history has.
use Rattle.std.proofs.Common.{◌≡◌, ℕ, zero, suc, Bool, true, false, not, ◌||◌, cond, List, [], ◌∷◌, take, Option, Some, None, is_some, refl, sym, ap, subst, ◌∙◌, inl, inr, ◌⊎◌}
use Rattle.std.specs.Prelude.{option_and_then, find, slice_get, if◌then◌else◌}
use Rattle.std.specs.List.{list_any}
use Rattle.std.specs.Option.{option_or}
use Rattle.std.proofs.lemmas.Option.{none-some, same_Some}
use Rattle.deal_changes.specs.declared.change.Change.{Change}
use Rattle.deal_changes.specs.declared.change.Change.TheVariants.{Found, Enlist, Dismiss, Grant, Hold, Release, Deny, Turned, Polled, Settled, Revoke, Lapse}
use Rattle.deal_model.specs.declared.states.CertificateState.{CertificateState}
use Rattle.deal_model.specs.declared.states.CertificateState.TheVariants as certificates
use Rattle.deal_model.specs.declared.states.DealState.{DealState}
use Rattle.deal_model.specs.declared.states.DealState.TheVariants as deals
use Rattle.deal_model.specs.declared.states.DealState.TheVariants.{Unused, Held, Released, Denied, Closed, Other}
use Rattle.deal_model.specs.Views.{History, is_grant_for, is_hold_for, is_release_for, is_deny_for, is_revoke_for, certificate_state, open_or_closed, ungranted_state, transaction_state, after_grant}
use Rattle.deal_model.specs.Rules.{Legal, IsOpenPast, IsOpenUntil}
use Rattle.deal_model.proofs.Histories.{allowed_at}
use Rattle.deal_model.proofs.Leaves.{found_passes, none_passes}
use Rattle.deal_table.specs.History.{deal_in, deal_of}
use Rattle.deal_table.specs.Table.{is_unused, is_deal}
use Rattle.deal_table.specs.Laws.{is_change_for}
use Rattle.deal_table.proofs.Rows.{false_true}
use Rattle.deal_table.proofs.Senders.{found_place, found_is, same_is}
use Rattle.deal_table.proofs.Allowed.{grant_for_is, hold_for_is, granted_state}

-- ---- what some change of a history is

any_at : (test : Change → Bool) (h : History) → list_any test h ≡ true → (i : ℕ) × (c : Change) × (slice_get h i ≡ Some c) × (test c ≡ true)
any_at test [] e = false_true _ e
any_at test (x ∷ h) e = elim (test x) as (λ v. test x ≡ v → (v || list_any test h) ≡ true → (i : ℕ) × (c : Change) × (slice_get (x ∷ h) i ≡ Some c) × (test c ≡ true)) [
  | true ↦ λ is f. (0, x, refl, is)
  | false ↦ λ is f. let rest = any_at test h f in (suc rest.0, rest.1, rest.2, rest.3)
] refl e

any_from : (test : Change → Bool) (h : History) (i : ℕ) (c : Change) → slice_get h i ≡ Some c → test c ≡ true → list_any test h ≡ true
any_from test [] i c e is = absurd (none-some c e)
any_from test (x ∷ h) zero c e is = ap (λ v. v || list_any test h) (ap test (same_Some x c e) ∙ is)
any_from test (x ∷ h) (suc i) c e is = elim (test x) as (λ v. (v || list_any test h) ≡ true) [ true ↦ refl | false ↦ any_from test h i c e is ]

get_from : (h : History) (n i : ℕ) (c : Change) → slice_get (take n h) i ≡ Some c → slice_get h i ≡ Some c
get_from h zero i c e = absurd (none-some c e)
get_from [] (suc n) i c e = absurd (none-some c e)
get_from (x ∷ h) (suc n) zero c e = e
get_from (x ∷ h) (suc n) (suc i) c e = get_from h n i c e

any_before : (test : Change → Bool) (h : History) (n : ℕ) → list_any test (take n h) ≡ true → list_any test h ≡ true
any_before test h n e = let at = any_at test (take n h) e in any_from test h at.0 at.1 (get_from h n at.0 at.1 at.2) at.3

-- what some change is, the first such change is found by
found_any : (test : Change → Bool) (h : History) → list_any test h ≡ true → (c : Change) × (find test h ≡ Some c)
found_any test [] e = false_true _ e
found_any test (x ∷ h) e = elim (test x) as (λ v. (v || list_any test h) ≡ true → (c : Change) × (cond v (Some x) (find test h) ≡ Some c)) [
  | true ↦ λ f. (x, refl)
  | false ↦ λ f. found_any test h f
] e

none_found : (test : Change → Bool) (h : History) → list_any test h ≡ false → find test h ≡ None
none_found test [] e = refl
none_found test (x ∷ h) e = elim (test x) as (λ v. (v || list_any test h) ≡ false → cond v (Some x) (find test h) ≡ None) [
  | true ↦ λ f. false_true _ (sym f)
  | false ↦ λ f. none_found test h f
] e

-- ---- a state, and what it comes of

state_by : (denied released held revoked : Bool) → DealState
state_by denied released held revoked = if denied then Denied else (if released then Released else (if held then Held else (if revoked then Other else Unused)))

held_by : (denied released held revoked : Bool) → state_by denied released held revoked ≡ Held → held ≡ true
unfolding state_by
held_by true released held revoked e = absurd (let f : Denied ≡ Held = e in cc)
held_by false true held revoked e = absurd (let f : Released ≡ Held = e in cc)
held_by false false true revoked e = refl
held_by false false false true e = absurd (let f : Other ≡ Held = e in cc)
held_by false false false false e = absurd (let f : Unused ≡ Held = e in cc)

denied_by : (denied released held revoked : Bool) → state_by denied released held revoked ≡ Denied → denied ≡ true
unfolding state_by
denied_by true released held revoked e = refl
denied_by false true held revoked e = absurd (let f : Released ≡ Denied = e in cc)
denied_by false false true revoked e = absurd (let f : Held ≡ Denied = e in cc)
denied_by false false false true e = absurd (let f : Other ≡ Denied = e in cc)
denied_by false false false false e = absurd (let f : Unused ≡ Denied = e in cc)

-- a transaction without a Grant stands by its other changes, one with a Grant by its certificate
ungranted : (h : History) (tid : List ℕ) → find (is_grant_for tid) h ≡ None → transaction_state h tid ≡ ungranted_state h tid
unfolding transaction_state after_grant
ungranted h tid e = rw e refl

is_certified : DealState → Bool
is_certified (deals.Open serial deadline) = true
is_certified Closed = true
is_certified _ = false

certified : (serial : ℕ) (state : Option CertificateState) → is_certified (open_or_closed serial state) ≡ true
unfolding is_certified
certified serial (Some (certificates.Open deadline)) = refl
certified serial (Some certificates.Confirmed) = refl
certified serial (Some (certificates.Revoked reason)) = refl
certified serial None = refl

uncertified : (denied released held revoked : Bool) → is_certified (state_by denied released held revoked) ≡ false
unfolding is_certified state_by
uncertified true released held revoked = refl
uncertified false true held revoked = refl
uncertified false false true revoked = refl
uncertified false false false true = refl
uncertified false false false false = refl

-- a transaction has a Grant exactly where its state is its certificate's
grant_or_not : (h : History) (tid : List ℕ) → ((find (is_grant_for tid) h ≡ None) × (transaction_state h tid ≡ ungranted_state h tid)) ⊎ ((c : Change) × (find (is_grant_for tid) h ≡ Some c) × (is_certified (transaction_state h tid) ≡ true))
grant_or_not h tid = by_found (find (is_grant_for tid) h) refl
  where
    by_found : (found : Option Change) → find (is_grant_for tid) h ≡ found → ((find (is_grant_for tid) h ≡ None) × (transaction_state h tid ≡ ungranted_state h tid)) ⊎ ((c : Change) × (find (is_grant_for tid) h ≡ Some c) × (is_certified (transaction_state h tid) ≡ true))
    by_found None e = inl (e, ungranted h tid e)
    by_found (Some c) e =
        let grant = grant_for_is tid c (found_passes (is_grant_for tid) h c e) in
        let state : transaction_state h tid ≡ open_or_closed grant.3 (certificate_state h grant.3) = granted_state h tid grant.0 grant.1 grant.2 grant.3 grant.4 (e ∙ ap (λ (x : Change). Some x) grant.5) in
        inr (c, e, ap is_certified state ∙ certified grant.3 (certificate_state h grant.3))

held_has : (h : History) (tid : List ℕ) → transaction_state h tid ≡ Held → list_any (is_hold_for tid) h ≡ true
unfolding state_by is_certified
held_has h tid e = by_grant (grant_or_not h tid)
  where
    by_grant : ((find (is_grant_for tid) h ≡ None) × (transaction_state h tid ≡ ungranted_state h tid)) ⊎ ((c : Change) × (find (is_grant_for tid) h ≡ Some c) × (is_certified (transaction_state h tid) ≡ true)) → list_any (is_hold_for tid) h ≡ true
    by_grant (inl none) = held_by (list_any (is_deny_for tid) h) (list_any (is_release_for tid) h) (list_any (is_hold_for tid) h) (list_any (is_revoke_for tid) h) (sym none.1 ∙ e)
    by_grant (inr some) = false_true _ (sym (ap is_certified e) ∙ some.2)

denied_has : (h : History) (tid : List ℕ) → transaction_state h tid ≡ Denied → list_any (is_deny_for tid) h ≡ true
unfolding state_by is_certified
denied_has h tid e = by_grant (grant_or_not h tid)
  where
    by_grant : ((find (is_grant_for tid) h ≡ None) × (transaction_state h tid ≡ ungranted_state h tid)) ⊎ ((c : Change) × (find (is_grant_for tid) h ≡ Some c) × (is_certified (transaction_state h tid) ≡ true)) → list_any (is_deny_for tid) h ≡ true
    by_grant (inl none) = denied_by (list_any (is_deny_for tid) h) (list_any (is_release_for tid) h) (list_any (is_hold_for tid) h) (list_any (is_revoke_for tid) h) (sym none.1 ∙ e)
    by_grant (inr some) = false_true _ (sym (ap is_certified e) ∙ some.2)

certified_has : (h : History) (tid : List ℕ) → is_certified (transaction_state h tid) ≡ true → (c : Change) × (find (is_grant_for tid) h ≡ Some c)
unfolding state_by
certified_has h tid e = by_grant (grant_or_not h tid)
  where
    by_grant : ((find (is_grant_for tid) h ≡ None) × (transaction_state h tid ≡ ungranted_state h tid)) ⊎ ((c : Change) × (find (is_grant_for tid) h ≡ Some c) × (is_certified (transaction_state h tid) ≡ true)) → (c : Change) × (find (is_grant_for tid) h ≡ Some c)
    by_grant (inl none) = false_true _ (sym (uncertified (list_any (is_deny_for tid) h) (list_any (is_release_for tid) h) (list_any (is_hold_for tid) h) (list_any (is_revoke_for tid) h)) ∙ ap is_certified (sym none.1) ∙ e)
    by_grant (inr some) = (some.0, some.1)

open_past : (t : ℕ) (state : DealState) → IsOpenPast t state → is_certified state ≡ true
unfolding is_certified
open_past t (deals.Open serial deadline) k = refl
open_past t Unused k = elim k [ ]
open_past t Held k = elim k [ ]
open_past t Released k = elim k [ ]
open_past t Denied k = elim k [ ]
open_past t Closed k = elim k [ ]
open_past t Other k = elim k [ ]

open_until : (t : ℕ) (state : DealState) → IsOpenUntil t state → is_certified state ≡ true
unfolding is_certified
open_until t (deals.Open serial deadline) k = refl
open_until t Unused k = elim k [ ]
open_until t Held k = elim k [ ]
open_until t Released k = elim k [ ]
open_until t Denied k = elim k [ ]
open_until t Closed k = elim k [ ]
open_until t Other k = elim k [ ]

-- ---- each change of a transaction comes behind one that began it

-- the transaction has no Grant, and no change that could begin or end a wait for one
record IsUnbegun (h : History) (tid : List ℕ) : Type 0 where
  grant : find (is_grant_for tid) h ≡ None
  deny : list_any (is_deny_for tid) h ≡ false
  release : list_any (is_release_for tid) h ≡ false
  hold : list_any (is_hold_for tid) h ≡ false
  revoke : list_any (is_revoke_for tid) h ≡ false

never : (test : Change → Bool) (h : History) (i : ℕ) (c : Change) → slice_get h i ≡ Some c → test c ≡ true → list_any test h ≡ false → ⊥
never test h i c e is none = false_true _ (sym none ∙ any_from test h i c e is)

never_before : (test : Change → Bool) (h : History) (n : ℕ) → list_any test (take n h) ≡ true → list_any test h ≡ false → ⊥
never_before test h n some none = false_true _ (sym none ∙ any_before test h n some)

never_granted : (h : History) (tid : List ℕ) (n : ℕ) → is_certified (transaction_state (take n h) tid) ≡ true → find (is_grant_for tid) h ≡ None → ⊥
never_granted h tid n e none =
    let grant = certified_has (take n h) tid e in
    let place = found_place (is_grant_for tid) (take n h) grant.0 grant.1 in
    none_passes (is_grant_for tid) h place.0 grant.0 none (get_from h n place.0 grant.0 place.1) (found_is (is_grant_for tid) (take n h) grant.0 grant.1)

no_change : (h : History) (tid : List ℕ) (i : ℕ) (c : Change) → Legal h → IsUnbegun h tid → slice_get h i ≡ Some c → is_change_for tid c ≡ true → ⊥
no_change h tid i (Found s) legal u e is = false_true _ is
no_change h tid i (Enlist time list) legal u e is = false_true _ is
no_change h tid i (Dismiss time w) legal u e is = false_true _ is
no_change h tid i (Grant s b w serial leaf) legal u e is = none_passes (is_grant_for tid) h i (Grant s b w serial leaf) u.grant e is
no_change h tid i (Hold s b w) legal u e is = never (is_hold_for tid) h i (Hold s b w) e is u.hold
no_change h tid i (Release time id) legal u e is = never (is_release_for tid) h i (Release time id) e is u.release
no_change h tid i (Deny time id) legal u e is = never (is_deny_for tid) h i (Deny time id) e is u.deny
no_change h tid i (Turned s) legal u e is = never_before (is_deny_for tid) h i (denied_has (take i h) tid (subst (λ (id : List ℕ). transaction_state (take i h) id ≡ Denied) (same_is s.tid tid is) (allowed_at [] h legal.1 i (Turned s) e).holds.1.denied)) u.deny
no_change h tid i (Polled s) legal u e is = never_before (is_hold_for tid) h i (held_has (take i h) tid (subst (λ (id : List ℕ). transaction_state (take i h) id ≡ Held) (same_is s.tid tid is) (allowed_at [] h legal.1 i (Polled s) e).holds.1.held)) u.hold
no_change h tid i (Settled s accepted) legal u e is = never_granted h tid i (open_past s.time (transaction_state (take i h) tid) (subst (λ (id : List ℕ). IsOpenPast s.time (transaction_state (take i h) id)) (same_is s.tid tid is) (allowed_at [] h legal.1 i (Settled s accepted) e).holds.1.in_time)) u.grant
no_change h tid i (Revoke s n reason) legal u e is = never (is_revoke_for tid) h i (Revoke s n reason) e is u.revoke
no_change h tid i (Lapse time id) legal u e is = never_granted h tid i (open_until time (transaction_state (take i h) tid) (subst (λ (x : List ℕ). IsOpenUntil time (transaction_state (take i h) x)) (same_is id tid is) (allowed_at [] h legal.1 i (Lapse time id) e).holds)) u.grant

deny_holds : (h : History) (tid : List ℕ) → Legal h → list_any (is_deny_for tid) h ≡ true → list_any (is_hold_for tid) h ≡ true
deny_holds h tid legal e = let at = any_at (is_deny_for tid) h e in by_change at.0 at.1 at.2 at.3
  where
    by_change : (i : ℕ) (c : Change) → slice_get h i ≡ Some c → is_deny_for tid c ≡ true → list_any (is_hold_for tid) h ≡ true
    by_change i (Deny time id) e is = any_before (is_hold_for tid) h i (held_has (take i h) tid (subst (λ (x : List ℕ). transaction_state (take i h) x ≡ Held) (same_is id tid is) (allowed_at [] h legal.1 i (Deny time id) e).holds))
    by_change i _ e is = false_true _ is

release_holds : (h : History) (tid : List ℕ) → Legal h → list_any (is_release_for tid) h ≡ true → list_any (is_hold_for tid) h ≡ true
release_holds h tid legal e = let at = any_at (is_release_for tid) h e in by_change at.0 at.1 at.2 at.3
  where
    by_change : (i : ℕ) (c : Change) → slice_get h i ≡ Some c → is_release_for tid c ≡ true → list_any (is_hold_for tid) h ≡ true
    by_change i (Release time id) e is = any_before (is_hold_for tid) h i (held_has (take i h) tid (subst (λ (x : List ℕ). transaction_state (take i h) x ≡ Held) (same_is id tid is) (allowed_at [] h legal.1 i (Release time id) e).holds))
    by_change i _ e is = false_true _ is

-- ---- a request began it

deal_by : (denied released held revoked : Bool) → (denied ≡ true → held ≡ true) → (released ≡ true → held ≡ true) → is_deal (state_by denied released held revoked) ≡ held
unfolding state_by
deal_by true released held revoked a b = sym (a refl)
deal_by false true held revoked a b = sym (b refl)
deal_by false false true revoked a b = refl
deal_by false false false true a b = refl
deal_by false false false false a b = refl

certified_deal : (state : DealState) → is_certified state ≡ true → is_deal state ≡ true
unfolding is_certified
certified_deal (deals.Open serial deadline) e = refl
certified_deal Closed e = refl
certified_deal Unused e = false_true _ e
certified_deal Held e = false_true _ e
certified_deal Released e = false_true _ e
certified_deal Denied e = false_true _ e
certified_deal Other e = false_true _ e

-- where there is no Grant, the deal is there exactly where a Hold is
held_or_not : (h : History) (tid : List ℕ) (held : Bool) → list_any (is_hold_for tid) h ≡ held → is_some (option_and_then deal_in (find (is_hold_for tid) h)) ≡ held
held_or_not h tid true e =
    let found = found_any (is_hold_for tid) h e in
    let hold = hold_for_is tid found.0 (found_passes (is_hold_for tid) h found.0 found.1) in
    rw (found.1, hold.3) refl
held_or_not h tid false e = rw (none_found (is_hold_for tid) h e) refl

pub deal_has : (h : History) (tid : List ℕ) → Legal h → is_deal (transaction_state h tid) ≡ is_some (deal_of h tid)
unfolding deal_of state_by
deal_has h tid legal = by_grant (grant_or_not h tid)
  where
    by_grant : ((find (is_grant_for tid) h ≡ None) × (transaction_state h tid ≡ ungranted_state h tid)) ⊎ ((c : Change) × (find (is_grant_for tid) h ≡ Some c) × (is_certified (transaction_state h tid) ≡ true)) → is_deal (transaction_state h tid) ≡ is_some (option_and_then deal_in (option_or (find (is_grant_for tid) h) (find (is_hold_for tid) h)))
    by_grant (inl none) =
        ap is_deal none.1
        ∙ deal_by (list_any (is_deny_for tid) h) (list_any (is_release_for tid) h) (list_any (is_hold_for tid) h) (list_any (is_revoke_for tid) h) (deny_holds h tid legal) (release_holds h tid legal)
        ∙ sym (held_or_not h tid (list_any (is_hold_for tid) h) refl)
        ∙ ap (λ (found : Option Change). is_some (option_and_then deal_in (option_or found (find (is_hold_for tid) h)))) (sym none.0)
    by_grant (inr some) =
        let grant = grant_for_is tid some.0 (found_passes (is_grant_for tid) h some.0 some.1) in
        certified_deal (transaction_state h tid) some.2 ∙ sym (ap (λ (found : Option Change). is_some (option_and_then deal_in (option_or found (find (is_hold_for tid) h)))) (some.1 ∙ ap (λ (x : Change). Some x) grant.5))

-- ---- no change has it

unused_by : (denied released held revoked any : Bool) → (denied ≡ true → any ≡ true) → (released ≡ true → any ≡ true) → (held ≡ true → any ≡ true) → (revoked ≡ true → any ≡ true)
    → (denied ≡ false → released ≡ false → held ≡ false → revoked ≡ false → any ≡ false) → is_unused (state_by denied released held revoked) ≡ not any
unfolding state_by
unused_by true released held revoked any a b c d e = ap not (sym (a refl))
unused_by false true held revoked any a b c d e = ap not (sym (b refl))
unused_by false false true revoked any a b c d e = ap not (sym (c refl))
unused_by false false false true any a b c d e = ap not (sym (d refl))
unused_by false false false false any a b c d e = ap not (sym (e refl refl refl refl))

certified_used : (state : DealState) → is_certified state ≡ true → is_unused state ≡ false
unfolding is_certified
certified_used (deals.Open serial deadline) e = refl
certified_used Closed e = refl
certified_used Unused e = false_true _ e
certified_used Held e = false_true _ e
certified_used Released e = false_true _ e
certified_used Denied e = false_true _ e
certified_used Other e = false_true _ e

none_at_all : (test : Change → Bool) (h : History) → ((i : ℕ) (c : Change) → slice_get h i ≡ Some c → test c ≡ true → ⊥) → list_any test h ≡ false
none_at_all test h never_so = by_any (list_any test h) refl
  where
    by_any : (any : Bool) → list_any test h ≡ any → any ≡ false
    by_any true e = let at = any_at test h e in absurd (never_so at.0 at.1 at.2 at.3)
    by_any false e = refl

-- a change that passes one test passes another
any_other : (test other : Change → Bool) (h : History) → ((c : Change) → test c ≡ true → other c ≡ true) → list_any test h ≡ true → list_any other h ≡ true
any_other test other h then_other e = let at = any_at test h e in any_from other h at.0 at.1 at.2 (then_other at.1 at.3)

deny_change : (tid : List ℕ) (c : Change) → is_deny_for tid c ≡ true → is_change_for tid c ≡ true
deny_change tid (Deny time id) e = e
deny_change tid _ e = false_true _ e

release_change : (tid : List ℕ) (c : Change) → is_release_for tid c ≡ true → is_change_for tid c ≡ true
release_change tid (Release time id) e = e
release_change tid _ e = false_true _ e

hold_change : (tid : List ℕ) (c : Change) → is_hold_for tid c ≡ true → is_change_for tid c ≡ true
hold_change tid (Hold s b w) e = e
hold_change tid _ e = false_true _ e

revoke_change : (tid : List ℕ) (c : Change) → is_revoke_for tid c ≡ true → is_change_for tid c ≡ true
revoke_change tid (Revoke s serial reason) e = e
revoke_change tid _ e = false_true _ e

grant_change : (tid : List ℕ) (c : Change) → is_grant_for tid c ≡ true → is_change_for tid c ≡ true
grant_change tid (Grant s b w serial leaf) e = e
grant_change tid _ e = false_true _ e

pub unused_has : (h : History) (tid : List ℕ) → Legal h → is_unused (transaction_state h tid) ≡ not (list_any (is_change_for tid) h)
unfolding state_by
unused_has h tid legal = by_grant (grant_or_not h tid)
  where
    by_grant : ((find (is_grant_for tid) h ≡ None) × (transaction_state h tid ≡ ungranted_state h tid)) ⊎ ((c : Change) × (find (is_grant_for tid) h ≡ Some c) × (is_certified (transaction_state h tid) ≡ true)) → is_unused (transaction_state h tid) ≡ not (list_any (is_change_for tid) h)
    by_grant (inl none) =
        ap is_unused none.1
        ∙ unused_by (list_any (is_deny_for tid) h) (list_any (is_release_for tid) h) (list_any (is_hold_for tid) h) (list_any (is_revoke_for tid) h) (list_any (is_change_for tid) h)
        (any_other (is_deny_for tid) (is_change_for tid) h (deny_change tid)) (any_other (is_release_for tid) (is_change_for tid) h (release_change tid)) (any_other (is_hold_for tid) (is_change_for tid) h (hold_change tid)) (any_other (is_revoke_for tid) (is_change_for tid) h (revoke_change tid))
        (λ a b c d. none_at_all (is_change_for tid) h (λ i x e is. no_change h tid i x legal (record { grant = none.0; deny = a; release = b; hold = c; revoke = d }) e is))
    by_grant (inr some) =
        let place = found_place (is_grant_for tid) h some.0 some.1 in
        certified_used (transaction_state h tid) some.2 ∙ ap not (sym (any_from (is_change_for tid) h place.0 some.0 place.1 (grant_change tid some.0 (found_passes (is_grant_for tid) h some.0 some.1))))
