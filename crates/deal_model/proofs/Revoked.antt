-- A certificate that is revoked stays so.
use Rattle.std.proofs.Common.{◌≡◌, ◌≢◌, ℕ, suc, ◌+◌, Bool, true, false, cond, eqb, ◌||◌, List, [], ◌∷◌, ◌++◌, length, Option, Some, None, refl, sym, ap, subst, ◌∙◌, append_assoc}
use Rattle.std.specs.List.{slice_get, find, list_any}
use Rattle.std.specs.Prelude.{option_and_then}
use Rattle.std.proofs.lemmas.Bool.{eqb-true}
use Rattle.std.proofs.lemmas.List.{append-nil, take_at}
use Rattle.std.proofs.lemmas.Option.{same_Some, none-some}
use Rattle.std.proofs.lemmas.Slice.Eq.{bytes_eq-Decides}
use Rattle.deal_changes.specs.declared.change.Stamp.{Stamp}
use Rattle.deal_changes.specs.declared.change.Wish.{Wish}
use Rattle.deal_changes.specs.declared.change.Body4.{Body4}
use Rattle.deal_changes.specs.declared.change.Change.{Change}
use Rattle.deal_changes.specs.declared.change.Change.TheVariants.{Found, Enlist, Dismiss, Grant, Hold, Release, Deny, Turned, Polled, Settled, Revoke, Lapse}
use Rattle.deal_model.specs.declared.states.Reason.{Reason}
use Rattle.deal_model.specs.declared.states.CertificateState.{CertificateState}
use Rattle.deal_model.specs.declared.states.CertificateState.TheVariants.{Open, Confirmed, Revoked}
use Rattle.deal_model.specs.Views.{History, same, settings_of, is_grant_for, is_grant_of, is_revoke_of, is_settled_for, is_lapse_for, at_first, after_lapse, after_settled, after_revoke, state_of_grant, state_by_change, certificate_state, open_or_closed, after_grant, transaction_state}
use Rattle.deal_model.specs.Rules.{Allowed, AllowedFrom, Legal, IsOpenPast}
use Rattle.deal_model.specs.Laws.{StaysRevoked}
use Rattle.deal_model.proofs.Histories.{allowed_at, from_take}
use Rattle.deal_model.proofs.Leaves.{grants, found_passes, none_passes, same_refl}

-- ---- what is found

found_place : (test : Change → Bool) (h : History) (c : Change) → find test h ≡ Some c → (i : ℕ) × (slice_get h i ≡ Some c)
found_place test [] c e = absurd (none-some c e)
found_place test (x ∷ h) c e = elim (test x) as (λ v. cond v (Some x) (find test h) ≡ Some c → (i : ℕ) × (slice_get (x ∷ h) i ≡ Some c)) [
  | true ↦ λ f. (0, f)
  | false ↦ λ f. let rest = found_place test h c f in (suc rest.0, rest.1)
] e

-- nothing new is found where the change doesn't pass
found_same : (test : Change → Bool) (h : History) (c : Change) → test c ≡ false → find test (h ++ c ∷ []) ≡ find test h
found_same test [] c fails = rw fails refl
found_same test (x ∷ h) c fails = elim (test x) as (λ v. cond v (Some x) (find test (h ++ c ∷ [])) ≡ cond v (Some x) (find test h)) [ true ↦ refl | false ↦ found_same test h c fails ]

-- what was found is found again
found_again : (test : Change → Bool) (h : History) (c x : Change) → find test h ≡ Some x → find test (h ++ c ∷ []) ≡ Some x
found_again test [] c x e = absurd (none-some x e)
found_again test (y ∷ h) c x e = elim (test y) as (λ v. cond v (Some y) (find test h) ≡ Some x → cond v (Some y) (find test (h ++ c ∷ [])) ≡ Some x) [ true ↦ λ f. f | false ↦ λ f. found_again test h c x f ] e

any_again : (test : Change → Bool) (h : History) (c : Change) → list_any test h ≡ true → list_any test (h ++ c ∷ []) ≡ true
any_again test [] c e = absurd (let f : false ≡ true = e in cc)
any_again test (y ∷ h) c e = elim (test y) as (λ v. (v || list_any test h) ≡ true → (v || list_any test (h ++ c ∷ [])) ≡ true) [ true ↦ λ f. refl | false ↦ λ f. any_again test h c f ] e

-- ---- the state by what was found

not_so : (P : Type 0) → false ≡ true → P
not_so P e = absurd cc

revoke_decides : (n : ℕ) (x : Change) (a b : CertificateState) → is_revoke_of n x ≡ true → after_revoke (Some x) a ≡ after_revoke (Some x) b
unfolding after_revoke
revoke_decides n (Revoke s serial reason) a b is = refl
revoke_decides n (Found s) a b is = not_so _ is
revoke_decides n (Enlist time list) a b is = not_so _ is
revoke_decides n (Dismiss time w) a b is = not_so _ is
revoke_decides n (Grant s c w serial leaf) a b is = not_so _ is
revoke_decides n (Hold s c w) a b is = not_so _ is
revoke_decides n (Release time id) a b is = not_so _ is
revoke_decides n (Deny time id) a b is = not_so _ is
revoke_decides n (Turned s) a b is = not_so _ is
revoke_decides n (Polled s) a b is = not_so _ is
revoke_decides n (Settled s accepted) a b is = not_so _ is
revoke_decides n (Lapse time id) a b is = not_so _ is

settled_decides : (tid : List ℕ) (x : Change) (a b : CertificateState) → is_settled_for tid x ≡ true → after_settled (Some x) a ≡ after_settled (Some x) b
unfolding after_settled
settled_decides tid (Settled s accepted) a b is = refl
settled_decides tid (Found s) a b is = not_so _ is
settled_decides tid (Enlist time list) a b is = not_so _ is
settled_decides tid (Dismiss time w) a b is = not_so _ is
settled_decides tid (Grant s c w serial leaf) a b is = not_so _ is
settled_decides tid (Hold s c w) a b is = not_so _ is
settled_decides tid (Release time id) a b is = not_so _ is
settled_decides tid (Deny time id) a b is = not_so _ is
settled_decides tid (Turned s) a b is = not_so _ is
settled_decides tid (Polled s) a b is = not_so _ is
settled_decides tid (Revoke s serial reason) a b is = not_so _ is
settled_decides tid (Lapse time id) a b is = not_so _ is

abbrev state : Option Change → Option Change → Bool → CertificateState → CertificateState
state revoke settled lapsed otherwise = after_revoke revoke (after_settled settled (after_lapse lapsed otherwise))

open_not_revoked : (h : History) (s : Stamp) (w : Wish) (reason : Reason) → at_first h s w ≡ Revoked reason → ⊥
unfolding at_first
open_not_revoked h s w reason e = elim w.implicit as (λ b. cond b Confirmed (Open (s.time + (settings_of h).wait)) ≡ Revoked reason → ⊥) [ true ↦ λ f. absurd cc | false ↦ λ f. absurd cc ] e

state_stays : (n : ℕ) (tid : List ℕ) (revoke settled : Option Change) (lapsed later : Bool) (a b : CertificateState) (reason : Reason) → ((x : Change) → revoke ≡ Some x → is_revoke_of n x ≡ true) → ((x : Change) → settled ≡ Some x → is_settled_for tid x ≡ true)
    → (lapsed ≡ true → later ≡ true) → (a ≡ Revoked reason → ⊥) → state revoke settled lapsed a ≡ Revoked reason → state revoke settled later b ≡ Revoked reason
unfolding after_revoke after_settled after_lapse
state_stays n tid (Some x) settled lapsed later a b reason revokes settles more opens e = revoke_decides n x (after_settled settled (after_lapse later b)) (after_settled settled (after_lapse lapsed a)) (revokes x refl) ∙ e
state_stays n tid None (Some x) lapsed later a b reason revokes settles more opens e = settled_decides tid x (after_lapse later b) (after_lapse lapsed a) (settles x refl) ∙ e
state_stays n tid None None true later a b reason revokes settles more opens e = rw (more refl) e
state_stays n tid None None false later a b reason revokes settles more opens e = absurd (opens e)

-- ---- the change that comes

abbrev IsRevoked : History → ℕ → Reason → Type 0
IsRevoked h serial reason = certificate_state h serial ≡ Some (Revoked reason)

not_confirmed : (h : History) (m n : ℕ) (reason : Reason) → m ≡ n → certificate_state h m ≡ Some Confirmed → IsRevoked h n reason → ⊥
not_confirmed h m n reason is confirmed revoked =
    let e : Some Confirmed ≡ Some (Revoked reason) = sym confirmed ∙ ap (certificate_state h) is ∙ revoked in
    absurd cc

no_revoke : (h : History) (c : Change) (n : ℕ) (reason : Reason) → Allowed h c → IsRevoked h n reason → is_revoke_of n c ≡ false
no_revoke h (Revoke s serial r) n reason a revoked = elim (eqb serial n) as (λ b. eqb serial n ≡ b → b ≡ false) [
  | true ↦ λ is. absurd (not_confirmed h serial n reason (eqb-true serial n is) a.holds.1.confirmed revoked)
  | false ↦ λ is. refl
] refl
no_revoke h (Found s) n reason a revoked = refl
no_revoke h (Enlist time list) n reason a revoked = refl
no_revoke h (Dismiss time w) n reason a revoked = refl
no_revoke h (Grant s b w serial leaf) n reason a revoked = refl
no_revoke h (Hold s b w) n reason a revoked = refl
no_revoke h (Release time id) n reason a revoked = refl
no_revoke h (Deny time id) n reason a revoked = refl
no_revoke h (Turned s) n reason a revoked = refl
no_revoke h (Polled s) n reason a revoked = refl
no_revoke h (Settled s accepted) n reason a revoked = refl
no_revoke h (Lapse time id) n reason a revoked = refl

same_is : (a b : List ℕ) → same a b ≡ true → a ≡ b
same_is a b e = (bytes_eq-Decides a b).0 e

grant_tid : (tid : List ℕ) (x : Change) → is_grant_for tid x ≡ true → (s : Stamp) × (b : Body4) × (w : Wish) × (serial : ℕ) × (leaf : ℕ) × (x ≡ Grant s b w serial leaf) × (s.tid ≡ tid)
grant_tid tid (Grant s b w serial leaf) is = (s, b, w, serial, leaf, refl, same_is s.tid tid is)
grant_tid tid (Found s) is = not_so _ is
grant_tid tid (Enlist time list) is = not_so _ is
grant_tid tid (Dismiss time w) is = not_so _ is
grant_tid tid (Hold s b w) is = not_so _ is
grant_tid tid (Release time id) is = not_so _ is
grant_tid tid (Deny time id) is = not_so _ is
grant_tid tid (Turned s) is = not_so _ is
grant_tid tid (Polled s) is = not_so _ is
grant_tid tid (Settled s accepted) is = not_so _ is
grant_tid tid (Revoke s serial reason) is = not_so _ is
grant_tid tid (Lapse time id) is = not_so _ is

-- the Grant of a certificate is that of its transaction
its_grant : (h : History) (n : ℕ) (s : Stamp) (b : Body4) (w : Wish) (serial leaf : ℕ) → Legal h → find (is_grant_of n) h ≡ Some (Grant s b w serial leaf) → find (is_grant_for s.tid) h ≡ Some (Grant s b w serial leaf)
its_grant h n s b w serial leaf legal e =
    let here = found_place (is_grant_of n) h (Grant s b w serial leaf) e in
    elim (find (is_grant_for s.tid) h) as (λ o. find (is_grant_for s.tid) h ≡ o → o ≡ Some (Grant s b w serial leaf)) [
      | None ↦ λ none. absurd (none_passes (is_grant_for s.tid) h here.0 (Grant s b w serial leaf) none here.1 (same_refl s.tid))
      | Some y ↦ λ some.
          let there = found_place (is_grant_for s.tid) h y some in
          let g = grant_tid s.tid y (found_passes (is_grant_for s.tid) h y some) in
          let at_y : slice_get h there.0 ≡ Some (Grant g.0 g.1 g.2 g.3 g.4) = there.1 ∙ ap (λ (v : Change). Some v) g.5 in
          let places : there.0 ≡ here.0 = grants h legal there.0 here.0 g.0 s g.1 b g.2 w g.3 serial g.4 leaf g.6 at_y here.1 in
          sym there.1 ∙ ap (slice_get h) places ∙ here.1
    ] refl

no_settle : (h : History) (c : Change) (n : ℕ) (s : Stamp) (b : Body4) (w : Wish) (leaf : ℕ) (reason : Reason) → Legal h → Allowed h c → find (is_grant_of n) h ≡ Some (Grant s b w n leaf) → IsRevoked h n reason → is_settled_for s.tid c ≡ false
unfolding transaction_state after_grant
no_settle h (Settled t accepted) n s b w leaf reason legal a e revoked = elim (same t.tid s.tid) as (λ v. same t.tid s.tid ≡ v → v ≡ false) [
  | false ↦ λ is. refl
  | true ↦ λ is.
      let tids : t.tid ≡ s.tid = same_is t.tid s.tid is in
      let closed : IsOpenPast t.time (open_or_closed n (Some (Revoked reason))) = rw (tids, its_grant h n s b w n leaf legal e, revoked) at a.holds.1.in_time in
      absurd (elim closed [ ])
] refl
no_settle h (Found t) n s b w leaf reason legal a e revoked = refl
no_settle h (Enlist time list) n s b w leaf reason legal a e revoked = refl
no_settle h (Dismiss time v) n s b w leaf reason legal a e revoked = refl
no_settle h (Grant t d v serial l) n s b w leaf reason legal a e revoked = refl
no_settle h (Hold t d v) n s b w leaf reason legal a e revoked = refl
no_settle h (Release time id) n s b w leaf reason legal a e revoked = refl
no_settle h (Deny time id) n s b w leaf reason legal a e revoked = refl
no_settle h (Turned t) n s b w leaf reason legal a e revoked = refl
no_settle h (Polled t) n s b w leaf reason legal a e revoked = refl
no_settle h (Revoke t serial r) n s b w leaf reason legal a e revoked = refl
no_settle h (Lapse time id) n s b w leaf reason legal a e revoked = refl

-- ---- one change more

-- the Grant of a certificate that has a state
granted : (n : ℕ) (x : Change) → is_grant_of n x ≡ true → (s : Stamp) × (b : Body4) × (w : Wish) × (leaf : ℕ) × (Some x ≡ Some (Grant s b w n leaf))
granted n (Grant s b w serial leaf) is = (s, b, w, leaf, ap (λ (m : ℕ). Some (Grant s b w m leaf)) (eqb-true serial n is))
granted n (Found s) is = not_so _ is
granted n (Enlist time list) is = not_so _ is
granted n (Dismiss time w) is = not_so _ is
granted n (Hold s b w) is = not_so _ is
granted n (Release time id) is = not_so _ is
granted n (Deny time id) is = not_so _ is
granted n (Turned s) is = not_so _ is
granted n (Polled s) is = not_so _ is
granted n (Settled s accepted) is = not_so _ is
granted n (Revoke s serial reason) is = not_so _ is
granted n (Lapse time id) is = not_so _ is

some_state : (n : ℕ) (h : History) (c : CertificateState) → certificate_state h n ≡ Some c → (s : Stamp) × (b : Body4) × (w : Wish) × (leaf : ℕ) × (find (is_grant_of n) h ≡ Some (Grant s b w n leaf))
unfolding certificate_state
some_state n h c e = elim (find (is_grant_of n) h) as (λ o. find (is_grant_of n) h ≡ o → option_and_then (state_by_change h) o ≡ Some c → (s : Stamp) × (b : Body4) × (w : Wish) × (leaf : ℕ) × (o ≡ Some (Grant s b w n leaf))) [
  | None ↦ λ _ f. absurd (none-some c f)
  | Some x ↦ λ some f. granted n x (found_passes (is_grant_of n) h x some)
] refl e

granted_state : (h : History) (n : ℕ) (s : Stamp) (b : Body4) (w : Wish) (leaf : ℕ) → find (is_grant_of n) h ≡ Some (Grant s b w n leaf) → certificate_state h n ≡ Some (state_of_grant h n s w)
unfolding certificate_state
granted_state h n s b w leaf e = ap (option_and_then (state_by_change h)) e

one_step : (h : History) (c : Change) (n : ℕ) (reason : Reason) → Legal h → Allowed h c → IsRevoked h n reason → IsRevoked (h ++ c ∷ []) n reason
one_step h c n reason legal a revoked =
    let g = some_state n h (Revoked reason) revoked in
    let before : Some (state_of_grant h n g.0 g.2) ≡ Some (Revoked reason) = sym (granted_state h n g.0 g.1 g.2 g.3 g.4) ∙ revoked in
    let revokes : find (is_revoke_of n) (h ++ c ∷ []) ≡ find (is_revoke_of n) h = found_same (is_revoke_of n) h c (no_revoke h c n reason a revoked) in
    let settles : find (is_settled_for g.0.tid) (h ++ c ∷ []) ≡ find (is_settled_for g.0.tid) h = found_same (is_settled_for g.0.tid) h c (no_settle h c n g.0 g.1 g.2 g.3 reason legal a g.4 revoked) in
    let later : state (find (is_revoke_of n) h) (find (is_settled_for g.0.tid) h) (list_any (is_lapse_for g.0.tid) (h ++ c ∷ [])) (at_first (h ++ c ∷ []) g.0 g.2) ≡ Revoked reason
    = state_stays n g.0.tid (find (is_revoke_of n) h) (find (is_settled_for g.0.tid) h) (list_any (is_lapse_for g.0.tid) h) (list_any (is_lapse_for g.0.tid) (h ++ c ∷ [])) (at_first h g.0 g.2) (at_first (h ++ c ∷ []) g.0 g.2) reason
    (λ x e. found_passes (is_revoke_of n) h x e) (λ x e. found_passes (is_settled_for g.0.tid) h x e) (any_again (is_lapse_for g.0.tid) h c) (open_not_revoked h g.0 g.2 reason) (same_Some (state_of_grant h n g.0 g.2) (Revoked reason) before) in
    granted_state (h ++ c ∷ []) n g.0 g.1 g.2 g.3 (found_again (is_grant_of n) h c (Grant g.0 g.1 g.2 n g.3) g.4) ∙ ap (λ (t : CertificateState). Some t) (rw (revokes, settles) later)

legal_front : (h more : History) → h ≢ [] → Legal (h ++ more) → Legal h
legal_front h more some legal = (some, subst (λ (l : List Change). AllowedFrom [] l) (take_at h more (length h) refl) (from_take [] (h ++ more) (length h) legal.1))

there : (h : List Change) (c : Change) (more : List Change) → slice_get (h ++ c ∷ more) (length h) ≡ Some c
there [] c more = refl
there (x ∷ h) c more = there h c more

allowed_next : (h : History) (c : Change) (more : History) → Legal (h ++ c ∷ more) → Allowed h c
allowed_next h c more legal = subst (λ (l : List Change). Allowed l c) (take_at h (c ∷ more) (length h) refl) (allowed_at [] (h ++ c ∷ more) legal.1 (length h) c (there h c more))

not_empty : (h : History) (n : ℕ) (reason : Reason) → IsRevoked h n reason → h ≢ []
unfolding certificate_state
not_empty [] n reason revoked e = none-some (Revoked reason) revoked
not_empty (x ∷ h) n reason revoked e = cc

pub stays_revoked : StaysRevoked
stays_revoked h [] n reason legal revoked = subst (λ (l : History). IsRevoked l n reason) (sym (append-nil h)) revoked
stays_revoked h (c ∷ more) n reason legal revoked =
    let front : Legal h = legal_front h (c ∷ more) (not_empty h n reason revoked) legal in
    let step : IsRevoked (h ++ c ∷ []) n reason = one_step h c n reason front (allowed_next h c more legal) revoked in
    let grouped : (h ++ c ∷ []) ++ more ≡ h ++ (c ∷ more) = append_assoc h (c ∷ []) more in
    subst (λ (l : History). IsRevoked l n reason) grouped (stays_revoked (h ++ c ∷ []) more n reason (subst Legal (sym grouped) legal) step)
