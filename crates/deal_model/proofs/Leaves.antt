-- Leaves, serial numbers and Grants of legal histories.
use Rattle.std.proofs.Common.{◌≡◌, ℕ, zero, suc, ◌+◌, ◌<◌, ◌≤◌, Bool, true, false, cond, List, [], ◌∷◌, ◌++◌, take, Option, Some, None, refl, sym, ap, subst, ◌∙◌, arith, inl, inr, ◌⊎◌}
use Rattle.std.specs.List.{slice_get, find, count_by, sum_by}
use Rattle.std.specs.Str.{bytes_eq}
use Rattle.std.proofs.lemmas.Bool.{cases_lt}
use Rattle.std.proofs.lemmas.Option.{same_Some, none-some}
use Rattle.std.proofs.lemmas.List.Sums.{sum_by-append, sum_by_push}
use Rattle.std.proofs.lemmas.Slice.Eq.{bytes_eq-Decides}
use Rattle.deal_changes.specs.declared.change.Kind.TheVariants.{Mac, Lms}
use Rattle.deal_changes.specs.declared.change.Who.{Who}
use Rattle.deal_changes.specs.declared.change.Who.TheVariants.{Listed, Cert}
use Rattle.deal_changes.specs.declared.change.Body4.{Body4}
use Rattle.deal_changes.specs.declared.change.Stamp.{Stamp}
use Rattle.deal_changes.specs.declared.change.Wish.{Wish}
use Rattle.deal_changes.specs.declared.change.Change.{Change}
use Rattle.deal_changes.specs.declared.change.Change.TheVariants.{Found, Enlist, Dismiss, Grant, Hold, Release, Deny, Turned, Polled, Settled, Revoke, Lapse}
use Rattle.deal_model.specs.declared.states.Key.{Key}
use Rattle.deal_model.specs.declared.states.Key.TheVariants.{Issue, Reply}
use Rattle.deal_model.specs.declared.states.CertificateState.{CertificateState}
use Rattle.deal_model.specs.declared.states.CertificateState.TheVariants as certificates
use Rattle.deal_model.specs.declared.states.DealState.{DealState}
use Rattle.deal_model.specs.Views.{History, same, is_empty, is_grant, is_grant_for, has_leaf, leaves_used, taken_leaves, reply_leaves, HasLeaf, TakesLeaf, certificate_state, open_or_closed, after_grant, ungranted_state, transaction_state}
use Rattle.deal_model.specs.Rules.{Allowed, Legal, GrantComes, reply_leaf}
use Rattle.deal_model.specs.Laws.{EachLeafOnce, SerialsDiffer, OneGrantEach}
use Rattle.deal_model.proofs.Histories.{allowed_at, cut_behind}

-- ---- how many leaves are used

replies_push : (h : History) (c : Change) → leaves_used (h ++ c ∷ []) Reply ≡ leaves_used h Reply + cond (has_leaf c) 1 0
unfolding leaves_used
replies_push [] c = sum_by_push (λ x. cond (has_leaf x) 1 0) [] c
replies_push (x ∷ h) c = sum_by_push (λ x. cond (has_leaf x) 1 0) (x ∷ h) c

issues_push : (h : History) (c : Change) → is_empty h ≡ false → leaves_used (h ++ c ∷ []) Issue ≡ leaves_used h Issue + cond (is_grant c) 1 0
unfolding leaves_used
issues_push [] c some = absurd (let e : true ≡ false = some in cc)
issues_push (x ∷ h) c some = omega (arith, sum_by_push (λ x. cond (is_grant x) 1 0) (x ∷ h) c)

pub used_grows : (h more : History) (key : Key) → leaves_used h key ≤ leaves_used (h ++ more) key
unfolding leaves_used
used_grows [] more Issue = omega arith
used_grows (x ∷ h) more Issue = omega (arith, sum_by-append (λ x. cond (is_grant x) 1 0) (x ∷ h) more)
used_grows [] more Reply = omega (arith, sum_by-append (λ x. cond (has_leaf x) 1 0) [] more)
used_grows (x ∷ h) more Reply = omega (arith, sum_by-append (λ x. cond (has_leaf x) 1 0) (x ∷ h) more)

-- ---- the leaves of an allowed change are the next ones

abbrev pub Between : History → Change → Key → ℕ → Type 0
Between h c key leaf = (leaves_used h key ≤ leaf) × (leaf < leaves_used (h ++ c ∷ []) key)

next_reply : (h : History) (w : Who) (l : ℕ) → reply_leaf h w ≡ Some l → l ≡ leaves_used h Reply
next_reply h (Listed Mac id) l e = absurd (none-some l e)
next_reply h (Listed Lms id) l e = sym (same_Some (leaves_used h Reply) l e)
next_reply h (Cert serial) l e = sym (same_Some (leaves_used h Reply) l e)

reply_between_at : (h : History) (c : Change) (w : Who) (o : Option ℕ) → o ≡ reply_leaf h w → (has_leaf c ≡ true ⊎ (o ≡ None)) → (key : Key) (l : ℕ) → HasLeaf (reply_leaves o) key l → Between h c key l
reply_between_at h c w None next leaf key l has = elim has [ ]
reply_between_at h c w (Some n) next (inr none) key l has = absurd (none-some n (sym none))
reply_between_at h c w (Some n) next (inl signed) key l (inr nothing) = elim nothing [ ]
reply_between_at h c w (Some n) next (inl signed) key l (inl is) =
    let used : n ≡ leaves_used h Reply = next_reply h w n (sym next) in
    let more : leaves_used (h ++ c ∷ []) Reply ≡ leaves_used h Reply + 1 = replies_push h c ∙ ap (λ (b : Bool). leaves_used h Reply + cond b 1 0) signed in
    subst (λ (k : Key). Between h c k l) is.0 (subst (λ (m : ℕ). Between h c Reply m) is.1 (omega arith, omega arith))

signed_or_not : (o : Option ℕ) → (Rattle.std.specs.Option.is_some o ≡ true) ⊎ (o ≡ None)
signed_or_not (Some n) = inl refl
signed_or_not None = inr refl

grant_between : (h : History) (s : Stamp) (b : Body4) (w : Wish) (serial leaf : ℕ) → is_empty h ≡ false → leaf ≡ leaves_used h Issue → s.leaf ≡ reply_leaf h s.who → (key : Key) (l : ℕ) → HasLeaf (taken_leaves (Grant s b w serial leaf)) key l → Between h (Grant s b w serial leaf) key l
grant_between h s b w serial leaf some next reply key l (inl is) =
    let more : leaves_used (h ++ Grant s b w serial leaf ∷ []) Issue ≡ leaves_used h Issue + 1 = issues_push h (Grant s b w serial leaf) some in
    subst (λ (k : Key). Between h (Grant s b w serial leaf) k l) is.0 (subst (λ (m : ℕ). Between h (Grant s b w serial leaf) Issue m) is.1 (omega arith, omega arith))
grant_between h s b w serial leaf some next reply key l (inr has) = reply_between_at h (Grant s b w serial leaf) s.who s.leaf reply (signed_or_not s.leaf) key l has

found_between : (h : History) (c : Change) → h ≡ [] → is_grant c ≡ false → (key : Key) (l : ℕ) → HasLeaf ((Issue, 0) ∷ (Issue, 1) ∷ []) key l → Between h c key l
unfolding leaves_used
found_between h c none other key l (inl is) = subst (λ (g : History). Between g c key l) (sym none) (subst (λ (k : Key). Between [] c k l) is.0 (subst (λ (m : ℕ). Between [] c Issue m) is.1 (omega arith, omega arith)))
found_between h c none other key l (inr (inl is)) = subst (λ (g : History). Between g c key l) (sym none) (subst (λ (k : Key). Between [] c k l) is.0 (subst (λ (m : ℕ). Between [] c Issue m) is.1 (omega arith, omega arith)))
found_between h c none other key l (inr (inr nothing)) = elim nothing [ ]

no_changes : (h : History) → true ≡ is_empty h → h ≡ []
no_changes [] e = refl
no_changes (x ∷ h) e = absurd (let f : true ≡ false = e in cc)

pub between : (h : History) (c : Change) → Allowed h c → (key : Key) (l : ℕ) → TakesLeaf c key l → Between h c key l
between h (Found s) a key l has = found_between h (Found s) (no_changes h a.opening) refl key l has
between h (Enlist time list) a key l has = elim has [ ]
between h (Dismiss time w) a key l has = elim has [ ]
between h (Grant s b w serial leaf) a key l has = grant_between h s b w serial leaf (sym a.opening) a.holds.1.next a.holds.0.leaf key l has
between h (Hold s b w) a key l has = reply_between_at h (Hold s b w) s.who s.leaf a.holds.0.leaf (signed_or_not s.leaf) key l has
between h (Release time tid) a key l has = elim has [ ]
between h (Deny time tid) a key l has = elim has [ ]
between h (Turned s) a key l has = reply_between_at h (Turned s) s.who s.leaf a.holds.0.leaf (signed_or_not s.leaf) key l has
between h (Polled s) a key l has = reply_between_at h (Polled s) s.who s.leaf a.holds.0.leaf (signed_or_not s.leaf) key l has
between h (Settled s accepted) a key l has = reply_between_at h (Settled s accepted) s.who s.leaf a.holds.0.leaf (signed_or_not s.leaf) key l has
between h (Revoke s serial reason) a key l has = reply_between_at h (Revoke s serial reason) s.who s.leaf a.holds.0.leaf (signed_or_not s.leaf) key l has
between h (Lapse time tid) a key l has = elim has [ ]

-- ---- each leaf once

apart : (h : History) (p q : ℕ) (c d : Change) (key : Key) (l : ℕ) → Legal h → p < q → slice_get h p ≡ Some c → slice_get h q ≡ Some d → TakesLeaf c key l → TakesLeaf d key l → ⊥
apart h p q c d key l legal lt e f cs ds =
    let first : Between (take p h) c key l = between (take p h) c (allowed_at [] h legal.1 p c e) key l cs in
    let second : Between (take q h) d key l = between (take q h) d (allowed_at [] h legal.1 q d f) key l ds in
    let cut = cut_behind h p q c lt e in
    let grows : leaves_used (take p h ++ c ∷ []) key ≤ leaves_used ((take p h ++ c ∷ []) ++ cut.0) key = used_grows (take p h ++ c ∷ []) cut.0 key in
    let there : leaves_used (take q h) key ≡ leaves_used ((take p h ++ c ∷ []) ++ cut.0) key = ap (λ (g : History). leaves_used g key) cut.1 in
    omega arith

abbrev Order : ℕ → ℕ → Type 0
Order p q = (p < q) ⊎ ((q < p) ⊎ (p ≡ q))

order : (p q : ℕ) → Order p q
order p q = elim (cases_lt p q) as (λ _. Order p q) [
  | inl lt ↦ inl lt
  | inr le ↦ elim (cases_lt q p) as (λ _. Order p q) [ inl lt ↦ inr (inl lt) | inr ge ↦ inr (inr (omega arith)) ]
]

same_place : (p q : ℕ) → (p < q → ⊥) → (q < p → ⊥) → p ≡ q
same_place p q not_before not_behind = elim (order p q) as (λ _. p ≡ q) [
  | inl lt ↦ absurd (not_before lt)
  | inr (inl lt) ↦ absurd (not_behind lt)
  | inr (inr is) ↦ is
]

pub once : (h : History) → Legal h → EachLeafOnce h
once h legal p q c d key l e f cs ds = same_place p q (λ lt. apart h p q c d key l legal lt e f cs ds) (λ lt. apart h q p d c key l legal lt f e ds cs)

-- ---- serial numbers

pub serials : (h : History) → Legal h → SerialsDiffer h
serials h legal p q s t a b v w serial k l e f =
    let one = allowed_at [] h legal.1 p (Grant s a v serial k) e in
    let two = allowed_at [] h legal.1 q (Grant t b w serial l) f in
    let numbered : serial ≡ k + 1 = one.holds.1.numbered in
    let too : serial ≡ l + 1 = two.holds.1.numbered in
    let leaf : l ≡ k = omega arith in
    once h legal p q (Grant s a v serial k) (Grant t b w serial l) Issue k e f (inl (refl, refl)) (inl (refl, leaf))

-- ---- Grants

pub same_refl : (a : List ℕ) → same a a ≡ true
same_refl a = (bytes_eq-Decides a a).1 refl

-- what is found passes the test, and something is found where something passes
pub found_passes : (test : Change → Bool) (h : History) (c : Change) → find test h ≡ Some c → test c ≡ true
found_passes test [] c e = absurd (none-some c e)
found_passes test (x ∷ h) c e = elim (test x) as (λ v. test x ≡ v → cond v (Some x) (find test h) ≡ Some c → test c ≡ true) [
  | true ↦ λ is f. ap test (sym (same_Some x c f)) ∙ is
  | false ↦ λ is f. found_passes test h c f
] refl e

pub none_passes : (test : Change → Bool) (h : History) (p : ℕ) (c : Change) → find test h ≡ None → slice_get h p ≡ Some c → test c ≡ true → ⊥
none_passes test [] p c none e is = none-some c e
none_passes test (x ∷ h) zero c none e is =
    let here : test x ≡ true = ap test (same_Some x c e) ∙ is in
    none-some x (sym (subst (λ (b : Bool). cond b (Some x) (find test h) ≡ None) here none))
none_passes test (x ∷ h) (suc p) c none e is = elim (test x) as (λ v. test x ≡ v → cond v (Some x) (find test h) ≡ None → ⊥) [
  | true ↦ λ _ f. none-some x (sym f)
  | false ↦ λ _ f. none_passes test h p c f e is
] refl none

closed_grant : (serial : ℕ) (o : Option CertificateState) (taken : Bool) (rights : Option ℕ) (held : Bool) → GrantComes (open_or_closed serial o) taken rights held → ⊥
closed_grant serial (Some (certificates.Open deadline)) taken rights held g = elim g [ ]
closed_grant serial (Some certificates.Confirmed) taken rights held g = elim g [ ]
closed_grant serial (Some (certificates.Revoked reason)) taken rights held g = elim g [ ]
closed_grant serial None taken rights held g = elim g [ ]

no_grant : (tid : List ℕ) (P : Type 0) → false ≡ true → P
no_grant tid P e = absurd cc

-- no Grant comes where one was found
ungranted : (h : History) (tid : List ℕ) (x : Change) (otherwise : DealState) (taken : Bool) (rights : Option ℕ) (held : Bool) → is_grant_for tid x ≡ true → GrantComes (after_grant h (Some x) otherwise) taken rights held → ⊥
unfolding after_grant
ungranted h tid (Grant s b w serial leaf) otherwise taken rights held is g = closed_grant serial (certificate_state h serial) taken rights held g
ungranted h tid (Found s) otherwise taken rights held is g = no_grant tid _ is
ungranted h tid (Enlist time list) otherwise taken rights held is g = no_grant tid _ is
ungranted h tid (Dismiss time w) otherwise taken rights held is g = no_grant tid _ is
ungranted h tid (Hold s b w) otherwise taken rights held is g = no_grant tid _ is
ungranted h tid (Release time id) otherwise taken rights held is g = no_grant tid _ is
ungranted h tid (Deny time id) otherwise taken rights held is g = no_grant tid _ is
ungranted h tid (Turned s) otherwise taken rights held is g = no_grant tid _ is
ungranted h tid (Polled s) otherwise taken rights held is g = no_grant tid _ is
ungranted h tid (Settled s accepted) otherwise taken rights held is g = no_grant tid _ is
ungranted h tid (Revoke s serial reason) otherwise taken rights held is g = no_grant tid _ is
ungranted h tid (Lapse time id) otherwise taken rights held is g = no_grant tid _ is

granted_before : (h : History) (tid : List ℕ) (p : ℕ) (c : Change) (taken : Bool) (rights : Option ℕ) (held : Bool) → slice_get h p ≡ Some c → is_grant_for tid c ≡ true → GrantComes (transaction_state h tid) taken rights held → ⊥
unfolding transaction_state
granted_before h tid p c taken rights held e is g =
    elim (find (is_grant_for tid) h) as (λ o. find (is_grant_for tid) h ≡ o → GrantComes (after_grant h o (ungranted_state h tid)) taken rights held → ⊥) [
      | None ↦ λ none _. none_passes (is_grant_for tid) h p c none e is
      | Some x ↦ λ some comes. ungranted h tid x (ungranted_state h tid) taken rights held (found_passes (is_grant_for tid) h x some) comes
    ] refl g

place_kept : (h : List Change) (p q : ℕ) (c : Change) → p < q → slice_get h p ≡ Some c → slice_get (take q h) p ≡ Some c
place_kept h p zero c lt e = absurd (omega arith)
place_kept [] p (suc q) c lt e = absurd (none-some c e)
place_kept (x ∷ xs) zero (suc q) c lt e = e
place_kept (x ∷ xs) (suc p) (suc q) c lt e = place_kept xs p q c (omega arith) e

grants_apart : (h : History) (p q : ℕ) (s t : Stamp) (a b : Body4) (v w : Wish) (m n k l : ℕ) → Legal h → s.tid ≡ t.tid → p < q → slice_get h p ≡ Some (Grant s a v m k) → slice_get h q ≡ Some (Grant t b w n l) → ⊥
grants_apart h p q s t a b v w m n k l legal tids lt e f =
    let allowed = allowed_at [] h legal.1 q (Grant t b w n l) f in
    let is : is_grant_for t.tid (Grant s a v m k) ≡ true = ap (λ (x : List ℕ). same x t.tid) tids ∙ same_refl t.tid in
    granted_before (take q h) t.tid p (Grant s a v m k) _ _ _ (place_kept h p q (Grant s a v m k) lt e) is allowed.holds.1.comes

pub grants : (h : History) → Legal h → OneGrantEach h
grants h legal p q s t a b v w m n k l tids e f = same_place p q (λ lt. grants_apart h p q s t a b v w m n k l legal tids lt e f) (λ lt. grants_apart h q p t s b a w v n m l k legal (sym tids) lt f e)
