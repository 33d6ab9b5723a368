-- What a receipt tells of a change that stands in a legal history: the change is in force there.
use Rattle.std.proofs.Common.{◌≡◌, ℕ, zero, suc, ◌+◌, ◌<◌, ◌≤◌, Bool, true, false, cond, List, [], ◌∷◌, ◌++◌, length, take, drop, Option, Some, None, refl, sym, ap, subst, ◌∙◌, arith}
use Rattle.std.specs.Prelude.{◌==◌, IfSome, find, slice_get, option_map, option_and_then}
use Rattle.std.specs.List.{AllByRecursion, list_all, position_from}
use Rattle.std.proofs.Math.Logic.{∥∥₁_elim}
use Rattle.std.proofs.Props.{props}
use Rattle.std.proofs.lemmas.List.Folds.{list_all-append}
use Rattle.std.proofs.lemmas.Option.{none-some, same_Some}
use Rattle.deal_changes.specs.declared.change.Kind.TheVariants.{Mac, Lms}
use Rattle.deal_changes.specs.declared.change.Who.{Who}
use Rattle.deal_changes.specs.declared.change.Who.TheVariants.{Listed, Cert}
use Rattle.deal_changes.specs.declared.change.Credential.{Credential}
use Rattle.deal_changes.specs.declared.change.Settings.{Settings}
use Rattle.deal_changes.specs.declared.change.Stamp.{Stamp}
use Rattle.deal_changes.specs.declared.change.Change.{Change}
use Rattle.deal_changes.specs.declared.change.Change.TheVariants.{Found, Enlist, Dismiss, Grant, Hold, Release, Deny, Turned, Polled, Settled, Revoke, Lapse}
use Rattle.deal_changes.specs.Spelling.{IsChange, IsCredential}
use Rattle.deal_changes.specs.Times.{stamp_of}
use Rattle.deal_model.specs.declared.states.Key.TheVariants.{Reply}
use Rattle.deal_model.specs.Keys.{leaves_by_code, leaves_of, tree_of}
use Rattle.deal_model.specs.Views.{History, is_empty, is_found, is_grant_for, is_entry, settings_of, leaves_used, owner_of_credential, owner_in, has_owner, owner_of}
use Rattle.deal_model.specs.Rules.{IsFounding, reply_leaf, Allowed, AllowedFrom, Legal}
use Rattle.deal_model.proofs.Histories.{allowed_at}
use Rattle.deal_table.specs.History.{Receipted, material_of, secret_of, place_of, receipt_of, receipt_in, receipt_at, grant_receipt}
use Rattle.cert_maker.specs.Certificates.{IsGrant, IsKept, leaf_of}
use Rattle.reply_maker.specs.Keys.{known_identity, are_blank}
use Rattle.reply_maker.specs.InForce.{IsInForce}

-- ---- what stands first

founded_by : (c : Change) → is_found c ≡ true → Allowed [] c → IsFounding (settings_of (c ∷ []))
founded_by (Found s) is a = a.holds
founded_by (Enlist time list) is a = absurd (cc is)
founded_by (Dismiss time w) is a = absurd (cc is)
founded_by (Grant s b w serial leaf) is a = absurd (cc is)
founded_by (Hold s b w) is a = absurd (cc is)
founded_by (Release time tid) is a = absurd (cc is)
founded_by (Deny time tid) is a = absurd (cc is)
founded_by (Turned s) is a = absurd (cc is)
founded_by (Polled s) is a = absurd (cc is)
founded_by (Settled s accepted) is a = absurd (cc is)
founded_by (Revoke s serial reason) is a = absurd (cc is)
founded_by (Lapse time tid) is a = absurd (cc is)

pub founding_is : (h : History) → Legal h → IsFounding (settings_of h)
founding_is [] l = absurd (l.0 refl)
founding_is (c ∷ h) l = founded_by c l.1.0.opening l.1.0

-- the settings stand in each beginning
pub settings_begin : (h : History) (i : ℕ) → is_empty (take i h) ≡ false → settings_of (take i h) ≡ settings_of h
settings_begin h zero some = absurd (cc some)
settings_begin [] (suc i) some = refl
settings_begin (c ∷ h) (suc i) some = refl

not_all : (test : ℕ → Bool) (xs ys : List ℕ) → list_all test xs ≡ false → list_all test (xs ++ ys) ≡ false
not_all test xs ys e = rw (list_all-append test xs ys, e) refl

filled : (s : Settings) → IsFounding s → are_blank s ≡ false
unfolding known_identity
filled s f = not_all (λ n. n == 0) (drop 12 s.issue_key) (drop 12 s.reply_key) f.issue_key.filled

some_leaves : (code : ℕ) → 5 ≤ code → code ≤ 7 → 0 < leaves_by_code code
some_leaves code low high = grind (arith)

-- ---- secrets

-- what is found is among those that are all so
found_so : {X : Type 0} (P : X → Type 0) (test : X → Bool) (xs : List X) (x : X) → AllByRecursion P xs → find test xs ≡ Some x → P x
found_so P test [] x all e = absurd (none-some x e)
found_so P test (y ∷ xs) x all e = elim (test y) as (λ v. cond v (Some y) (find test xs) ≡ Some x → P x) [
  | true ↦ λ f. subst P (same_Some y x f) all.0
  | false ↦ λ f. found_so P test xs x all.1 f
] e

listed_short : (list : List Credential) (test : Credential → Bool) → AllByRecursion IsCredential list → length (material_of (option_map owner_of_credential (find test list))) ≤ 64
listed_short list test all = by_found (find test list) refl
  where
    by_found : (found : Option Credential) → find test list ≡ found → length (material_of (option_map owner_of_credential found)) ≤ 64
    by_found None e = omega arith
    by_found (Some c) e = (found_so IsCredential test list c all e).material

given_short : (kid : List ℕ) (c : Change) → IsChange c → length (material_of (owner_in Mac kid c)) ≤ 64
given_short kid (Enlist time list) form = listed_short list (is_entry Mac kid) form.1.1
given_short kid (Found s) form = omega arith
given_short kid (Dismiss time w) form = omega arith
given_short kid (Grant s b w serial leaf) form = omega arith
given_short kid (Hold s b w) form = omega arith
given_short kid (Release time tid) form = omega arith
given_short kid (Deny time tid) form = omega arith
given_short kid (Turned s) form = omega arith
given_short kid (Polled s) form = omega arith
given_short kid (Settled s accepted) form = omega arith
given_short kid (Revoke s serial reason) form = omega arith
given_short kid (Lapse time tid) form = omega arith

owned_short : (h : History) (kid : List ℕ) → AllByRecursion IsChange h → length (material_of (owner_of h Mac kid)) ≤ 64
unfolding owner_of
owned_short h kid forms = by_found (find (has_owner Mac kid) h) refl
  where
    by_found : (found : Option Change) → find (has_owner Mac kid) h ≡ found → length (material_of (option_and_then (owner_in Mac kid) found)) ≤ 64
    by_found None e = omega arith
    by_found (Some c) e = given_short kid c (found_so IsChange (has_owner Mac kid) h c forms e)

-- a sender whose reply isn't signed has a secret, which is as short as one that may be listed
secret_short : (front h : History) (w : Who) → AllByRecursion IsChange h → reply_leaf front w ≡ None → length (secret_of h w) ≤ 64
secret_short front h (Listed Mac kid) forms e = owned_short h kid forms
secret_short front h (Listed Lms kid) forms e = absurd (none-some (leaves_used front Reply) (sym e))
secret_short front h (Cert serial) forms e = absurd (none-some (leaves_used front Reply) (sym e))

forms_from : (before cs : List Change) → AllowedFrom before cs → AllByRecursion IsChange cs
forms_from before [] h = tt
forms_from before (c ∷ cs) h = (h.0.form, forms_from (before ++ c ∷ []) cs h.1)

forms_take : (h : List Change) (n : ℕ) → AllByRecursion IsChange h → AllByRecursion IsChange (take n h)
forms_take h zero all = tt
forms_take [] (suc n) all = tt
forms_take (c ∷ h) (suc n) all = (all.0, forms_take h n all.1)

-- ---- a change behind those before it

-- the leaf of its certificate, and that of its reply
issued_within : (front : History) (s : Settings) (c : Change) → IsFounding s → (is_empty front ≡ false → settings_of front ≡ s) → Allowed front c → leaf_of c < leaves_of s.issue_key
unfolding leaves_of
issued_within front s (Grant t b w serial leaf) f same a = subst (λ (x : Settings). leaf < leaves_by_code (tree_of x.issue_key)) (same (sym a.opening)) a.holds.1.left
issued_within front s (Found t) f same a = some_leaves (tree_of s.issue_key) f.issue_key.tree_low f.issue_key.tree_high
issued_within front s (Enlist time list) f same a = some_leaves (tree_of s.issue_key) f.issue_key.tree_low f.issue_key.tree_high
issued_within front s (Dismiss time w) f same a = some_leaves (tree_of s.issue_key) f.issue_key.tree_low f.issue_key.tree_high
issued_within front s (Hold t b w) f same a = some_leaves (tree_of s.issue_key) f.issue_key.tree_low f.issue_key.tree_high
issued_within front s (Release time tid) f same a = some_leaves (tree_of s.issue_key) f.issue_key.tree_low f.issue_key.tree_high
issued_within front s (Deny time tid) f same a = some_leaves (tree_of s.issue_key) f.issue_key.tree_low f.issue_key.tree_high
issued_within front s (Turned t) f same a = some_leaves (tree_of s.issue_key) f.issue_key.tree_low f.issue_key.tree_high
issued_within front s (Polled t) f same a = some_leaves (tree_of s.issue_key) f.issue_key.tree_low f.issue_key.tree_high
issued_within front s (Settled t accepted) f same a = some_leaves (tree_of s.issue_key) f.issue_key.tree_low f.issue_key.tree_high
issued_within front s (Revoke t serial reason) f same a = some_leaves (tree_of s.issue_key) f.issue_key.tree_low f.issue_key.tree_high
issued_within front s (Lapse time tid) f same a = some_leaves (tree_of s.issue_key) f.issue_key.tree_low f.issue_key.tree_high

-- what a stamp says of its leaf
abbrev IsStamped : History → Settings → Option Stamp → Type 0
IsStamped front s o = IfSome o (λ t. IfSome t.leaf (λ l. l < leaves_of s.reply_key) × (t.leaf ≡ reply_leaf front t.who))

stamped : (front : History) (s : Settings) (c : Change) → (is_empty front ≡ false → settings_of front ≡ s) → Allowed front c → IsStamped front s (stamp_of c)
stamped front s (Grant t b w serial leaf) same a = (subst (λ (x : Settings). IfSome t.leaf (λ l. l < leaves_of x.reply_key)) (same (sym a.opening)) a.holds.0.left, a.holds.0.leaf)
stamped front s (Hold t b w) same a = (subst (λ (x : Settings). IfSome t.leaf (λ l. l < leaves_of x.reply_key)) (same (sym a.opening)) a.holds.0.left, a.holds.0.leaf)
stamped front s (Turned t) same a = (subst (λ (x : Settings). IfSome t.leaf (λ l. l < leaves_of x.reply_key)) (same (sym a.opening)) a.holds.0.left, a.holds.0.leaf)
stamped front s (Polled t) same a = (subst (λ (x : Settings). IfSome t.leaf (λ l. l < leaves_of x.reply_key)) (same (sym a.opening)) a.holds.0.left, a.holds.0.leaf)
stamped front s (Settled t accepted) same a = (subst (λ (x : Settings). IfSome t.leaf (λ l. l < leaves_of x.reply_key)) (same (sym a.opening)) a.holds.0.left, a.holds.0.leaf)
stamped front s (Revoke t serial reason) same a = (subst (λ (x : Settings). IfSome t.leaf (λ l. l < leaves_of x.reply_key)) (same (sym a.opening)) a.holds.0.left, a.holds.0.leaf)
stamped front s (Found t) same a = tt
stamped front s (Enlist time list) same a = tt
stamped front s (Dismiss time w) same a = tt
stamped front s (Release time tid) same a = tt
stamped front s (Deny time tid) same a = tt
stamped front s (Lapse time tid) same a = tt

-- ---- its receipt

-- the change at a place, its stamp, and what its receipt is made of
pub record IsMade (h : History) (i : ℕ) (r : Receipted) : Type 0 where
  pub change : Change
  pub stamp : Stamp
  pub stands : slice_get h i ≡ Some change
  pub has : stamp_of change ≡ Some stamp
  pub is : r ≡ receipt_of (take (suc i) h) (suc i) change stamp

made_of : (h : History) (i : ℕ) (c : Change) (o : Option Stamp) (r : Receipted) → slice_get h i ≡ Some c → stamp_of c ≡ o → option_map (receipt_of (take (suc i) h) (suc i) c) o ≡ Some r → IsMade h i r
made_of h i c None r there has e = absurd (none-some r e)
made_of h i c (Some s) r there has e = record { change = c; stamp = s; stands = there; has = has; is = sym (same_Some (receipt_of (take (suc i) h) (suc i) c s) r e) }

made_at : (h : History) (i : ℕ) (found : Option Change) (r : Receipted) → slice_get h i ≡ found → option_and_then (receipt_in (take (suc i) h) (suc i)) found ≡ Some r → IsMade h i r
made_at h i None r there e = absurd (none-some r e)
made_at h i (Some c) r there e = made_of h i c (stamp_of c) r there refl e

pub made : (h : History) (n : ℕ) (r : Receipted) → receipt_at h n ≡ Some r → (i : ℕ) × (n ≡ suc i) × IsMade h i r
unfolding receipt_at
made h zero r e = absurd (none-some r e)
made h (suc i) r e = (i, refl, made_at h i (slice_get h i) r refl e)

kept : (front : History) (c : Change) → Allowed front c → IsKept c
kept front c a = record { timely = a.bounded; sized = omega (arith, a.size) }

-- the receipt's own change is in force
receipt_in_force : (front h : History) (s : Settings) (place : ℕ) (c : Change) (t : Stamp) → IsFounding s → (is_empty front ≡ false → settings_of front ≡ s) → AllByRecursion IsChange h → Allowed front c → stamp_of c ≡ Some t → IsInForce s (receipt_of h place c t)
receipt_in_force front h s place c t f same forms a has =
    let stamp : IsStamped front s (Some t) = subst (IsStamped front s) has (stamped front s c same a) in
    record {
      kept = kept front c a;
      issued = issued_within front s c f same a;
      signed = rw has stamp.0;
      secret = rw has (λ none. secret_short front h t.who forms (sym stamp.1 ∙ none));
    }

pub in_force : (h : History) (n : ℕ) (r : Receipted) → Legal h → receipt_at h n ≡ Some r → IsInForce (settings_of h) r
in_force h n r l e =
    let m = made h n r e in
    let i = m.0 in
    subst (IsInForce (settings_of h)) (sym m.2.is)
    (receipt_in_force (take i h) (take (suc i) h) (settings_of h) (suc i) m.2.change m.2.stamp (founding_is h l) (settings_begin h i) (forms_take h (suc i) (forms_from [] h l.1)) (allowed_at [] h l.1 i m.2.change m.2.stands) m.2.has)

-- ---- out of what is truncated

if_some_prop : {X : Type 0} (P : X → Type 0) (o : Option X) → ((x : X) → IsProp (P x)) → IsProp (IfSome o P)
if_some_prop P (Some x) each = each x
if_some_prop P None each = Prim.hlevel props

in_force_prop : (s : Settings) (r : Receipted) → IsProp (IsInForce s r)
in_force_prop s r = Prim.hlevel (props, if_some_prop)

pub in_force_out : {P : Type 0} (h : History) (n : ℕ) (r : Receipted) → ∥ Legal h × P ∥₁ → receipt_at h n ≡ Some r → IsInForce (settings_of h) r
in_force_out h n r t e = ∥∥₁_elim t (in_force_prop (settings_of h) r) (λ l. in_force h n r l.0 e)

blank_prop : (s : Settings) → IsProp (are_blank s ≡ false)
blank_prop s = Prim.hlevel props

pub filled_out : {P : Type 0} (h : History) → ∥ Legal h × P ∥₁ → are_blank (settings_of h) ≡ false
filled_out h t = ∥∥₁_elim t (blank_prop (settings_of h)) (λ l. filled (settings_of h) (founding_is h l.0))

-- ---- a transaction's Grant

-- what passes at a place, counted from n
abbrev Passes : (Change → Bool) → ℕ → History → ℕ → Type 0
Passes test n h place = (i : ℕ) × (c : Change) × (place ≡ n + i) × (slice_get h i ≡ Some c) × (test c ≡ true)

passes_at : (test : Change → Bool) (n : ℕ) (h : History) (place : ℕ) → position_from test n h ≡ Some place → Passes test n h place
passes_at test n [] place e = absurd (none-some place e)
passes_at test n (c ∷ h) place e = elim (test c) as (λ v. test c ≡ v → cond v (Some n) (position_from test (n + 1) h) ≡ Some place → Passes test n (c ∷ h) place) [
  | true ↦ λ is f. let q : n ≡ place = same_Some n place f in (0, c, omega (arith, q), refl, is)
  | false ↦ λ is f. let r = passes_at test (n + 1) h place f in (suc r.0, r.1, omega (arith, r.2), r.3, r.4)
] refl e

grants : (tid : List ℕ) (c : Change) → is_grant_for tid c ≡ true → IsGrant c
grants tid (Grant s b w serial leaf) e = tt
grants tid (Found s) e = absurd (cc e)
grants tid (Enlist time list) e = absurd (cc e)
grants tid (Dismiss time w) e = absurd (cc e)
grants tid (Hold s b w) e = absurd (cc e)
grants tid (Release time id) e = absurd (cc e)
grants tid (Deny time id) e = absurd (cc e)
grants tid (Turned s) e = absurd (cc e)
grants tid (Polled s) e = absurd (cc e)
grants tid (Settled s accepted) e = absurd (cc e)
grants tid (Revoke s serial reason) e = absurd (cc e)
grants tid (Lapse time id) e = absurd (cc e)

granted_by : (h : History) (tid : List ℕ) (place : ℕ) (r : Receipted) → place_of (is_grant_for tid) h ≡ Some place → receipt_at h place ≡ Some r → IsGrant r.change
granted_by h tid place r e f =
    let there = passes_at (is_grant_for tid) 1 h place e in
    let m = made h place r f in
    let index : there.0 ≡ m.0 = omega (arith, there.2, m.1) in
    let same : there.1 ≡ m.2.change = same_Some there.1 m.2.change (sym there.3 ∙ ap (slice_get h) index ∙ m.2.stands) in
    subst (λ (x : Receipted). IsGrant x.change) (sym m.2.is) (subst IsGrant same (grants tid there.1 there.4))

-- where the receipt of a transaction's Grant stands
grant_place : (h : History) (tid : List ℕ) (found : Option ℕ) (r : Receipted) → place_of (is_grant_for tid) h ≡ found → option_and_then (receipt_at h) found ≡ Some r → (place : ℕ) × (place_of (is_grant_for tid) h ≡ Some place) × (receipt_at h place ≡ Some r)
grant_place h tid None r is e = absurd (none-some r e)
grant_place h tid (Some place) r is e = (place, is, e)

placed : (h : History) (tid : List ℕ) (r : Receipted) → grant_receipt h tid ≡ Some r → (place : ℕ) × (place_of (is_grant_for tid) h ≡ Some place) × (receipt_at h place ≡ Some r)
unfolding grant_receipt
placed h tid r e = grant_place h tid (place_of (is_grant_for tid) h) r refl e

pub grant_in_force : (h : History) (tid : List ℕ) (r : Receipted) → Legal h → grant_receipt h tid ≡ Some r → IsInForce (settings_of h) r × IsGrant r.change
grant_in_force h tid r l e = let p = placed h tid r e in (in_force h p.0 r l p.2, granted_by h tid p.0 r p.1 p.2)

pub grant_in_force_out : {P : Type 0} (h : History) (tid : List ℕ) (r : Receipted) → ∥ Legal h × P ∥₁ → grant_receipt h tid ≡ Some r → IsInForce (settings_of h) r × IsGrant r.change
grant_in_force_out h tid r t e = let p = placed h tid r e in (in_force_out h p.0 r t p.2, granted_by h tid p.0 r p.1 p.2)
