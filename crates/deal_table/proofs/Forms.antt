-- What the table makes over a legal history has a spelling, where the message's parts have the lengths of a message.
use Rattle.std.proofs.Common.{◌≡◌, ℕ, zero, suc, ◌^◌, ◌<◌, ◌≤◌, Bool, true, false, ◌&&◌, List, [], ◌∷◌, length, take, Option, Some, None, refl, ap, subst, ◌∙◌, arith}
use Rattle.std.specs.Prelude.{find, slice_get, ◌==◌, if◌then◌else◌, IfSome}
use Rattle.std.specs.List.{AllByRecursion}
use Rattle.std.proofs.lemmas.List.{length-take-le}
use Rattle.std.proofs.lemmas.Option.{none-some, same_Some}
use Rattle.sha2.specs.Sha256.{sha256}
use Rattle.sha2.proofs.Facts256.{length-sha256}
use Rattle.deal_changes.specs.declared.change.Kind.{Kind}
use Rattle.deal_changes.specs.declared.change.Kind.TheVariants.{Mac, Lms}
use Rattle.deal_changes.specs.declared.change.Who.TheVariants.{Listed, Cert}
use Rattle.deal_changes.specs.declared.change.Credential.{Credential}
use Rattle.deal_changes.specs.declared.change.Change.{Change}
use Rattle.deal_changes.specs.declared.change.Change.TheVariants.{Found, Enlist, Dismiss, Grant, Hold, Release, Deny, Turned, Polled, Settled, Revoke, Lapse}
use Rattle.deal_changes.specs.Spelling.{IsShort, IsWho, IsCredential}
use Rattle.deal_model.specs.declared.states.Owner.{Owner}
use Rattle.deal_model.specs.Keys.{leaves_by_code, leaves_of, tree_of, key_id, key_of, is_lms_key}
use Rattle.deal_model.specs.Views.{History, same, same_kind, is_entry, owner_of_credential, owner_in, has_owner, owner_of}
use Rattle.deal_model.specs.Rules.{Legal, Allowed, IsNamed, AreNew}
use Rattle.deal_model.proofs.Histories.{allowed_at}
use Rattle.deal_table.specs.History.{IsFounded, owner_for}
use Rattle.deal_table.proofs.Rows.{false_true}
use Rattle.deal_table.proofs.Senders.{found_place, found_is, view_found, map_found, both, same_is, some_if}

-- ---- whoever sent

-- one of a list of credentials
listed_form : (list : List Credential) (c : Credential) (i : ℕ) → AllByRecursion IsCredential list → slice_get list i ≡ Some c → IsCredential c
listed_form [] c i all e = absurd (none-some c e)
listed_form (x ∷ list) c zero all e = subst IsCredential (same_Some x c e) all.0
listed_form (x ∷ list) c (suc i) all e = listed_form list c i all.1 e

listed_named : (h : History) (list : List Credential) (c : Credential) (i : ℕ) → AreNew h list → slice_get list i ≡ Some c → IsNamed c.kind c.kid c.material
listed_named h [] c i new e = absurd (none-some c e)
listed_named h (x ∷ list) c zero new e = subst (λ (y : Credential). IsNamed y.kind y.kid y.material) (same_Some x c e) new.0
listed_named h (x ∷ list) c (suc i) new e = listed_named h list c i new.3 e

key_id_length : (key : List ℕ) → length (key_id key) ≡ 20
unfolding key_id
key_id_length key = length-take-le 20 (sha256 key) (omega (arith, length-sha256 key))

who_listed : (k : Kind) (kid key : List ℕ) → IsShort kid → IsNamed k kid key → IsWho (Listed k kid)
who_listed Mac kid key short named = short
who_listed Lms kid key short named = ap (λ (x : List ℕ). length x) named.named ∙ key_id_length key

owner_who : (h : History) (kind : Kind) (kid : List ℕ) (o : Owner) (c : Change) (i : ℕ) → Legal h → slice_get h i ≡ Some c → owner_in kind kid c ≡ Some o → IsWho o.who
owner_who h kind kid o (Enlist time list) i legal stands given =
    let credential = map_found owner_of_credential (find (is_entry kind kid) list) o given in
    let place = found_place (is_entry kind kid) list credential.0 credential.1 in
    let allowed = allowed_at [] h legal.1 i (Enlist time list) stands in
    subst (λ (x : Owner). IsWho x.who) credential.2 (who_listed credential.0.kind credential.0.kid credential.0.material (listed_form list credential.0 place.0 allowed.form.1.1 place.1).kid (listed_named (take i h) list credential.0 place.0 allowed.holds.2 place.1))
owner_who h Lms kid o (Grant s b w serial leaf) i legal stands given =
    let allowed = allowed_at [] h legal.1 i (Grant s b w serial leaf) stands in
    let grant = some_if (is_lms_key w.spki && same (key_id (key_of w.spki)) kid) (record { who = Cert serial; key = key_of w.spki; rights = 1 }) o given in
    subst (λ (x : Owner). IsWho x.who) grant.1 allowed.form.2
owner_who h Mac kid o (Grant s b w serial leaf) i legal stands given = absurd (none-some o given)
owner_who h kind kid o (Found s) i legal stands given = absurd (none-some o given)
owner_who h kind kid o (Dismiss time w) i legal stands given = absurd (none-some o given)
owner_who h kind kid o (Hold s b w) i legal stands given = absurd (none-some o given)
owner_who h kind kid o (Release time id) i legal stands given = absurd (none-some o given)
owner_who h kind kid o (Deny time id) i legal stands given = absurd (none-some o given)
owner_who h kind kid o (Turned s) i legal stands given = absurd (none-some o given)
owner_who h kind kid o (Polled s) i legal stands given = absurd (none-some o given)
owner_who h kind kid o (Settled s accepted) i legal stands given = absurd (none-some o given)
owner_who h kind kid o (Revoke s n reason) i legal stands given = absurd (none-some o given)
owner_who h kind kid o (Lapse time id) i legal stands given = absurd (none-some o given)

pub sender_form : (h : History) (kind : Option Kind) (kid : List ℕ) (o : Owner) → Legal h → owner_for h kind kid ≡ Some o → IsWho o.who
unfolding owner_of
sender_form h None kid o legal e = absurd (none-some o e)
sender_form h (Some kind) kid o legal e =
    let given = view_found (owner_in kind kid) (find (has_owner kind kid) h) o e in
    let place = found_place (has_owner kind kid) h given.0 given.1 in
    owner_who h kind kid o given.0 place.0 legal place.1 given.2

-- ---- leaves

by_code : (code : ℕ) → leaves_by_code code ≤ 2 ^ 25
by_code code = at (code == 5) (code == 6) (code == 7) (code == 8) (code == 9)
  where
    at : (a b c d e : Bool) → (if a then 2 ^ 5 else (if b then 2 ^ 10 else (if c then 2 ^ 15 else (if d then 2 ^ 20 else (if e then 2 ^ 25 else 0))))) ≤ 2 ^ 25
    at true b c d e = omega arith
    at false true c d e = omega arith
    at false false true d e = omega arith
    at false false false true e = omega arith
    at false false false false true = omega arith
    at false false false false false = omega arith

pub few_leaves : (key : List ℕ) → leaves_of key ≤ 2 ^ 25
unfolding leaves_of
few_leaves key = by_code (tree_of key)

pub leaf_form : (key : List ℕ) (leaf : Option ℕ) → IfSome leaf (λ l. l < leaves_of key) → IfSome leaf (λ l. l < 2 ^ 32)
leaf_form key (Some l) below = let most : leaves_of key ≤ 2 ^ 25 = few_leaves key in omega arith
leaf_form key None below = tt

-- ---- nobody has the empty identifier

named_some : (k : Kind) (kid key : List ℕ) → IsNamed k kid key → 1 ≤ length kid
named_some Mac kid key named = named.kid_low
named_some Lms kid key named = let whole : length kid ≡ 20 = ap (λ (x : List ℕ). length x) named.named ∙ key_id_length key in omega arith

unnamed : (kid : List ℕ) → kid ≡ [] → 1 ≤ length kid → ⊥
unnamed kid e some = let none : length kid ≡ 0 = ap (λ (x : List ℕ). length x) e in absurd (omega arith)

owner_named : (h : History) (kind : Kind) (o : Owner) (c : Change) (i : ℕ) → Legal h → slice_get h i ≡ Some c → owner_in kind [] c ≡ Some o → ⊥
owner_named h kind o (Enlist time list) i legal stands given =
    let credential = map_found owner_of_credential (find (is_entry kind []) list) o given in
    let place = found_place (is_entry kind []) list credential.0 credential.1 in
    let allowed = allowed_at [] h legal.1 i (Enlist time list) stands in
    let entry = both (same_kind credential.0.kind kind) (same credential.0.kid []) (found_is (is_entry kind []) list credential.0 credential.1) in
    unnamed credential.0.kid (same_is credential.0.kid [] entry.1) (named_some credential.0.kind credential.0.kid credential.0.material (listed_named (take i h) list credential.0 place.0 allowed.holds.2 place.1))
owner_named h Lms o (Grant s b w serial leaf) i legal stands given =
    let grant = some_if (is_lms_key w.spki && same (key_id (key_of w.spki)) []) (record { who = Cert serial; key = key_of w.spki; rights = 1 }) o given in
    let whole : length (key_id (key_of w.spki)) ≡ 20 = key_id_length (key_of w.spki) in
    unnamed (key_id (key_of w.spki)) (same_is (key_id (key_of w.spki)) [] (both (is_lms_key w.spki) (same (key_id (key_of w.spki)) []) grant.0).1) (omega arith)
owner_named h Mac o (Grant s b w serial leaf) i legal stands given = none-some o given
owner_named h kind o (Found s) i legal stands given = none-some o given
owner_named h kind o (Dismiss time w) i legal stands given = none-some o given
owner_named h kind o (Hold s b w) i legal stands given = none-some o given
owner_named h kind o (Release time id) i legal stands given = none-some o given
owner_named h kind o (Deny time id) i legal stands given = none-some o given
owner_named h kind o (Turned s) i legal stands given = none-some o given
owner_named h kind o (Polled s) i legal stands given = none-some o given
owner_named h kind o (Settled s accepted) i legal stands given = none-some o given
owner_named h kind o (Revoke s n reason) i legal stands given = none-some o given
owner_named h kind o (Lapse time id) i legal stands given = none-some o given

pub nobody : (h : History) (kind : Option Kind) → Legal h → owner_for h kind [] ≡ None
unfolding owner_of
nobody h None legal = refl
nobody h (Some kind) legal = by_owner (owner_of h kind []) refl
  where
    by_owner : (found : Option Owner) → owner_of h kind [] ≡ found → found ≡ None
    by_owner None e = refl
    by_owner (Some o) e =
        let given = view_found (owner_in kind []) (find (has_owner kind []) h) o e in
        let place = found_place (has_owner kind []) h given.0 given.1 in
        absurd (owner_named h kind o given.0 place.0 legal place.1 given.2)

-- ---- the service was founded

first_founds : (c : Change) (h : History) → Allowed [] c → IsFounded (c ∷ h)
first_founds (Found s) h a = (s, refl, a.form.is_ca_name)
first_founds (Enlist time list) h a = false_true _ a.opening
first_founds (Dismiss time w) h a = false_true _ a.opening
first_founds (Grant s b w serial leaf) h a = false_true _ a.opening
first_founds (Hold s b w) h a = false_true _ a.opening
first_founds (Release time id) h a = false_true _ a.opening
first_founds (Deny time id) h a = false_true _ a.opening
first_founds (Turned s) h a = false_true _ a.opening
first_founds (Polled s) h a = false_true _ a.opening
first_founds (Settled s accepted) h a = false_true _ a.opening
first_founds (Revoke s n reason) h a = false_true _ a.opening
first_founds (Lapse time id) h a = false_true _ a.opening

pub legal_founded : (h : History) → Legal h → IsFounded h
legal_founded [] legal = absurd (legal.0 refl)
legal_founded (c ∷ h) legal = first_founds c h legal.1.0
