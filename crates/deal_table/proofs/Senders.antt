-- In a legal history a credential's owner stands as the credential does.
use Rattle.std.proofs.Common.{◌≡◌, ℕ, suc, Bool, true, false, ◌&&◌, cond, List, [], ◌∷◌, ◌++◌, Option, Some, None, refl, sym, ap, ◌∙◌}
use Rattle.std.specs.Prelude.{unwrap_or, option_map, option_and_then, find, slice_get, if◌then◌else◌}
use Rattle.std.proofs.lemmas.Bool.{eqb-true, eq-eqb}
use Rattle.std.proofs.lemmas.Option.{none-some, same_Some}
use Rattle.std.proofs.lemmas.Slice.Eq.{bytes_eq-Decides}
use Rattle.deal_changes.specs.declared.change.Kind.{Kind}
use Rattle.deal_changes.specs.declared.change.Kind.TheVariants.{Mac, Lms}
use Rattle.deal_changes.specs.declared.change.Who.{Who}
use Rattle.deal_changes.specs.declared.change.Who.TheVariants.{Listed, Cert}
use Rattle.deal_changes.specs.declared.change.Credential.{Credential}
use Rattle.deal_changes.specs.declared.change.Stamp.{Stamp}
use Rattle.deal_changes.specs.declared.change.Wish.{Wish}
use Rattle.deal_changes.specs.declared.change.Body4.{Body4}
use Rattle.deal_changes.specs.declared.change.Change.{Change}
use Rattle.deal_changes.specs.declared.change.Change.TheVariants.{Found, Enlist, Dismiss, Grant, Hold, Release, Deny, Turned, Polled, Settled, Revoke, Lapse}
use Rattle.deal_model.specs.declared.states.Owner.{Owner}
use Rattle.deal_model.specs.declared.states.Standing.TheVariants.{Good}
use Rattle.deal_model.specs.Keys.{key_id, key_of, is_lms_key}
use Rattle.deal_model.specs.Views.{History, same, same_kind, is_entry, is_grant_of, owner_of_credential, granted_owner, owner_in, has_owner, owner_of, is_barred, standing_of, standing_of_grant, standing_of_who}
use Rattle.deal_model.specs.Rules.{Legal}
use Rattle.deal_model.proofs.Leaves.{serials, none_passes, found_passes}
use Rattle.deal_table.specs.History.{material_of, granted_key, secret_of, owner_for}
use Rattle.deal_table.proofs.Rows.{false_true}
use Rattle.deal_table.proofs.Stays.{owner_stays, first_stays}

-- ---- what is found

pub found_place : {X : Type 0} (test : X → Bool) (xs : List X) (x : X) → find test xs ≡ Some x → (i : ℕ) × (slice_get xs i ≡ Some x)
found_place test [] x e = absurd (none-some x e)
found_place test (y ∷ xs) x e = elim (test y) as (λ v. cond v (Some y) (find test xs) ≡ Some x → (i : ℕ) × (slice_get (y ∷ xs) i ≡ Some x)) [
  | true ↦ λ f. (0, f)
  | false ↦ λ f. let rest = found_place test xs x f in (suc rest.0, rest.1)
] e

pub found_is : {X : Type 0} (test : X → Bool) (xs : List X) (x : X) → find test xs ≡ Some x → test x ≡ true
found_is test [] x e = absurd (none-some x e)
found_is test (y ∷ xs) x e = elim (test y) as (λ v. test y ≡ v → cond v (Some y) (find test xs) ≡ Some x → test x ≡ true) [
  | true ↦ λ is f. ap test (sym (same_Some y x f)) ∙ is
  | false ↦ λ is f. found_is test xs x f
] refl e

-- a view of what is found, and what it is of
pub view_found : {X Y : Type 0} (f : X → Option Y) (found : Option X) (y : Y) → option_and_then f found ≡ Some y → (x : X) × (found ≡ Some x) × (f x ≡ Some y)
view_found f None y e = absurd (none-some y e)
view_found f (Some x) y e = (x, refl, e)

pub map_found : {X Y : Type 0} (f : X → Y) (found : Option X) (y : Y) → option_map f found ≡ Some y → (x : X) × (found ≡ Some x) × (f x ≡ y)
map_found f None y e = absurd (none-some y e)
map_found f (Some x) y e = (x, refl, same_Some (f x) y e)

pub both : (a b : Bool) → (a && b) ≡ true → (a ≡ true) × (b ≡ true)
both true b e = (refl, e)
both false b e = false_true _ e

pub same_is : (a b : List ℕ) → same a b ≡ true → a ≡ b
same_is a b e = (bytes_eq-Decides a b).0 e

pub kind_is : (j k : Kind) → same_kind j k ≡ true → j ≡ k
kind_is Mac Mac e = refl
kind_is Mac Lms e = false_true _ e
kind_is Lms Mac e = false_true _ e
kind_is Lms Lms e = refl

-- ---- a Grant by its serial number

-- a change is a Grant of this serial number
abbrev pub IsGrant : ℕ → Change → Type 0
IsGrant serial c = (s : Stamp) × (b : Body4) × (w : Wish) × (leaf : ℕ) × (c ≡ Grant s b w serial leaf)

pub grant_is : (serial : ℕ) (c : Change) → is_grant_of serial c ≡ true → IsGrant serial c
grant_is serial (Grant s b w n leaf) e = (s, b, w, leaf, ap (λ k. Grant s b w k leaf) (eqb-true n serial e))
grant_is serial (Found s) e = false_true _ e
grant_is serial (Enlist time list) e = false_true _ e
grant_is serial (Dismiss time w) e = false_true _ e
grant_is serial (Hold s b w) e = false_true _ e
grant_is serial (Release time id) e = false_true _ e
grant_is serial (Deny time id) e = false_true _ e
grant_is serial (Turned s) e = false_true _ e
grant_is serial (Polled s) e = false_true _ e
grant_is serial (Settled s accepted) e = false_true _ e
grant_is serial (Revoke s n reason) e = false_true _ e
grant_is serial (Lapse time id) e = false_true _ e

-- in a legal history a Grant that stands is the one that is found by its serial number
pub grant_found : (h : History) (i : ℕ) (s : Stamp) (b : Body4) (w : Wish) (serial leaf : ℕ) → Legal h → slice_get h i ≡ Some (Grant s b w serial leaf) → find (is_grant_of serial) h ≡ Some (Grant s b w serial leaf)
grant_found h i s b w serial leaf legal e = by_found (find (is_grant_of serial) h) refl
  where
    by_found : (found : Option Change) → find (is_grant_of serial) h ≡ found → found ≡ Some (Grant s b w serial leaf)
    by_found None none = absurd (none_passes (is_grant_of serial) h i (Grant s b w serial leaf) none e (eq-eqb serial serial refl))
    by_found (Some x) some =
        let grant = grant_is serial x (found_passes (is_grant_of serial) h x some) in
        let place = found_place (is_grant_of serial) h x some in
        let stands : slice_get h place.0 ≡ Some (Grant grant.0 grant.1 grant.2 serial grant.3) = place.1 ∙ ap (λ (y : Change). Some y) grant.4 in
        let there : place.0 ≡ i = serials h legal place.0 i grant.0 s grant.1 b grant.2 w serial grant.3 leaf stands e in
        sym place.1 ∙ ap (slice_get h) there ∙ e

-- ---- a credential's owner

-- an owner that isn't barred is good
pub standing_good : (h : History) (t : ℕ) (kind : Kind) (kid : List ℕ) (o : Owner) → owner_of h kind kid ≡ Some o → is_barred h t o.who ≡ false → standing_of h kind kid t ≡ Good o.who o.key o.rights
unfolding standing_of
standing_good h t kind kid o e free = rw (e, free) refl

listed_stands : (h : History) (t : ℕ) (kind : Kind) (kid : List ℕ) (o : Owner) (list : List Credential) → owner_of h kind kid ≡ Some o → option_map owner_of_credential (find (is_entry kind kid) list) ≡ Some o → is_barred h t o.who ≡ false → standing_of_who h o.who t ≡ Good o.who o.key o.rights
listed_stands h t kind kid o list e given free =
    let credential = map_found owner_of_credential (find (is_entry kind kid) list) o given in
    let c : Credential = credential.0 in
    let entry = both (same_kind c.kind kind) (same c.kid kid) (found_is (is_entry kind kid) list c credential.1) in
    let who : Listed c.kind c.kid ≡ o.who = ap (λ (x : Owner). x.who) credential.2 in
    ap (λ (x : Who). standing_of_who h x t) (sym who)
    ∙ ap (λ (k : Kind). standing_of h k c.kid t) (kind_is c.kind kind entry.0)
    ∙ ap (λ (k : List ℕ). standing_of h kind k t) (same_is c.kid kid entry.1)
    ∙ standing_good h t kind kid o e free

pub some_if : {X : Type 0} (b : Bool) (x y : X) → (if b then Some x else None) ≡ Some y → (b ≡ true) × (x ≡ y)
some_if true x y e = (refl, same_Some x y e)
some_if false x y e = absurd (none-some y e)

granted_stands : (h : History) (t : ℕ) (kid : List ℕ) (o : Owner) (i : ℕ) (s : Stamp) (b : Body4) (w : Wish) (serial leaf : ℕ) → Legal h → slice_get h i ≡ Some (Grant s b w serial leaf) → owner_of h Lms kid ≡ Some o → granted_owner kid w.spki serial ≡ Some o → is_barred h t o.who ≡ false → standing_of_who h o.who t ≡ Good o.who o.key o.rights
granted_stands h t kid o i s b w serial leaf legal stands e given free =
    let grant = some_if (is_lms_key w.spki && same (key_id (key_of w.spki)) kid) (record { who = Cert serial; key = key_of w.spki; rights = 1 }) o given in
    let who : Cert serial ≡ o.who = ap (λ (x : Owner). x.who) grant.1 in
    let kids : key_id (key_of w.spki) ≡ kid = same_is (key_id (key_of w.spki)) kid (both (is_lms_key w.spki) (same (key_id (key_of w.spki)) kid) grant.0).1 in
    ap (λ (x : Who). standing_of_who h x t) (sym who)
    ∙ ap (standing_of_grant h t) (grant_found h i s b w serial leaf legal stands)
    ∙ ap (λ (k : List ℕ). standing_of h Lms k t) kids
    ∙ standing_good h t Lms kid o e free

owner_stands : (h : History) (t : ℕ) (kind : Kind) (kid : List ℕ) (o : Owner) (c : Change) (i : ℕ) → Legal h → slice_get h i ≡ Some c → owner_of h kind kid ≡ Some o → owner_in kind kid c ≡ Some o → is_barred h t o.who ≡ false → standing_of_who h o.who t ≡ Good o.who o.key o.rights
owner_stands h t kind kid o (Enlist time list) i legal stands e given free = listed_stands h t kind kid o list e given free
owner_stands h t Lms kid o (Grant s b w serial leaf) i legal stands e given free = granted_stands h t kid o i s b w serial leaf legal stands e given free
owner_stands h t Mac kid o (Grant s b w serial leaf) i legal stands e given free = absurd (none-some o given)
owner_stands h t kind kid o (Found s) i legal stands e given free = absurd (none-some o given)
owner_stands h t kind kid o (Dismiss time w) i legal stands e given free = absurd (none-some o given)
owner_stands h t kind kid o (Hold s b w) i legal stands e given free = absurd (none-some o given)
owner_stands h t kind kid o (Release time id) i legal stands e given free = absurd (none-some o given)
owner_stands h t kind kid o (Deny time id) i legal stands e given free = absurd (none-some o given)
owner_stands h t kind kid o (Turned s) i legal stands e given free = absurd (none-some o given)
owner_stands h t kind kid o (Polled s) i legal stands e given free = absurd (none-some o given)
owner_stands h t kind kid o (Settled s accepted) i legal stands e given free = absurd (none-some o given)
owner_stands h t kind kid o (Revoke s n reason) i legal stands e given free = absurd (none-some o given)
owner_stands h t kind kid o (Lapse time id) i legal stands e given free = absurd (none-some o given)

-- whatever a credential's owner is asked by, it stands so
pub sender_stands : (h : History) (t : ℕ) (kind : Option Kind) (kid : List ℕ) (o : Owner) → Legal h → owner_for h kind kid ≡ Some o → is_barred h t o.who ≡ false → standing_of_who h o.who t ≡ Good o.who o.key o.rights
unfolding owner_of
sender_stands h t None kid o legal e free = absurd (none-some o e)
sender_stands h t (Some kind) kid o legal e free =
    let given = view_found (owner_in kind kid) (find (has_owner kind kid) h) o e in
    let place = found_place (has_owner kind kid) h given.0 given.1 in
    owner_stands h t kind kid o given.0 place.0 legal place.1 e given.2 free

-- ---- a sender's secret

listed_secret : (h more : History) (kind : Kind) (kid : List ℕ) (o : Owner) (list : List Credential) → owner_of h kind kid ≡ Some o → option_map owner_of_credential (find (is_entry kind kid) list) ≡ Some o → secret_of (h ++ more) o.who ≡ o.key
listed_secret h more kind kid o list e given =
    let credential = map_found owner_of_credential (find (is_entry kind kid) list) o given in
    let c : Credential = credential.0 in
    let entry = both (same_kind c.kind kind) (same c.kid kid) (found_is (is_entry kind kid) list c credential.1) in
    let who : Listed c.kind c.kid ≡ o.who = ap (λ (x : Owner). x.who) credential.2 in
    ap (λ (x : Who). secret_of (h ++ more) x) (sym who)
    ∙ ap (λ (k : Kind). material_of (owner_of (h ++ more) k c.kid)) (kind_is c.kind kind entry.0)
    ∙ ap (λ (k : List ℕ). material_of (owner_of (h ++ more) kind k)) (same_is c.kid kid entry.1)
    ∙ ap material_of (owner_stays h more (Some kind) kid o e)

granted_secret : (h more : History) (kid : List ℕ) (o : Owner) (i : ℕ) (s : Stamp) (b : Body4) (w : Wish) (serial leaf : ℕ) → Legal h → slice_get h i ≡ Some (Grant s b w serial leaf) → granted_owner kid w.spki serial ≡ Some o → secret_of (h ++ more) o.who ≡ o.key
granted_secret h more kid o i s b w serial leaf legal stands given =
    let grant = some_if (is_lms_key w.spki && same (key_id (key_of w.spki)) kid) (record { who = Cert serial; key = key_of w.spki; rights = 1 }) o given in
    let who : Cert serial ≡ o.who = ap (λ (x : Owner). x.who) grant.1 in
    ap (λ (x : Who). secret_of (h ++ more) x) (sym who)
    ∙ ap (λ (x : Option Change). unwrap_or (option_map granted_key x) []) (first_stays (is_grant_of serial) h more (Grant s b w serial leaf) (grant_found h i s b w serial leaf legal stands))
    ∙ ap (λ (x : Owner). x.key) grant.1

owner_secret : (h more : History) (kind : Kind) (kid : List ℕ) (o : Owner) (c : Change) (i : ℕ) → Legal h → slice_get h i ≡ Some c → owner_of h kind kid ≡ Some o → owner_in kind kid c ≡ Some o → secret_of (h ++ more) o.who ≡ o.key
owner_secret h more kind kid o (Enlist time list) i legal stands e given = listed_secret h more kind kid o list e given
owner_secret h more Lms kid o (Grant s b w serial leaf) i legal stands e given = granted_secret h more kid o i s b w serial leaf legal stands given
owner_secret h more Mac kid o (Grant s b w serial leaf) i legal stands e given = absurd (none-some o given)
owner_secret h more kind kid o (Found s) i legal stands e given = absurd (none-some o given)
owner_secret h more kind kid o (Dismiss time w) i legal stands e given = absurd (none-some o given)
owner_secret h more kind kid o (Hold s b w) i legal stands e given = absurd (none-some o given)
owner_secret h more kind kid o (Release time id) i legal stands e given = absurd (none-some o given)
owner_secret h more kind kid o (Deny time id) i legal stands e given = absurd (none-some o given)
owner_secret h more kind kid o (Turned s) i legal stands e given = absurd (none-some o given)
owner_secret h more kind kid o (Polled s) i legal stands e given = absurd (none-some o given)
owner_secret h more kind kid o (Settled s accepted) i legal stands e given = absurd (none-some o given)
owner_secret h more kind kid o (Revoke s n reason) i legal stands e given = absurd (none-some o given)
owner_secret h more kind kid o (Lapse time id) i legal stands e given = absurd (none-some o given)

-- the secret of a sender is its credential's, in each later history too
pub secret_is : (h more : History) (kind : Option Kind) (kid : List ℕ) (o : Owner) → Legal h → owner_for h kind kid ≡ Some o → secret_of (h ++ more) o.who ≡ o.key
unfolding owner_of
secret_is h more None kid o legal e = absurd (none-some o e)
secret_is h more (Some kind) kid o legal e =
    let given = view_found (owner_in kind kid) (find (has_owner kind kid) h) o e in
    let place = found_place (has_owner kind kid) h given.0 given.1 in
    owner_secret h more kind kid o given.0 place.0 legal place.1 e given.2
