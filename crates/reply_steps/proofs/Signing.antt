-- What a world has signed behind a step that signs for a place.
use Rattle.std.proofs.Common.{◌≡◌, ℕ, suc, ◌-◌, Bool, true, false, cond, eqb, List, [], ◌∷◌, ◌++◌, Option, Some, eqb-true, refl, sym, subst, ◌∙◌, inl, inr}
use Rattle.std.specs.Prelude.{◌&&◌, ◌||◌, slice_get}
use Rattle.std.specs.List.{list_any}
use Rattle.deal_changes.specs.declared.change.Change.{Change}
use Rattle.deal_model.specs.declared.states.Key.{Key}
use Rattle.deal_model.specs.declared.states.Key.TheVariants.{Issue, Reply}
use Rattle.deal_model.specs.Views.{History, HasLeaf, SignsWith, signing_leaves}
use Rattle.world_core.specs.declared.world.Source.TheVariants.{Place}
use Rattle.world_core.specs.declared.world.Signed.{Signed}
use Rattle.world_core.specs.Steps.{same_key, is_signed, with_leaf, with_leaves, leaves_of_place, with_place}
use Rattle.signed_texts.specs.Laws.{Stands}
use Rattle.reply_steps.proofs.Lists.{stands_left, stands_right}

-- the leaf is among those that were signed with
pub record IsAmong (signed : List Signed) (key : Key) (leaf : ℕ) : Type 0 where
  pub entry : Signed
  pub stands : Stands entry signed
  pub key_is : entry.key ≡ key
  pub leaf_is : entry.leaf ≡ leaf

-- ---- one leaf

same_keys : (a b : Key) → same_key a b ≡ true → a ≡ b
same_keys Issue Issue e = refl
same_keys Issue Reply e = absurd (cc e)
same_keys Reply Issue e = absurd (cc e)
same_keys Reply Reply e = refl

and_both : (a b : Bool) → (a && b) ≡ true → (a ≡ true) × (b ≡ true)
and_both true b e = (refl, e)
and_both false b e = absurd (cc e)

later : (signed : List Signed) (x : Signed) (key : Key) (leaf : ℕ) → IsAmong signed key leaf → IsAmong (x ∷ signed) key leaf
later signed x key leaf is = record { entry = is.entry; stands = (suc is.stands.0, is.stands.1); key_is = is.key_is; leaf_is = is.leaf_is }

first : (signed : List Signed) (x : Signed) (key : Key) (leaf : ℕ) → is_signed key leaf x ≡ true → IsAmong (x ∷ signed) key leaf
first signed x key leaf e =
    let parts = and_both (same_key x.key key) (eqb x.leaf leaf) e in
    record { entry = x; stands = (0, refl); key_is = same_keys x.key key parts.0; leaf_is = eqb-true x.leaf leaf parts.1 }

among : (signed : List Signed) (key : Key) (leaf : ℕ) → list_any (is_signed key leaf) signed ≡ true → IsAmong signed key leaf
among [] key leaf e = absurd (cc e)
among (x ∷ signed) key leaf e = elim (is_signed key leaf x) as (λ b. is_signed key leaf x ≡ b → (b || list_any (is_signed key leaf) signed) ≡ true → IsAmong (x ∷ signed) key leaf) [
  | true ↦ λ here _. first signed x key leaf here
  | false ↦ λ _ more. later signed x key leaf (among signed key leaf more)
] refl e

more_among : (signed more : List Signed) (key : Key) (leaf : ℕ) → IsAmong signed key leaf → IsAmong (signed ++ more) key leaf
more_among signed more key leaf is = record { entry = is.entry; stands = stands_left is.entry signed more is.stands; key_is = is.key_is; leaf_is = is.leaf_is }

-- ---- leaves that are signed with

has_leaf : (signed : List Signed) (key : Key) (leaf place : ℕ) → IsAmong (with_leaf signed key leaf place) key leaf
has_leaf signed key leaf place = elim (list_any (is_signed key leaf) signed) as (λ b. list_any (is_signed key leaf) signed ≡ b → IsAmong (cond b signed (signed ++ record { key = key; leaf = leaf; source = Place place } ∷ [])) key leaf) [
  | true ↦ λ there. among signed key leaf there
  | false ↦ λ _. record { entry = record { key = key; leaf = leaf; source = Place place }; stands = stands_right (record { key = key; leaf = leaf; source = Place place }) signed (record { key = key; leaf = leaf; source = Place place } ∷ []) (0, refl); key_is = refl; leaf_is = refl }
] refl

leaf_keeps : (signed : List Signed) (k : Key) (l place : ℕ) (key : Key) (leaf : ℕ) → IsAmong signed key leaf → IsAmong (with_leaf signed k l place) key leaf
leaf_keeps signed k l place key leaf is = elim (list_any (is_signed k l) signed) as (λ b. IsAmong (cond b signed (signed ++ record { key = k; leaf = l; source = Place place } ∷ [])) key leaf) [
  | true ↦ is
  | false ↦ more_among signed (record { key = k; leaf = l; source = Place place } ∷ []) key leaf is
]

leaves_keep : (signed : List Signed) (leaves : List (Key × ℕ)) (place : ℕ) (key : Key) (leaf : ℕ) → IsAmong signed key leaf → IsAmong (with_leaves signed leaves place) key leaf
leaves_keep signed [] place key leaf is = is
leaves_keep signed (x ∷ xs) place key leaf is = leaves_keep (with_leaf signed x.0 x.1 place) xs place key leaf (leaf_keeps signed x.0 x.1 place key leaf is)

named : (signed : List Signed) (k key : Key) (l leaf : ℕ) → k ≡ key → l ≡ leaf → IsAmong signed k l → IsAmong signed key leaf
named signed k key l leaf a b is = record { entry = is.entry; stands = is.stands; key_is = is.key_is ∙ a; leaf_is = is.leaf_is ∙ b }

has_leaves : (signed : List Signed) (leaves : List (Key × ℕ)) (place : ℕ) (key : Key) (leaf : ℕ) → HasLeaf leaves key leaf → IsAmong (with_leaves signed leaves place) key leaf
has_leaves signed [] place key leaf has = elim has [ ]
has_leaves signed (x ∷ xs) place key leaf (inl is) = leaves_keep (with_leaf signed x.0 x.1 place) xs place key leaf (named (with_leaf signed x.0 x.1 place) x.0 key x.1 leaf is.0 is.1 (has_leaf signed x.0 x.1 place))
has_leaves signed (x ∷ xs) place key leaf (inr has) = has_leaves (with_leaf signed x.0 x.1 place) xs place key leaf has

-- ---- places that are signed for

pub place_keeps : (signed : List Signed) (h : History) (place : ℕ) (key : Key) (leaf : ℕ) → IsAmong signed key leaf → IsAmong (with_place signed h place) key leaf
place_keeps signed h place key leaf is = leaves_keep signed (leaves_of_place (slice_get h (place - 1))) place key leaf is

pub has_place : (signed : List Signed) (h : History) (place : ℕ) (c : Change) (key : Key) (leaf : ℕ) → slice_get h (place - 1) ≡ Some c → SignsWith c key leaf → IsAmong (with_place signed h place) key leaf
has_place signed h place c key leaf there signs =
    subst (λ (o : Option Change). IsAmong (with_leaves signed (leaves_of_place o) place) key leaf) (sym there) (has_leaves signed (signing_leaves c) place key leaf signs)
