-- Signed leaves and lists that grow.
use Rattle.std.proofs.Common.{◌≡◌, ℕ, zero, suc, ◌+◌, ◌-◌, ◌<◌, ◌≤◌, Bool, true, false, cond, List, [], ◌∷◌, ◌++◌, length, take, Option, Some, None, refl, sym, ap, subst, ◌∙◌, append_assoc, arith, inl, inr, ◌⊎◌}
use Rattle.std.specs.List.{slice_get, list_any, AllByRecursion}
use Rattle.std.proofs.lemmas.List.{append-nil, take-append-le, length-append}
use Rattle.std.proofs.lemmas.Option.{same_Some, none-some, slice_get_within}
use Rattle.deal_changes.specs.declared.change.Change.{Change}
use Rattle.deal_model.specs.declared.states.Key.{Key}
use Rattle.deal_model.specs.Views.{History, HasLeaf, signing_leaves}
use Rattle.world_core.specs.declared.world.Source.TheVariants.{Place}
use Rattle.world_core.specs.declared.world.Signed.{Signed}
use Rattle.world_core.specs.Steps.{is_signed, with_leaf, with_leaves, leaves_of_place, with_place, with_change}
use Rattle.world_core.specs.Safety.{IsPlace, IsEntry, place_of, Begins}

pub begins_same : {X : Type 0} (xs : List X) → Begins xs xs
begins_same xs = ([], sym (append-nil xs))

pub begins_push : {X : Type 0} (xs : List X) (x : X) → Begins xs (xs ++ x ∷ [])
begins_push xs x = (x ∷ [], refl)

pub begins_then : {X : Type 0} (xs ys zs : List X) → Begins xs ys → Begins ys zs → Begins xs zs
begins_then xs ys zs a b = (a.0 ++ b.0, b.1 ∙ ap (λ l. l ++ b.0) a.1 ∙ append_assoc xs a.0 b.0)

pub begins_take : {X : Type 0} (xs ys : List X) (n : ℕ) → n ≤ length xs → Begins xs ys → take n ys ≡ take n xs
begins_take xs ys n le b = ap (take n) b.1 ∙ take-append-le n xs b.0 le

pub begins_length : {X : Type 0} (xs ys : List X) → Begins xs ys → length xs ≤ length ys
begins_length xs ys b = omega (arith, ap length b.1, length-append xs b.0)

pub begins_change : (h : History) (o : Option Change) → Begins h (with_change h o)
begins_change h (Some c) = begins_push h c
begins_change h None = begins_same h

get_more : {X : Type 0} (xs more : List X) (i : ℕ) (x : X) → slice_get xs i ≡ Some x → slice_get (xs ++ more) i ≡ Some x
get_more [] more i x e = absurd (none-some x e)
get_more (y ∷ xs) more zero x e = e
get_more (y ∷ xs) more (suc i) x e = get_more xs more i x e

pub all_push : {X : Type 0} (P : X → Type 0) (xs : List X) (x : X) → AllByRecursion P xs → P x → AllByRecursion P (xs ++ x ∷ [])
all_push P [] x all p = (p, tt)
all_push P (y ∷ xs) x all p = (all.0, all_push P xs x all.1 p)

pub all_more : {X : Type 0} (P Q : X → Type 0) (xs : List X) → ((x : X) → P x → Q x) → AllByRecursion P xs → AllByRecursion Q xs
all_more P Q [] there all = tt
all_more P Q (x ∷ xs) there all = (there x all.0, all_more P Q xs there all.1)

pub all_get : {X : Type 0} (P : X → Type 0) (xs : List X) (i : ℕ) (x : X) → AllByRecursion P xs → slice_get xs i ≡ Some x → P x
all_get P [] i x all e = absurd (none-some x e)
all_get P (y ∷ xs) zero x all e = subst P (same_Some y x e) all.0
all_get P (y ∷ xs) (suc i) x all e = all_get P xs i x all.1 e

-- ---- entries stay as the history grows

pub entry_later : (h g : History) (a b : ℕ) (e : Signed) → Begins h g → a ≤ b → IsEntry h a e → IsEntry g b e
entry_later h g a b e more le entry = record {
  low = entry.low;
  high = (let top : place_of e.source ≤ a = entry.high in omega arith);
  change = entry.change;
  stands = ap (λ (l : History). slice_get l (place_of e.source - 1)) more.1 ∙ get_more h more.0 (place_of e.source - 1) entry.change entry.stands;
  has = entry.has;
}

pub entries_later : (h g : History) (a b : ℕ) (es : List Signed) → Begins h g → a ≤ b → AllByRecursion (IsEntry h a) es → AllByRecursion (IsEntry g b) es
entries_later h g a b es more le all = all_more (IsEntry h a) (IsEntry g b) es (λ e entry. entry_later h g a b e more le entry) all

pub places_later : (a b : ℕ) (ns : List ℕ) → a ≤ b → AllByRecursion (IsPlace a) ns → AllByRecursion (IsPlace b) ns
places_later a b ns le all = all_more (IsPlace a) (IsPlace b) ns (λ n p. (p.0, (let top : n ≤ a = p.1 in omega arith))) all

-- ---- signing

entry_of : Key → ℕ → ℕ → Signed
entry_of key leaf place = record { key = key; leaf = leaf; source = Place place }

leaf_all : (P : Signed → Type 0) (signed : List Signed) (key : Key) (leaf place : ℕ) → AllByRecursion P signed → P (record { key = key; leaf = leaf; source = Place place }) → AllByRecursion P (with_leaf signed key leaf place)
leaf_all P signed key leaf place all p = elim (list_any (is_signed key leaf) signed) as (λ b. AllByRecursion P (cond b signed (signed ++ record { key = key; leaf = leaf; source = Place place } ∷ []))) [
  | true ↦ all
  | false ↦ all_push P signed (record { key = key; leaf = leaf; source = Place place }) all p
]

leaves_all : (P : Signed → Type 0) (signed : List Signed) (leaves : List (Key × ℕ)) (place : ℕ) → AllByRecursion P signed → ((key : Key) (leaf : ℕ) → HasLeaf leaves key leaf → P (record { key = key; leaf = leaf; source = Place place })) → AllByRecursion P (with_leaves signed leaves place)
leaves_all P signed [] place all each = all
leaves_all P signed (x ∷ xs) place all each = leaves_all P (with_leaf signed x.0 x.1 place) xs place (leaf_all P signed x.0 x.1 place all (each x.0 x.1 (inl (refl, refl)))) (λ key leaf has. each key leaf (inr has))

leaf_begins : (signed : List Signed) (key : Key) (leaf place : ℕ) → Begins signed (with_leaf signed key leaf place)
leaf_begins signed key leaf place = elim (list_any (is_signed key leaf) signed) as (λ b. Begins signed (cond b signed (signed ++ record { key = key; leaf = leaf; source = Place place } ∷ []))) [
  | true ↦ begins_same signed
  | false ↦ begins_push signed (record { key = key; leaf = leaf; source = Place place })
]

leaves_begin : (signed : List Signed) (leaves : List (Key × ℕ)) (place : ℕ) → Begins signed (with_leaves signed leaves place)
leaves_begin signed [] place = begins_same signed
leaves_begin signed (x ∷ xs) place = begins_then signed (with_leaf signed x.0 x.1 place) (with_leaves (with_leaf signed x.0 x.1 place) xs place) (leaf_begins signed x.0 x.1 place) (leaves_begin (with_leaf signed x.0 x.1 place) xs place)

pub place_begins : (signed : List Signed) (h : History) (n : ℕ) → Begins signed (with_place signed h n)
place_begins signed h n = leaves_begin signed (leaves_of_place (slice_get h (n - 1))) n

pub place_entries : (signed : List Signed) (h : History) (acked n : ℕ) → 1 ≤ n → n ≤ acked → AllByRecursion (IsEntry h acked) signed → AllByRecursion (IsEntry h acked) (with_place signed h n)
place_entries signed h acked n low high all = elim (slice_get h (n - 1)) as (λ o. slice_get h (n - 1) ≡ o → AllByRecursion (IsEntry h acked) (with_leaves signed (leaves_of_place o) n)) [
  | None ↦ λ _. all
  | Some c ↦ λ here. leaves_all (IsEntry h acked) signed (signing_leaves c) n all (λ key leaf has. record { low = low; high = high; change = c; stands = here; has = has })
] refl
