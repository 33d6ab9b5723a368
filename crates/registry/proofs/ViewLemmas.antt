-- The parts of tables and arrays, by the values that they are made of.
use Rattle.std.proofs.Common.{Bor, BTreeMap, sym, ◌≡◌, ℕ, ◌+◌, Bool, cond, List, [], ◌∷◌, length, map, String, Global, string_bytes, count_by, refl, ap, ◌∙◌}
use Rattle.std.specs.List.{list_any, list_all}
use Rattle.std.specs.Str.{bytes_eq}
use Rattle.std.specs.BTreeMap.{keys}
use Rattle.std.proofs.lemmas.List.{length-map}
use Rattle.std.proofs.lemmas.List.Sums.{sum_by-cons}
use Rattle.toml.specs.Data.{Data}
use Rattle.toml.specs.View.{view, items_view, members_view, table_view}
use Rattle.toml.specs.declared.value.Value.{Value}
use Rattle.registry.specs.Forms.{data_of, is_word, times, keys_of, is_among, has_only}

pub data_of-view : (vs : List Value) → data_of (items_view vs) ≡ map view vs
data_of-view [] = refl
data_of-view (v ∷ vs) = ap (λ ds. view v ∷ ds) (data_of-view vs)

count_by-view : (p : Data → Bool) (vs : List Value) → count_by p (map view vs) ≡ count_by (λ v. p (view v)) vs
count_by-view p [] = refl
count_by-view p (v ∷ vs) =
    sum_by-cons (λ d. cond (p d) 1 0) (view v) (map view vs)
    ∙ ap (λ n. cond (p (view v)) 1 0 + n) (count_by-view p vs)
    ∙ sym (sum_by-cons (λ w. cond (p (view w)) 1 0) v vs)

pub times_view : (word : List ℕ) (vs : List Value) → times word (data_of (items_view vs)) ≡ count_by (λ v. is_word word (view v)) vs
times_view word vs = rw (data_of-view vs) (count_by-view (is_word word) vs)

pub count_view : (vs : List Value) → length (data_of (items_view vs)) ≡ length vs
count_view vs = rw (data_of-view vs) (length-map vs view)

list_any-map : {X Y : Type 0} (p : X → Bool) (h : Y → X) (ys : List Y) → list_any p (map h ys) ≡ list_any (λ y. p (h y)) ys
list_any-map p h [] = refl
list_any-map p h (y ∷ ys) = rw (list_any-map p h ys)

only_entries : (words : List (Bor (List ℕ))) (es : List (String Global × Value)) → list_all (is_among (map (λ word. word.now) words)) (keys_of (members_view es))
    ≡ list_all (λ key. list_any (λ word. bytes_eq (string_bytes key) word.now) words) (map (λ e. e.0) es)
only_entries words [] = refl
only_entries words (e ∷ es) = rw (list_any-map (bytes_eq (string_bytes e.0)) (λ word. word.now) words, only_entries words es)

-- the keys of a table are those of its map
pub only_view : (words : List (Bor (List ℕ))) (t : BTreeMap (String Global) Value) → has_only (map (λ word. word.now) words) (table_view t)
    ≡ list_all (λ key. list_any (λ word. bytes_eq (string_bytes key) word.now) words) (keys t)
unfolding has_only
only_view words t = only_entries words t.entries
