-- The tables of an array, by the values that it is made of.
use Rattle.std.proofs.Common.{◌≡◌, ℕ, suc, ◌<◌, ◌≤◌, ◌&&◌, Bool, true, false, List, [], ◌∷◌, length, Option, Some, None, is_some, IsSome, refl, ap, arith}
use Rattle.std.specs.List.{list_all}
use Rattle.std.proofs.lemmas.Bool.{and_parts, false≢true}
use Rattle.std.proofs.lemmas.Bool.Decides.{nat_tests}
use Rattle.deal_changes.specs.Bind.{◌>>=◌}
use Rattle.toml.specs.Data.{Members, as_table}
use Rattle.toml.specs.View.{view, items_view}
use Rattle.toml.specs.declared.value.Value.{Value}
use Rattle.registry.specs.Forms.{data_of, tables_of, if_sized}

-- a table in front of others
abbrev in_front : Option Members → Option (List Members) → Option (List Members)
in_front t more = t >>= (λ x. more >>= (λ xs. Some (x ∷ xs)))

-- there are so many tables
record Are (tables : Option (List Members)) (n : ℕ) : Type 0 where
  list : List Members
  is : tables ≡ Some list
  sized : length list ≡ n

one_more : (t : Option Members) (more : Option (List Members)) (n : ℕ) → is_some t ≡ true → Are more n → Are (in_front t more) (suc n)
one_more None more n h a = absurd (false≢true h)
one_more (Some t) more n h a = record { list = t ∷ a.list; is = rw a.is refl; sized = ap suc a.sized }

all_tables : (vs : List Value) → list_all (λ v. is_some (as_table (view v))) vs ≡ true → Are (tables_of (data_of (items_view vs))) (length vs)
all_tables [] h = record { list = []; is = refl; sized = refl }
all_tables (v ∷ vs) h =
    let (here, more) = and_parts (is_some (as_table (view v))) (list_all (λ w. is_some (as_table (view w))) vs) h in
    one_more (as_table (view v)) (tables_of (data_of (items_view vs))) (length vs) here (all_tables vs more)

none_more : (t : Option Members) (more : Option (List Members)) (b : Bool) → (b ≡ false → more ≡ None) → (is_some t && b) ≡ false → in_front t more ≡ None
none_more None more b n h = refl
none_more (Some t) more b n h = rw (n h)

pub no_tables : (vs : List Value) → list_all (λ v. is_some (as_table (view v))) vs ≡ false → tables_of (data_of (items_view vs)) ≡ None
no_tables [] h = absurd (cc h)
no_tables (v ∷ vs) h = none_more (as_table (view v)) (tables_of (data_of (items_view vs))) _ (no_tables vs) h

pub some_tables : (vs : List Value) → list_all (λ v. is_some (as_table (view v))) vs ≡ true → IsSome (tables_of (data_of (items_view vs)))
some_tables vs h = let a = all_tables vs h in rw a.is refl

sized_of : (least most n : ℕ) (tables : Option (List Members)) → Are tables n → least ≤ n → n ≤ most → (tables >>= if_sized least most) ≡ tables
sized_of least most n tables a l m = rw a.is (let s = a.sized in grind (arith, nat_tests, s))

few_of : (least most n : ℕ) (tables : Option (List Members)) → Are tables n → n < least → (tables >>= if_sized least most) ≡ None
few_of least most n tables a l = rw a.is (let s = a.sized in grind (arith, nat_tests, s))

many_of : (least most n : ℕ) (tables : Option (List Members)) → Are tables n → most < n → (tables >>= if_sized least most) ≡ None
many_of least most n tables a m = rw a.is (let s = a.sized in grind (arith, nat_tests, s))

pub sized_tables : (least most : ℕ) (vs : List Value) → list_all (λ v. is_some (as_table (view v))) vs ≡ true → least ≤ length vs → length vs ≤ most
    → (tables_of (data_of (items_view vs)) >>= if_sized least most) ≡ tables_of (data_of (items_view vs))
sized_tables least most vs h l m = sized_of least most (length vs) _ (all_tables vs h) l m

pub few_tables : (least most : ℕ) (vs : List Value) → list_all (λ v. is_some (as_table (view v))) vs ≡ true → length vs < least
    → (tables_of (data_of (items_view vs)) >>= if_sized least most) ≡ None
few_tables least most vs h l = few_of least most (length vs) _ (all_tables vs h) l

pub many_tables : (least most : ℕ) (vs : List Value) → list_all (λ v. is_some (as_table (view v))) vs ≡ true → most < length vs
    → (tables_of (data_of (items_view vs)) >>= if_sized least most) ≡ None
many_tables least most vs h m = many_of least most (length vs) _ (all_tables vs h) m
