-- Rows that pass, and rows behind one another.
use Rattle.std.proofs.Common.{◌≡◌, Bool, true, false, not, ◌||◌, cond, List, [], ◌∷◌, ◌++◌, refl, ap, ◌∙◌}
use Rattle.std.specs.List.{list_any}
use Rattle.deal_table.specs.Table.{Row, To, Decision, Refuses, unless, pass}

pub false_true : (P : Type 0) → false ≡ true → P
false_true P e = absurd cc

pub unless_append : (to : To) (xs ys : List Row) (next : Decision) → unless to (xs ++ ys) next ≡ unless to xs (unless to ys next)
unless_append to [] ys next = refl
unless_append to (row ∷ xs) ys next = ap (λ d. cond row.applies (Refuses row.fail to) d) (unless_append to xs ys next)

pub unless_passed : (to : To) (rows : List Row) (next : Decision) → pass rows ≡ true → unless to rows next ≡ next
unless_passed to [] next p = refl
unless_passed to (row ∷ rows) next p = elim row.applies as (λ v. not (v || list_any (λ r. r.applies) rows) ≡ true → cond v (Refuses row.fail to) (unless to rows next) ≡ next) [
  | true ↦ λ q. false_true _ q
  | false ↦ λ q. unless_passed to rows next q
] p

-- the second of two lists passes
pub unless_second : (to : To) (xs ys : List Row) (next : Decision) → pass ys ≡ true → unless to (xs ++ ys) next ≡ unless to xs next
unless_second to xs ys next p = unless_append to xs ys next ∙ ap (unless to xs) (unless_passed to ys next p)

-- the second of three, and of four
pub unless_of_three : (to : To) (xs ys zs : List Row) (next : Decision) → pass ys ≡ true → unless to (xs ++ ys ++ zs) next ≡ unless to xs (unless to zs next)
unless_of_three to xs ys zs next p = unless_append to (xs ++ ys) zs next ∙ unless_second to xs ys (unless to zs next) p

pub unless_of_four : (to : To) (xs ys zs us : List Row) (next : Decision) → pass ys ≡ true → unless to (xs ++ ys ++ zs ++ us) next ≡ unless to xs (unless to zs (unless to us next))
unless_of_four to xs ys zs us next p = unless_append to (xs ++ ys ++ zs) us next ∙ unless_of_three to xs ys zs (unless to us next) p

-- where rows pass, the second one doesn't apply
pub second_passes : (first second others : Bool) → not (first || (second || others)) ≡ true → second ≡ false
second_passes true second others p = false_true _ p
second_passes false true others p = false_true _ p
second_passes false false others p = refl
