-- The outcome of rows, and what comes of them in the table.
use Rattle.std.proofs.Common.{◌≡◌, Bool, true, false, cond, List, [], ◌∷◌, ◌++◌, Option, Some, None, Result, Ok, Err, IfOk, refl, sym, ap}
use Rattle.std.specs.Prelude.{is_none, if◌then◌else◌}
use Rattle.std.specs.Result.{result_and}
use Rattle.deal_changes.specs.declared.change.Kind.{Kind}
use Rattle.deal_model.specs.declared.states.Owner.{Owner}
use Rattle.deal_model.specs.declared.states.Standing.{Standing}
use Rattle.deal_model.specs.declared.states.Standing.TheVariants.{Unknown, OtherKind, Barred, Good}
use Rattle.cmp_values.specs.declared.fail_info.FailInfo.{FailInfo}
use Rattle.cmp_values.specs.declared.fail_info.FailInfo.TheVariants.{BadAlg}
use Rattle.deal_table.specs.Table.{Row, To, Decision, Refuses, unless, known}
use Rattle.deal_rulings.specs.declared.ruling.Ruling.{Ruling}
use Rattle.deal_rulings.specs.Rulings.{ruling_of, outcome, sender_in}

-- the first row of two groups is the first of the one, or else of the other
joins : (a b : List Row) → outcome (a ++ b) ≡ result_and (outcome a) (outcome b)
joins [] b = refl
joins (row ∷ a) b = elim row.applies as (λ v. cond v (Err row.fail) (outcome (a ++ b)) ≡ result_and (cond v (Err row.fail) (outcome a)) (outcome b)) [
  | true ↦ refl
  | false ↦ joins a b
]

pub joined : (a b : List Row) (p q r : Result (Unit {0}) FailInfo) → r ≡ result_and p q → p ≡ outcome a → q ≡ outcome b → r ≡ outcome (a ++ b)
joined a b p q r e f g = rw (e, f, g) (sym (joins a b))

refuses : (to : To) (rows : List Row) (next : Decision) (fail : FailInfo) → Err fail ≡ outcome rows → unless to rows next ≡ Refuses fail to
refuses to [] next fail e = absurd (let f : Err fail ≡ Ok tt = e in cc)
refuses to (row ∷ rows) next fail e = elim row.applies as (λ v. Err fail ≡ cond v (Err row.fail) (outcome rows) → cond v (Refuses row.fail to) (unless to rows next) ≡ Refuses fail to) [
  | true ↦ λ q. let f : Err fail ≡ Err row.fail = q in cc
  | false ↦ λ q. refuses to rows next fail q
] e

goes_on : (to : To) (rows : List Row) (next : Decision) → Ok tt ≡ outcome rows → unless to rows next ≡ next
goes_on to [] next e = refl
goes_on to (row ∷ rows) next e = elim row.applies as (λ v. Ok tt ≡ cond v (Err row.fail) (outcome rows) → cond v (Refuses row.fail to) (unless to rows next) ≡ next) [
  | true ↦ λ q. absurd (let f : Ok tt ≡ Err row.fail = q in cc)
  | false ↦ λ q. goes_on to rows next q
] e

-- a refusal, where a row applies
pub refused_by : (to : To) (rows : List Row) (next : Decision) (fail : FailInfo) (r : Ruling) → Err fail ≡ outcome rows → r ≡ ruling_of (Refuses fail to) → r ≡ ruling_of (unless to rows next)
refused_by to rows next fail r e f = rw (refuses to rows next fail e) f

-- what comes behind rows of which none applies
pub passed_by : {E : Type 0} (to : To) (rows : List Row) (next : Decision) (r : Result Ruling E) → Ok tt ≡ outcome rows → IfOk r (λ x. x ≡ ruling_of next) → IfOk r (λ x. x ≡ ruling_of (unless to rows next))
passed_by to rows next r e f = rw (goes_on to rows next e) f

abbrev owner_or : Owner → Result Owner FailInfo → Owner
owner_or other (Ok o) = o
owner_or other (Err fail) = other

-- what comes of a sender who is known
known_as : (to : To) (kind : Option Kind) (standing : Standing) (o : Owner) (rest : Owner → Decision) → Ok o ≡ sender_in kind standing → (if is_none kind then Refuses BadAlg to else known to standing rest) ≡ rest o
known_as to None standing o rest e = absurd (let f : Ok o ≡ Err BadAlg = e in cc)
known_as to (Some kind) Unknown o rest e = absurd (let f : Ok o ≡ Err _ = e in cc)
known_as to (Some kind) OtherKind o rest e = absurd (let f : Ok o ≡ Err _ = e in cc)
known_as to (Some kind) Barred o rest e = absurd (let f : Ok o ≡ Err _ = e in cc)
known_as to (Some kind) (Good who key rights) o rest e = ap (λ found. rest (owner_or o found)) (sym e)

pub known_by : {E : Type 0} (to : To) (kind : Option Kind) (standing : Standing) (o : Owner) (rest : Owner → Decision) (r : Result Ruling E) → Ok o ≡ sender_in kind standing → IfOk r (λ x. x ≡ ruling_of (rest o)) → IfOk r (λ x. x ≡ ruling_of (if is_none kind then Refuses BadAlg to else known to standing rest))
known_by to kind standing o rest r e f = rw (known_as to kind standing o rest e) f
