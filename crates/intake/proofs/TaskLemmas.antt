-- What a message is about, as the rows of a look ask.
use Rattle.std.proofs.Common.{◌≡◌, ℕ, Bool, true, false, List, ◌++◌, length, Option, Some, None, IsTrue, refl, sym, ap, subst, ◌∙◌}
use Rattle.std.specs.Prelude.{not, ◌||◌, ◌&&◌, Result, Ok, Err, IfOk, IfErr}
use Rattle.deal_model.specs.declared.states.Owner.{Owner}
use Rattle.deal_table.specs.Message.{Enrolment}
use Rattle.cmp_values.specs.declared.fail_info.FailInfo.{FailInfo}
use Rattle.deal_table.specs.Table.{Row, To, Decision, Refuses, unless, may_enrol, is_certificate, is_kur, is_other_name, is_other_old, wish_rows}
use Rattle.deal_table.proofs.Rows.{unless_append, unless_passed}
use Rattle.intake.specs.Made.{FirstApplies}

-- of two lists of rows the first one refuses, or the second, or both pass
pub first_of_two : (fail : FailInfo) (to : To) (xs ys : List Row) (next : Decision) → FirstApplies xs (Some fail) → unless to (xs ++ ys) next ≡ Refuses fail to
first_of_two fail to xs ys next first = unless_append to xs ys next ∙ first to (unless to ys next)

pub second_of_two : (fail : FailInfo) (to : To) (xs ys : List Row) (next : Decision) → FirstApplies xs None → FirstApplies ys (Some fail) → unless to (xs ++ ys) next ≡ Refuses fail to
second_of_two fail to xs ys next passes second = unless_append to xs ys next ∙ unless_passed to xs (unless to ys next) passes ∙ second to next

pub both_pass : (to : To) (xs ys : List Row) (next : Decision) → FirstApplies xs None → FirstApplies ys None → unless to (xs ++ ys) next ≡ next
both_pass to xs ys next first second = unless_append to xs ys next ∙ unless_passed to xs (unless to ys next) first ∙ unless_passed to ys next second

key_by : (a b s k f o x d y : Bool) → not (a || (b || ((not s || not k || f || o || x) || (d || (y || false))))) ≡ true → k ≡ true
key_by a b s true f o x d y e = refl
key_by true b s false f o x d y e = absurd (let h : false ≡ true = e in cc)
key_by false true s false f o x d y e = absurd (let h : false ≡ true = e in cc)
key_by false false true false f o x d y e = absurd (let h : false ≡ true = e in cc)
key_by false false false false f o x d y e = absurd (let h : false ≡ true = e in cc)

-- what passes the rows of a wish names a key
pub names_key : (name : List ℕ) (o : Owner) (e : Enrolment) → FirstApplies (wish_rows name o e) None → e.has_key ≡ true
names_key name o e passes =
    key_by (not e.is_one) (not (may_enrol o) || (is_kur e.body && not (is_certificate o.who))) e.has_subject e.has_key e.has_bad_field (is_other_name name e.issuer) e.has_bad_extension e.has_bad_alg (is_kur e.body && is_other_old name o e.old) passes

-- what holds of an answer, from what holds of it elsewhere
pub ok_then : {A E : Type 0} {P Q : A → Type 0} (r : Result A E) → IfOk r P → ((x : A) → P x → Q x) → IfOk r Q
ok_then (Ok x) p f = f x p
ok_then (Err e) p f = tt

pub err_then : {A E : Type 0} {P Q : E → Type 0} (r : Result A E) → IfErr r P → ((e : E) → P e → Q e) → IfErr r Q
err_then (Ok x) p f = tt
err_then (Err e) p f = f e p
