-- The receipt of a transaction's Grant has the Grant's place.
use Rattle.std.proofs.Common.{◌≡◌, ℕ, suc, ◌+◌, Bool, true, false, cond, List, [], ◌∷◌, take, Option, Some, None, refl, ap, subst, sym, ◌∙◌, arith}
use Rattle.std.specs.Prelude.{slice_get}
use Rattle.std.specs.List.{position_from}
use Rattle.std.proofs.lemmas.Option.{none-some, same_Some}
use Rattle.deal_changes.specs.declared.change.Change.{Change}
use Rattle.deal_changes.specs.declared.change.Change.TheVariants.{Found, Enlist, Dismiss, Grant, Hold, Release, Deny, Turned, Polled, Settled, Revoke, Lapse}
use Rattle.deal_model.specs.Views.{History, is_grant_for}
use Rattle.cmp_values.specs.declared.fail_info.FailInfo.TheVariants.{BadCertId}
use Rattle.deal_table.specs.History.{Receipted, place_of, receipt_of, receipt_in, receipt_at, grant_receipt}
use Rattle.deal_table.specs.Table.{To, Decision, Refuses, compared, compared_with}
use Rattle.deal_table.proofs.Rows.{false_true}

-- a place, counted from n, and what stands there
abbrev IsAt : (Change → Bool) → ℕ → History → ℕ → Type 0
IsAt test n h place = (i : ℕ) × (c : Change) × (place ≡ n + i) × (slice_get h i ≡ Some c) × (test c ≡ true)

placed : (test : Change → Bool) (n : ℕ) (h : History) (place : ℕ) → position_from test n h ≡ Some place → IsAt test n h place
placed test n [] place e = absurd (none-some place e)
placed test n (c ∷ h) place e = elim (test c) as (λ v. test c ≡ v → cond v (Some n) (position_from test (n + 1) h) ≡ Some place → IsAt test n (c ∷ h) place) [
  | true ↦ λ is f. let q : n ≡ place = same_Some n place f in (0, c, omega (arith, q), refl, is)
  | false ↦ λ is f. let r = placed test (n + 1) h place f in (suc r.0, r.1, omega (arith, r.2), r.3, r.4)
] refl e

abbrev IsReceiptOf : ℕ → Option Receipted → Type 0
IsReceiptOf place found = (r : Receipted) × (found ≡ Some r) × (r.place ≡ place)

receipted : (h : History) (place : ℕ) (tid : List ℕ) (c : Change) → is_grant_for tid c ≡ true → IsReceiptOf place (receipt_in h place c)
receipted h place tid (Grant s b w serial leaf) e = (receipt_of h place (Grant s b w serial leaf) s, refl, refl)
receipted h place tid (Found s) e = false_true _ e
receipted h place tid (Enlist time list) e = false_true _ e
receipted h place tid (Dismiss time w) e = false_true _ e
receipted h place tid (Hold s b w) e = false_true _ e
receipted h place tid (Release time id) e = false_true _ e
receipted h place tid (Deny time id) e = false_true _ e
receipted h place tid (Turned s) e = false_true _ e
receipted h place tid (Polled s) e = false_true _ e
receipted h place tid (Settled s accepted) e = false_true _ e
receipted h place tid (Revoke s serial reason) e = false_true _ e
receipted h place tid (Lapse time id) e = false_true _ e

at_index : (h : History) (i : ℕ) (tid : List ℕ) (c : Change) → slice_get h i ≡ Some c → is_grant_for tid c ≡ true → IsReceiptOf (suc i) (receipt_at h (suc i))
unfolding receipt_at
at_index h i tid c e is = let g = receipted (take (suc i) h) (suc i) tid c is in (g.0, rw e g.1, g.2)

at_place : (h : History) (tid : List ℕ) (place : ℕ) → place_of (is_grant_for tid) h ≡ Some place → IsReceiptOf place (receipt_at h place)
at_place h tid place e =
    let r = placed (is_grant_for tid) 1 h place e in
    let next : suc r.0 ≡ place = omega (arith, r.2) in
    subst (λ (n : ℕ). IsReceiptOf n (receipt_at h n)) next (at_index h r.0 tid r.1 r.3 r.4)

-- certHash is compared with the certificate of the Grant at its place
pub compared_at : (to : To) (told : Option Bool) (h : History) (tid : List ℕ) (place : ℕ) (next : Decision) → place_of (is_grant_for tid) h ≡ Some place → compared_with to (λ r. told) (grant_receipt h tid) next ≡ compared to place told next
unfolding grant_receipt
compared_at to told h tid place next e = let r = at_place h tid place e in rw (e, r.1) (ap (λ n. compared to n told next) r.2)

pub compared_nowhere : (to : To) (told : Option Bool) (h : History) (tid : List ℕ) (next : Decision) → place_of (is_grant_for tid) h ≡ None → compared_with to (λ r. told) (grant_receipt h tid) next ≡ Refuses BadCertId to
unfolding grant_receipt
compared_nowhere to told h tid next e = rw e refl
