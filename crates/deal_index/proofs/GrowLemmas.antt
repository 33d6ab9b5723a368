-- The index of a history with one more change.
use Rattle.std.proofs.Common.{◌≡◌, ℕ, suc, ◌+◌, Bool, true, false, cond, List, [], ◌∷◌, ◌++◌, length, Option, Some, None, refl, sym, ◌∙◌, ap, arith}
use Rattle.std.specs.Prelude.{option_map}
use Rattle.std.specs.Option.{option_or}
use Rattle.std.specs.List.{position_from, list_any}
use Rattle.std.specs.Str.{bytes_eq}
use Rattle.std.specs.HashMap.{HashMap, get}
use Rattle.deal_changes.specs.declared.change.Change.{Change}
use Rattle.deal_changes.specs.declared.change.Stamp.{Stamp}
use Rattle.deal_changes.specs.Times.{stamp_of}
use Rattle.deal_model.specs.Views.{History, stamp_has, is_stamped_for}
use Rattle.deal_index.specs.declared.question.Question.{Question}
use Rattle.deal_index.specs.Places.{place_of, last_place_of}
use Rattle.deal_index.specs.Questions.{same_question, is_asked_for, questions_of}
use Rattle.deal_index.specs.Index.{AreFirsts, AreLasts, Notes}
use Rattle.deal_index.proofs.AskedLemmas.{asked}

grown_from : (test : Change → Bool) (n place : ℕ) (h : History) (c : Change) → place ≡ n + length h → option_or (position_from test n h) (cond (test c) (Some place) None) ≡ position_from test n (h ++ c ∷ [])
grown_from test n place [] c at = ap (λ (k : ℕ). cond (test c) (Some k) None) (omega (arith, at))
grown_from test n place (x ∷ h) c at = elim (test x) as (λ v. option_or (cond v (Some n) (position_from test (n + 1) h)) (cond (test c) (Some place) None) ≡ cond v (Some n) (position_from test (n + 1) (h ++ c ∷ []))) [
  | true ↦ refl
  | false ↦ grown_from test (n + 1) place h c (omega (arith, at))
]

-- the first places
pub firsts_grown : {S : Type 0} (h : History) (c : Change) (place : ℕ) (m n : HashMap Question ℕ S) → place ≡ 1 + length h → AreFirsts h m → Notes (questions_of c) place m n → AreFirsts (h ++ c ∷ []) n
firsts_grown h c place m n at firsts notes q = notes q
    ∙ ap (λ (o : Option ℕ). option_or o (cond (list_any (λ own. same_question own q) (questions_of c)) (Some place) None)) (firsts q)
    ∙ ap (λ v. option_or (place_of (is_asked_for q) h) (cond v (Some place) None)) (asked q c)
    ∙ grown_from (is_asked_for q) 1 place h c at

last_of : (test : Change → Bool) (h : History) (c : Change) → last_place_of test (h ++ c ∷ []) ≡ cond (test c) (Some (suc (length h))) (last_place_of test h)
last_of test [] c = refl
last_of test (x ∷ h) c = rw (last_of test h c) (elim (test c) as (λ v. option_or (option_map suc (cond v (Some (suc (length h))) (last_place_of test h))) (cond (test x) (Some 1) None) ≡ cond v (Some (suc (suc (length h)))) (option_or (option_map suc (last_place_of test h)) (cond (test x) (Some 1) None))) [
  | true ↦ refl
  | false ↦ refl
])

-- the last places, where a message made the change
pub lasts_grown : {S : Type 0} (h : History) (c : Change) (s : Stamp) (place : ℕ) (m n : HashMap (List ℕ) ℕ S) → place ≡ 1 + length h → stamp_of c ≡ Some s → AreLasts h m → ((q : List ℕ) → get bytes_eq n q ≡ cond (bytes_eq s.tid q) (Some place) (get bytes_eq m q)) → AreLasts (h ++ c ∷ []) n
lasts_grown h c s place m n at is lasts updates q = updates q
    ∙ ap (cond (bytes_eq s.tid q) (Some place)) (lasts q)
    ∙ ap (λ (k : ℕ). cond (bytes_eq s.tid q) (Some k) (last_place_of (is_stamped_for q) h)) (omega (arith, at))
    ∙ ap (λ v. cond v (Some (suc (length h))) (last_place_of (is_stamped_for q) h)) (sym (ap (stamp_has (λ (t : Stamp). bytes_eq t.tid q)) is))
    ∙ sym (last_of (is_stamped_for q) h c)

-- and where none did
pub lasts_kept : {S : Type 0} (h : History) (c : Change) (m : HashMap (List ℕ) ℕ S) → stamp_of c ≡ None → AreLasts h m → AreLasts (h ++ c ∷ []) m
lasts_kept h c m none lasts q = lasts q
    ∙ ap (λ v. cond v (Some (suc (length h))) (last_place_of (is_stamped_for q) h)) (sym (ap (stamp_has (λ (t : Stamp). bytes_eq t.tid q)) none))
    ∙ sym (last_of (is_stamped_for q) h c)
