-- What notes of questions leave in a map.
use Rattle.std.proofs.Common.{◌≡◌, ℕ, ◌+◌, ◌<◌, Bool, true, false, cond, List, [], ◌∷◌, ◌++◌, Option, Some, None, refl, sym, ◌∙◌, ap, subst, length, take, get_or}
use Rattle.std.specs.Prelude.{◌||◌}
use Rattle.std.specs.Option.{option_or}
use Rattle.std.specs.List.{list_any, flat_map}
use Rattle.std.proofs.lemmas.List.{flat_map_more, take_more}
use Rattle.deal_changes.specs.declared.change.Credential.{Credential}
use Rattle.std.specs.HashMap.{HashMap, get, get_by}
use Rattle.deal_index.specs.declared.question.Question.{Question}
use Rattle.deal_index.specs.contracts.question.QuestionEq.TheImpl.Laws.{laws-law}
use Rattle.deal_index.specs.Questions.{same_question, questions_of_entry}
use Rattle.deal_index.specs.Index.{Notes}

same_place : {S : Type 0} (m : HashMap Question ℕ S) (q p : Question) → same_question q p ≡ true → get same_question m q ≡ get same_question m p
same_place m q p e = ap (λ (t : Question → Bool). get_by t m) (λ i z. laws-law.congr q p z e i)

or_none : (o : Option ℕ) → option_or o None ≡ o
or_none None = refl
or_none (Some n) = refl

kept : (o p : Option ℕ) (n : ℕ) → o ≡ Some n → o ≡ option_or o p
kept o p n e = e ∙ sym (ap (λ (r : Option ℕ). option_or r p) e)

-- a question without a place gets this one
pub noted_new : {S : Type 0} (m n : HashMap Question ℕ S) (own : Question) (place : ℕ) → get same_question m own ≡ None → ((q : Question) → get same_question n q ≡ cond (same_question own q) (Some place) (get same_question m q)) → Notes (own ∷ []) place m n
noted_new m n own place none updates q = updates q ∙ (elim (same_question own q) as (λ b. same_question own q ≡ b → cond b (Some place) (get same_question m q) ≡ option_or (get same_question m q) (cond (b || false) (Some place) None)) [
  | true ↦ λ e. ap (λ (o : Option ℕ). option_or o (Some place)) (sym none ∙ same_place m own q e)
  | false ↦ λ e. sym (or_none (get same_question m q))
]) refl

-- one that has a place keeps it
pub noted_old : {S : Type 0} (m : HashMap Question ℕ S) (own : Question) (place n : ℕ) → get same_question m own ≡ Some n → Notes (own ∷ []) place m m
noted_old m own place n there q = (elim (same_question own q) as (λ b. same_question own q ≡ b → get same_question m q ≡ option_or (get same_question m q) (cond (b || false) (Some place) None)) [
  | true ↦ λ e. kept (get same_question m q) (Some place) n (sym (same_place m own q e) ∙ there)
  | false ↦ λ e. sym (or_none (get same_question m q))
]) refl

joined : (o : Option ℕ) (x y : Bool) (place : ℕ) → option_or (option_or o (cond (x || false) (Some place) None)) (cond y (Some place) None) ≡ option_or o (cond (x || y) (Some place) None)
joined None true y place = refl
joined None false y place = refl
joined (Some n) x y place = refl

-- nothing is noted
pub noted_none : {S : Type 0} (place : ℕ) (m : HashMap Question ℕ S) → Notes [] place m m
noted_none place m q = sym (or_none (get same_question m q))

-- one question is noted, and then others
pub noted_more : {S : Type 0} (own : Question) (more : List Question) (place : ℕ) (a b c : HashMap Question ℕ S) → Notes (own ∷ []) place a b → Notes more place b c → Notes (own ∷ more) place a c
noted_more own more place a b c f g q = g q ∙ ap (λ (o : Option ℕ). option_or o (cond (list_any (λ p. same_question p q) more) (Some place) None)) (f q) ∙ joined (get same_question a q) (same_question own q) (list_any (λ p. same_question p q) more) place

-- a test passes some of two lists
pub any_append : (test : Question → Bool) (ks ls : List Question) → list_any test (ks ++ ls) ≡ (list_any test ks || list_any test ls)
any_append test [] ls = refl
any_append test (k ∷ ks) ls = elim (test k) as (λ b. (b || list_any test (ks ++ ls)) ≡ ((b || list_any test ks) || list_any test ls)) [
  | true ↦ refl
  | false ↦ any_append test ks ls
]

joined_then : (o : Option ℕ) (x y : Bool) (place : ℕ) → option_or (option_or o (cond x (Some place) None)) (cond y (Some place) None) ≡ option_or o (cond (x || y) (Some place) None)
joined_then None true y place = refl
joined_then None false y place = refl
joined_then (Some n) x y place = refl

-- questions are noted, and then others
pub noted_then : {S : Type 0} (asked more : List Question) (place : ℕ) (a b c : HashMap Question ℕ S) → Notes asked place a b → Notes more place b c → Notes (asked ++ more) place a c
noted_then asked more place a b c f g q = g q ∙ ap (λ (o : Option ℕ). option_or o (cond (list_any (λ p. same_question p q) more) (Some place) None)) (f q)
    ∙ joined_then (get same_question a q) (list_any (λ p. same_question p q) asked) (list_any (λ p. same_question p q) more) place
    ∙ ap (λ v. option_or (get same_question a q) (cond v (Some place) None)) (sym (any_append (λ p. same_question p q) asked more))

-- the questions of one more credential of a list are noted
pub noted_entry : {S : Type 0} (list : List Credential) (i : ℕ) (e : Credential) → i < length list → e ≡ get_or list i e → (place : ℕ) (a b c : HashMap Question ℕ S) → Notes (flat_map questions_of_entry (take i list)) place a b → Notes (questions_of_entry e) place b c → Notes (flat_map questions_of_entry (take (i + 1) list)) place a c
noted_entry list i e within is place a b c before own = subst (λ (ks : List Question). Notes ks place a c)
    (flat_map_more questions_of_entry [] (take i list) e ∙ ap (λ (x : Credential). flat_map questions_of_entry (take i list ++ x ∷ [])) is ∙ ap (flat_map questions_of_entry) (sym (take_more list i e within)))
    (noted_then (flat_map questions_of_entry (take i list)) (questions_of_entry e) place a b c before own)
