-- Histories that grow by what a run may make, and who made each change.
use Rattle.std.proofs.Common.{◌≡◌, ℕ, zero, suc, List, [], ◌∷◌, ◌++◌, take, Option, Some, refl, sym, ap, subst, ◌∙◌, append_assoc}
use Rattle.std.specs.Prelude.{slice_get, IfSome}
use Rattle.std.proofs.lemmas.List.{append-nil}
use Rattle.std.proofs.lemmas.Option.{none-some, same_Some}
use Rattle.deal_changes.specs.declared.change.Change.{Change}
use Rattle.deal_model.specs.Views.{History}
use Rattle.deal_model.specs.Rules.{Allowed, Legal}
use Rattle.deal_model.specs.Laws.{GrowsLegally}
use Rattle.deal_table.specs.History.{Begins}
use Rattle.one_history.specs.Visits.{MayMake, MayMakeAll}

pub at_some : {X : Type 0} (P : X → Type 0) (o : Option X) (x : X) → IfSome o P → o ≡ Some x → P x
at_some P o x holds is = subst (λ y. IfSome y P) is holds

-- ---- one behind another

-- what each change that may be made keeps holds after all of them
pub along : (P : History → Type 0) (Own : History → Change → Type 0) → ((h : History) (c : Change) → P h → MayMake Own h c → P (h ++ c ∷ [])) → (h : History) (cs : List Change) → P h → MayMakeAll Own h cs → P (h ++ cs)
along P Own keeps h [] holds may = subst P (sym (append-nil h)) holds
along P Own keeps h (c ∷ cs) holds may = subst P (append_assoc h (c ∷ []) cs) (along P Own keeps (h ++ c ∷ []) cs (keeps h c holds may.0) may.1)

pub legal_all : GrowsLegally → (Own : History → Change → Type 0) (h : History) (cs : List Change) → Legal h → MayMakeAll Own h cs → Legal (h ++ cs)
legal_all grows Own h cs legal may = along Legal Own (λ k c l m. grows k c l m.1) h cs legal may

-- the first change alone
pub single_legal : (c : Change) → Allowed [] c → Legal (c ∷ [])
single_legal c may = ((λ e. cc e), (may, tt))

-- ---- beginnings

pub begins_same : (h : History) → Begins h h
begins_same h = ([], sym (append-nil h))

pub begins_then : (h k l : History) → Begins h k → Begins k l → Begins h l
begins_then h k l first second = (first.0 ++ second.0, second.1 ∙ ap (λ (x : History). x ++ second.0) first.1 ∙ append_assoc h first.0 second.0)

pub begins_more : (h more k : History) → Begins (h ++ more) k → Begins h k
begins_more h more k later = begins_then h (h ++ more) k (more, refl) later

-- ---- who made a change

-- each change of the history, behind those before it, is made by somebody
abbrev pub AreMade : (History → Change → Type 0) → History → Type 0
AreMade M h = (n : ℕ) (c : Change) → slice_get h n ≡ Some c → M (take n h) c

pub made_none : (M : History → Change → Type 0) → AreMade M []
made_none M n c e = absurd (none-some c e)

at_push : (M : History → Change → Type 0) (before h : History) (c : Change) → ((n : ℕ) (x : Change) → slice_get h n ≡ Some x → M (before ++ take n h) x) → M (before ++ h) c
    → (n : ℕ) (x : Change) → slice_get (h ++ c ∷ []) n ≡ Some x → M (before ++ take n (h ++ c ∷ [])) x
at_push M before [] c made last zero x e = subst (λ (y : Change). M (before ++ []) y) (same_Some c x e) last
at_push M before [] c made last (suc n) x e = absurd (none-some x e)
at_push M before (y ∷ h) c made last zero x e = made zero x e
at_push M before (y ∷ h) c made last (suc n) x e =
    subst (λ (l : History). M l x) (append_assoc before (y ∷ []) (take n (h ++ c ∷ []))) (at_push M (before ++ y ∷ []) h c
    (λ m z f. subst (λ (l : History). M l z) (sym (append_assoc before (y ∷ []) (take m h))) (made (suc m) z f))
    (subst (λ (l : History). M l c) (sym (append_assoc before (y ∷ []) h)) last) n x e)

pub made_more : (M : History → Change → Type 0) (h : History) (c : Change) → AreMade M h → M h c → AreMade M (h ++ c ∷ [])
made_more M h c made last = at_push M [] h c made last

pub made_all : (M Own : History → Change → Type 0) → ((h : History) (c : Change) → Own h c → M h c) → (h : History) (cs : List Change) → AreMade M h → MayMakeAll Own h cs → AreMade M (h ++ cs)
made_all M Own mine h cs made may = along (AreMade M) Own (λ k c are m. made_more M k c are (mine k c m.0)) h cs made may
