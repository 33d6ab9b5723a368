-- Payloads spell the changes of one history, and end at one place.
use Rattle.std.proofs.Common.{◌≡◌, ℕ, List, [], ◌∷◌, ◌++◌, refl, sym, ◌∙◌, ap, subst, append_assoc}
use Rattle.std.proofs.lemmas.List.{append-nil}
use Rattle.deal_changes.specs.declared.change.Change.{Change}
use Rattle.deal_changes.specs.Spelling.{spelling, IsChange}
use Rattle.deal_changes.specs.Reading.{change_of}
use Rattle.deal_changes.proofs.Forms.{same_some}
use Rattle.deal_changes.proofs.ChangeLaws.{change_again}
use Rattle.deal_model.specs.Views.{History}
use Rattle.deal_model.specs.Rules.{Allowed, AllowedFrom}
use Rattle.desk.specs.Images.{spellings}
use Rattle.desk.specs.Mounts.{IsStuck}

heads : (x y : List ℕ) (xs ys : List (List ℕ)) → x ∷ xs ≡ y ∷ ys → x ≡ y
heads x y xs ys same = cc same

tails : (x y : List ℕ) (xs ys : List (List ℕ)) → x ∷ xs ≡ y ∷ ys → xs ≡ ys
tails x y xs ys same = cc same

-- a change is spelled in one way, and nothing else is spelled so
one_change : (c d : Change) → IsChange c → IsChange d → spelling c ≡ spelling d → c ≡ d
one_change c d fits fits' same = same_some c d (sym (change_again c fits) ∙ ap change_of same ∙ change_again d fits')

one_step : (before : History) (c d : Change) → Allowed before c → Allowed before d → spelling c ≡ spelling d → c ≡ d
one_step before c d can can' same = one_change c d can.form can'.form same

-- where a change may come next, its payload doesn't stop
not_stopped : (before : History) (c : Change) (payloads rest : List (List ℕ)) → Allowed before c → payloads ≡ spelling c ∷ rest → IsStuck (before ++ []) payloads → ⊥
not_stopped before c payloads rest can is stuck =
    let here : IsStuck before (spelling c ∷ rest) = subst (λ (h : History). IsStuck h (spelling c ∷ rest)) (append-nil before) (subst (λ (p : List (List ℕ)). IsStuck (before ++ []) p) is stuck) in
    here c refl can

further : (before h : History) (c : Change) (rest : List (List ℕ)) → IsStuck (before ++ c ∷ h) rest → IsStuck ((before ++ c ∷ []) ++ h) rest
further before h c rest stuck = subst (λ (g : History). IsStuck g rest) (sym (append_assoc before (c ∷ []) h)) stuck

pub one_history : (before h g : History) → AllowedFrom before h → AllowedFrom before g → spellings h ≡ spellings g → h ≡ g
one_history before [] [] can can' same = refl
one_history before [] (d ∷ g) can can' same = absurd cc
one_history before (c ∷ h) [] can can' same = absurd cc
one_history before (c ∷ h) (d ∷ g) can can' same =
    let first : c ≡ d = one_step before c d can.0 can'.0 (heads (spelling c) (spelling d) (spellings h) (spellings g) same) in
    let moved : AllowedFrom (before ++ c ∷ []) g = subst (λ (x : Change). AllowedFrom (before ++ x ∷ []) g) (sym first) can'.1 in
    let others : h ≡ g = one_history (before ++ c ∷ []) h g can.1 moved (tails (spelling c) (spelling d) (spellings h) (spellings g) same) in
    ap (λ (x : Change). x ∷ h) first ∙ ap (λ (l : History). d ∷ l) others

-- two histories that the same payloads begin with, and behind which they are stuck, are one
pub one_stop : (before h g : History) (r s : List (List ℕ)) → AllowedFrom before h → AllowedFrom before g → IsStuck (before ++ h) r → IsStuck (before ++ g) s → spellings h ++ r ≡ spellings g ++ s → h ≡ g
one_stop before [] [] r s can can' stuck stuck' same = refl
one_stop before [] (d ∷ g) r s can can' stuck stuck' same = absurd (not_stopped before d r (spellings g ++ s) can'.0 same stuck)
one_stop before (c ∷ h) [] r s can can' stuck stuck' same = absurd (not_stopped before c s (spellings h ++ r) can.0 (sym same) stuck')
one_stop before (c ∷ h) (d ∷ g) r s can can' stuck stuck' same =
    let first : c ≡ d = one_step before c d can.0 can'.0 (heads (spelling c) (spelling d) (spellings h ++ r) (spellings g ++ s) same) in
    let moved : AllowedFrom (before ++ c ∷ []) g = subst (λ (x : Change). AllowedFrom (before ++ x ∷ []) g) (sym first) can'.1 in
    let halted : IsStuck ((before ++ c ∷ []) ++ g) s = subst (λ (x : Change). IsStuck ((before ++ x ∷ []) ++ g) s) (sym first) (further before g d s stuck') in
    let others : h ≡ g = one_stop (before ++ c ∷ []) h g r s can.1 moved (further before h c r stuck) halted (tails (spelling c) (spelling d) (spellings h ++ r) (spellings g ++ s) same) in
    ap (λ (x : Change). x ∷ h) first ∙ ap (λ (l : History). d ∷ l) others

-- where the payloads spell a whole history, they are stuck only where there is none
pub stuck_nowhere : (before h g : History) (s : List (List ℕ)) → AllowedFrom before h → AllowedFrom before g → IsStuck (before ++ g) s → spellings h ≡ spellings g ++ s → before ++ h ≡ []
stuck_nowhere before [] [] s can can' stuck same = subst (λ (p : List (List ℕ)). IsStuck (before ++ []) p) (sym same) stuck
stuck_nowhere before [] (d ∷ g) s can can' stuck same = absurd cc
stuck_nowhere before (c ∷ h) [] s can can' stuck same = absurd (not_stopped before c s (spellings h) can.0 (sym same) stuck)
stuck_nowhere before (c ∷ h) (d ∷ g) s can can' stuck same =
    let first : c ≡ d = one_step before c d can.0 can'.0 (heads (spelling c) (spelling d) (spellings h) (spellings g ++ s) same) in
    let moved : AllowedFrom (before ++ c ∷ []) g = subst (λ (x : Change). AllowedFrom (before ++ x ∷ []) g) (sym first) can'.1 in
    let halted : IsStuck ((before ++ c ∷ []) ++ g) s = subst (λ (x : Change). IsStuck ((before ++ x ∷ []) ++ g) s) (sym first) (further before g d s stuck) in
    let none : (before ++ c ∷ []) ++ h ≡ [] = stuck_nowhere (before ++ c ∷ []) h g s can.1 moved halted (tails (spelling c) (spelling d) (spellings h) (spellings g ++ s) same) in
    sym (append_assoc before (c ∷ []) h) ∙ none
