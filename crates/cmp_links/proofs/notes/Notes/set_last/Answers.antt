-- The last of a list is set behind those before it.
use Rattle.std.proofs.Common.{◌≡◌, ◌-◌, ◌+◌, ◌<◌, ◌≤◌, ℕ, List, [], ◌∷◌, ◌++◌, length, take, sym, ap, ◌∙◌, arith}
use Rattle.std.proofs.Math.ListN.{set}
use Rattle.std.proofs.lemmas.List.{take_all, take_more_set, length-set}
use Rattle.cmp_links.proofs.notes.Notes.set_last.Goals as goal

set_last : {X : Type 0} (xs ys : List X) (i : ℕ) (y : X) → xs ≡ ys → 0 < length ys → i ≡ length xs - 1 → set xs i y ≡ take (length ys - 1) ys ++ y ∷ []
set_last {X = X} xs ys i y same some last =
    let equal : length xs ≡ length ys = ap length same in
    let inside : i < length xs = omega (arith, last, some, equal) in
    let whole : length (set xs i y) ≤ i + 1 = omega (arith, last, length-set xs i y) in
    let at_last : i ≡ length ys - 1 = omega (arith, last, equal) in
    sym (take_all (i + 1) (set xs i y) whole) ∙ take_more_set xs i y inside ∙ ap (λ (k : ℕ). take k xs ++ y ∷ []) at_last ∙ ap (λ (l : List X). take (length ys - 1) l ++ y ∷ []) same

pub returns : goal.returns
returns c = set_last _ _ _ _ c.self.view_is c.requires (omega (arith, c.len-last.ensures, c.self.inside.notes.ok.0))
