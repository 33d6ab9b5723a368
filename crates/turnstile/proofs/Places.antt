-- The places of the entries that were added, each once.
use Rattle.std.proofs.Common.{◌≡◌, ℕ, ◌+◌, ◌≤◌, ◌==◌, List, [], ◌∷◌, ◌++◌, length, sym, ap, ◌∙◌, subst, ⊎_elim, arith, length-append, if◌then◌else◌, true}
use Rattle.std.proofs.lemmas.Bool.Decides.{nat_tests}
use Rattle.turnstile.specs.Lists.{times, once, Extends}
use Rattle.turnstile.specs.Views.{extended}
use Rattle.turnstile.proofs.Totals.{times_append}

pub same_number : (n k : ℕ) → (n == k) ≡ true → n ≡ k
same_number n k e = grind (arith, nat_tests)

pub once_at_most : (opening n p : ℕ) → once opening n p ≤ 1
once_at_most opening n p = grind (arith, nat_tests)

pub once_more : (opening n p : ℕ) → opening ≤ n → once opening n p + (if n + 1 == p then 1 else 0) ≡ once opening (n + 1) p
once_more opening n p le = grind (arith, nat_tests)

-- no place lies above the length and up to it
pub once_none : (n p : ℕ) → once n n p ≡ 0
once_none n p = grind (arith, nat_tests)

extended_same : {E : Type 0} (mine : List ℕ) (base log : List E) → length log ≡ length base → extended mine base log ≡ mine
extended_same mine base log e = grind (arith, nat_tests)

extended_more : {E : Type 0} (mine : List ℕ) (base log : List E) → length log ≡ length base + 1 → extended mine base log ≡ mine ++ length log ∷ []
extended_more mine base log e = grind (arith, nat_tests)

one_place : (all mine added before after : ℕ) → all ≡ mine + (added + 0) → before + added ≡ after → all + before ≡ mine + after
one_place all mine added before after e d = omega arith

-- the place of an entry that was added is the seat's
pub place_more : {E : Type 0} (opening p : ℕ) (mine : List ℕ) (base log : List E) → opening ≤ length base → Extends base log → times p (extended mine base log) + once opening (length base) p ≡ times p mine + once opening (length log) p
place_more {E} opening p mine base log le ext =
    ⊎_elim
    (λ e.
    let n : length log ≡ length base = ap length e in
    rw (extended_same mine base log n) (ap (λ k. times p mine + once opening k p) (sym n)))
    (λ e.
    let n : length log ≡ length base + 1 = ap length e.1 ∙ length-append base (e.0 ∷ []) in
    let added : ℕ = if length log == p then 1 else 0 in
    let o : once opening (length base) p + added ≡ once opening (length log) p = subst (λ k. once opening (length base) p + (if k == p then 1 else 0) ≡ once opening k p) (sym n) (once_more opening (length base) p le) in
    rw (extended_more mine base log n) (one_place (times p (mine ++ length log ∷ [])) (times p mine) added (once opening (length base) p) (once opening (length log) p) (times_append p mine (length log ∷ [])) o))
    ext
