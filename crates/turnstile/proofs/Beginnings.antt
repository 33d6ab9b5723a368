-- Beginnings of lists, and the places of a history.
use Rattle.std.proofs.Common.{◌≡◌, ◌≤◌, ◌⊎◌, List, [], ◌∷◌, ◌++◌, length, sym, refl, ap, ◌∙◌, ⊎_elim, arith, rules, append_assoc, length-append, append-nil, subst, if◌then◌else◌, nat_lt, true, false}
use Rattle.std.proofs.lemmas.Bool.Decides.{nat_tests}
use Rattle.turnstile.specs.Lists.{IsPrefix, Extends, longer}

module _ {E : Type 0} where
  nothing_more : (xs rest : List E) → length (xs ++ rest) ≤ length xs → xs ++ rest ≡ xs
  nothing_more xs [] h = append-nil xs
  nothing_more xs (r ∷ rest) h = let l = length-append xs (r ∷ rest) in absurd (omega arith)

  pub prefix_self : (xs : List E) → IsPrefix xs xs
  prefix_self xs = ([], search rules)

  pub prefix_trans : (xs ys zs : List E) → IsPrefix xs ys → IsPrefix ys zs → IsPrefix xs zs
  prefix_trans xs ys zs a b = (a.0 ++ b.0, b.1 ∙ ap (λ (l : List E). l ++ b.0) a.1 ∙ append_assoc xs a.0 b.0)

  pub prefix_length : (xs ys : List E) → IsPrefix xs ys → length xs ≤ length ys
  prefix_length xs ys a = rw a.1 (omega (arith, length-append {A = E}))

  -- a beginning as long as the list is the list
  pub prefix_whole : (xs ys : List E) → IsPrefix xs ys → length ys ≤ length xs → xs ≡ ys
  prefix_whole xs ys a h = sym (a.1 ∙ nothing_more xs a.0 (subst (λ (k : List E). length k ≤ length xs) a.1 h))

  -- of two beginnings of one list, the shorter begins the longer
  pub prefix_shorter : (xs ys zs : List E) → IsPrefix xs zs → IsPrefix ys zs → length xs ≤ length ys → IsPrefix xs ys
  prefix_shorter [] ys zs a b h = (ys, refl)
  prefix_shorter (x ∷ xs) [] zs a b h = absurd (omega arith)
  prefix_shorter (x ∷ xs) (y ∷ ys) [] a b h = absurd (cc)
  prefix_shorter (x ∷ xs) (y ∷ ys) (z ∷ zs) a b h =
      let e : zs ≡ xs ++ a.0 = cc in
      let d : zs ≡ ys ++ b.0 = cc in
      let same : y ≡ x = cc in
      let t = prefix_shorter xs ys zs (a.0, e) (b.0, d) (omega arith) in
      (t.0, cc)

  -- the longer of two beginnings of one list begins with both
  pub longer_prefix : (xs ys zs : List E) → IsPrefix xs zs → IsPrefix ys zs → IsPrefix (longer xs ys) zs
  longer_prefix xs ys zs a b = elim (nat_lt (length xs) (length ys)) as (λ t. IsPrefix (if t then ys else xs) zs) [ true ↦ b | false ↦ a ]

  pub longer_first : (xs ys : List E) → length xs ≤ length (longer xs ys)
  longer_first xs ys = grind (arith, nat_tests)

  pub longer_second : (xs ys : List E) → length ys ≤ length (longer xs ys)
  longer_second xs ys = grind (arith, nat_tests)

  -- where one of the two is the whole list, so is the longer
  pub longer_whole : (xs ys zs : List E) → IsPrefix xs zs → IsPrefix ys zs → (xs ≡ zs) ⊎ (ys ≡ zs) → longer xs ys ≡ zs
  longer_whole xs ys zs a b h =
      let p = longer_prefix xs ys zs a b in
      let f = longer_first xs ys in
      let s = longer_second xs ys in
      let l : length zs ≤ length (longer xs ys) = ⊎_elim (λ e. subst (λ (k : List E). length k ≤ length (longer xs ys)) e f) (λ e. subst (λ (k : List E). length k ≤ length (longer xs ys)) e s) h in
      prefix_whole (longer xs ys) zs p l

  -- a list that was extended begins with what it was
  pub extends_prefix : (xs ys : List E) → Extends xs ys → IsPrefix xs ys
  extends_prefix xs ys h = ⊎_elim (λ e. ([], e ∙ sym (append-nil xs))) (λ e. (e.0 ∷ [], e.1)) h
