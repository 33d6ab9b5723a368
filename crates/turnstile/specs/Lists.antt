-- Words on lists that the rule of a turnstile is said in.
use Rattle.std.specs.Prelude.{◌≡◌, ℕ, ◌+◌, ◌==◌, ◌&&◌, ◌⊎◌, List, [], ◌∷◌, ◌++◌, length, if◌then◌else◌, nat_lt, nat_le}

-- f of each element, added up
abbrev pub total : {A : Type 0} → (A → ℕ) → List A → ℕ
total f [] = 0
total f (x ∷ xs) = f x + total f xs

-- how often the number stands in the list
abbrev pub times : ℕ → List ℕ → ℕ
times p [] = 0
times p (x ∷ xs) = (if x == p then 1 else 0) + times p xs

-- 1 for a place above the opening length and up to the length, 0 for any other
abbrev pub once : ℕ → ℕ → ℕ → ℕ
once opening len p = if nat_lt opening p && nat_le p len then 1 else 0

module _ {E : Type 0} where
  -- the second list begins with the first
  abbrev pub IsPrefix : List E → List E → Type 0
  IsPrefix xs ys = (rest : List E) × (ys ≡ xs ++ rest)

  -- the second list is the first, or the first with one entry more
  abbrev pub Extends : List E → List E → Type 0
  Extends xs ys = (ys ≡ xs) ⊎ ((e : E) × (ys ≡ xs ++ e ∷ []))

  -- the second list where it has more entries, else the first
  abbrev pub longer : List E → List E → List E
  longer xs ys = if nat_lt (length xs) (length ys) then ys else xs
