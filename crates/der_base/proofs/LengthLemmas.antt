-- The octets of a length, case by case.
use Rattle.std.proofs.Common.{◌≡◌, ℕ, ◌/◌, ◌%◌, ◌^◌, ◌<◌, ◌≤◌, ◌++◌, ◌&&◌, Bool, true, false, eqb, ltb, leb, cond, List, [], ◌∷◌, length, get_or, take, eqb-true, refl, subst, inl, inr, arith}
use Rattle.std.proofs.lemmas.Grind.{common_steps}
use Rattle.std.proofs.lemmas.Bool.Decides.{nat_tests}
use Rattle.std.proofs.lemmas.Bool.{cases_lt}
use Rattle.der_base.specs.Element.{length_octets}
use Rattle.der_base.specs.Reading.{big_endian, more_of, stands_for, begins_with}

pub length_octets-one : (n : ℕ) → n < 128 → length_octets n ≡ n ∷ []
unfolding length_octets
length_octets-one n h = grind (arith, nat_tests)

pub length_octets-two : (n : ℕ) → 128 ≤ n → n < 256 → length_octets n ≡ 0x81 ∷ n ∷ []
unfolding length_octets
length_octets-two n l h = grind (arith, nat_tests)

pub length_octets-three : (n : ℕ) → 256 ≤ n → n < 2 ^ 16 → length_octets n ≡ 0x82 ∷ (n / 256) ∷ (n % 256) ∷ []
unfolding length_octets
length_octets-three n l h = grind (arith, nat_tests)

pub length_octets-four : (n : ℕ) → 2 ^ 16 ≤ n → n < 2 ^ 24 → length_octets n ≡ 0x83 ∷ (n / 2 ^ 16) ∷ (n / 256 % 256) ∷ (n % 256) ∷ []
unfolding length_octets
length_octets-four n l h = grind (arith, nat_tests)

pub length_octets-five : (n : ℕ) → 2 ^ 24 ≤ n → length_octets n ≡ 0x84 ∷ (n / 2 ^ 24) ∷ (n / 2 ^ 16 % 256) ∷ (n / 256 % 256) ∷ (n % 256) ∷ []
unfolding length_octets
length_octets-five n l = grind (arith, nat_tests)

-- what is asked of the octets of a slice
abbrev pub AllOctets : List ℕ → Type 0
AllOctets octets = (k : ℕ) → get_or octets k 0 < 256

-- Whether the octets are the fewest is told by the number and the first octet after the first.
abbrev pub is_fewest : ℕ → List ℕ → ℕ → Bool
is_fewest first [] size = ltb first 128
is_fewest first (high ∷ more) size = cond (ltb size 128) false (ltb 0 high)

fewest_none : (first : ℕ) (after : List ℕ) → 0 ≡ more_of first → begins_with (first ∷ after) (length_octets (stands_for first [])) ≡ ltb first 128
unfolding more_of stands_for big_endian length_octets
fewest_none first after e = grind (arith, nat_tests)

fewest_one : (first a : ℕ) (after : List ℕ) → a < 256 → 1 ≡ more_of first → begins_with (first ∷ a ∷ after) (length_octets (stands_for first (a ∷ []))) ≡ is_fewest first (a ∷ []) (stands_for first (a ∷ []))
unfolding more_of stands_for big_endian length_octets
fewest_one first a after h e = grind (arith, nat_tests)

fewest_two : (first a b : ℕ) (after : List ℕ) → a < 256 → b < 256 → 2 ≡ more_of first → begins_with (first ∷ a ∷ b ∷ after) (length_octets (stands_for first (a ∷ b ∷ []))) ≡ is_fewest first (a ∷ b ∷ []) (stands_for first (a ∷ b ∷ []))
unfolding more_of stands_for big_endian length_octets
fewest_two first a b after h i e = grind (arith, nat_tests)

fewest_three : (first a b d : ℕ) (after : List ℕ) → a < 256 → b < 256 → d < 256 → 3 ≡ more_of first → begins_with (first ∷ a ∷ b ∷ d ∷ after) (length_octets (stands_for first (a ∷ b ∷ d ∷ []))) ≡ is_fewest first (a ∷ b ∷ d ∷ []) (stands_for first (a ∷ b ∷ d ∷ []))
unfolding more_of stands_for big_endian length_octets
fewest_three first a b d after h i j e = grind (arith, nat_tests)

fewest_four : (first a b d f : ℕ) (after : List ℕ) → a < 256 → b < 256 → d < 256 → f < 256 → 4 ≡ more_of first → begins_with (first ∷ a ∷ b ∷ d ∷ f ∷ after) (length_octets (stands_for first (a ∷ b ∷ d ∷ f ∷ []))) ≡ is_fewest first (a ∷ b ∷ d ∷ f ∷ []) (stands_for first (a ∷ b ∷ d ∷ f ∷ []))
unfolding more_of stands_for big_endian length_octets
fewest_four first a b d f after h i j k e = grind (arith, nat_tests)

more_of-bound : (first : ℕ) → more_of first ≤ 4
unfolding more_of
more_of-bound first = grind (arith, nat_tests)

pub fewest : (first : ℕ) (more after : List ℕ) → AllOctets more → length more ≡ more_of first → begins_with (first ∷ (more ++ after)) (length_octets (stands_for first more)) ≡ is_fewest first more (stands_for first more)
fewest first [] after h e = fewest_none first after e
fewest first (a ∷ []) after h e = fewest_one first a after (h 0) (omega (arith, e))
fewest first (a ∷ b ∷ []) after h e = fewest_two first a b after (h 0) (h 1) (omega (arith, e))
fewest first (a ∷ b ∷ d ∷ []) after h e = fewest_three first a b d after (h 0) (h 1) (h 2) (omega (arith, e))
fewest first (a ∷ b ∷ d ∷ f ∷ []) after h e = fewest_four first a b d f after (h 0) (h 1) (h 2) (h 3) (omega (arith, e))
fewest first (a ∷ b ∷ d ∷ f ∷ g ∷ more) after h e = absurd (omega (arith, e, more_of-bound first))

-- the same, for a number that is known to be what the length stands for
pub fewest_at : (first : ℕ) (more : List ℕ) (size : ℕ) → AllOctets more → length more ≡ more_of first → size ≡ stands_for first more → (after : List ℕ) → begins_with (first ∷ (more ++ after)) (length_octets size) ≡ is_fewest first more size
fewest_at first more size h e s after = rw s (fewest first more after h e)

pub is_fewest-none : (first : ℕ) (more : List ℕ) (size : ℕ) → length more < 1 → is_fewest first more size ≡ ltb first 128
is_fewest-none first [] size h = refl
is_fewest-none first (a ∷ more) size h = absurd (omega (arith, h))

pub is_fewest-great : (first : ℕ) (more : List ℕ) (size : ℕ) → 1 ≤ length more → 128 ≤ size → is_fewest first more size ≡ ltb 0 (get_or more 0 0)
is_fewest-great first [] size h g = absurd (omega (arith, h))
is_fewest-great first (a ∷ more) size h g = grind (arith, nat_tests)

pub is_fewest-small : (first : ℕ) (more : List ℕ) (size : ℕ) → 1 ≤ length more → size < 128 → is_fewest first more size ≡ leb 128 size
is_fewest-small first [] size h g = absurd (omega (arith, h))
is_fewest-small first (a ∷ more) size h g = grind (arith, nat_tests)

-- The octets of a length as they are read: the first one tells how many follow, and they stand for the number.
pub record IsOwn (n head : ℕ) (tail : List ℕ) : Type 0 where
  pub parts : length_octets n ≡ head ∷ tail
  pub counted : more_of head ≡ length tail
  pub number : stands_for head tail ≡ n

own_one : (n : ℕ) → n < 128 → IsOwn n n []
unfolding more_of stands_for
own_one n h = record { parts = length_octets-one n h; counted = grind (arith, nat_tests); number = grind (arith, nat_tests) }

own_two : (n : ℕ) → 128 ≤ n → n < 256 → IsOwn n 0x81 (n ∷ [])
unfolding more_of stands_for big_endian
own_two n l h = record { parts = length_octets-two n l h; counted = refl; number = omega arith }

own_three : (n : ℕ) → 256 ≤ n → n < 2 ^ 16 → IsOwn n 0x82 ((n / 256) ∷ (n % 256) ∷ [])
unfolding more_of stands_for big_endian
own_three n l h = record { parts = length_octets-three n l h; counted = refl; number = omega arith }

own_four : (n : ℕ) → 2 ^ 16 ≤ n → n < 2 ^ 24 → IsOwn n 0x83 ((n / 2 ^ 16) ∷ (n / 256 % 256) ∷ (n % 256) ∷ [])
unfolding more_of stands_for big_endian
own_four n l h = record { parts = length_octets-four n l h; counted = refl; number = omega arith }

own_five : (n : ℕ) → 2 ^ 24 ≤ n → n < 2 ^ 32 → IsOwn n 0x84 ((n / 2 ^ 24) ∷ (n / 2 ^ 16 % 256) ∷ (n / 256 % 256) ∷ (n % 256) ∷ [])
unfolding more_of stands_for big_endian
own_five n l h = record { parts = length_octets-five n l; counted = refl; number = omega arith }

pub own : (n : ℕ) → n < 2 ^ 32 → (head : ℕ) × ((tail : List ℕ) × IsOwn n head tail)
own n h =
    elim (cases_lt n 128) [
      | inl a ↦ (_, (_, own_one n a))
      | inr a ↦ elim (cases_lt n 256) [
        | inl b ↦ (_, (_, own_two n a b))
        | inr b ↦ elim (cases_lt n (2 ^ 16)) [
          | inl d ↦ (_, (_, own_three n b d))
          | inr d ↦ elim (cases_lt n (2 ^ 24)) [
            | inl f ↦ (_, (_, own_four n d f))
            | inr f ↦ (_, (_, own_five n f h))
          ]
        ]
      ]
    ]

pub and_parts : (a b : Bool) → a && b ≡ true → (a ≡ true) × (b ≡ true)
and_parts true b h = (refl, h)
and_parts false b h = cc

pub begins_with-take : (octets bs : List ℕ) → begins_with octets bs ≡ true → take (length bs) octets ≡ bs
begins_with-take octets [] h = refl
begins_with-take [] (b ∷ bs) h = cc
begins_with-take (a ∷ more) (b ∷ bs) h =
    let both = and_parts (eqb a b) (begins_with more bs) h in
    let same : a ≡ b = eqb-true a b both.0 in
    let rest = begins_with-take more bs both.1 in
    grind (arith, common_steps)

pub begins_with-own : (bs after : List ℕ) → begins_with (bs ++ after) bs ≡ true
begins_with-own [] after = refl
begins_with-own (b ∷ bs) after = rw (begins_with-own bs after) (grind (arith, nat_tests))

cut_by : (first : ℕ) (rest : List ℕ) (n head : ℕ) (tail : List ℕ) → IsOwn n head tail → begins_with (first ∷ rest) (head ∷ tail) ≡ true → length_octets n ≡ first ∷ take (more_of first) rest
cut_by first rest n head tail o b =
    let both = and_parts (eqb first head) (begins_with rest tail) b in
    let same : first ≡ head = eqb-true first head both.0 in
    let taken = begins_with-take rest tail both.1 in
    rw (same, o.counted, taken) o.parts

cut_from : (first : ℕ) (rest : List ℕ) (n : ℕ) → ((head : ℕ) × ((tail : List ℕ) × IsOwn n head tail)) → begins_with (first ∷ rest) (length_octets n) ≡ true → length_octets n ≡ first ∷ take (more_of first) rest
cut_from first rest n o b = cut_by first rest n o.0 o.1.0 o.1.1 (subst (λ (l : List ℕ). begins_with (first ∷ rest) l ≡ true) o.1.1.parts b)

-- octets that begin with a length begin with its octets, as many as its first one tells
pub length_octets-cut : (first : ℕ) (rest : List ℕ) (n : ℕ) → n < 2 ^ 32 → begins_with (first ∷ rest) (length_octets n) ≡ true → length_octets n ≡ first ∷ take (more_of first) rest
length_octets-cut first rest n h b = cut_from first rest n (own n h) b
