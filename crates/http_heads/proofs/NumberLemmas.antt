-- Digits, and the number that they spell.
use Rattle.std.specs.Prelude.{◌≡◌, ℕ, ◌+◌, ◌-◌, ◌*◌, ◌^◌, ◌≤◌, ◌<◌, suc, zero, Bool, true, false, List, [], ◌∷◌, length, take, ◌&&◌}
use Rattle.std.proofs.Common.{arith, get_or, refl, ap, sym, ◌∙◌, subst}
use native.Mathlib.Nat.{pow-le-pow_right}
use Rattle.std.proofs.lemmas.List.{length-take}
use Rattle.std.proofs.lemmas.Bool.Decides.{nat_tests}
use Rattle.std.specs.List.{list_all}
use Rattle.std.specs.Char.{is_ascii_digit, digit_value}
use Rattle.std.specs.Str.Parse.{AllDigits, digits_value}
use Rattle.std.proofs.lemmas.Int.Digits.{digits_value_more, digits_value-lt}

-- a digit
pub digit_low : (c : ℕ) → is_ascii_digit c ≡ true → 48 ≤ c
digit_low c h = grind (arith, nat_tests)

pub digit_high : (c : ℕ) → is_ascii_digit c ≡ true → c ≤ 57
digit_high c h = grind (arith, nat_tests)

pub digit_is : (c : ℕ) → is_ascii_digit c ≡ true → digit_value c ≡ c - 48
digit_is c h = let low = digit_low c h in let high = digit_high c h in grind (arith, nat_tests)

-- the parts of a conjunction
both_true : (a b : Bool) → a && b ≡ true → (a ≡ true) × (b ≡ true)
both_true true b h = (refl, h)
both_true false b h = absurd (let e : false ≡ true = h in cc e)

pub digit_at : (bs : List ℕ) (i : ℕ) → i < length bs → list_all is_ascii_digit bs ≡ true → is_ascii_digit (get_or bs i 0) ≡ true
digit_at [] i within all = absurd (omega (arith, within))
digit_at (b ∷ bs) zero within all = (both_true (is_ascii_digit b) (list_all is_ascii_digit bs) all).0
digit_at (b ∷ bs) (suc i) within all = digit_at bs i (omega (arith, within)) (both_true (is_ascii_digit b) (list_all is_ascii_digit bs) all).1

pub all_digits : (bs : List ℕ) → list_all is_ascii_digit bs ≡ true → AllDigits 10 bs
all_digits [] all = tt
all_digits (b ∷ bs) all =
    let parts = both_true (is_ascii_digit b) (list_all is_ascii_digit bs) all in
    (omega (arith, digit_is b parts.0, digit_high b parts.0), all_digits bs parts.1)

pub front_digits : (bs : List ℕ) (i : ℕ) → AllDigits 10 bs → AllDigits 10 (take i bs)
front_digits bs zero all = tt
front_digits [] (suc i) all = tt
front_digits (b ∷ bs) (suc i) all = (all.0, front_digits bs i all.1)

-- a text with another octet
pub other_at : (bs : List ℕ) (i : ℕ) → i < length bs → is_ascii_digit (get_or bs i 0) ≡ false → list_all is_ascii_digit bs ≡ false
other_at bs i within other = by_case (list_all is_ascii_digit bs) refl
  where
    by_case : (t : Bool) → list_all is_ascii_digit bs ≡ t → list_all is_ascii_digit bs ≡ false
    by_case false is = is
    by_case true is = absurd (let e : true ≡ false = sym (digit_at bs i within is) ∙ other in cc e)

pub all_at : (bs : List ℕ) (n : ℕ) → length bs ≤ n → ((k : ℕ) → k < n → is_ascii_digit (get_or bs k 0) ≡ true) → list_all is_ascii_digit bs ≡ true
all_at [] n past each = refl
all_at (b ∷ bs) zero past each = absurd (omega (arith, past))
all_at (b ∷ bs) (suc n) past each =
    let first : is_ascii_digit b ≡ true = each 0 (omega arith) in
    rw first (all_at bs n (omega (arith, past)) (λ k below. each (suc k) (omega (arith, below))))

-- at most nine digits
pub nine_fit : (bs : List ℕ) → AllDigits 10 bs → length bs ≤ 9 → digits_value 10 bs < 1000000000
nine_fit bs all few = omega (arith, digits_value-lt 10 bs all, power (length bs) few)
  where
    power : (n : ℕ) → n ≤ 9 → 10 ^ n ≤ 1000000000
    power n few = subst (λ (m : ℕ). 10 ^ n ≤ m) refl (pow-le-pow_right {n = 10} (omega arith) few)

-- the number so far, one digit more
pub record Step (bs : List ℕ) (i number octet : ℕ) : Type 0 where
  pub low : 48 ≤ octet
  pub high : octet ≤ 57
  pub small : number < 1000000000
  pub more : number * 10 + (octet - 48) ≡ digits_value 10 (take (i + 1) bs)

pub step : (bs : List ℕ) (i number octet : ℕ) → length bs ≤ 10 → list_all is_ascii_digit bs ≡ true → i < length bs
    → number ≡ digits_value 10 (take i bs) → octet ≡ get_or bs i 0 → Step bs i number octet
step bs i number octet few all within is read =
    let digit : is_ascii_digit octet ≡ true = rw read (digit_at bs i within all) in
    let front = front_digits bs i (all_digits bs all) in
    let size : length (take i bs) ≤ 9 = omega (arith, length-take i bs, within, few) in
    let fits = nine_fit (take i bs) front size in
    record {
      low = digit_low octet digit;
      high = digit_high octet digit;
      small = omega (arith, fits, is);
      more = omega (arith, digits_value_more 10 bs i within, digit_is octet digit, is, ap digit_value read);
    }
