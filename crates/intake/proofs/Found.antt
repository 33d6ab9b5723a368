-- What loops over rows of entries find, and what is made of it.
use Rattle.std.proofs.Common.{◌≡◌, ℕ, ◌≤◌, ◌<◌, ◌+◌, ◌*◌, Bool, true, false, ◌&&◌, eqb, leb, List, [], ◌∷◌, length, drop, get_or, Option, Some, None, Result, Ok, Err, IfOk, is_some, refl, sym, subst, ◌∙◌, add-one, drop-cons, arith}
use Rattle.std.proofs.lemmas.Bool.Decides.{nat_tests}
use Rattle.std.specs.List.{list_any}
use Rattle.std.specs.Prelude.{find, unwrap_or, is_ok, IsOkAnd, IsSome, nat_lt, if◌then◌else◌}
use Rattle.der_base.specs.Reading.{big_endian}
use Rattle.asn_types.specs.Extension.{ExtensionForm}
use Rattle.hss_sig.specs.Forms.{IsHssKey}
use Rattle.hss_sig.specs.Hss.{signature_size}
use Rattle.hss_sig.specs.declared.forms.HssKey.{HssKey}
use Rattle.hss_sig.specs.declared.forms.BadKey.{BadKey}
use Rattle.lms_tree.specs.Verifies.{u32_at}
use Rattle.intake.specs.Told.{shifted, any_in, first_in, twice_in}
use Rattle.intake.specs.Wishes.{stands_twice, is_hss_key}

-- a number with octets behind it is no less
pub shifted_le : (n : ℕ) (octets : List ℕ) → n ≤ shifted n octets
shifted_le n [] = omega arith
shifted_le n (b ∷ octets) = omega (arith, shifted_le (n * 256 + b) octets)

shifted_step : (n : ℕ) (octets : List ℕ) (i : ℕ) → i < length octets → shifted n (drop i octets) ≡ shifted (n * 256 + get_or octets i 0) (drop (i + 1) octets)
shifted_step n octets i h = rw (add-one, drop-cons octets i 0) refl

no_number : (total : ℕ) → 18446744073709551616 ≤ total → None ≡ (if nat_lt total 18446744073709551616 then Some total else None)
no_number total h = grind (arith, nat_tests)

-- 2 ^ 56 with one more octet behind it
pub too_great : (octets : List ℕ) (n i : ℕ) → big_endian octets ≡ shifted n (drop i octets) → i < length octets → 72057594037927936 ≤ n → None ≡ (if nat_lt (big_endian octets) 18446744073709551616 then Some (big_endian octets) else None)
too_great octets n i e h great =
    no_number (big_endian octets) (omega (arith, e ∙ shifted_step n octets i h, shifted_le (n * 256 + get_or octets i 0) (drop (i + 1) octets), great))

-- entries that can't be read are none
pub any_read : {X : Type 0} (test : X → Bool) (o : Option (List X)) → any_in test false o ≡ list_any test (unwrap_or o [])
any_read test None = refl
any_read test (Some xs) = refl

pub first_read : {X : Type 0} (test : X → Bool) (o : Option (List X)) → first_in test None o ≡ find test (unwrap_or o [])
first_read test None = refl
first_read test (Some xs) = refl

pub twice_read : (o : Option (List ExtensionForm)) → twice_in false o ≡ stands_twice (unwrap_or o [])
twice_read None = refl
twice_read (Some xs) = refl

-- ---- keys of HSS

all_tests : (size levels : ℕ) (known : Bool) → size ≡ 60 → 1 ≤ levels → levels ≤ 8 → known ≡ true → eqb size 60 && leb 1 levels && leb levels 8 && known ≡ true
all_tests size levels known a b c d = grind (arith, nat_tests)

tests_all : (size levels : ℕ) (known : Bool) → eqb size 60 && leb 1 levels && leb levels 8 && known ≡ true → (size ≡ 60) × (1 ≤ levels) × (levels ≤ 8) × (known ≡ true)
tests_all size levels known e = grind (arith, nat_tests)

key_there : (key : List ℕ) (levels : ℕ) (first : List ℕ) → IsHssKey key levels first → is_hss_key key ≡ true
key_there key levels first is = all_tests (length key) (u32_at key 0) (is_some (signature_size (drop 4 key))) is.size (subst (λ (n : ℕ). 1 ≤ n) (sym is.levels_are) is.some) (subst (λ (n : ℕ). n ≤ 8) (sym is.levels_are) is.most) (subst (λ (l : List ℕ). IsSome (signature_size l)) (sym is.first_is) is.known)

there_key : (key : List ℕ) → is_hss_key key ≡ true → IsHssKey key (u32_at key 0) (drop 4 key)
there_key key e =
    let t = tests_all (length key) (u32_at key 0) (is_some (signature_size (drop 4 key))) e in
    record { size = t.0; levels_are = refl; some = t.1; most = t.2; first_is = refl; known = t.3 }

no_key : (key : List ℕ) (b : Bool) → is_hss_key key ≡ b → (is_hss_key key ≡ true → ⊥) → false ≡ b
no_key key true e h = absurd (h e)
no_key key false e h = refl

-- what is read as a key passes the test
pub key_read : (key : List ℕ) (r : Result HssKey BadKey) → IfOk r (λ k. IsHssKey key k.levels k.first.now) → ((levels : ℕ) (first : List ℕ) → IsHssKey key levels first → IsOkAnd r (λ k. (k.levels ≡ levels) × (k.first.now ≡ first))) → is_ok r ≡ is_hss_key key
key_read key (Ok k) read found = sym (key_there key k.levels k.first.now read)
key_read key (Err e) read found = no_key key (is_hss_key key) refl (λ h. found (u32_at key 0) (drop 4 key) (there_key key h))
