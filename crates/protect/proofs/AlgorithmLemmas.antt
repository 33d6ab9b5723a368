-- The algorithms that are written have the forms that are read.
use Rattle.std.proofs.Common.{◌≡◌, ◌≢◌, ℕ, ◌%◌, ◌^◌, ◌<◌, ◌≤◌, ◌++◌, Bool, true, false, cond, IsTrue, List, [], ◌∷◌, length, Some, inl, inr, refl, arith}
use Rattle.std.specs.Prelude.{nat_lt, slice_index}
use Rattle.std.proofs.lemmas.List.{length-append}
use Rattle.std.proofs.lemmas.Bool.Decides.{nat_tests}
use Rattle.der_base.specs.Element.{element, length_octets, IsElement}
use Rattle.der_base.specs.Reading.{big_endian}
use Rattle.der_base.specs.Values.{is_oid}
use Rattle.asn_types.specs.Algorithm.{FitsAlgorithm, algorithm_content}
use Rattle.asn_types.proofs.LengthLemmas.{length_element_le}
use Rattle.asn_parts.specs.Number.{octets_of, number_octets}
use Rattle.asn_parts.proofs.NumberLemmas.{number_form, number_size}
use Rattle.pbmac.specs.Params.{pbmac1, pbkdf2_oid, hmac_sha256}
use Rattle.pbmac_grammar.specs.Pbmac1.{IsAlgorithm, IsHmac, IsCount, IsKdf, IsPbmac1}
use Rattle.protect.specs.Algorithms.{hss_oid, hss_lms, algorithm_octets, hmac_algorithm, kdf_content, kdf_algorithm, scheme_content, mac_algorithm}

-- the count of rounds
by_test : (P : ℕ → Type 0) (n k a b : ℕ) (t : Bool) → nat_lt n k ≡ t → (n < k → P a) → (k ≤ n → P b) → P (cond t a b)
by_test P n k a b true e low high = low (grind (arith, nat_tests))
by_test P n k a b false e low high = high (grind (arith, nat_tests))

if_less : (P : ℕ → Type 0) (n k a b : ℕ) → (n < k → P a) → (k ≤ n → P b) → P (cond (nat_lt n k) a b)
if_less P n k a b low high = by_test P n k a b (nat_lt n k) refl low high

abbrev Stands : ℕ → ℕ → Type 0
Stands n w = (slice_index (octets_of w n) 0 < 128) × (big_endian (octets_of w n) ≡ n)

stands_1 : (n : ℕ) → n < 2 ^ 7 → Stands n 1
unfolding big_endian
stands_1 n high = (omega arith, omega arith)

stands_2 : (n : ℕ) → n < 2 ^ 15 → Stands n 2
unfolding big_endian
stands_2 n high = (omega arith, omega arith)

stands_3 : (n : ℕ) → n < 2 ^ 23 → Stands n 3
unfolding big_endian
stands_3 n high = (omega arith, omega arith)

number_stands : (n : ℕ) → n ≤ 200000 → (slice_index (number_octets n) 0 < 128) × (big_endian (number_octets n) ≡ n)
unfolding number_octets
number_stands n most =
    if_less (Stands n) n (2 ^ 7) 1 _ (stands_1 n) (λ g1.
    if_less (Stands n) n (2 ^ 15) 2 _ (stands_2 n) (λ g2.
    if_less (Stands n) n (2 ^ 23) 3 _ (stands_3 n) (λ g3. absurd (omega arith))))

count_is : (n : ℕ) → 1 ≤ n → n ≤ 200000 → IsCount (number_octets n) n
count_is n least most =
    let s = number_stands n most in
    record { form = number_form n (omega arith); positive = s.0; value = s.1; least = least; most = most }

element_is : (tag : ℕ) (content : List ℕ) → tag % 32 ≢ 31 → length content < 2 ^ 32 → IsElement (element tag content) tag content
element_is tag content low counted = record { low_tag = low; counted = counted; spelled = refl }

-- HSS/LMS
pub hss_fits : FitsAlgorithm hss_lms
unfolding hss_oid is_oid
hss_fits = record { identifier = refl; counted = omega arith; params = tt }

pub hss_short : length (algorithm_content hss_lms) < 2 ^ 32
unfolding hss_oid
hss_short = omega (arith, length-append (element 0x06 hss_oid) [], length_element_le 0x06 hss_oid)

-- HMAC-SHA-256
hmac_short : length (algorithm_octets hmac_algorithm) ≤ 32
unfolding hmac_sha256
hmac_short = omega (arith, length_element_le 0x30 (algorithm_content hmac_algorithm), length-append (element 0x06 hmac_sha256) (0x05 ∷ 0x00 ∷ []), length_element_le 0x06 hmac_sha256)

null_is : IsElement (0x05 ∷ 0x00 ∷ []) 0x05 []
unfolding element length_octets
null_is = record { low_tag = omega arith; counted = omega arith; spelled = refl }

hmac_is : IsHmac (algorithm_octets hmac_algorithm)
unfolding hmac_sha256 is_oid
hmac_is = record {
  algorithm = hmac_algorithm;
  is_algorithm = record {
    fits = record { identifier = refl; counted = omega arith; params = record { tag = 0x05; content = []; alone = null_is } };
    alone = element_is 0x30 (algorithm_content hmac_algorithm) (omega arith) (omega (arith, length-append (element 0x06 hmac_sha256) (0x05 ∷ 0x00 ∷ []), length_element_le 0x06 hmac_sha256));
  };
  named = refl;
  params = inr refl;
}

-- an algorithm whose parameters are a SEQUENCE
fits_by : (oid content : List ℕ) → IsTrue (is_oid oid) → length oid ≤ 16 → length content ≤ 256 → FitsAlgorithm (record { oid = oid; params = Some (element 0x30 content) })
fits_by oid content is short small = record {
  identifier = is;
  counted = omega (arith, short);
  params = record { tag = 0x30; content = content; alone = element_is 0x30 content (omega arith) (omega (arith, small)) };
}

whole_short : (oid content : List ℕ) → length oid ≤ 16 → length content ≤ 256 → length (element 0x06 oid ++ element 0x30 content) ≤ 300
whole_short oid content short small =
    omega (arith, short, small, length-append (element 0x06 oid) (element 0x30 content), length_element_le 0x06 oid, length_element_le 0x30 content)

spelled_by : (oid content : List ℕ) → IsTrue (is_oid oid) → length oid ≤ 16 → length content ≤ 256 → IsAlgorithm (element 0x30 (element 0x06 oid ++ element 0x30 content)) (record { oid = oid; params = Some (element 0x30 content) })
spelled_by oid content is short small = record {
  fits = fits_by oid content is short small;
  alone = element_is 0x30 (element 0x06 oid ++ element 0x30 content) (omega arith) (omega (arith, whole_short oid content short small));
}

-- the identifiers
pbkdf2_named : IsTrue (is_oid pbkdf2_oid)
unfolding pbkdf2_oid is_oid
pbkdf2_named = refl

pbkdf2_short : length pbkdf2_oid ≤ 16
unfolding pbkdf2_oid
pbkdf2_short = omega arith

pbmac1_named : IsTrue (is_oid pbmac1)
unfolding pbmac1 is_oid
pbmac1_named = refl

pbmac1_short : length pbmac1 ≤ 16
unfolding pbmac1
pbmac1_short = omega arith

-- PBKDF2
kdf_short : (salt : List ℕ) (rounds : ℕ) → length salt ≡ 16 → length (kdf_content salt rounds) ≤ 128
kdf_short salt rounds sized =
    let count = element 0x02 (number_octets rounds) in
    let hmac = algorithm_octets hmac_algorithm in
    omega (arith, sized, length-append (element 0x04 salt) (count ++ hmac), length-append count hmac, length_element_le 0x04 salt, length_element_le 0x02 (number_octets rounds), number_size rounds, hmac_short)

kdf_is : (salt : List ℕ) (rounds : ℕ) → length salt ≡ 16 → 1 ≤ rounds → rounds ≤ 200000 → IsKdf (algorithm_octets (kdf_algorithm salt rounds)) salt rounds
kdf_is salt rounds sized least most = record {
  algorithm = kdf_algorithm salt rounds;
  params = element 0x30 (kdf_content salt rounds);
  content = kdf_content salt rounds;
  is_algorithm = spelled_by pbkdf2_oid (kdf_content salt rounds) pbkdf2_named pbkdf2_short (omega (arith, kdf_short salt rounds sized));
  named = refl;
  given = refl;
  is_sequence = element_is 0x30 (kdf_content salt rounds) (omega arith) (omega (arith, kdf_short salt rounds sized));
  is_content = record {
    salt_element = element 0x04 salt;
    count_element = element 0x02 (number_octets rounds);
    count = number_octets rounds;
    key_length = [];
    prf = algorithm_octets hmac_algorithm;
    parts = refl;
    is_salt = element_is 0x04 salt (omega arith) (omega (arith, sized));
    salt_least = omega (arith, sized);
    salt_most = omega (arith, sized);
    count_is = element_is 0x02 (number_octets rounds) (omega arith) (omega (arith, number_size rounds));
    is_count = count_is rounds least most;
    is_key_length = inl refl;
    is_prf = hmac_is;
  };
}

-- PBMAC1
kdf_octets_short : (salt : List ℕ) (rounds : ℕ) → length salt ≡ 16 → length (algorithm_octets (kdf_algorithm salt rounds)) ≤ 164
kdf_octets_short salt rounds sized =
    let params = element 0x30 (kdf_content salt rounds) in
    omega (arith, length_element_le 0x30 (element 0x06 pbkdf2_oid ++ params), length-append (element 0x06 pbkdf2_oid) params, length_element_le 0x06 pbkdf2_oid, pbkdf2_short, length_element_le 0x30 (kdf_content salt rounds), kdf_short salt rounds sized)

scheme_short : (salt : List ℕ) (rounds : ℕ) → length salt ≡ 16 → length (scheme_content salt rounds) ≤ 200
scheme_short salt rounds sized =
    omega (arith, length-append (algorithm_octets (kdf_algorithm salt rounds)) (algorithm_octets hmac_algorithm), kdf_octets_short salt rounds sized, hmac_short)

pub mac_fits : (salt : List ℕ) (rounds : ℕ) → length salt ≡ 16 → FitsAlgorithm (mac_algorithm salt rounds)
mac_fits salt rounds sized = fits_by pbmac1 (scheme_content salt rounds) pbmac1_named pbmac1_short (omega (arith, scheme_short salt rounds sized))

pub mac_short : (salt : List ℕ) (rounds : ℕ) → length salt ≡ 16 → length (algorithm_content (mac_algorithm salt rounds)) < 2 ^ 32
mac_short salt rounds sized = omega (arith, whole_short pbmac1 (scheme_content salt rounds) pbmac1_short (omega (arith, scheme_short salt rounds sized)))

pub mac_is : (salt : List ℕ) (rounds : ℕ) → length salt ≡ 16 → 1 ≤ rounds → rounds ≤ 200000 → IsPbmac1 (mac_algorithm salt rounds) salt rounds
mac_is salt rounds sized least most = record {
  params = element 0x30 (scheme_content salt rounds);
  content = scheme_content salt rounds;
  kdf = algorithm_octets (kdf_algorithm salt rounds);
  mac = algorithm_octets hmac_algorithm;
  named = refl;
  given = refl;
  is_sequence = element_is 0x30 (scheme_content salt rounds) (omega arith) (omega (arith, scheme_short salt rounds sized));
  parts = refl;
  is_kdf = kdf_is salt rounds sized least most;
  is_mac = hmac_is;
}
