-- The values of the simple types, by the tag and the content of their element.
use Rattle.std.specs.Prelude.{◌≡◌, ◌≢◌, ℕ, zero, suc, ◌-◌, ◌%◌, ◌^◌, ◌<◌, Bool, true, false, not, ◌||◌, ◌&&◌, ◌==◌, nat_lt, nat_le, if◌then◌else◌, IsTrue, List, [], ◌∷◌, length, slice_index, Result, Ok, Err}
use Rattle.std.specs.Str.{is_utf8}
use Rattle.der_base.specs.Reading.{Part}
use Rattle.der_base.specs.declared.element.Element.{Element}
use Rattle.der_base.specs.declared.bit_string.Bits.{Bits}
use Rattle.der_base.specs.declared.fault.DerFault.{DerFault}
use Rattle.der_base.specs.declared.fault.DerFault.TheVariants.{Short, BadTag, BadLength, Trailing}

-- A boolean is one octet, 00 or ff (X.690, 8.2 and 11.1).
abbrev pub is_boolean : List ℕ → Bool
is_boolean [] = false
is_boolean (b ∷ []) = (b == 0) || (b == 255)
is_boolean (b ∷ c ∷ more) = false

abbrev pub boolean_of : List ℕ → Bool
boolean_of [] = false
boolean_of (b ∷ more) = b == 255

-- An integer has at least one octet, and here at most 20. Its first nine bits are not all alike (X.690, 8.3.2).
abbrev pub is_integer : List ℕ → Bool
is_integer [] = false
is_integer (a ∷ []) = true
is_integer (a ∷ b ∷ more) = nat_le (length more) 18 && (not ((a == 0) && nat_lt b 128) && not ((a == 255) && nat_le 128 b))

-- a string of bits: how many at its end are unused, and the octets
pub record BitString : Type 0 where
  pub unused : ℕ
  pub octets : List ℕ

-- A string of bits is the number of unused bits at its end, 0 to 7, and the octets, the unused bits 0. That of an empty one is
-- 0 (X.690, 8.6.2 and 11.2.1).
abbrev pub is_bits : List ℕ → Bool
is_bits [] = false
is_bits (unused ∷ []) = unused == 0
is_bits (unused ∷ b ∷ more) = nat_lt unused 8 && (slice_index (b ∷ more) (length more) % 2 ^ unused == 0)

abbrev pub bits_of : List ℕ → BitString
bits_of [] = record { unused = 0; octets = [] }
bits_of (unused ∷ octets) = record { unused = unused; octets = octets }

abbrev pub bit_string_of : Bits → BitString
bit_string_of b = record { unused = b.unused; octets = b.octets.now }

-- Any octets are a string of octets (X.690, 8.7).
abbrev pub is_octets : List ℕ → Bool
is_octets content = true

-- NULL has no content (X.690, 8.8).
abbrev pub is_null : List ℕ → Bool
is_null [] = true
is_null (b ∷ more) = false

-- A part of an object identifier begins here: at its front, or behind an octet below 128 (X.690, 8.19.2).
abbrev pub BeginsPart : List ℕ → ℕ → Type 0
BeginsPart content zero = Unit {0}
BeginsPart content (suc i) = slice_index content i < 128

-- An object identifier has content, its last part ends, and no part begins with 128 (X.690, 8.19.2).
pub record IsOid (content : List ℕ) : Type 0 where
  pub some : 0 < length content
  pub last : slice_index content (length content - 1) < 128
  pub parts : (i : ℕ) → i < length content → BeginsPart content i → slice_index content i ≢ 128

-- the same as a test: what is left goes on with whole parts, where a part begins here or not
abbrev pub has_parts : Bool → List ℕ → Bool
has_parts begins [] = begins
has_parts begins (b ∷ more) = not (begins && (b == 128)) && has_parts (nat_lt b 128) more

unfoldable pub is_oid : List ℕ → Bool
is_oid [] = false
is_oid (b ∷ more) = has_parts true (b ∷ more)

-- The value where the tag is the type's and the content is of its form. BadTag where the tag is another one, and BadLength
-- where the tag is the type's and the content is not of its form.
abbrev pub ReadsAs : {T : Type 0} → ℕ → (List ℕ → Bool) → (List ℕ → T → Type 0) → Element → Result T DerFault → Type 0
ReadsAs tag form Value e (Ok x) = (e.tag ≡ tag) × IsTrue (form e.content.now) × Value e.content.now x
ReadsAs tag form Value e (Err Short) = ⊥
ReadsAs tag form Value e (Err BadTag) = e.tag ≢ tag
ReadsAs tag form Value e (Err BadLength) = (e.tag ≡ tag) × (form e.content.now ≡ false)
ReadsAs tag form Value e (Err Trailing) = ⊥

-- what reading such a value gives
abbrev pub value_of : {T : Type 0} → ℕ → (List ℕ → Bool) → (List ℕ → T) → Part → Result T DerFault
value_of tag form value p = if p.tag == tag then (if form p.content then Ok (value p.content) else Err BadLength) else Err BadTag

unfoldable pub boolean_at : Part → Result Bool DerFault
boolean_at = value_of 1 is_boolean boolean_of

unfoldable pub integer_at : Part → Result (List ℕ) DerFault
integer_at = value_of 2 is_integer (λ content. content)

unfoldable pub bits_at : Part → Result BitString DerFault
bits_at = value_of 3 is_bits bits_of

unfoldable pub octets_at : Part → Result (List ℕ) DerFault
octets_at = value_of 4 is_octets (λ content. content)

unfoldable pub null_at : Part → Result (Unit {0}) DerFault
null_at = value_of 5 is_null (λ content. tt)

unfoldable pub oid_at : Part → Result (List ℕ) DerFault
oid_at = value_of 6 is_oid (λ content. content)

unfoldable pub utf8_at : Part → Result (List ℕ) DerFault
utf8_at = value_of 12 is_utf8 (λ content. content)
