-- Elements of DER (X.690, 8.1 and 10.1) whose tag takes one octet, of contents below 2 ^ 32 octets.
use Rattle.std.specs.Prelude.{◌≡◌, ◌≢◌, ℕ, ◌/◌, ◌%◌, ◌^◌, ◌<◌, ◌++◌, List, [], ◌∷◌, length, nat_lt, if◌then◌else◌}

-- The octets of a length (X.690, 10.1): one octet up to 127, else 81 to 84 and the fewest octets that hold it, the
-- highest first.
unfoldable pub length_octets : ℕ → List ℕ
length_octets n =
    if nat_lt n 128 then n ∷ []
    else (if nat_lt n 256 then 0x81 ∷ n ∷ []
    else (if nat_lt n (2 ^ 16) then 0x82 ∷ (n / 256) ∷ (n % 256) ∷ []
    else (if nat_lt n (2 ^ 24) then 0x83 ∷ (n / 2 ^ 16) ∷ (n / 256 % 256) ∷ (n % 256) ∷ []
    else 0x84 ∷ (n / 2 ^ 24) ∷ (n / 2 ^ 16 % 256) ∷ (n / 256 % 256) ∷ (n % 256) ∷ [])))

-- The one spelling of a content under a tag: the tag, the length and the content (X.690, 8.1.1).
unfoldable pub element : ℕ → List ℕ → List ℕ
element tag content = tag ∷ (length_octets (length content) ++ content)

-- The octets are an element: the tag is of the low form (X.690, 8.1.2.4: the low five bits of a high one are all ones),
-- the length fits, and the content is spelled as DER spells it.
pub record IsElement (octets : List ℕ) (tag : ℕ) (content : List ℕ) : Type 0 where
  pub low_tag : tag % 32 ≢ 31
  pub counted : length content < 2 ^ 32
  pub spelled : octets ≡ element tag content

-- One content under one tag has one spelling.
abbrev pub HasOneSpelling : Type 0
HasOneSpelling = (a b : List ℕ) (tag : ℕ) (content : List ℕ) → IsElement a tag content → IsElement b tag content → a ≡ b

-- No element begins another one: two that begin the same octets are the same element.
abbrev pub BeginsNoOther : Type 0
BeginsNoOther = (a b x y : List ℕ) (s t : ℕ) (c d : List ℕ) → IsElement a s c → IsElement b t d → a ++ x ≡ b ++ y → (a ≡ b) × (s ≡ t) × (c ≡ d)

-- An element stands at the front of octets, and at least one octet behind it.
pub record GoesOn (octets : List ℕ) : Type 0 where
  pub tag : ℕ
  pub content : List ℕ
  pub next : ℕ
  pub rest : List ℕ
  pub is_element : IsElement (element tag content) tag content
  pub parts : octets ≡ element tag content ++ next ∷ rest
