-- Reasons of revocations, as the extension reasonCode tells them (RFC 5280, 5.3.1).
use Rattle.std.specs.Prelude.{◌≡◌, ℕ, ◌≤◌, ◌⊎◌, ◌++◌, ◌==◌, ◌||◌, nat_le, Bool, if◌then◌else◌, List, [], ◌∷◌, Option, Some, None}
use Rattle.std.specs.Str.{bytes_eq}
use Rattle.der_base.specs.Element.{element}
use Rattle.asn_fields.specs.Fields.{◌>>=◌}
use Rattle.asn_fields.specs.Rows.{entries_spelling, FitsEntries, entries_at}
use Rattle.asn_types.specs.Extension.{ExtensionForm, FitsExtension, extension_content, extension_at}
use Rattle.asn_parts.specs.Number.{number_octets}
use Rattle.asn_parts.specs.Parts.{tagged, sole_with}

-- The reasons for which a certificate is revoked: unspecified 0, keyCompromise 1, cACompromise 2, affiliationChanged 3,
-- superseded 4, cessationOfOperation 5, certificateHold 6, privilegeWithdrawn 9 and aACompromise 10. 7 is not used, and
-- removeFromCRL 8 ends a hold.
abbrev pub IsReason : ℕ → Type 0
IsReason n = (n ≤ 6) ⊎ ((n ≡ 9) ⊎ (n ≡ 10))

-- id-ce-cRLReasons, 2.5.29.21
unfoldable pub reason_code_id : List ℕ
reason_code_id = 0x55 ∷ 0x1d ∷ 0x15 ∷ []

-- the value of a reasonCode: an ENUMERATED of one octet
abbrev pub reason_octet : ℕ → List ℕ
reason_octet n = n ∷ []

abbrev pub reason_value : ℕ → List ℕ
reason_value = tagged 0x0A reason_octet

-- the values of all extensions that are a reasonCode
abbrev pub reasons_in : List ExtensionForm → List (List ℕ)
reasons_in [] = []
reasons_in (x ∷ xs) = if bytes_eq x.oid reason_code_id then x.value ∷ reasons_in xs else reasons_in xs

-- The reason that the values of all reasonCodes give: unspecified where there is none, and that of the one where there is one.
-- Two give none.
abbrev pub GiveReason : List (List ℕ) → ℕ → Type 0
GiveReason [] n = n ≡ 0
GiveReason (value ∷ []) n = IsReason n × (value ≡ reason_value n)
GiveReason (value ∷ another ∷ more) n = ⊥

-- The content is a row of extensions that give this reason.
pub record AsksReason (content : List ℕ) (n : ℕ) : Type 0 where
  pub extensions : List ExtensionForm
  pub fit : FitsEntries extension_content FitsExtension extensions
  pub spelled : content ≡ entries_spelling 0x30 extension_content extensions
  pub reason : GiveReason (reasons_in extensions) n

-- The reason that crlEntryDetails give, which may be left out.
abbrev pub IsReasonOf : Option (List ℕ) → ℕ → Type 0
IsReasonOf None n = n ≡ 0
IsReasonOf (Some content) n = AsksReason content n

-- what is read: the reason in the value of a reasonCode
abbrev pub is_reason : ℕ → Bool
is_reason n = nat_le n 6 || ((n == 9) || (n == 10))

unfoldable pub reason_octet_at : List ℕ → Option ℕ
reason_octet_at [] = None
reason_octet_at (n ∷ []) = if is_reason n then Some n else None
reason_octet_at (n ∷ more ∷ others) = None

abbrev pub reason_value_at : List ℕ → Option ℕ
reason_value_at = sole_with reason_octet_at 0x0A

-- the reason, where this one was read before and these values follow
abbrev pub reason_after : Option ℕ → List (List ℕ) → Option ℕ
reason_after None [] = Some 0
reason_after None (value ∷ more) = reason_value_at value >>= λ n. reason_after (Some n) more
reason_after (Some n) [] = Some n
reason_after (Some n) (value ∷ more) = None

abbrev pub with_reason : Option ℕ → Option (List ExtensionForm) → Option ℕ
with_reason found None = None
with_reason found (Some xs) = reason_after found (reasons_in xs)

unfoldable pub reason_in_at : List ℕ → Option ℕ
reason_in_at content = with_reason None (entries_at extension_at 0x30 content)

abbrev pub reason_at : Option (List ℕ) → Option ℕ
reason_at None = Some 0
reason_at (Some content) = reason_in_at content

-- what is written: a reasonCode
abbrev pub reason_extension : ℕ → List ℕ
reason_extension reason = element 0x30 (element 0x06 reason_code_id ++ element 0x04 (element 0x0A (number_octets reason)))
