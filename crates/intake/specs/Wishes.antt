-- What a request for a certificate wishes for, and what of it isn't allowed: extensions, keys and subjects (RFC 4211, 5, RFC 2986,
-- 4.1, and RFC 5280, 4.2.1).
use Rattle.std.specs.Prelude.{ℕ, ◌&&◌, ◌||◌, ◌==◌, Bool, false, not, nat_le, is_some, find, if◌then◌else◌, List, [], ◌∷◌, ◌++◌, length, drop, Option, Some, None, unwrap_or, option_map}
use Rattle.std.specs.List.{list_all, list_any}
use Rattle.std.specs.Str.{bytes_eq}
use Rattle.der_base.specs.Element.{element}
use Rattle.der_base.specs.Reading.{Part, whole_at}
use Rattle.der_base.specs.Row.{items_of}
use Rattle.der_base.specs.Values.{is_integer, bits_at}
use Rattle.asn_fields.specs.Fields.{◌>>=◌, ok_of, sole_at}
use Rattle.asn_fields.specs.Rows.{entries_at}
use Rattle.asn_types.specs.Extension.{ExtensionForm, extension_content, extension_at}
use Rattle.asn_types.specs.General.{is_general}
use Rattle.asn_types.specs.Key.{Key, key_content}
use Rattle.asn_types.specs.Oids.{dotted}
use Rattle.asn_types.specs.Rows.{passes}
use Rattle.asn_types.specs.Template.{tested_at}
use Rattle.asn_parts.specs.Parts.{sole_with}
use Rattle.hss_sig.specs.Hss.{signature_size}
use Rattle.lms_tree.specs.Verifies.{u32_at}
use Rattle.intake.specs.Values.{is_plain_hss, is_hss}

-- ---- extensions

-- id-ce 15, 17 and 19 (RFC 5280, 4.2.1.3, 4.2.1.6 and 4.2.1.9)
abbrev pub is_with : ℕ → ExtensionForm → Bool
is_with n x = bytes_eq x.oid (dotted (2 ∷ 5 ∷ 29 ∷ n ∷ []))

abbrev pub is_key_usage : ExtensionForm → Bool
is_key_usage x = is_with 15 x

abbrev pub is_alt_name : ExtensionForm → Bool
is_alt_name x = is_with 17 x

abbrev pub is_constraints : ExtensionForm → Bool
is_constraints x = is_with 19 x

-- keyUsage is a BIT STRING
abbrev pub is_usage_value : List ℕ → Bool
is_usage_value value = is_some (ok_of (whole_at value) >>= λ p. ok_of (bits_at p))

-- subjectAltName is a SEQUENCE of one or more general names
abbrev pub are_names : Part → Bool
are_names p = not (length p.content == 0) && list_all (passes is_general) (items_of p.content)

abbrev pub is_names_value : List ℕ → Bool
is_names_value value = is_some (sole_at 0x30 value >>= λ p. if are_names p then Some p else None)

-- basicConstraints that ask for no authority: cA is FALSE, which DER leaves out, and pathLenConstraint may stand
abbrev pub is_leaf_content : List ℕ → Bool
is_leaf_content content = (length content == 0) || is_some (sole_with (tested_at is_integer) 0x02 content)

abbrev pub is_leaf_value : List ℕ → Bool
is_leaf_value value = is_some (sole_at 0x30 value >>= λ p. if is_leaf_content p.content then Some p else None)

-- an extension is out of form, or asks for an authority
abbrev pub is_bad_extension : ExtensionForm → Bool
is_bad_extension x = (is_key_usage x && not (is_usage_value x.value))
    || (is_alt_name x && not (is_names_value x.value))
    || (is_constraints x && not (is_leaf_value x.value))

-- one extension stands twice
abbrev pub stands_twice : List ExtensionForm → Bool
stands_twice [] = false
stands_twice (x ∷ xs) = list_any (λ y. bytes_eq x.oid y.oid) xs || stands_twice xs

abbrev pub are_bad_extensions : List ExtensionForm → Bool
are_bad_extensions xs = list_any is_bad_extension xs || stands_twice xs

-- the extensions in the content of an Extensions
abbrev pub extensions_in : Option (List ℕ) → List ExtensionForm
extensions_in None = []
extensions_in (Some content) = unwrap_or (entries_at extension_at 0x30 content) []

-- an extension as it stands
abbrev pub extension_octets : Option ExtensionForm → List ℕ
extension_octets None = []
extension_octets (Some x) = element 0x30 (extension_content x)

-- What is copied of them: keyUsage, then subjectAltName, with their critical flags.
abbrev pub copied_extensions : List ExtensionForm → List ℕ
copied_extensions xs = extension_octets (find is_key_usage xs) ++ extension_octets (find is_alt_name xs)

-- An extension isn't copied, though it asks for something.
abbrev pub is_dropped : ExtensionForm → Bool
is_dropped x = not (is_key_usage x || is_alt_name x || is_constraints x)

-- ---- keys

-- A key of HSS: 60 octets, 1 to 8 levels, and types of the tables (RFC 8554, 6 and 6.1)
abbrev pub is_hss_key : List ℕ → Bool
is_hss_key key = (length key == 60) && nat_le 1 (u32_at key 0) && nat_le (u32_at key 0) 8 && is_some (signature_size (drop 4 key))

-- A key of HSS/LMS that isn't in form or has parameters; or a key of another algorithm, which an RA alone may vouch for.
abbrev pub is_bad_key : Bool → Key → Bool
is_bad_key by_ra k = if is_hss k.alg then not (is_plain_hss k.alg && is_hss_key k.key) else not by_ra

-- the SubjectPublicKeyInfo of a key
abbrev pub spki_octets : Key → List ℕ
spki_octets k = element 0x30 (key_content k)

abbrev pub spki_of : Option Key → List ℕ
spki_of key = unwrap_or (option_map spki_octets key) []

-- ---- subjects

-- a Name with at least one part
abbrev pub is_subject : Option (List ℕ) → Bool
is_subject None = false
is_subject (Some name) = not (bytes_eq name (element 0x30 []))
