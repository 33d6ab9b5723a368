-- A wish of what a message asks for can be spelled.
use Rattle.std.proofs.Common.{◌≡◌, ◌≢◌, ℕ, ◌≤◌, ◌<◌, ◌^◌, ◌%◌, ◌++◌, ◌||◌, Bool, true, false, eqb, eq-eqb, List, [], ◌∷◌, length, Option, Some, None, IfSome, IfOk, Result, Ok, Err, is_some, option_map, refl, sym, ap, subst, ◌∙◌, append-nil, arith}
use Rattle.std.specs.Prelude.{find, unwrap_or, is_ok}
use Rattle.std.specs.Option.{option_copied}
use Rattle.std.proofs.lemmas.List.{length-append}
use Rattle.der_base.proofs.ElementLemmas.{element_again}
use Rattle.der_base.specs.Element.{element}
use Rattle.der_base.specs.Reading.{Part, part, whole_at}
use Rattle.der_base.specs.declared.fault.DerFault.{DerFault}
use Rattle.asn_fields.proofs.RowLemmas.{entries_are_read}
use Rattle.asn_fields.specs.Fields.{ok_of}
use Rattle.asn_fields.specs.Forms.{IsRead}
use Rattle.asn_fields.specs.Rows.{entries_spelling, FitsEntries, entries_at}
use Rattle.asn_types.proofs.ExtensionLemmas.{extension_is_read}
use Rattle.asn_types.proofs.LengthLemmas.{length_element_le, length_element_lt}
use Rattle.asn_types.proofs.ValueLemmas.{whole_again}
use Rattle.asn_types.specs.Algorithm.{IfAny, algorithm_content}
use Rattle.asn_types.specs.Extension.{ExtensionForm, FitsExtension, extension_content, extension_at}
use Rattle.asn_types.specs.Key.{Key, FitsKey, key_content, key_of}
use Rattle.asn_types.specs.declared.spki.Spki.{Spki}
use Rattle.deal_changes.specs.Spelling.{IsBlob, IsWish}
use Rattle.deal_changes.specs.declared.change.Wish.{Wish}
use Rattle.deal_changes.specs.Spki.{content_at, only_at, are_parameters, public_key, is_spki}
use Rattle.pki_message.specs.Frame.{message_limit}
use Rattle.intake.specs.Bodies.{wish_of}
use Rattle.intake.specs.Told.{asked_wish, IsLimited, AreLimited}
use Rattle.intake.specs.declared.bodies.Asked.{Asked}
use Rattle.intake.specs.Wishes.{extensions_in, extension_octets, copied_extensions, spki_octets, is_key_usage, is_alt_name}

-- ---- the key's SubjectPublicKeyInfo

content_again : (tag : ℕ) (content rest : List ℕ) → tag % 32 ≢ 31 → length content < 2 ^ 32 → content_at tag (element tag content ++ rest) ≡ Some (content, rest)
unfolding content_at
content_again tag content rest low counted = rw (element_again tag content rest low counted, eq-eqb tag tag refl) refl

only_again : (tag : ℕ) (content : List ℕ) → tag % 32 ≢ 31 → length content < 2 ^ 32 → only_at tag (element tag content) ≡ Some content
unfolding only_at
only_again tag content low counted = rw (ap (content_at tag) (sym (append-nil (element tag content))) ∙ content_again tag content [] low counted) refl

or_true : (b : Bool) → b || true ≡ true
or_true true = refl
or_true false = refl

ok_true : (r : Result Part DerFault) (p : Part) → ok_of r ≡ Some p → is_ok r ≡ true
ok_true (Ok q) p e = refl
ok_true (Err f) p e = absurd (let g = e in cc)

parameters_again : (o : Option (List ℕ)) → IfAny o → are_parameters (unwrap_or o []) ≡ true
unfolding are_parameters
parameters_again None any = refl
parameters_again (Some octets) any =
    rw (ok_true (whole_at octets) (part any.tag any.content) (whole_again octets any.tag any.content any.alone)) (or_true (eqb (length octets) 0))

spki_again : (k : Key) → FitsKey k → length (key_content k) < 2 ^ 32 → is_spki (spki_octets k) ≡ true
unfolding is_spki public_key
spki_again k fits counted =
    let a = k.alg in
    rw (
      only_again 0x30 (key_content k) (omega arith) counted,
      content_again 0x30 (algorithm_content a) (element 0x03 (0 ∷ k.key)) (omega arith) fits.alg_counted,
      content_again 0x06 a.oid (unwrap_or a.params []) (omega arith) fits.alg.counted,
      only_again 0x03 (0 ∷ k.key) (omega arith) (omega (arith, fits.key_counted)),
      fits.alg.identifier,
      parameters_again a.params fits.alg.params,
    ) refl

-- ---- the extensions

first_by : (test : ExtensionForm → Bool) (n : ℕ) (x : ExtensionForm) (xs : List ExtensionForm) (b : Bool) → test x ≡ b → length (element 0x30 (extension_content x)) ≤ n → IfSome (find test xs) (λ y. length (element 0x30 (extension_content y)) ≤ n) → IfSome (find test (x ∷ xs)) (λ y. length (element 0x30 (extension_content y)) ≤ n)
first_by test n x xs true e h more = rw e h
first_by test n x xs false e h more = rw e more

first_within : (test : ExtensionForm → Bool) (n : ℕ) (xs : List ExtensionForm) → length (entries_spelling 0x30 extension_content xs) ≤ n → IfSome (find test xs) (λ x. length (element 0x30 (extension_content x)) ≤ n)
first_within test n [] h = tt
first_within test n (x ∷ xs) h =
    let both = length-append (element 0x30 (extension_content x)) (entries_spelling 0x30 extension_content xs) in
    first_by test n x xs (test x) refl (omega (arith, h, both)) (first_within test n xs (omega (arith, h, both)))

extension_rows : IsRead (entries_at extension_at 0x30) (entries_spelling 0x30 extension_content) (FitsEntries extension_content FitsExtension)
extension_rows = entries_are_read extension_is_read 0x30 (omega arith)

-- an extension with its SEQUENCE is no longer than a message
abbrev IsLimitedExtension : ExtensionForm → Type 0
IsLimitedExtension x = IsLimited (element 0x30 (extension_content x))

read_within : (test : ExtensionForm → Bool) (content : List ℕ) (o : Option (List ExtensionForm)) → entries_at extension_at 0x30 content ≡ o → IsLimited content → IfSome (find test (unwrap_or o [])) IsLimitedExtension
read_within test content None e h = tt
read_within test content (Some xs) e h = first_within test message_limit xs (subst IsLimited (extension_rows.takes content xs e).1 h)

pub found_within : (test : ExtensionForm → Bool) (exts : Option (List ℕ)) → IfSome exts IsLimited → IfSome (find test (extensions_in exts)) IsLimitedExtension
found_within test None h = tt
found_within test (Some content) h = read_within test content (entries_at extension_at 0x30 content) refl h

content_below : (o : Option ExtensionForm) → IfSome o IsLimitedExtension → IfSome o (λ x. length (extension_content x) < 2 ^ 32)
content_below None h = tt
content_below (Some x) h = omega (arith, h, length_element_lt 0x30 (extension_content x))

octets_within : (o : Option ExtensionForm) → IfSome o IsLimitedExtension → IsLimited (extension_octets o)
octets_within None h = omega arith
octets_within (Some x) h = h

-- what is put of them fits
pub usage_below : (exts : Option (List ℕ)) → IfSome exts IsLimited → IfSome (find is_key_usage (extensions_in exts)) (λ x. length (extension_content x) < 2 ^ 32)
usage_below exts h = content_below (find is_key_usage (extensions_in exts)) (found_within is_key_usage exts h)

pub alt_name_below : (exts : Option (List ℕ)) → IfSome exts IsLimited → IfSome (find is_alt_name (extensions_in exts)) (λ x. length (extension_content x) < 2 ^ 32)
alt_name_below exts h = content_below (find is_alt_name (extensions_in exts)) (found_within is_alt_name exts h)

-- ---- the wish

subject_blob : (o : Option (List ℕ)) → IfSome o IsLimited → IsBlob (unwrap_or o [])
subject_blob None h = omega arith
subject_blob (Some octets) h = omega (arith, h)

copied_blob : (exts : Option (List ℕ)) → IfSome exts IsLimited → IsBlob (copied_extensions (extensions_in exts))
copied_blob exts h =
    let usage = find is_key_usage (extensions_in exts) in
    let name = find is_alt_name (extensions_in exts) in
    omega (
      arith,
      length-append (extension_octets usage) (extension_octets name),
      octets_within usage (found_within is_key_usage exts h),
      octets_within name (found_within is_alt_name exts h),
    )

pub wish_fits : (subject : Option (List ℕ)) (key : Option Key) (exts : Option (List ℕ)) (implicit is_more : Bool) → AreLimited subject key exts → is_some key ≡ true → IsWish (wish_of subject key exts implicit is_more)
wish_fits subject None exts implicit is_more h e = absurd (let f = e in cc)
wish_fits subject (Some k) exts implicit is_more h e =
    let fits = h.key_fits in
    record {
      subject = subject_blob subject h.subject_counted;
      spki = omega (arith, fits.counted, length_element_le 0x30 (key_content k));
      is_spki = spki_again k fits.form (omega (arith, fits.counted));
      exts = copied_blob exts h.exts_counted;
    }

key_there : (o : Option Spki) → is_some o ≡ true → is_some (option_map key_of o) ≡ true
key_there (Some k) e = refl
key_there None e = e

-- the wish that was made
pub made_fits : {E : Type 0} (r : Result Wish E) (a : Asked) → IfOk r (λ w. w ≡ asked_wish a) → AreLimited (option_copied a.subject) (option_map key_of a.key) (option_copied a.exts) → is_some a.key ≡ true → IfOk r IsWish
made_fits (Ok w) a made h e = subst IsWish (sym made) (wish_fits (option_copied a.subject) (option_map key_of a.key) (option_copied a.exts) a.implicit a.has_more h (key_there a.key e))
made_fits (Err f) a made h e = tt
