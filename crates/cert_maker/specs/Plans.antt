-- What the certificates of the service say (RFC 5280, 4.1 and 4.2.1; RFC 9802, 3 and 4): the authority's own, that of its
-- replies, and those that it grants.
use Rattle.std.specs.Prelude.{ℕ, ◌+◌, ◌-◌, ◌*◌, ◌++◌, ◌&&◌, ◌==◌, Bool, true, false, List, [], ◌∷◌, Option, Some, None, codes, if◌then◌else◌}
use Rattle.std.specs.List.{list_any}
use Rattle.std.specs.Str.{bytes_eq}
use Rattle.der_base.specs.Element.{element}
use Rattle.der_base.specs.Reading.{Part}
use Rattle.der_base.specs.Row.{items_of}
use Rattle.asn_types.specs.Extension.{ExtensionForm, extension_content, extension_at, is_extensions}
use Rattle.asn_types.specs.Key.{spki_content, key_identifier}
use Rattle.asn_types.specs.Name.{common_name}
use Rattle.asn_types.specs.Oids.{dotted}
use Rattle.asn_types.specs.Rows.{passes}
use Rattle.x509_cert.specs.Plan.{hss_lms}
use Rattle.x509_cert.specs.declared.plan.CertPlan.{CertPlan}
use Rattle.deal_changes.specs.declared.change.Wish.{Wish}
use Rattle.deal_model.specs.declared.asking.Brief.{Brief}
use Rattle.deal_model.specs.Keys.{key_of}

-- ---- names and keys

-- the name of the authority
abbrev pub ca_name : Brief → List ℕ
ca_name keys = common_name keys.name

-- the name that replies are signed under: the authority's, a space and "reply"
abbrev pub reply_name : Brief → List ℕ
reply_name keys = common_name (keys.name ++ codes " reply")

-- the SubjectPublicKeyInfo of a key of HSS/LMS, which has no parameters (RFC 9802, 4)
abbrev pub own_spki : List ℕ → List ℕ
own_spki key = element 0x30 (spki_content hss_lms key)

-- ---- extensions

-- id-ce-n, 2.5.29.n
abbrev pub extension_oid : ℕ → List ℕ
extension_oid n = dotted (2 ∷ 5 ∷ 29 ∷ n ∷ [])

-- an extension of the standard, critical or not, with this value
abbrev pub extension : ℕ → Bool → List ℕ → List ℕ
extension n critical value = element 0x30 (extension_content (record { oid = extension_oid n; critical = critical; value = value }))

-- subjectKeyIdentifier: the identifier of the key that is certified (4.2.1.2)
abbrev pub subject_key : List ℕ → List ℕ
subject_key key = extension 14 false (element 0x04 (key_identifier key))

-- authorityKeyIdentifier: keyIdentifier [0], that of the key that signs (4.2.1.1)
abbrev pub authority_key : List ℕ → List ℕ
authority_key key = extension 35 false (element 0x30 (element 0x80 (key_identifier key)))

-- basicConstraints, critical: cA is TRUE (4.2.1.9)
abbrev pub authority_constraints : List ℕ
authority_constraints = extension 19 true (element 0x30 (element 0x01 (255 ∷ [])))

-- keyUsage, critical: of its bits one is set, and so many behind it are unused (4.2.1.3)
abbrev pub key_usage : ℕ → ℕ → List ℕ
key_usage unused octet = extension 15 true (element 0x03 (unused ∷ octet ∷ []))

-- digitalSignature, the bit 0
abbrev pub signs_messages : List ℕ
signs_messages = key_usage 7 0x80

-- keyCertSign, the bit 5
abbrev pub signs_certificates : List ℕ
signs_certificates = key_usage 2 0x04

abbrev pub names_usage : Option ExtensionForm → Bool
names_usage (Some x) = bytes_eq x.oid (extension_oid 15)
names_usage None = false

-- the element is an extension keyUsage
unfoldable pub is_usage : Part → Bool
is_usage p = (p.tag == 0x30) && names_usage (extension_at p.content)

-- Octets are a row of extensions, and one of them is keyUsage.
unfoldable pub has_usage : List ℕ → Bool
has_usage exts = is_extensions exts && list_any (passes is_usage) (items_of exts)

-- the keyUsage that a certificate gets where none is asked for
abbrev pub default_usage : List ℕ → List ℕ
default_usage exts = if has_usage exts then [] else signs_messages

-- ---- the three certificates

-- the last second of the year 9999, for certificates that don't end (RFC 5280, 4.1.2.5)
abbrev pub no_end : ℕ
no_end = 253_402_300_799

-- the authority's own certificate, from the second at which the service was founded
unfoldable pub root_plan : Brief → ℕ → CertPlan
root_plan keys time = record {
  serial = 1;
  issuer = ca_name keys;
  not_before = time;
  not_after = no_end;
  subject = ca_name keys;
  spki = own_spki keys.issue_key;
  exts = subject_key keys.issue_key ++ (authority_constraints ++ signs_certificates);
}

-- the certificate of the key that signs replies
unfoldable pub reply_plan : Brief → ℕ → CertPlan
reply_plan keys time = record {
  serial = 2;
  issuer = ca_name keys;
  not_before = time;
  not_after = no_end;
  subject = reply_name keys;
  spki = own_spki keys.reply_key;
  exts = authority_key keys.issue_key ++ (subject_key keys.reply_key ++ signs_messages);
}

-- The extensions of a granted certificate: both key identifiers, the default keyUsage, and those that were wished for, as they
-- stand.
abbrev pub granted_extensions : Brief → Wish → List ℕ
granted_extensions keys w =
    authority_key keys.issue_key ++ (subject_key (key_of w.spki) ++ (default_usage w.exts ++ w.exts))

-- the certificate that is granted at this second for a wish
unfoldable pub granted_plan : Brief → ℕ → Wish → ℕ → CertPlan
granted_plan keys time w serial = record {
  serial = serial;
  issuer = ca_name keys;
  not_before = time;
  not_after = time + 86_400 * keys.days - 1;
  subject = w.subject;
  spki = w.spki;
  exts = granted_extensions keys w;
}
