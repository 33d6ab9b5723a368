-- What the bodies of messages say of which a decision asks (RFC 9810, 5.3).
use Rattle.std.specs.Prelude.{ℕ, ◌&&◌, ◌||◌, ◌==◌, Bool, true, false, not, nat_le, is_some, if◌then◌else◌, List, [], ◌∷◌, length, Option, Some, None, unwrap_or, option_and_then}
use Rattle.std.specs.List.{list_any}
use Rattle.std.specs.Str.{bytes_eq}
use Rattle.der_base.specs.Row.{items_of}
use Rattle.asn_types.specs.Algorithm.{Algorithm}
use Rattle.asn_types.specs.Key.{Key}
use Rattle.asn_types.specs.Template.{TemplateForm}
use Rattle.req_forms.specs.Controls.{OldCertForm}
use Rattle.req_forms.specs.Possession.{PopoForm, no_popo, by_ra, signed, another}
use Rattle.req_forms.specs.Pkcs10.{P10Form}
use Rattle.req_forms.specs.Requests.{ReqForm}
use Rattle.pki_parts.specs.Confirmation.{CertStatusForm}
use Rattle.pki_parts.specs.Reason.{reason_in_at}
use Rattle.pki_parts.specs.Revocation.{RevForm}
use Rattle.pki_parts.specs.Status.{StatusForm}
use Rattle.pki_message.specs.Body as forms
use Rattle.pki_message.specs.Body.{BodyForm}
use Rattle.deal_changes.specs.declared.change.Body4.{Body4}
use Rattle.deal_changes.specs.declared.change.Body4.TheVariants.{Ir, Cr, P10cr, Kur}
use Rattle.deal_changes.specs.declared.change.Wish.{Wish}
use Rattle.deal_table.specs.History.{Receipted}
use Rattle.deal_table.specs.Message.{Zero, OtherId, Named, Enrolment, Confirmation, Polling, Withdrawal, Body, Enrols, Confirms, Polls, Withdraws, Nests, OtherBody}
use Rattle.intake.specs.Values.{number_in, id_of, is_zero, is_hss, is_sha256}
use Rattle.intake.specs.Wishes.{are_bad_extensions, extensions_in, copied_extensions, is_dropped, is_bad_key, spki_of, is_subject}

-- ---- requests for certificates

-- a certificate by a general name, where that is a Name, and its serial number (RFC 4211, 6.5)
abbrev pub old_named : OldCertForm → Named
old_named o = record { issuer = if o.issuer.tag == 0xA4 then Some o.issuer.content else None; serial = number_in o.serial }

abbrev pub old_of : Option OldCertForm → Option Named
old_of None = None
old_of (Some o) = Some (old_named o)

abbrev pub is_by_ra : PopoForm → Bool
is_by_ra no_popo = false
is_by_ra by_ra = true
is_by_ra (signed s) = false
is_by_ra (another n) = false

-- a signature by another algorithm than HSS/LMS
abbrev pub is_bad_proof : PopoForm → Bool
is_bad_proof no_popo = false
is_bad_proof by_ra = false
is_bad_proof (signed s) = not (is_hss s.alg)
is_bad_proof (another n) = false

abbrev pub is_bad_key_in : Bool → Option Key → Bool
is_bad_key_in ra None = false
is_bad_key_in ra (Some k) = is_bad_key ra k

-- a version other than 2 (RFC 4211, 5), or a field that the authority alone sets
abbrev pub is_bad_version : ℕ → Option (List ℕ) → Bool
is_bad_version n None = false
is_bad_version n (Some content) = not (bytes_eq content (n ∷ []))

abbrev pub has_bad_field : TemplateForm → Bool
has_bad_field t = is_bad_version 2 t.version || is_some t.serial || is_some t.alg || is_some t.issuer_uid || is_some t.subject_uid

-- A wish: the subject and the key as they stand, the extensions that are copied, whether implicit confirmation is asked for, and
-- whether something is asked for that isn't taken over.
abbrev pub wish_of : Option (List ℕ) → Option Key → Option (List ℕ) → Bool → Bool → Wish
wish_of subject key exts implicit is_more = record {
  subject = unwrap_or subject [];
  spki = spki_of key;
  exts = copied_extensions (extensions_in exts);
  implicit = implicit;
  mods = is_more || list_any is_dropped (extensions_in exts);
}

-- a list of no request
abbrev pub no_request : Body4 → Enrolment
no_request body = record {
  body = body;
  is_one = false;
  has_subject = false;
  has_key = false;
  has_bad_field = false;
  issuer = None;
  has_bad_extension = false;
  has_bad_alg = false;
  old = None;
  wish = wish_of None None None false false;
  by_ra = false;
  is_proven = false;
}

-- so many requests in the form of CRMF, of which this is the first (RFC 4211, 3 to 6)
abbrev pub crmf_enrolment : Body4 → Bool → Bool → ℕ → Option ReqForm → Enrolment
crmf_enrolment body implicit proven count None = no_request body
crmf_enrolment body implicit proven count (Some r) = record {
  body = body;
  is_one = (count == 1) && is_zero r.id;
  has_subject = is_subject r.template.subject;
  has_key = is_some r.template.key;
  has_bad_field = has_bad_field r.template;
  issuer = r.template.issuer;
  has_bad_extension = are_bad_extensions (extensions_in r.template.exts);
  has_bad_alg = is_bad_key_in (is_by_ra r.popo) r.template.key || is_bad_proof r.popo;
  old = old_of r.old;
  wish = wish_of r.template.subject r.template.key r.template.exts implicit (is_some r.template.validity);
  by_ra = is_by_ra r.popo;
  is_proven = proven;
}

-- a request in the form of PKCS #10, whose version is 0 (RFC 2986, 4)
abbrev pub p10_enrolment : Bool → Bool → P10Form → Enrolment
p10_enrolment implicit proven p = record {
  body = P10cr;
  is_one = true;
  has_subject = is_subject (Some p.inside.subject);
  has_key = true;
  has_bad_field = is_bad_version 0 (Some p.inside.version);
  issuer = None;
  has_bad_extension = are_bad_extensions (extensions_in p.inside.attributes.exts);
  has_bad_alg = is_bad_key false p.inside.key || not (is_hss p.alg);
  old = None;
  wish = wish_of (Some p.inside.subject) (Some p.inside.key) p.inside.attributes.exts implicit false;
  by_ra = false;
  is_proven = proven;
}

-- ---- the others

-- the status of a PKIStatusInfo: 0 to 2, or 3 for any other; accepted, 0, where none stands (RFC 9810, 5.2.3 and 5.3.18)
abbrev pub status_number : List ℕ → ℕ
status_number [] = 3
status_number (n ∷ []) = if nat_le n 2 then n else 3
status_number (n ∷ more ∷ others) = 3

abbrev pub status_in : Option StatusForm → ℕ
status_in None = 0
status_in (Some s) = status_number s.status

abbrev pub is_known_hash : Option Algorithm → Bool
is_known_hash None = true
is_known_hash (Some a) = is_sha256 a

-- 0, 1, or 2 for more
abbrev pub capped : ℕ → ℕ
capped n = if nat_le n 2 then n else 2

-- So many statuses, of which this is the first; certHash is compared with the hash of each certificate that was granted.
abbrev pub confirmation_of : (Receipted → List ℕ) → ℕ → Option CertStatusForm → Confirmation
confirmation_of hashes count None = record { count = capped count; id = Zero; status = 0; has_known_hash = true; matches = λ r. Some false }
confirmation_of hashes count (Some c) = record {
  count = capped count;
  id = id_of c.id;
  status = status_in c.status;
  has_known_hash = is_known_hash c.hash_alg;
  matches = λ r. Some (bytes_eq c.hash (hashes r));
}

-- so many entries of a pollReq, of which this is the certReqId of the first (RFC 9810, 5.3.22)
abbrev pub polling_of : ℕ → Option (List ℕ) → Polling
polling_of count None = record { is_one = false; id = OtherId }
polling_of count (Some id) = record { is_one = count == 1; id = id_of id }

-- the reason that crlEntryDetails give: 0 where they are left out or have no reasonCode (RFC 5280, 5.3.1)
abbrev pub reason_of : Option (List ℕ) → Option ℕ
reason_of None = Some 0
reason_of (Some content) = reason_in_at content

-- so many entries of an rr, of which this is the first (RFC 9810, 5.3.9)
abbrev pub withdrawal_of : ℕ → Option RevForm → Withdrawal
withdrawal_of count None = record { is_one = false; reason = None; certificate = record { issuer = None; serial = None } }
withdrawal_of count (Some r) = record {
  is_one = count == 1;
  reason = reason_of r.exts;
  certificate = record { issuer = r.template.issuer; serial = option_and_then number_in r.template.serial };
}

-- A body, where this says whether implicit confirmation is asked for, and this whether the private key was shown.
abbrev pub body_facts : (Receipted → List ℕ) → Bool → Bool → BodyForm → Body
body_facts hashes implicit proven (forms.ir list) = Enrols (crmf_enrolment Ir implicit proven list.count list.first)
body_facts hashes implicit proven (forms.cr list) = Enrols (crmf_enrolment Cr implicit proven list.count list.first)
body_facts hashes implicit proven (forms.kur list) = Enrols (crmf_enrolment Kur implicit proven list.count list.first)
body_facts hashes implicit proven (forms.p10cr request) = Enrols (p10_enrolment implicit proven request)
body_facts hashes implicit proven (forms.cert_conf list) = Confirms (confirmation_of hashes list.count list.first)
body_facts hashes implicit proven (forms.poll_req list) = Polls (polling_of list.count list.first)
body_facts hashes implicit proven (forms.rr list) = Withdraws (withdrawal_of list.count list.first)
body_facts hashes implicit proven (forms.nested messages) = Nests (length (items_of messages))
body_facts hashes implicit proven (forms.ip replies) = OtherBody
body_facts hashes implicit proven (forms.cp replies) = OtherBody
body_facts hashes implicit proven (forms.kup replies) = OtherBody
body_facts hashes implicit proven (forms.rp responses) = OtherBody
body_facts hashes implicit proven forms.pkiconf = OtherBody
body_facts hashes implicit proven (forms.genm infos) = OtherBody
body_facts hashes implicit proven (forms.genp infos) = OtherBody
body_facts hashes implicit proven (forms.error message) = OtherBody
body_facts hashes implicit proven (forms.poll_rep answers) = OtherBody
body_facts hashes implicit proven (forms.other tag) = OtherBody

-- what stands in the SEQUENCE of a nested message: where that is one message, its octets
abbrev pub nested_inside : BodyForm → Option (List ℕ)
nested_inside (forms.nested messages) = Some messages
nested_inside _ = None
