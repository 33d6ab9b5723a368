-- What a message asks for is no longer than the message.
use Rattle.std.proofs.Common.{◌≡◌, ℕ, ◌+◌, ◌++◌, List, [], ◌∷◌, map, Option, Some, None, IfSome, sym, ap, subst, arith}
use Rattle.std.proofs.lemmas.List.{length-append}
use Rattle.der_base.specs.Element.{element, IsElement}
use Rattle.asn_fields.proofs.FieldLemmas.{some_same}
use Rattle.asn_fields.specs.Forms.{optional_spelling, FitsOptional}
use Rattle.asn_fields.specs.Rows.{RowForm, first_of, entries_spelling, FitsEntries}
use Rattle.asn_types.proofs.LengthLemmas.{length_element_lt}
use Rattle.asn_types.specs.Algorithm.{algorithm_content}
use Rattle.asn_types.specs.Key.{Key, FitsKey, key_content}
use Rattle.asn_types.specs.Template.{TemplateForm, FitsTemplate, same, template_content}
use Rattle.req_forms.specs.Attributes.{AttributeForm, extension_request, other, extension_request_id, attribute_content, requests_in, at_most_one, AttributesForm, IsAttributes}
use Rattle.req_forms.specs.Controls.{controls_content}
use Rattle.req_forms.specs.Pkcs10.{P10Form, info_content, p10_content, IsP10}
use Rattle.req_forms.specs.Possession.{proof_spelling, signature_element}
use Rattle.req_forms.specs.Requests.{RequestForm, request_content, MessageForm, message_content, FitsMessage, ReqForm, shown_of, IsCrmf}
use Rattle.pki_header.specs.Header.{head_content}
use Rattle.pki_message.specs.Body.{tag_of}
use Rattle.pki_message.specs.Frame.{frame_content}
use Rattle.pki_message.specs.Message as read
use Rattle.pki_message.specs.Message.{IsMessage, frame_in}
use Rattle.intake.specs.Told.{FitsAskedKey, IsLimited, AreLimited}

back_within : (a b : List ℕ) → IsLimited (a ++ b) → IsLimited b
back_within a b h = omega (arith, length-append a b, h)

front_within : (a b : List ℕ) → IsLimited (a ++ b) → IsLimited a
front_within a b h = omega (arith, length-append a b, h)

inside_within : (tag : ℕ) (a : List ℕ) → IsLimited (element tag a) → IsLimited a
inside_within tag a h = omega (arith, length_element_lt tag a, h)

element_within : (octets content : List ℕ) (tag : ℕ) → IsElement octets tag content → IsLimited octets → IsLimited content
element_within octets content tag is h = inside_within tag content (subst IsLimited is.spelled h)

optional_within : {X : Type 0} (tag : ℕ) (spelling : X → List ℕ) (o : Option X) → IsLimited (optional_spelling tag spelling o) → IfSome o (λ x. IsLimited (spelling x))
optional_within tag spelling None h = tt
optional_within tag spelling (Some x) h = inside_within tag (spelling x) h

key_within : (o : Option Key) → FitsOptional key_content FitsKey o → IfSome o (λ k. IsLimited (key_content k)) → IfSome o FitsAskedKey
key_within None fits h = tt
key_within (Some k) fits h = record { form = fits.0; counted = h }

template_within : (t : TemplateForm) → FitsTemplate t → IsLimited (template_content t) → AreLimited t.subject t.key t.exts
template_within t fits h =
    let from_8 = optional_spelling 0x88 same t.subject_uid ++ optional_spelling 0xA9 same t.exts in
    let from_7 = optional_spelling 0x87 same t.issuer_uid ++ from_8 in
    let from_6 = optional_spelling 0xA6 key_content t.key ++ from_7 in
    let from_5 = optional_spelling 0xA5 same t.subject ++ from_6 in
    let from_4 = optional_spelling 0xA4 same t.validity ++ from_5 in
    let from_3 = optional_spelling 0xA3 same t.issuer ++ from_4 in
    let from_2 = optional_spelling 0xA2 algorithm_content t.alg ++ from_3 in
    let from_1 = optional_spelling 0x81 same t.serial ++ from_2 in
    let h1 : IsLimited from_1 = back_within (optional_spelling 0x80 same t.version) from_1 h in
    let h2 : IsLimited from_2 = back_within (optional_spelling 0x81 same t.serial) from_2 h1 in
    let h3 : IsLimited from_3 = back_within (optional_spelling 0xA2 algorithm_content t.alg) from_3 h2 in
    let h4 : IsLimited from_4 = back_within (optional_spelling 0xA3 same t.issuer) from_4 h3 in
    let h5 : IsLimited from_5 = back_within (optional_spelling 0xA4 same t.validity) from_5 h4 in
    let h6 : IsLimited from_6 = back_within (optional_spelling 0xA5 same t.subject) from_6 h5 in
    let h7 : IsLimited from_7 = back_within (optional_spelling 0xA6 key_content t.key) from_7 h6 in
    let h8 : IsLimited from_8 = back_within (optional_spelling 0x87 same t.issuer_uid) from_8 h7 in
    let h9 : IsLimited (optional_spelling 0xA9 same t.exts) = back_within (optional_spelling 0x88 same t.subject_uid) (optional_spelling 0xA9 same t.exts) h8 in
    record {
      subject_counted = optional_within 0xA5 same t.subject (front_within (optional_spelling 0xA5 same t.subject) from_6 h5);
      key_fits = key_within t.key fits.key (optional_within 0xA6 key_content t.key (front_within (optional_spelling 0xA6 key_content t.key) from_7 h6));
      exts_counted = optional_within 0xA9 same t.exts h9;
    }

request_within : (r : RequestForm) → IsLimited (request_content r) → IsLimited (template_content r.template)
request_within r h =
    let behind = element 0x30 (template_content r.template) ++ optional_spelling 0x30 controls_content r.controls in
    inside_within 0x30 (template_content r.template) (front_within (element 0x30 (template_content r.template)) (optional_spelling 0x30 controls_content r.controls) (back_within (element 0x02 r.id) behind h))

abbrev pub IsAskedWithin : ReqForm → Type 0
IsAskedWithin r = AreLimited r.template.subject r.template.key r.template.exts

message_within : (m : MessageForm) → FitsMessage m → IsLimited (message_content m) → IsAskedWithin (shown_of m)
message_within m fits h =
    let request : IsLimited m.request = front_within m.request (proof_spelling m.proof ++ optional_spelling 0x30 same m.reg_info) h in
    let inside : IsLimited (request_content m.inside) = element_within m.request (request_content m.inside) 0x30 fits.request request in
    template_within m.inside.template fits.inside.template.0 (request_within m.inside inside)

first_within : (messages : List MessageForm) → FitsEntries message_content FitsMessage messages → IsLimited (entries_spelling 0x30 message_content messages) → IfSome (first_of (map shown_of messages)) IsAskedWithin
first_within [] fits h = tt
first_within (m ∷ ms) fits h = message_within m fits.0 (inside_within 0x30 (message_content m) (front_within (element 0x30 (message_content m)) (entries_spelling 0x30 message_content ms) h))

pub crmf_within : (bytes : List ℕ) (list : RowForm ReqForm) → IsCrmf bytes list → IsLimited bytes → IfSome list.first IsAskedWithin
crmf_within bytes list is h =
    subst (λ (o : Option ReqForm). IfSome o IsAskedWithin) (sym (ap (λ (r : RowForm ReqForm). r.first) is.shown))
    (first_within is.messages is.fit (element_within bytes (entries_spelling 0x30 message_content is.messages) 0x30 is.alone h))

-- the extensions that attributes ask for
abbrev AreWithin : List (List ℕ) → Type 0
AreWithin [] = Unit {0}
AreWithin (x ∷ xs) = IsLimited x × AreWithin xs

attributes_within : (attributes : List AttributeForm) → IsLimited (entries_spelling 0x30 attribute_content attributes) → AreWithin (requests_in attributes)
attributes_within [] h = tt
attributes_within (extension_request exts ∷ attributes) h =
    let content = element 0x06 extension_request_id ++ element 0x31 (element 0x30 exts) in
    let first : IsLimited content = inside_within 0x30 content (front_within (element 0x30 content) (entries_spelling 0x30 attribute_content attributes) h) in (
      inside_within 0x30 exts (inside_within 0x31 (element 0x30 exts) (back_within (element 0x06 extension_request_id) (element 0x31 (element 0x30 exts)) first)),
      attributes_within attributes (back_within (element 0x30 content) (entries_spelling 0x30 attribute_content attributes) h),
    )
attributes_within (other oid values ∷ attributes) h =
    attributes_within attributes (back_within (element 0x30 (element 0x06 oid ++ element 0x31 values)) (entries_spelling 0x30 attribute_content attributes) h)

one_within : (xs : List (List ℕ)) (o : Option (List ℕ)) → AreWithin xs → at_most_one xs ≡ Some o → IfSome o IsLimited
one_within [] o h e = subst (λ (x : Option (List ℕ)). IfSome x IsLimited) (some_same None o e) tt
one_within (x ∷ []) o h e = subst (λ (y : Option (List ℕ)). IfSome y IsLimited) (some_same (Some x) o e) h.0
one_within (x ∷ y ∷ more) o h e = absurd (let f = e in cc)

asked_within : (a : AttributesForm) → IsAttributes a → IsLimited a.octets → IfSome a.exts IsLimited
asked_within a is h = one_within (requests_in is.attributes) a.exts (attributes_within is.attributes (subst IsLimited is.spelled h)) is.one

pub p10_within : (bytes : List ℕ) (p : P10Form) → IsP10 bytes p → IsLimited bytes → AreLimited (Some p.inside.subject) (Some p.inside.key) p.inside.attributes.exts
p10_within bytes p is h =
    let i = p.inside in
    let content : IsLimited (p10_content p) = element_within bytes (p10_content p) 0x30 is.alone h in
    let info : IsLimited p.info = front_within p.info (element 0x30 (algorithm_content p.alg) ++ signature_element p.sig) content in
    let inside : IsLimited (info_content i) = element_within p.info (info_content i) 0x30 is.fits.info info in
    let from_key = element 0x30 (key_content i.key) ++ element 0xA0 i.attributes.octets in
    let from_subject : IsLimited (i.subject ++ from_key) = back_within (element 0x02 i.version) (i.subject ++ from_key) inside in
    let key : IsLimited from_key = back_within i.subject from_key from_subject in
    record {
      subject_counted = front_within i.subject from_key from_subject;
      key_fits = record { form = is.fits.inside.key.0; counted = inside_within 0x30 (key_content i.key) (front_within (element 0x30 (key_content i.key)) (element 0xA0 i.attributes.octets) key) };
      exts_counted = asked_within i.attributes is.fits.inside.attributes.0 (inside_within 0xA0 i.attributes.octets (back_within (element 0x30 (key_content i.key)) (element 0xA0 i.attributes.octets) key));
    }

pub body_within : (bytes : List ℕ) (m : read.MessageForm) (is : IsMessage bytes m) → IsLimited is.fits.inside
body_within bytes m is =
    let content : IsLimited (frame_content (frame_in m)) = element_within bytes (frame_content (frame_in m)) 0x30 is.alone is.limited in
    let behind : IsLimited (m.body_bytes ++ _) = back_within m.header_bytes (m.body_bytes ++ _) content in
    element_within m.body_bytes is.fits.inside (0xA0 + tag_of m.body) is.fits.body (front_within m.body_bytes _ behind)

-- the sender stands in the header, which stands in the message
pub head_within : (bytes : List ℕ) (m : read.MessageForm) → IsMessage bytes m → IsLimited m.head.sender.whole
head_within bytes m is =
    let content : IsLimited (frame_content (frame_in m)) = element_within bytes (frame_content (frame_in m)) 0x30 is.alone is.limited in
    let header : IsLimited m.header_bytes = front_within m.header_bytes _ content in
    let inside : IsLimited (head_content m.head) = element_within m.header_bytes (head_content m.head) 0x30 is.fits.frame.header header in
    front_within m.head.sender.whole _ (back_within (element 0x02 m.head.pvno) _ inside)
