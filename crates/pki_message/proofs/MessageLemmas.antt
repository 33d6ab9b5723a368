-- Messages are read exactly where they are spelled.
use Rattle.std.proofs.Common.{◌≡◌, ℕ, ◌+◌, ◌^◌, ◌<◌, not, eqb, IsTrue, ◌↔◌, List, [], length, Option, Some, None, Result, Ok, Err, IfOk, refl, sym, ap, subst, ◌∙◌, arith}
use Rattle.std.specs.Prelude.{option_map, IfSome}
use Rattle.der_base.specs.Element.{element, IsElement}
use Rattle.der_base.specs.Reading.{Part, whole_at}
use Rattle.der_base.proofs.ElementLemmas.{begins_no_other}
use Rattle.asn_fields.specs.Fields.{◌>>=◌, Gives, ok_of}
use Rattle.asn_fields.specs.Forms.{IsRead, FitsOptional}
use Rattle.asn_fields.specs.declared.fault.BadForm.{BadForm}
use Rattle.asn_fields.proofs.FieldLemmas.{bound, some_same}
use Rattle.asn_types.specs.Template.{IsAnything, same, tested_at}
use Rattle.asn_types.proofs.LengthLemmas.{length_element_lt}
use Rattle.asn_types.proofs.NameLemmas.{not_empty}
use Rattle.asn_types.proofs.RowLemmas.{both, and_both}
use Rattle.asn_types.proofs.ValueLemmas.{whole_takes, whole_again}
use Rattle.asn_parts.specs.Parts.{tagged, FitsTagged}
use Rattle.asn_parts.proofs.PartLemmas.{sole_is_read}
use Rattle.pki_parts.specs.Certificates.{are_certificates}
use Rattle.pki_parts.proofs.CertificateLemmas.{certificates_test}
use Rattle.pki_message.specs.Body.{BodyForm, tag_of, IsBody, body_at}
use Rattle.pki_message.specs.Frame.{FrameForm, IsFrame}
use Rattle.pki_message.specs.Message.{IsExtraCerts, MessageForm, frame_in, IsMessage, MessageBeginsNoOther, message_of, are_extra_certs, extra_certs_at, extra_at, message_with, message_at}
use Rattle.pki_message.specs.declared.message.Message.{Message}
use Rattle.pki_message.proofs.FrameLemmas.{frame_begins_no_other}
use Rattle.pki_message.proofs.BodyLemmas.{body_takes, body_again, tested_form}

-- one or more certificates
extra_certs_test : (content : List ℕ) → IsTrue (are_extra_certs content) ↔ IsExtraCerts content
unfolding are_extra_certs
extra_certs_test content = (
  λ h.
      let parts = both (not (eqb (length content) 0)) (are_certificates content) h in
      record { some = (not_empty content).0 parts.0; row = (certificates_test content).0 parts.1 },
  λ r. and_both (not (eqb (length content) 0)) (are_certificates content) ((not_empty content).1 r.some) ((certificates_test content).1 r.row),
)

extra_certs_are_read : IsRead extra_certs_at (tagged 0x30 same) (FitsTagged same IsExtraCerts)
extra_certs_are_read = sole_is_read (tested_at are_extra_certs) 0x30 same IsExtraCerts (omega arith) (tested_form are_extra_certs IsExtraCerts extra_certs_test)

-- certificates, where there are some
record IsExtraOf (octets content : Option (List ℕ)) : Type 0 where
  tagged : octets ≡ option_map (element 0x30) content
  form : IfSome content IsExtraCerts

extra_made : (octets a b : Option (List ℕ)) → IsExtraOf octets a → a ≡ b → IsExtraOf octets b
extra_made octets a b is e = subst (λ (x : Option (List ℕ)). IsExtraOf octets x) e is

extra_takes : (octets content : Option (List ℕ)) → extra_at octets ≡ Some content → IsExtraOf octets content
unfolding extra_at
extra_takes None content e = extra_made None None content (record { tagged = refl; form = tt }) (some_same None content e)
extra_takes (Some octets) content e =
    bound (IsExtraOf (Some octets) content) (extra_certs_at octets) (λ (y : List ℕ). Some (Some y)) content e (λ y got k.
    let w = extra_certs_are_read.takes octets y got in
    extra_made (Some octets) (Some y) content (record { tagged = ap Some w.1; form = w.0.0 }) (some_same (Some y) content k))

extra_again : (content : Option (List ℕ)) → IfSome content IsExtraCerts → FitsOptional same IsAnything (option_map (element 0x30) content) → extra_at (option_map (element 0x30) content) ≡ Some content
unfolding extra_at
extra_again None form fits = refl
extra_again (Some y) form fits =
    let counted : length y < 2 ^ 32 = omega (arith, fits.1, length_element_lt 0x30 y) in
    ap (λ (o : Option (List ℕ)). o >>= λ z. Some (Some z)) (extra_certs_are_read.again y (form, counted))

abbrev frame_with : FrameForm → ℕ → Option (List ℕ) → FrameForm
frame_with f tag extra = record {
  head = f.head;
  time = f.time;
  header_bytes = f.header_bytes;
  body_tag = tag;
  body_bytes = f.body_bytes;
  protection = f.protection;
  extra = extra;
}

message_by : (bytes : List ℕ) (f : FrameForm) (p : Part) (b : BodyForm) (x : Option (List ℕ)) → IsFrame bytes f → IsElement f.body_bytes p.tag p.content → IsBody f.body_tag p.content b → IsExtraOf f.extra x → IsMessage bytes (message_with f b x)
message_by bytes f p b x is alone body extra =
    let tags = begins_no_other f.body_bytes f.body_bytes [] [] p.tag (0xA0 + f.body_tag) p.content is.fits.body.content alone is.fits.body.alone refl in
    let tagged : IsFrame bytes (frame_with f (tag_of b) f.extra) = subst (λ (n : ℕ). IsFrame bytes (frame_with f n f.extra)) body.tagged is in
    let framed : IsFrame bytes (frame_with f (tag_of b) (option_map (element 0x30) x)) = subst (λ (o : Option (List ℕ)). IsFrame bytes (frame_with f (tag_of b) o)) extra.tagged tagged in
    record {
      fits = record {
        frame = framed.fits;
        inside = p.content;
        body = subst (λ (n : ℕ). IsElement f.body_bytes n p.content) (tags.1 ∙ ap (λ (n : ℕ). 0xA0 + n) body.tagged) alone;
        form = body.form;
        extra = extra.form;
      };
      alone = framed.alone;
      limited = framed.limited;
    }

message_takes : (bytes : List ℕ) (f : FrameForm) (m : MessageForm) → IsFrame bytes f → message_at f ≡ Some m → IsMessage bytes m
unfolding message_at
message_takes bytes f m is e =
    bound (IsMessage bytes m) (ok_of (whole_at f.body_bytes)) _ m e (λ p got e1.
    bound (IsMessage bytes m) (body_at f.body_tag p.content) _ m e1 (λ b body e2.
    bound (IsMessage bytes m) (extra_at f.extra) (λ (x : Option (List ℕ)). Some (message_with f b x)) m e2 (λ x extra e3.
    let w = whole_takes f.body_bytes p got in
    subst (IsMessage bytes) (some_same (message_with f b x) m e3) (message_by bytes f p b x is w.0 (body_takes f.body_tag p.content b body) (extra_takes f.extra x extra)))))

message_again : (bytes : List ℕ) (m : MessageForm) → IsMessage bytes m → message_at (frame_in m) ≡ Some m
unfolding message_at
message_again bytes m is =
    rw (
      whole_again m.body_bytes (0xA0 + tag_of m.body) is.fits.inside is.fits.body,
      body_again m.body is.fits.inside is.fits.form,
      extra_again m.extra is.fits.extra is.fits.frame.extra,
    ) refl

-- the frame of a message
pub message_frame : (bytes : List ℕ) (m : MessageForm) → IsMessage bytes m → IsFrame bytes (frame_in m)
message_frame bytes m is = record { fits = is.fits.frame; alone = is.alone; limited = is.limited }

pub message_found : (bytes : List ℕ) (f : FrameForm) (r : Result Message BadForm) → IsFrame bytes f → Gives message_of r (message_at f) → IfOk r (λ m. IsMessage bytes (message_of m))
message_found bytes f (Ok m) is e = message_takes bytes f (message_of m) is e
message_found bytes f (Err x) is e = tt

message_gives : (bytes : List ℕ) (f : FrameForm) (m : MessageForm) → IsMessage bytes m → Some (frame_in m) ≡ Some f → Some m ≡ message_at f
message_gives bytes f m is e = sym (message_again bytes m is) ∙ ap message_at (some_same (frame_in m) f e)

pub message_only : (bytes : List ℕ) (f : FrameForm) (r : Result Message BadForm) → Gives message_of r (message_at f) → (m : MessageForm) → IsMessage bytes m → Some (frame_in m) ≡ Some f → Gives message_of r (Some m)
message_only bytes f (Ok x) e m is k = message_gives bytes f m is k ∙ e
message_only bytes f (Err x) e m is k = message_gives bytes f m is k ∙ e

-- no message begins another one
pub message_begins_no_other : MessageBeginsNoOther
message_begins_no_other a b rest m n is_m is_n e = frame_begins_no_other a b rest (frame_in m) (frame_in n) (message_frame a m is_m) (message_frame b n is_n) e
