-- What is written of PKCS #10 is read again.
use Rattle.std.proofs.Common.{◌≡◌, ◌≢◌, ℕ, ◌+◌, ◌%◌, ◌^◌, ◌<◌, ◌++◌, ◌⊎◌, inl, inr, IsTrue, List, [], ◌∷◌, length, Option, Some, None, Result, Ok, Err, IfOk, append-nil, refl, sym, ap, subst, ◌∙◌, arith}
use Rattle.der_base.specs.Element.{element, IsElement}
use Rattle.asn_types.specs.Algorithm.{FitsAlgorithm, algorithm_content}
use Rattle.asn_types.specs.Extension.{is_extensions}
use Rattle.asn_types.specs.Key.{Key, key_content}
use Rattle.asn_types.specs.Template.{Passes, same}
use Rattle.asn_parts.specs.Parts.{FitsTagged}
use Rattle.req_forms.specs.Possession.{signature_element}
use Rattle.req_forms.specs.Attributes.{extension_request, extension_request_id, attribute_content, AttributesForm, IsAttributes}
use Rattle.req_forms.specs.Pkcs10.{InfoForm, info_content, FitsInfo, P10Form, p10_content, IsP10}
use Rattle.req_forms.specs.Written.{hss_lms, hss_algorithm, asked_octets, info_octets, p10_octets, IsAsked, wished_exts, wished_info, written_p10}
use Rattle.req_forms.specs.declared.wish.CrmfWish.{CrmfWish}
use Rattle.asn_parts.proofs.PartLemmas.{back_fits, front_fits, inside_fits}
use Rattle.req_forms.proofs.WrittenLemmas.{hss_oid, hss_counted}

abbrev attributes_form : List ℕ → AttributesForm
attributes_form exts = record { octets = asked_octets exts; exts = wished_exts exts }

abbrev one_attribute : List ℕ → List ℕ
one_attribute exts = element 0x06 extension_request_id ++ element 0x31 (element 0x30 exts)

asked_fits : (exts : List ℕ) → (exts ≡ []) ⊎ IsTrue (is_extensions exts) → length (asked_octets exts) < 2 ^ 32 → IsAttributes (attributes_form exts)
asked_fits [] h counted = record { attributes = []; fit = tt; spelled = refl; one = refl }
asked_fits (b ∷ more) (inl e) counted = absurd (let x = e in cc)
asked_fits (b ∷ more) (inr t) counted =
    let c1 : length (one_attribute (b ∷ more)) < 2 ^ 32 = inside_fits (2 ^ 32) 0x30 (one_attribute (b ∷ more)) counted in
    let c2 : length (element 0x31 (element 0x30 (b ∷ more))) < 2 ^ 32 = back_fits (2 ^ 32) (element 0x06 extension_request_id) (element 0x31 (element 0x30 (b ∷ more))) c1 in
    let c3 : length (element 0x30 (b ∷ more)) < 2 ^ 32 = inside_fits (2 ^ 32) 0x31 (element 0x30 (b ∷ more)) c2 in
    let c4 : length (b ∷ more) < 2 ^ 32 = inside_fits (2 ^ 32) 0x30 (b ∷ more) c3 in
    record {
      attributes = extension_request (b ∷ more) ∷ [];
      fit = (((t, c4), c3), c1, tt);
      spelled = sym (append-nil (element 0x30 (one_attribute (b ∷ more))));
      one = refl;
    }

info_spelled : (w : CrmfWish) (key : Key) → IsAsked w key → info_octets w ≡ element 0x30 (info_content (wished_info w key))
info_spelled w key is = ap (λ (l : List ℕ). element 0x30 (element 0x02 (0 ∷ []) ++ (w.subject ++ (l ++ element 0xA0 (asked_octets w.exts))))) is.spki.spelled

-- What is written for a wish is the info that it wishes.
pub info_again : (w : CrmfWish) (key : Key) → IsAsked w key → length (info_octets w) < 2 ^ 32 → IsElement (info_octets w) 0x30 (info_content (wished_info w key)) × FitsInfo (wished_info w key)
info_again w key is counted =
    let spelled = info_spelled w key is in
    let inside : length (info_content (wished_info w key)) < 2 ^ 32 = inside_fits (2 ^ 32) 0x30 (info_content (wished_info w key)) (subst (λ (l : List ℕ). length l < 2 ^ 32) spelled counted) in
    let rest1 : length (w.subject ++ (element 0x30 (key_content key) ++ element 0xA0 (asked_octets w.exts))) < 2 ^ 32 = back_fits (2 ^ 32) (element 0x02 (0 ∷ [])) (w.subject ++ (element 0x30 (key_content key) ++ element 0xA0 (asked_octets w.exts))) inside in
    let rest2 : length (element 0x30 (key_content key) ++ element 0xA0 (asked_octets w.exts)) < 2 ^ 32 = back_fits (2 ^ 32) w.subject (element 0x30 (key_content key) ++ element 0xA0 (asked_octets w.exts)) rest1 in
    let rest3 : length (element 0xA0 (asked_octets w.exts)) < 2 ^ 32 = back_fits (2 ^ 32) (element 0x30 (key_content key)) (element 0xA0 (asked_octets w.exts)) rest2 in
    let asked : length (asked_octets w.exts) < 2 ^ 32 = inside_fits (2 ^ 32) 0xA0 (asked_octets w.exts) rest3 in (
      record { low_tag = omega arith; counted = inside; spelled = spelled },
      record {
        version = (refl, omega arith);
        subject = is.subject;
        key = (is.key_fits, is.spki.counted);
        attributes = (asked_fits w.exts is.exts asked, asked);
      },
    )

p10_spelled : (info : List ℕ) (i : InfoForm) (sig : List ℕ) → info ++ (hss_algorithm ++ signature_element sig) ≡ p10_content (written_p10 info i sig)
p10_spelled info i sig = ap (λ (l : List ℕ). info ++ (element 0x30 l ++ signature_element sig)) (sym (append-nil (element 0x06 hss_lms)))

-- What is written over an info is the request of it.
pub p10_again : (info : List ℕ) (i : InfoForm) (sig : List ℕ) → FitsInfo i → IsElement info 0x30 (info_content i) → length (p10_octets info sig) < 2 ^ 32 → IsP10 (p10_octets info sig) (written_p10 info i sig)
p10_again info i sig fits is counted =
    let inside : length (info ++ (hss_algorithm ++ signature_element sig)) < 2 ^ 32 = inside_fits (2 ^ 32) 0x30 (info ++ (hss_algorithm ++ signature_element sig)) counted in
    let rest : length (hss_algorithm ++ signature_element sig) < 2 ^ 32 = back_fits (2 ^ 32) info (hss_algorithm ++ signature_element sig) inside in
    let alg : length hss_algorithm < 2 ^ 32 = front_fits (2 ^ 32) hss_algorithm (signature_element sig) rest in
    let back : length (signature_element sig) < 2 ^ 32 = back_fits (2 ^ 32) hss_algorithm (signature_element sig) rest in
    let string : length (0 ∷ sig) < 2 ^ 32 = inside_fits (2 ^ 32) 0x03 (0 ∷ sig) back in
    let oid : length (element 0x06 hss_lms) < 2 ^ 32 = inside_fits (2 ^ 32) 0x30 (element 0x06 hss_lms) alg in
    let spelled = p10_spelled info i sig in
    record {
      fits = record {
        info = is;
        inside = fits;
        alg = (record { identifier = hss_oid; counted = hss_counted; params = tt }, subst (λ (l : List ℕ). length l < 2 ^ 32) (sym (append-nil (element 0x06 hss_lms))) oid);
        sig = omega (arith, string);
      };
      alone = record { low_tag = omega arith; counted = subst (λ (l : List ℕ). length l < 2 ^ 32) spelled inside; spelled = ap (element 0x30) spelled };
    }

pub info_result : {E : Type 0} (r : Result (List ℕ) E) (w : CrmfWish) → length (info_octets w) < 2 ^ 32 → IfOk r (λ octets. octets ≡ info_octets w) → (key : Key) → IsAsked w key → IfOk r (λ octets. IsElement octets 0x30 (info_content (wished_info w key)) × FitsInfo (wished_info w key))
info_result (Ok octets) w counted e key is = subst (λ (l : List ℕ). IsElement l 0x30 (info_content (wished_info w key)) × FitsInfo (wished_info w key)) (sym e) (info_again w key is counted)
info_result (Err f) w counted e key is = tt

pub p10_result : {E : Type 0} (r : Result (List ℕ) E) (info sig : List ℕ) → length (p10_octets info sig) < 2 ^ 32 → IfOk r (λ octets. octets ≡ p10_octets info sig) → (i : InfoForm) → FitsInfo i → IsElement info 0x30 (info_content i) → IfOk r (λ octets. IsP10 octets (written_p10 info i sig))
p10_result (Ok octets) info sig counted e i fits is = subst (λ (l : List ℕ). IsP10 l (written_p10 info i sig)) (sym e) (p10_again info i sig fits is counted)
p10_result (Err f) info sig counted e i fits is = tt
