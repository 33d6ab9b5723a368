-- Bodies are read exactly where they stand in their tags.
use Rattle.std.proofs.Common.{◌≡◌, ℕ, not, Bool, true, false, cond, eqb, IsTrue, ◌↔◌, List, [], ◌∷◌, length, Option, Some, eqb-true, eq-eqb, refl, sym, ap, subst, ◌∙◌, arith}
use Rattle.der_base.specs.Element.{element, IsElement}
use Rattle.der_base.specs.Reading.{Part, part, whole_at}
use Rattle.der_base.specs.Values.{is_null}
use Rattle.asn_fields.specs.Fields.{◌>>=◌, ok_of}
use Rattle.asn_fields.specs.Forms.{IsRead}
use Rattle.asn_fields.specs.Rows.{RowForm}
use Rattle.asn_fields.proofs.FieldLemmas.{bound, some_same}
use Rattle.asn_types.specs.Template.{Passes, same, tested_at}
use Rattle.asn_types.proofs.NameLemmas.{false_true, not_empty}
use Rattle.asn_types.proofs.RowLemmas.{both, and_both, row_of}
use Rattle.asn_types.proofs.ValueLemmas.{whole_takes, whole_again}
use Rattle.asn_parts.specs.Parts.{tagged, FitsTagged}
use Rattle.asn_parts.proofs.PartLemmas.{tested_is_read, sole_is_read}
use Rattle.req_forms.specs.Requests.{ReqForm, crmf_at}
use Rattle.req_forms.specs.Pkcs10.{P10Form, p10_at}
use Rattle.req_forms.proofs.RequestLemmas.{crmf_takes, crmf_again}
use Rattle.req_forms.proofs.Pkcs10Lemmas.{p10_takes, p10_again}
use Rattle.pki_header.specs.Rows.{IsInfo, is_info}
use Rattle.pki_header.proofs.HeadLemmas.{info_test}
use Rattle.pki_parts.specs.CertRep.{RepForm, IsCertRep, rep_at}
use Rattle.pki_parts.specs.Confirmation.{CertStatusForm, IsConfirm, confirm_at}
use Rattle.pki_parts.specs.Error.{ErrorForm, FitsError, error_content, error_at}
use Rattle.pki_parts.specs.Lists.{IsOne}
use Rattle.pki_parts.specs.Polling.{PollForm, IsPollReq, IsPollRep, poll_req_at, poll_rep_at}
use Rattle.pki_parts.specs.Revocation.{RevForm, IsRevReq, rev_req_at}
use Rattle.pki_parts.specs.Revoked.{IsRevRep, rev_rep_at}
use Rattle.pki_parts.specs.Status.{StatusForm}
use Rattle.pki_parts.proofs.CertRepLemmas.{rep_takes, rep_again}
use Rattle.pki_parts.proofs.ConfirmationLemmas.{cert_status_is_read}
use Rattle.pki_parts.proofs.ErrorLemmas.{error_is_read}
use Rattle.pki_parts.proofs.ListLemmas.{tag_test, list_takes, list_again, integer_alone}
use Rattle.pki_parts.proofs.PollingLemmas.{poll_rep_takes, poll_rep_again}
use Rattle.pki_parts.proofs.RevocationLemmas.{rev_is_read}
use Rattle.pki_parts.proofs.RevokedLemmas.{rev_rep_takes, rev_rep_again}
use Rattle.pki_message.specs.Body.{BodyForm, ir, ip, cr, cp, p10cr, kur, kup, rr, rp, pkiconf, nested, genm, genp, error, cert_conf, poll_req, poll_rep, other, tag_of, IsSequence, IsSequencePart, IsSequences, IsInfos, is_other_tag, IsInside, IsBody, is_sequence_part, are_sequences, all_infos, one_at, in_sequence, sequences_at, infos_at, nothing_at, anything_of, other_at, last_body_at, middle_body_at, body_at}

-- the one element that octets are
one_takes : {X : Type 0} (read : Part → Option X) (Form : Part → X → Type 0) → ((p : Part) (x : X) → read p ≡ Some x → Form p x) → (inside : List ℕ) (x : X) → one_at read inside ≡ Some x → IsOne (λ p. Form p x) inside
one_takes read Form law inside x e =
    bound (IsOne (λ p. Form p x) inside) (ok_of (whole_at inside)) read x e (λ p got e1.
    let w = whole_takes inside p got in
    record { tag = p.tag; content = p.content; alone = w.0; form = subst (λ (q : Part). Form q x) w.2 (law p x e1) })

one_again : {X : Type 0} (read : Part → Option X) (Form : Part → X → Type 0) → ((p : Part) (x : X) → Form p x → read p ≡ Some x) → (inside : List ℕ) (x : X) → IsOne (λ p. Form p x) inside → one_at read inside ≡ Some x
one_again read Form law inside x is =
    ap (λ (o : Option Part). o >>= read) (whole_again inside is.tag is.content is.alone) ∙ law (part is.tag is.content) x is.form

-- and it is a SEQUENCE
sequence_takes : {X : Type 0} (read : List ℕ → Option X) (Form : List ℕ → X → Type 0) → ((content : List ℕ) (x : X) → read content ≡ Some x → Form content x) → (inside : List ℕ) (x : X) → one_at (in_sequence read) inside ≡ Some x → IsSequence (λ content. Form content x) inside
sequence_takes read Form law inside x e =
    bound (IsSequence (λ content. Form content x) inside) (ok_of (whole_at inside)) (in_sequence read) x e (λ p got e1.
    let t = tag_test (eqb p.tag 0x30) (read p.content) x e1 in
    let w = whole_takes inside p got in
    record { content = p.content; alone = subst (λ (n : ℕ). IsElement inside n p.content) (eqb-true p.tag 0x30 t.0) w.0; form = law p.content x t.1 })

sequence_again : {X : Type 0} (read : List ℕ → Option X) (Form : List ℕ → X → Type 0) → ((content : List ℕ) (x : X) → Form content x → read content ≡ Some x) → (inside : List ℕ) (x : X) → IsSequence (λ content. Form content x) inside → one_at (in_sequence read) inside ≡ Some x
sequence_again read Form law inside x is =
    ap (λ (o : Option Part). o >>= in_sequence read) (whole_again inside 0x30 is.content is.alone) ∙ law is.content x is.form

-- a content that passes a test
pub tested_form : (test : List ℕ → Bool) (Form : List ℕ → Type 0) → ((content : List ℕ) → IsTrue (test content) ↔ Form content) → IsRead (tested_at test) same Form
tested_form test Form means = record {
  takes = λ bytes x e. let t = (tested_is_read test).takes bytes x e in ((means x).0 t.0, t.1);
  again = λ x h. (tested_is_read test).again x ((means x).1 h);
}

part_test : (p : Part) → IsTrue (is_sequence_part p) ↔ IsSequencePart p
part_test p = (λ h. eqb-true p.tag 0x30 h, λ h. eq-eqb p.tag 0x30 h)

sequences_test : (content : List ℕ) → IsTrue (are_sequences content) ↔ IsSequences content
unfolding are_sequences
sequences_test content = (
  λ h.
      let parts = both (not (eqb (length content) 0)) _ h in
      record { some = (not_empty content).0 parts.0; row = (row_of is_sequence_part IsSequencePart part_test content).0 parts.1 },
  λ r. and_both (not (eqb (length content) 0)) _ ((not_empty content).1 r.some) ((row_of is_sequence_part IsSequencePart part_test content).1 r.row),
)

sequences_are_read : IsRead sequences_at (tagged 0x30 same) (FitsTagged same IsSequences)
sequences_are_read = sole_is_read (tested_at are_sequences) 0x30 same IsSequences (omega arith) (tested_form are_sequences IsSequences sequences_test)

infos_are_read : IsRead infos_at (tagged 0x30 same) (FitsTagged same IsInfos)
infos_are_read = sole_is_read (tested_at all_infos) 0x30 same IsInfos (omega arith) (tested_form all_infos IsInfos (row_of is_info IsInfo info_test))

nothing_is_read : IsRead nothing_at (tagged 0x05 same) (FitsTagged same (Passes is_null))
nothing_is_read = sole_is_read (tested_at is_null) 0x05 same (Passes is_null) (omega arith) (tested_is_read is_null)

-- a content in its tag
content_takes : (read : List ℕ → Option (List ℕ)) (Form : List ℕ → Type 0) → IsRead read (tagged 0x30 same) (FitsTagged same Form) → (inside content : List ℕ) → read inside ≡ Some content → IsElement inside 0x30 content × Form content
content_takes read Form law inside content e =
    let w = law.takes inside content e in
    (record { low_tag = omega arith; counted = w.0.1; spelled = w.1 }, w.0.0)

content_again : (read : List ℕ → Option (List ℕ)) (Form : List ℕ → Type 0) → IsRead read (tagged 0x30 same) (FitsTagged same Form) → (inside content : List ℕ) → IsElement inside 0x30 content × Form content → read inside ≡ Some content
content_again read Form law inside content is = ap read is.0.spelled ∙ law.again content (is.1, is.0.counted)

nothing_of : (x : List ℕ) → is_null x ≡ true → x ≡ []
nothing_of [] h = refl
nothing_of (b ∷ x) h = absurd (false_true h)

nothing_takes : (inside x : List ℕ) → nothing_at inside ≡ Some x → IsElement inside 0x05 []
nothing_takes inside x e =
    let w = nothing_is_read.takes inside x e in
    record { low_tag = omega arith; counted = omega arith; spelled = w.1 ∙ ap (element 0x05) (nothing_of x w.0.0) }

nothing_again : (inside : List ℕ) → IsElement inside 0x05 [] → nothing_at inside ≡ Some []
nothing_again inside is = ap nothing_at is.spelled ∙ nothing_is_read.again [] (refl, is.counted)

-- an error message
abbrev IsErrorOf : List ℕ → ErrorForm → Type 0
IsErrorOf content m = FitsError m × (content ≡ error_content m)

error_by : (inside : List ℕ) (m : ErrorForm) → IsSequence (λ content. IsErrorOf content m) inside → IsElement inside 0x30 (error_content m) × FitsError m
error_by inside m is = (subst (λ (l : List ℕ). IsElement inside 0x30 l) is.form.1 is.alone, is.form.0)

error_takes : (inside : List ℕ) (m : ErrorForm) → one_at (in_sequence error_at) inside ≡ Some m → IsElement inside 0x30 (error_content m) × FitsError m
error_takes inside m e = error_by inside m (sequence_takes error_at IsErrorOf error_is_read.takes inside m e)

error_again : (inside : List ℕ) (m : ErrorForm) → IsElement inside 0x30 (error_content m) × FitsError m → one_at (in_sequence error_at) inside ≡ Some m
error_again inside m is = sequence_again error_at IsErrorOf (λ content x h. ap error_at h.1 ∙ error_is_read.again x h.0) inside m (record { content = error_content m; alone = is.0; form = (is.1, refl) })

-- a body that is not looked into
other_takes : (tag : ℕ) (inside : List ℕ) (b : BodyForm) → other_at tag inside ≡ Some b → IsBody tag inside b
unfolding other_at
other_takes tag inside b e =
    let t = tag_test (is_other_tag tag) (one_at (anything_of tag) inside) b e in
    bound (IsBody tag inside b) (ok_of (whole_at inside)) (anything_of tag) b t.1 (λ p got k.
    let w = whole_takes inside p got in
    subst (IsBody tag inside) (some_same (other tag) b k) (record { tagged = refl; form = (t.0, record { tag = p.tag; content = p.content; alone = w.0 }) }))

-- one alternative after the other
choose : (P : Type 0) → (b : Bool) (r rest : Option BodyForm) (x : BodyForm) → cond b r rest ≡ Some x → (b ≡ true → r ≡ Some x → P) → (rest ≡ Some x → P) → P
choose P true r rest x e this others = this refl e
choose P false r rest x e this others = others e

made : {X : Type 0} (tag k : ℕ) (inside : List ℕ) (make : X → BodyForm) (read : Option X) (b : BodyForm) → eqb tag k ≡ true → ((x : X) → k ≡ tag_of (make x)) → ((x : X) → read ≡ Some x → IsInside (make x) inside) → (read >>= λ x. Some (make x)) ≡ Some b → IsBody tag inside b
made {X} tag k inside make read b t tags law e =
    bound (IsBody tag inside b) read (λ (x : X). Some (make x)) b e (λ x got k2.
    subst (IsBody tag inside) (some_same (make x) b k2) (record { tagged = eqb-true tag k t ∙ tags x; form = law x got }))

abbrev make_pkiconf : List ℕ → BodyForm
make_pkiconf x = pkiconf

pub body_takes : (tag : ℕ) (inside : List ℕ) (b : BodyForm) → body_at tag inside ≡ Some b → IsBody tag inside b
unfolding body_at middle_body_at last_body_at
body_takes tag inside b e =
    choose (IsBody tag inside b) (eqb tag 0) _ _ b e (λ t. made tag 0 inside ir (crmf_at inside) b t (λ x. refl) (crmf_takes inside)) (λ e.
    choose (IsBody tag inside b) (eqb tag 1) _ _ b e (λ t. made tag 1 inside ip (one_at (in_sequence rep_at) inside) b t (λ x. refl) (sequence_takes rep_at IsCertRep rep_takes inside)) (λ e.
    choose (IsBody tag inside b) (eqb tag 2) _ _ b e (λ t. made tag 2 inside cr (crmf_at inside) b t (λ x. refl) (crmf_takes inside)) (λ e.
    choose (IsBody tag inside b) (eqb tag 3) _ _ b e (λ t. made tag 3 inside cp (one_at (in_sequence rep_at) inside) b t (λ x. refl) (sequence_takes rep_at IsCertRep rep_takes inside)) (λ e.
    choose (IsBody tag inside b) (eqb tag 4) _ _ b e (λ t. made tag 4 inside p10cr (p10_at inside) b t (λ x. refl) (p10_takes inside)) (λ e.
    choose (IsBody tag inside b) (eqb tag 7) _ _ b e (λ t. made tag 7 inside kur (crmf_at inside) b t (λ x. refl) (crmf_takes inside)) (λ e.
    choose (IsBody tag inside b) (eqb tag 8) _ _ b e (λ t. made tag 8 inside kup (one_at (in_sequence rep_at) inside) b t (λ x. refl) (sequence_takes rep_at IsCertRep rep_takes inside)) (λ e.
    choose (IsBody tag inside b) (eqb tag 11) _ _ b e (λ t. made tag 11 inside rr (one_at rev_req_at inside) b t (λ x. refl) (one_takes rev_req_at IsRevReq (list_takes rev_is_read) inside)) (λ e.
    choose (IsBody tag inside b) (eqb tag 12) _ _ b e (λ t. made tag 12 inside rp (one_at rev_rep_at inside) b t (λ x. refl) (one_takes rev_rep_at IsRevRep rev_rep_takes inside)) (λ e.
    choose (IsBody tag inside b) (eqb tag 19) _ _ b e (λ t. made tag 19 inside make_pkiconf (nothing_at inside) b t (λ x. refl) (nothing_takes inside)) (λ e.
    choose (IsBody tag inside b) (eqb tag 20) _ _ b e (λ t. made tag 20 inside nested (sequences_at inside) b t (λ x. refl) (content_takes sequences_at IsSequences sequences_are_read inside)) (λ e.
    choose (IsBody tag inside b) (eqb tag 21) _ _ b e (λ t. made tag 21 inside genm (infos_at inside) b t (λ x. refl) (content_takes infos_at IsInfos infos_are_read inside)) (λ e.
    choose (IsBody tag inside b) (eqb tag 22) _ _ b e (λ t. made tag 22 inside genp (infos_at inside) b t (λ x. refl) (content_takes infos_at IsInfos infos_are_read inside)) (λ e.
    choose (IsBody tag inside b) (eqb tag 23) _ _ b e (λ t. made tag 23 inside error (one_at (in_sequence error_at) inside) b t (λ x. refl) (error_takes inside)) (λ e.
    choose (IsBody tag inside b) (eqb tag 24) _ _ b e (λ t. made tag 24 inside cert_conf (one_at confirm_at inside) b t (λ x. refl) (one_takes confirm_at IsConfirm (list_takes cert_status_is_read) inside)) (λ e.
    choose (IsBody tag inside b) (eqb tag 25) _ _ b e (λ t. made tag 25 inside poll_req (one_at poll_req_at inside) b t (λ x. refl) (one_takes poll_req_at IsPollReq (list_takes integer_alone) inside)) (λ e.
    choose (IsBody tag inside b) (eqb tag 26) _ _ b e (λ t. made tag 26 inside poll_rep (one_at poll_rep_at inside) b t (λ x. refl) (one_takes poll_rep_at IsPollRep poll_rep_takes inside)) (λ e.
    other_takes tag inside b e)))))))))))))))))

-- a tag that is not looked into is none of the others
skip_by : (n k : ℕ) (b : Bool) → eqb n k ≡ b → IsTrue (is_other_tag n) → is_other_tag k ≡ false → b ≡ false
skip_by n k true e h f = absurd (false_true (sym f ∙ ap is_other_tag (sym (eqb-true n k e)) ∙ h))
skip_by n k false e h f = refl

skip : (n k : ℕ) → IsTrue (is_other_tag n) → is_other_tag k ≡ false → eqb n k ≡ false
skip n k h f = skip_by n k (eqb n k) refl h f

other_again : (tag : ℕ) (inside : List ℕ) → IsInside (other tag) inside → other_at tag inside ≡ Some (other tag)
unfolding other_at
other_again tag inside is = rw is.0 (ap (λ (o : Option Part). o >>= anything_of tag) (whole_again inside is.1.tag is.1.content is.1.alone))

pub body_again : (b : BodyForm) (inside : List ℕ) → IsInside b inside → body_at (tag_of b) inside ≡ Some b
unfolding body_at middle_body_at last_body_at
body_again (ir x) inside is = ap (λ (o : Option (RowForm ReqForm)). o >>= λ y. Some (ir y)) (crmf_again inside x is)
body_again (ip x) inside is = ap (λ (o : Option RepForm). o >>= λ y. Some (ip y)) (sequence_again rep_at IsCertRep rep_again inside x is)
body_again (cr x) inside is = ap (λ (o : Option (RowForm ReqForm)). o >>= λ y. Some (cr y)) (crmf_again inside x is)
body_again (cp x) inside is = ap (λ (o : Option RepForm). o >>= λ y. Some (cp y)) (sequence_again rep_at IsCertRep rep_again inside x is)
body_again (p10cr x) inside is = ap (λ (o : Option P10Form). o >>= λ y. Some (p10cr y)) (p10_again inside x is)
body_again (kur x) inside is = ap (λ (o : Option (RowForm ReqForm)). o >>= λ y. Some (kur y)) (crmf_again inside x is)
body_again (kup x) inside is = ap (λ (o : Option RepForm). o >>= λ y. Some (kup y)) (sequence_again rep_at IsCertRep rep_again inside x is)
body_again (rr x) inside is = ap (λ (o : Option (RowForm RevForm)). o >>= λ y. Some (rr y)) (one_again rev_req_at IsRevReq (list_again rev_is_read) inside x is)
body_again (rp x) inside is = ap (λ (o : Option (RowForm StatusForm)). o >>= λ y. Some (rp y)) (one_again rev_rep_at IsRevRep rev_rep_again inside x is)
body_again pkiconf inside is = ap (λ (o : Option (List ℕ)). o >>= λ y. Some pkiconf) (nothing_again inside is)
body_again (nested x) inside is = ap (λ (o : Option (List ℕ)). o >>= λ y. Some (nested y)) (content_again sequences_at IsSequences sequences_are_read inside x is)
body_again (genm x) inside is = ap (λ (o : Option (List ℕ)). o >>= λ y. Some (genm y)) (content_again infos_at IsInfos infos_are_read inside x is)
body_again (genp x) inside is = ap (λ (o : Option (List ℕ)). o >>= λ y. Some (genp y)) (content_again infos_at IsInfos infos_are_read inside x is)
body_again (error x) inside is = ap (λ (o : Option ErrorForm). o >>= λ y. Some (error y)) (error_again inside x is)
body_again (cert_conf x) inside is = ap (λ (o : Option (RowForm CertStatusForm)). o >>= λ y. Some (cert_conf y)) (one_again confirm_at IsConfirm (list_again cert_status_is_read) inside x is)
body_again (poll_req x) inside is = ap (λ (o : Option (RowForm (List ℕ))). o >>= λ y. Some (poll_req y)) (one_again poll_req_at IsPollReq (list_again integer_alone) inside x is)
body_again (poll_rep x) inside is = ap (λ (o : Option (RowForm PollForm)). o >>= λ y. Some (poll_rep y)) (one_again poll_rep_at IsPollRep poll_rep_again inside x is)
body_again (other n) inside is =
    rw (skip n 0 is.0 refl, skip n 1 is.0 refl, skip n 2 is.0 refl, skip n 3 is.0 refl, skip n 4 is.0 refl, skip n 7 is.0 refl, skip n 8 is.0 refl, skip n 11 is.0 refl, skip n 12 is.0 refl, skip n 19 is.0 refl, skip n 20 is.0 refl, skip n 21 is.0 refl, skip n 22 is.0 refl, skip n 23 is.0 refl, skip n 24 is.0 refl, skip n 25 is.0 refl, skip n 26 is.0 refl)
    (other_again n inside is)
