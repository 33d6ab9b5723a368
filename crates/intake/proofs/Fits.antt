-- What a change keeps of a message fits its places there.
use Rattle.std.proofs.Common.{◌≡◌, ℕ, ◌≤◌, ◌<◌, ◌^◌, Bool, true, false, ◌&&◌, leb, List, [], ◌∷◌, length, Option, Some, None, IfSome, Ok, is_some, refl, sym, subst, arith}
use Rattle.std.proofs.lemmas.Bool.Decides.{nat_tests}
use Rattle.sha2.proofs.Facts256.{length-sha256}
use Rattle.req_forms.specs.Requests.{ReqForm}
use Rattle.pki_parts.proofs.ReasonLemmas.{reason_found}
use Rattle.pki_parts.specs.Reason.{IsReason, GiveReason, reasons_in, reason_in_at, IsReasonOf}
use Rattle.pki_parts.specs.Revocation.{RevForm}
use Rattle.pki_message.specs.Body as forms
use Rattle.pki_message.specs.Body.{BodyForm, IsInside}
use Rattle.pki_message.specs.Message.{MessageForm}
use Rattle.deal_changes.specs.Spelling.{IsShort, IsWish}
use Rattle.deal_changes.specs.declared.change.Body4.{Body4}
use Rattle.deal_table.specs.History.{Receipted}
use Rattle.deal_table.specs.Message.{FitsBody, Facts}
use Rattle.intake.proofs.Limits.{crmf_within, p10_within, body_within, head_within}
use Rattle.intake.proofs.Wished.{wish_fits}
use Rattle.intake.specs.Bodies.{crmf_enrolment, reason_of, withdrawal_of, body_facts}
use Rattle.intake.specs.Headers.{asks_implicit}
use Rattle.intake.specs.Laws.{NamesKey, FitsKeyed, LettersFit}
use Rattle.intake.specs.Letter.{IsReading, Checks, facts_of, inside_of}
use Rattle.intake.specs.Told.{IsLimited, AreLimited}
use Rattle.intake.specs.Values.{sized}

within_parts : (a n b : ℕ) → leb a n && leb n b ≡ true → (a ≤ n) × (n ≤ b)
within_parts a n b e = grind (arith, nat_tests)

sized_by : (least most : ℕ) (octets : List ℕ) (b : Bool) → leb least (length octets) && leb (length octets) most ≡ b → IfSome (sized least most (Some octets)) (λ octets. (least ≤ length octets) × (length octets ≤ most))
sized_by least most octets true e = rw e (within_parts least (length octets) most e)
sized_by least most octets false e = rw e tt

sized_within : (least most : ℕ) (o : Option (List ℕ)) → IfSome (sized least most o) (λ octets. (least ≤ length octets) × (length octets ≤ most))
sized_within least most None = tt
sized_within least most (Some octets) = sized_by least most octets (leb least (length octets) && leb (length octets) most) refl

short_of : (o : Option (List ℕ)) → IfSome o (λ octets. (16 ≤ length octets) × (length octets ≤ 64)) → IfSome o IsShort
short_of None h = tt
short_of (Some octets) h = h.1

-- a reason has one octet
reason_small : (n : ℕ) → IsReason n → n < 2 ^ 8
reason_small n h = grind arith

given_small : (values : List (List ℕ)) (n : ℕ) → GiveReason values n → n < 2 ^ 8
given_small [] n h = omega (arith, h)
given_small (value ∷ []) n h = reason_small n h.0
given_small (value ∷ another ∷ more) n h = absurd h

reason_fits_by : (content : List ℕ) (o : Option ℕ) → reason_in_at content ≡ o → IfSome o (λ n. n < 2 ^ 8)
reason_fits_by content None e = tt
reason_fits_by content (Some n) e = let r : IsReasonOf (Some content) n = reason_found (Some content) (Ok n) e in given_small (reasons_in r.extensions) n r.reason

reason_fits : (exts : Option (List ℕ)) → IfSome (reason_of exts) (λ n. n < 2 ^ 8)
reason_fits None = omega arith
reason_fits (Some content) = reason_fits_by content (reason_in_at content) refl

withdrawal_fits : (count : ℕ) (o : Option RevForm) → IfSome (withdrawal_of count o).reason (λ n. n < 2 ^ 8)
withdrawal_fits count None = tt
withdrawal_fits count (Some r) = reason_fits r.exts

crmf_fits : (body : Body4) (implicit proven : Bool) (count : ℕ) (o : Option ReqForm) → IfSome o (λ r. AreLimited r.template.subject r.template.key r.template.exts) → (crmf_enrolment body implicit proven count o).has_key ≡ true → IsWish (crmf_enrolment body implicit proven count o).wish
crmf_fits body implicit proven count None h e = absurd (let f = e in cc)
crmf_fits body implicit proven count (Some r) h e = wish_fits r.template.subject r.template.key r.template.exts implicit (is_some r.template.validity) h e

body_fits : (hashes : Receipted → List ℕ) (implicit proven : Bool) (b : BodyForm) (inside : List ℕ) → IsInside b inside → IsLimited inside → NamesKey (body_facts hashes implicit proven b) → FitsBody (body_facts hashes implicit proven b)
body_fits hashes implicit proven (forms.ir list) inside is h e = crmf_fits _ implicit proven list.count list.first (crmf_within inside list is h) e
body_fits hashes implicit proven (forms.cr list) inside is h e = crmf_fits _ implicit proven list.count list.first (crmf_within inside list is h) e
body_fits hashes implicit proven (forms.kur list) inside is h e = crmf_fits _ implicit proven list.count list.first (crmf_within inside list is h) e
body_fits hashes implicit proven (forms.p10cr p) inside is h e = wish_fits (Some p.inside.subject) (Some p.inside.key) p.inside.attributes.exts implicit false (p10_within inside p is h) refl
body_fits hashes implicit proven (forms.cert_conf list) inside is h e = tt
body_fits hashes implicit proven (forms.poll_req list) inside is h e = tt
body_fits hashes implicit proven (forms.rr list) inside is h e = withdrawal_fits list.count list.first
body_fits hashes implicit proven (forms.nested messages) inside is h e = tt
body_fits hashes implicit proven (forms.ip replies) inside is h e = tt
body_fits hashes implicit proven (forms.cp replies) inside is h e = tt
body_fits hashes implicit proven (forms.kup replies) inside is h e = tt
body_fits hashes implicit proven (forms.rp responses) inside is h e = tt
body_fits hashes implicit proven forms.pkiconf inside is h e = tt
body_fits hashes implicit proven (forms.genm infos) inside is h e = tt
body_fits hashes implicit proven (forms.genp infos) inside is h e = tt
body_fits hashes implicit proven (forms.error message) inside is h e = tt
body_fits hashes implicit proven (forms.poll_rep answers) inside is h e = tt
body_fits hashes implicit proven (forms.other tag) inside is h e = tt

facts_fit : (hashes : Receipted → List ℕ) (bytes : List ℕ) (o : Option MessageForm) (c : Checks) → IsReading bytes o → FitsKeyed (facts_of hashes bytes o c)
facts_fit hashes bytes None c none e = record { digest = length-sha256 bytes; tid = tt; sender = omega arith; nonce = tt; body = tt }
facts_fit hashes bytes (Some m) c is e = record {
  digest = length-sha256 bytes;
  tid = sized_within 1 64 m.head.tid;
  sender = omega (arith, head_within bytes m is);
  nonce = short_of (sized 16 64 m.head.sender_nonce) (sized_within 16 64 m.head.sender_nonce);
  body = body_fits hashes (asks_implicit m.head.info) c.is_proven m.body is.fits.inside is.fits.form (body_within bytes m is) e;
}

fits_where : (a b : Facts) → a ≡ b → FitsKeyed b → FitsKeyed a
fits_where a b e h = subst FitsKeyed (sym e) h

pub letters_fit : LettersFit
letters_fit hashes bytes l is = (
  fits_where l.message _ is.message (facts_fit hashes bytes is.outer is.outer_checks is.is_outer),
  fits_where l.inner _ is.inside (facts_fit hashes (inside_of is.outer) is.inner is.inner_checks is.is_inner),
)
