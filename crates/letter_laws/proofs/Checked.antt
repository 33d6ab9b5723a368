-- Whether the protection of a message verifies, and whether a request proves that its sender has the private key, are decided.
use Rattle.std.proofs.Common.{◌≡◌, ℕ, true, false, List, Option, Some, None, refl, sym, ap, subst, ◌∙◌}
use Rattle.std.proofs.lemmas.Option.{none-some, same_Some}
use Rattle.asn_types.specs.Algorithm.{Algorithm}
use Rattle.asn_types.specs.Key.{Key}
use Rattle.pbmac.specs.Mac.{mac_of}
use Rattle.pbmac.specs.Params.{params_at}
use Rattle.pbmac.specs.declared.params.MacParams.{MacParams}
use Rattle.pbmac_grammar.specs.Pbmac1.{ParamsAreSpelled}
use Rattle.req_forms.specs.Possession.{PopoForm, no_popo, by_ra, signed, another}
use Rattle.req_forms.specs.Requests.{ReqForm}
use Rattle.pki_message.specs.Body as forms
use Rattle.pki_message.specs.Body.{BodyForm}
use Rattle.pki_message.specs.Message.{MessageForm}
use Rattle.deal_changes.specs.declared.change.Kind.{Kind}
use Rattle.deal_changes.specs.declared.change.Kind.TheVariants.{Mac, Lms}
use Rattle.protect.specs.Algorithms.{hss_lms}
use Rattle.protect.specs.Holds.{IsMacked, IsSigned, Protects, HoldsOver}
use Rattle.pki_message.specs.Frame.{protected_part}
use Rattle.intake.specs.Headers.{kind_of}
use Rattle.intake.specs.Holds.{key_by, VerifiesAs, Proves, ProvesFirst, IsProven}
use Rattle.intake.specs.Letter.{Checks, AreChecked, AreChecks}
use Rattle.letter_laws.proofs.Decided.{Decided, never, like, both, same_octets, hss}

-- ---- protections

macked_by : ParamsAreSpelled → (secret : List ℕ) (a : Algorithm) (part mac : List ℕ) (o : Option MacParams) → params_at a ≡ o → Decided (IsMacked secret a part mac)
macked_by spelled secret a part mac None e = never (λ m. none-some m.params (sym e ∙ (spelled a m.params).1 m.form))
macked_by spelled secret a part mac (Some p) e =
    like {P = mac ≡ mac_of secret p part}
    (λ valid. record { params = p; form = (spelled a p).0 e; valid = valid })
    (λ m. subst (λ (x : MacParams). mac ≡ mac_of secret x part) (sym (same_Some p m.params (sym e ∙ (spelled a m.params).1 m.form))) m.valid)
    (same_octets mac (mac_of secret p part))

same_options : (o p : Option (List ℕ)) → Decided (o ≡ p)
same_options None None = (true, (λ e. refl, λ e. refl))
same_options None (Some y) = never (λ e. none-some y e)
same_options (Some x) None = never (λ e. none-some x (sym e))
same_options (Some x) (Some y) = like (λ e. ap (λ (z : List ℕ). Some z) e) (λ e. same_Some x y e) (same_octets x y)

algorithm_is : (a b : Algorithm) → a.oid ≡ b.oid → a.params ≡ b.params → a ≡ b
algorithm_is a b oid params = ap (λ (x : List ℕ). record { oid = x; params = a.params }) oid ∙ ap (λ (y : Option (List ℕ)). record { oid = b.oid; params = y }) params

same_algorithms : (a b : Algorithm) → Decided (a ≡ b)
same_algorithms a b = like {P = (a.oid ≡ b.oid) × (a.params ≡ b.params)} (λ p. algorithm_is a b p.0 p.1) (λ e. (ap (λ (x : Algorithm). x.oid) e, ap (λ (x : Algorithm). x.params) e)) (both (same_octets a.oid b.oid) (same_options a.params b.params))

signed_by : (key : List ℕ) (a : Algorithm) (part sig : List ℕ) → Decided (IsSigned key a part sig)
signed_by key a part sig = like (λ p. record { form = p.0; valid = p.1 }) (λ s. (s.form, s.valid)) (both (same_algorithms a hss_lms) (hss key part sig))

protects : ParamsAreSpelled → (kind : Kind) (key : List ℕ) (a : Algorithm) (part octets : List ℕ) → Decided (Protects (key_by kind key) a part octets)
protects spelled Mac key a part octets = macked_by spelled key a part octets (params_at a) refl
protects spelled Lms key a part octets = signed_by key a part octets

holds : ParamsAreSpelled → (kind : Kind) (key : List ℕ) (o : Option Algorithm) (octets : Option (List ℕ)) (part : List ℕ) → Decided (HoldsOver (key_by kind key) o octets part)
holds spelled kind key None octets part = never (λ x. x)
holds spelled kind key (Some a) None part = never (λ x. x)
holds spelled kind key (Some a) (Some octets) part = protects spelled kind key a part octets

verifies_as : ParamsAreSpelled → (kind : Option Kind) (m : MessageForm) (key : List ℕ) → Decided (VerifiesAs kind m key)
verifies_as spelled (Some kind) m key = holds spelled kind key m.head.alg m.protection (protected_part m.header_bytes m.body_bytes)
verifies_as spelled None m key = never (λ x. x)

-- ---- possession

proves : (key : Option Key) (request : List ℕ) (popo : PopoForm) → Decided (Proves key request popo)
proves None request popo = never (λ x. x)
proves (Some k) request no_popo = never (λ x. x)
proves (Some k) request by_ra = never (λ x. x)
proves (Some k) request (another n) = never (λ x. x)
proves (Some k) request (signed s) = both (same_options s.input None) (hss k.key request s.sig)

proves_first : (o : Option ReqForm) → Decided (ProvesFirst o)
proves_first None = never (λ x. x)
proves_first (Some r) = proves r.template.key r.request r.popo

is_proven : (b : BodyForm) → Decided (IsProven b)
is_proven (forms.ir list) = proves_first list.first
is_proven (forms.cr list) = proves_first list.first
is_proven (forms.kur list) = proves_first list.first
is_proven (forms.p10cr p) = hss p.inside.key.key p.info p.sig
is_proven (forms.ip replies) = never (λ x. x)
is_proven (forms.cp replies) = never (λ x. x)
is_proven (forms.kup replies) = never (λ x. x)
is_proven (forms.rr list) = never (λ x. x)
is_proven (forms.rp responses) = never (λ x. x)
is_proven forms.pkiconf = never (λ x. x)
is_proven (forms.nested messages) = never (λ x. x)
is_proven (forms.genm infos) = never (λ x. x)
is_proven (forms.genp infos) = never (λ x. x)
is_proven (forms.error message) = never (λ x. x)
is_proven (forms.cert_conf list) = never (λ x. x)
is_proven (forms.poll_req list) = never (λ x. x)
is_proven (forms.poll_rep answers) = never (λ x. x)
is_proven (forms.other tag) = never (λ x. x)

-- ---- both

checked : ParamsAreSpelled → (m : MessageForm) → (c : Checks) × AreChecked m c
checked spelled m =
    let proven : Decided (IsProven m.body) = is_proven m.body in (
      record { verifies = λ key. (verifies_as spelled (kind_of m.head.alg) m key).0; is_proven = proven.0 },
      record { verified = λ key. (verifies_as spelled (kind_of m.head.alg) m key).1; proven = proven.1 },
    )

pub checks : ParamsAreSpelled → (o : Option MessageForm) → (c : Checks) × AreChecks o c
checks spelled None = (record { verifies = λ key. false; is_proven = false }, tt)
checks spelled (Some m) = checked spelled m
