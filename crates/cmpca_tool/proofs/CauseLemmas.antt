-- A message has the cause of one verdict.
use Rattle.std.proofs.Common.{◌≡◌, ℕ, ◌+◌, ◌≤◌, ◌++◌, ◌⊎◌, Bool, true, false, cond, List, length, Option, Some, None, Result, Ok, Err, IfOk, refl, sym, ap, ◌∙◌, inl, inr, subst, arith, length-append}
use Rattle.std.specs.Str.{bytes_eq}
use Rattle.std.proofs.lemmas.Slice.Eq.{bytes_eq-Decides}
use Rattle.asn_fields.specs.Forms.{optional_spelling}
use Rattle.asn_fields.proofs.FieldLemmas.{none_some, some_same}
use Rattle.asn_types.specs.Algorithm.{Algorithm}
use Rattle.asn_types.specs.Template.{same}
use Rattle.asn_types.proofs.LengthLemmas.{length_element_lt}
use Rattle.pbmac.specs.Params.{params_at}
use Rattle.pbmac.specs.Mac.{mac_of}
use Rattle.pbmac.specs.declared.params.MacParams.{MacParams}
use Rattle.pbmac_grammar.specs.Pbmac1.{IsPbmac1, ParamsAreSpelled}
use Rattle.pki_message.specs.Frame.{FrameForm, IsFrame, bits_spelling, frame_content, message_limit, protected_part}
use Rattle.cmpca_tool.specs.Verdict.{verdict_of_frame, verdict_of_protection, verdict_of_mac}
use Rattle.cmpca_tool.specs.Causes.{IsProtected, IsMaced, IsVerdict, IsSoleVerdict}
use Rattle.cmpca_tool.specs.declared.verdict.Verdict.{Verdict}
use Rattle.cmpca_tool.specs.declared.verdict.Verdict.TheVariants.{Verified, BadDataFormat, Unprotected, BadAlg, WrongMac}
use Rattle.cmpca_tool.proofs.MacLemmas.{right_mac, wrong_mac, no_bool}

-- the header and the body are no longer than the message
pub parts_bound : (input : List ℕ) (f : FrameForm) → IsFrame input f → length f.header_bytes + length f.body_bytes ≤ message_limit
parts_bound input f is =
    let last = optional_spelling 0xA0 bits_spelling f.protection ++ optional_spelling 0xA1 same f.extra in
    omega (
      arith,
      is.limited,
      ap (λ (l : List ℕ). length l) is.alone.spelled,
      length_element_lt 0x30 (frame_content f),
      length-append f.header_bytes (f.body_bytes ++ last),
      length-append f.body_bytes last,
    )

-- the MAC of the protected part
abbrev mac_on : List ℕ → FrameForm → MacParams → List ℕ
mac_on secret f p = mac_of secret p (protected_part f.header_bytes f.body_bytes)

-- the cause of the verdict on a MAC
mac_cause : (secret input : List ℕ) (f : FrameForm) (p : MacParams) (mac : List ℕ) → IsMaced input f p mac
    → (v : Bool) → bytes_eq mac (mac_on secret f p) ≡ v → IsVerdict secret input (cond v Verified WrongMac)
mac_cause secret input f p mac maced true e =
    record { frame = f; params = p; mac = mac; maced = maced; holds = (bytes_eq-Decides mac (mac_on secret f p)).0 e }
mac_cause secret input f p mac maced false e =
    record { frame = f; params = p; mac = mac; maced = maced; differs = λ h. no_bool _ e ((bytes_eq-Decides mac (mac_on secret f p)).1 h) }

-- parameters are read exactly where the algorithm is PBMAC1
not_pbmac1 : ParamsAreSpelled → (alg : Algorithm) → params_at alg ≡ None → (salt : List ℕ) (rounds : ℕ) → IsPbmac1 alg salt rounds → ⊥
not_pbmac1 law alg e salt rounds is =
    let params : MacParams = record { salt = salt; rounds = rounds } in
    none_some params (sym e ∙ (law alg params).1 is)

no_params : ParamsAreSpelled → (alg : Algorithm) → ((salt : List ℕ) (rounds : ℕ) → IsPbmac1 alg salt rounds → ⊥) → (o : Option MacParams) → params_at alg ≡ o → o ≡ None
no_params law alg other None e = refl
no_params law alg other (Some p) e = absurd (other p.salt p.rounds ((law alg p).0 e))

-- the cause of the verdict on an algorithm
alg_cause : ParamsAreSpelled → (secret input : List ℕ) (f : FrameForm) (alg : Algorithm) (mac : List ℕ) → IsProtected input f alg mac
    → (o : Option MacParams) → params_at alg ≡ o → IsVerdict secret input (verdict_of_mac secret f mac o)
alg_cause pbmac1 secret input f alg mac protected None e = record { frame = f; alg = alg; mac = mac; protected = protected; other = not_pbmac1 pbmac1 alg e }
alg_cause pbmac1 secret input f alg mac protected (Some p) e =
    mac_cause secret input f p mac record { alg = alg; protected = protected; pbmac1 = (pbmac1 alg p).0 e } _ refl

-- the cause of the verdict on a protection
protection_cause : ParamsAreSpelled → (secret input : List ℕ) (f : FrameForm) → IsFrame input f → (a : Option Algorithm) (m : Option (List ℕ))
    → f.head.alg ≡ a → f.protection ≡ m → IsVerdict secret input (verdict_of_protection secret f a m)
protection_cause pbmac1 secret input f message None m a_is m_is = record { frame = f; message = message; missing = inl a_is }
protection_cause pbmac1 secret input f message (Some alg) None a_is m_is = record { frame = f; message = message; missing = inr m_is }
protection_cause pbmac1 secret input f message (Some alg) (Some mac) a_is m_is =
    alg_cause pbmac1 secret input f alg mac record { message = message; algorithm = a_is; protection = m_is } _ refl

-- The octets are no other frame.
abbrev IsOnly : List ℕ → FrameForm → Type 0
IsOnly input f = (g : FrameForm) → IsFrame input g → g ≡ f

-- the verdict on the only frame, by what it has
of_message : (secret input : List ℕ) (f g : FrameForm) → IsOnly input f → IsFrame input g → verdict_of_frame secret f ≡ verdict_of_protection secret g g.head.alg g.protection
of_message secret input f g only is = ap (verdict_of_frame secret) (sym (only g is))

of_protected : (secret input : List ℕ) (f g : FrameForm) (alg : Algorithm) (mac : List ℕ) → IsOnly input f → IsProtected input g alg mac → verdict_of_frame secret f ≡ verdict_of_mac secret g mac (params_at alg)
of_protected secret input f g alg mac only p = of_message secret input f g only p.message ∙ rw (p.algorithm, p.protection) refl

of_maced : ParamsAreSpelled → (secret input : List ℕ) (f g : FrameForm) (params : MacParams) (mac : List ℕ) → IsOnly input f → IsMaced input g params mac
    → verdict_of_frame secret f ≡ verdict_of_mac secret g mac (Some params)
of_maced pbmac1 secret input f g params mac only m =
    of_protected secret input f g m.alg mac only m.protected ∙ ap (verdict_of_mac secret g mac) ((pbmac1 m.alg params).1 m.pbmac1)

-- protection that lacks its algorithm or itself
missing_one : (secret : List ℕ) (f : FrameForm) (a : Option Algorithm) (m : Option (List ℕ)) → (a ≡ None) ⊎ (m ≡ None) → verdict_of_protection secret f a m ≡ Unprotected
missing_one secret f None m h = refl
missing_one secret f (Some alg) None h = refl
missing_one secret f (Some alg) (Some mac) (inl e) = cc
missing_one secret f (Some alg) (Some mac) (inr e) = cc

-- a verdict whose cause a frame has is the verdict on it
frame_sole : ParamsAreSpelled → (secret input : List ℕ) (f : FrameForm) → IsFrame input f → IsOnly input f → (v : Verdict) → IsVerdict secret input v → v ≡ verdict_of_frame secret f
frame_sole pbmac1 secret input f is only Verified h =
    right_mac secret h.params _ _ h.mac refl h.holds ∙ sym (of_maced pbmac1 secret input f h.frame h.params h.mac only h.maced)
frame_sole pbmac1 secret input f is only BadDataFormat h = absurd (h.no_frame f is)
frame_sole pbmac1 secret input f is only Unprotected h =
    sym (of_message secret input f h.frame only h.message ∙ missing_one secret h.frame h.frame.head.alg h.frame.protection h.missing)
frame_sole pbmac1 secret input f is only BadAlg h =
    sym (of_protected secret input f h.frame h.alg h.mac only h.protected ∙ ap (verdict_of_mac secret h.frame h.mac) (no_params pbmac1 h.alg h.other _ refl))
frame_sole pbmac1 secret input f is only WrongMac h =
    wrong_mac secret h.params _ _ h.mac refl h.differs ∙ sym (of_maced pbmac1 secret input f h.frame h.params h.mac only h.maced)

frame_verdict : ParamsAreSpelled → (secret input : List ℕ) (f : FrameForm) → IsFrame input f → IsOnly input f → IsSoleVerdict secret input (verdict_of_frame secret f)
frame_verdict pbmac1 secret input f is only = record {
  caused = protection_cause pbmac1 secret input f is _ _ refl refl;
  sole = frame_sole pbmac1 secret input f is only;
}

-- the verdict on octets that are no frame
no_frame_sole : (secret input : List ℕ) → ((f : FrameForm) → IsFrame input f → ⊥) → (v : Verdict) → IsVerdict secret input v → v ≡ BadDataFormat
no_frame_sole secret input none Verified h = absurd (none h.frame h.maced.protected.message)
no_frame_sole secret input none BadDataFormat h = refl
no_frame_sole secret input none Unprotected h = absurd (none h.frame h.message)
no_frame_sole secret input none BadAlg h = absurd (none h.frame h.protected.message)
no_frame_sole secret input none WrongMac h = absurd (none h.frame h.maced.protected.message)

pub no_frame_verdict : (secret input : List ℕ) → ((f : FrameForm) → IsFrame input f → ⊥) → IsSoleVerdict secret input BadDataFormat
no_frame_verdict secret input none = record { caused = record { no_frame = none }; sole = no_frame_sole secret input none }

-- a verdict that is told where memory does not run out
told : {E : Type 0} (secret input : List ℕ) (r : Result Verdict E) (w : Verdict) → IfOk r (λ v. v ≡ w) → IsSoleVerdict secret input w → IfOk r (λ v. IsSoleVerdict secret input v)
told secret input (Ok v) w e is = subst (IsSoleVerdict secret input) (sym e) is
told secret input (Err x) w e is = tt

pub frame_told : {E : Type 0} → ParamsAreSpelled → (secret input : List ℕ) (f : FrameForm) (r : Result Verdict E) → IsFrame input f → ((g : FrameForm) → IsFrame input g → Some g ≡ Some f)
    → IfOk r (λ v. v ≡ verdict_of_frame secret f) → IfOk r (λ v. IsSoleVerdict secret input v)
frame_told pbmac1 secret input f r is only e = told secret input r (verdict_of_frame secret f) e (frame_verdict pbmac1 secret input f is (λ g g_is. some_same g f (only g g_is)))
