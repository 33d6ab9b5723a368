-- What was computed of a protection says whether it holds.
use Rattle.std.proofs.Common.{◌≡◌, ℕ, ◌++◌, Bool, IsTrue, List, None, sym, ap, ◌∙◌, arith}
use Rattle.std.specs.Prelude.{◌↔◌, option_map}
use Rattle.std.proofs.lemmas.List.{length-append}
use Rattle.der_base.specs.Element.{element}
use Rattle.asn_fields.specs.Forms.{optional_spelling}
use Rattle.asn_fields.proofs.FieldLemmas.{none_some}
use Rattle.asn_types.specs.Algorithm.{Algorithm}
use Rattle.asn_types.specs.Template.{same}
use Rattle.pbmac.specs.Mac.{mac_of, MacOk}
use Rattle.pbmac.specs.Params.{params_at}
use Rattle.pbmac.specs.declared.params.MacParams.{MacParams}
use Rattle.pbmac_grammar.specs.Pbmac1.{IsPbmac1, ParamsAreSpelled, ParamsAreOne}
use Rattle.pki_message.specs.Frame.{bits_spelling}
use Rattle.protect.specs.Holds.{IsMacAlgorithm, IsMacked, MessagesAreChecked}

-- no parameters are read of an algorithm that isn't PBMAC1
pub none_for : (a : Algorithm) → ParamsAreSpelled → params_at a ≡ None → IsMacAlgorithm a → ⊥
none_for a spelled none is = none_some is.params (sym none ∙ (spelled a is.params).1 is.form)

abbrev params : List ℕ → ℕ → MacParams
params salt rounds = record { salt = salt; rounds = rounds }

-- one set of parameters decides
pub macked : (b : Bool) (secret : List ℕ) (a : Algorithm) (p : MacParams) (part mac : List ℕ) → ParamsAreOne → IsPbmac1 a p.salt p.rounds → (IsTrue b ↔ MacOk secret p part mac) → (IsTrue b ↔ IsMacked secret a part mac)
macked b secret a p part mac one is iff = (
  λ t. record { params = p; form = is; valid = iff.0 t },
  λ m.
      let s = one a m.params.salt p.salt m.params.rounds p.rounds m.form is in
      iff.1 (m.valid ∙ ap (λ (salt : List ℕ). mac_of secret (params salt m.params.rounds) part) s.0 ∙ ap (λ (n : ℕ). mac_of secret (params p.salt n) part) s.1),
)

pub messages_are_checked : MessagesAreChecked
messages_are_checked bytes m is =
    let rest = optional_spelling 0xA0 bits_spelling m.protection ++ optional_spelling 0xA1 same (option_map (element 0x30) m.extra) in
    omega (arith, is.alone.counted, length-append m.header_bytes (m.body_bytes ++ rest), length-append m.body_bytes rest)
