-- The lowest bit that is set and has a name.
use Rattle.std.proofs.Common.{◌≡◌, ℕ, ◌+◌, ◌<◌, ◌≤◌, Bool, true, false, IsTrue, refl, arith}
use Rattle.der_base.specs.Values.{BitString}
use Rattle.cmp_values.specs.Reasons.{bit_of}
use Rattle.pki_parts.specs.FailInfo.{is_set}
use Rattle.cmp_values.specs.declared.fail_info.FailInfo.{FailInfo}
use Rattle.cmp_values.specs.declared.fail_info.FailInfo.TheVariants as reason

-- no reason has a bit above 26
last_bit : (fail : FailInfo) → bit_of fail ≤ 26
last_bit reason.BadAlg = omega arith
last_bit reason.BadMessageCheck = omega arith
last_bit reason.BadRequest = omega arith
last_bit reason.BadTime = omega arith
last_bit reason.BadCertId = omega arith
last_bit reason.BadDataFormat = omega arith
last_bit reason.BadPop = omega arith
last_bit reason.CertRevoked = omega arith
last_bit reason.CertConfirmed = omega arith
last_bit reason.WrongIntegrity = omega arith
last_bit reason.BadRecipientNonce = omega arith
last_bit reason.BadSenderNonce = omega arith
last_bit reason.BadCertTemplate = omega arith
last_bit reason.SignerNotTrusted = omega arith
last_bit reason.TransactionIdInUse = omega arith
last_bit reason.UnsupportedVersion = omega arith
last_bit reason.NotAuthorized = omega arith
last_bit reason.SystemUnavail = omega arith
last_bit reason.SystemFailure = omega arith
last_bit reason.DuplicateCertReq = omega arith

-- All reasons whose bit is set come from this bit on.
abbrev pub AreFrom : BitString → ℕ → Type 0
AreFrom b bit = (fail : FailInfo) → IsTrue (is_set b (bit_of fail)) → bit ≤ bit_of fail

pub from_next : (b : BitString) (bit : ℕ) → AreFrom b bit → ((fail : FailInfo) → bit_of fail ≡ bit → IsTrue (is_set b bit) → ⊥) → AreFrom b (bit + 1)
from_next b bit from none = λ fail h. grind (arith, from fail h, none fail)

not_set : (b : Bool) → (b ≡ true → ⊥) → b ≡ false
not_set true h = absurd (h refl)
not_set false h = refl

pub none_set : (b : BitString) (bit : ℕ) → AreFrom b bit → 26 < bit → (fail : FailInfo) → is_set b (bit_of fail) ≡ false
none_set b bit from last fail = not_set (is_set b (bit_of fail)) (λ h. absurd (omega (arith, from fail h, last_bit fail, last)))
