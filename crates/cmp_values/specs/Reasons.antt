-- Reasons of refusal (PKIFailureInfo, RFC 9810, 5.2.3).
use Rattle.std.specs.Prelude.{ℕ, List, codes}
use Rattle.cmp_values.specs.declared.fail_info.FailInfo.{FailInfo}
use Rattle.cmp_values.specs.declared.fail_info.FailInfo.TheVariants as reason

-- the bit of each
abbrev pub bit_of : FailInfo → ℕ
bit_of reason.BadAlg = 0
bit_of reason.BadMessageCheck = 1
bit_of reason.BadRequest = 2
bit_of reason.BadTime = 3
bit_of reason.BadCertId = 4
bit_of reason.BadDataFormat = 5
bit_of reason.BadPop = 9
bit_of reason.CertRevoked = 10
bit_of reason.CertConfirmed = 11
bit_of reason.WrongIntegrity = 12
bit_of reason.BadRecipientNonce = 13
bit_of reason.BadSenderNonce = 18
bit_of reason.BadCertTemplate = 19
bit_of reason.SignerNotTrusted = 20
bit_of reason.TransactionIdInUse = 21
bit_of reason.UnsupportedVersion = 22
bit_of reason.NotAuthorized = 23
bit_of reason.SystemUnavail = 24
bit_of reason.SystemFailure = 25
bit_of reason.DuplicateCertReq = 26

-- the name of each
abbrev pub name_of : FailInfo → List ℕ
name_of reason.BadAlg = codes "badAlg"
name_of reason.BadMessageCheck = codes "badMessageCheck"
name_of reason.BadRequest = codes "badRequest"
name_of reason.BadTime = codes "badTime"
name_of reason.BadCertId = codes "badCertId"
name_of reason.BadDataFormat = codes "badDataFormat"
name_of reason.BadPop = codes "badPOP"
name_of reason.CertRevoked = codes "certRevoked"
name_of reason.CertConfirmed = codes "certConfirmed"
name_of reason.WrongIntegrity = codes "wrongIntegrity"
name_of reason.BadRecipientNonce = codes "badRecipientNonce"
name_of reason.BadSenderNonce = codes "badSenderNonce"
name_of reason.BadCertTemplate = codes "badCertTemplate"
name_of reason.SignerNotTrusted = codes "signerNotTrusted"
name_of reason.TransactionIdInUse = codes "transactionIdInUse"
name_of reason.UnsupportedVersion = codes "unsupportedVersion"
name_of reason.NotAuthorized = codes "notAuthorized"
name_of reason.SystemUnavail = codes "systemUnavail"
name_of reason.SystemFailure = codes "systemFailure"
name_of reason.DuplicateCertReq = codes "duplicateCertReq"
