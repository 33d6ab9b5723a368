-- a signature is short
use Rattle.std.proofs.Common.{ℕ, List, length, ap, arith}
use Rattle.std.proofs.lemmas.Result.{IfOk-weaker}
use Rattle.cert_maker.proofs.SizeLemmas.{signed_short}
use Rattle.cert_maker.proofs.certificate.certificate_of.Goals as goal

pub returns-clause-short : goal.returns-clause-short
returns-clause-short g c =
    IfOk-weaker c.write_cert.result _ _
    (λ octets h. omega (arith, signed_short c.args.tbs.now c.as_slice.result.now octets h, ap (λ (l : List ℕ). length l) c.as_slice.ensures, c.in_ok-sig.ensures.short))
    c.write_cert.ensures
