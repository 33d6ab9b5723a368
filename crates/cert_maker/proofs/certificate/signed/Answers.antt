-- a valid signature is short
use Rattle.hss_sig.proofs.SizeLemmas.{signed_bound}
use Rattle.cert_maker.proofs.certificate.signed.Goals as goal

pub returns-clause-short : goal.returns-clause-short
returns-clause-short g c = signed_bound c.sign_at.result _ c.args.text.now c.sign_at.ensures.valid
