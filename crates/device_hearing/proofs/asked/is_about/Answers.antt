-- the algorithm and the octets of the key are those of its element
use Rattle.std.proofs.Common.{sym, ◌∙◌}
use Rattle.std.proofs.lemmas.Bool.{false≢true}
use Rattle.asn_types.specs.Key.{key_of}
use Rattle.x509_cert.specs.Cert.{cert_of}
use Rattle.device_hearing.proofs.CertificateLemmas.{about_hss, hss_spelled}
use Rattle.device_hearing.proofs.asked.is_about.Goals as goal

pub returns-then-is_hss_lms : goal.returns-then-is_hss_lms
returns-then-is_hss_lms c = (
  λ t. hss_spelled (cert_of c.args.cert.now) (key_of c.args.cert.now.spki) c.args.key.now c.requires (c.is_hss_lms.ensures.0 c.if-is_hss_lms.true) (c.is_key.ensures.0 t),
  λ e. c.is_key.ensures.1 (about_hss (cert_of c.args.cert.now) (key_of c.args.cert.now.spki) c.args.key.now c.told-key c.requires e).1,
)

pub returns-else-is_hss_lms : goal.returns-else-is_hss_lms
returns-else-is_hss_lms c = (
  λ t. absurd (false≢true (sym c.if-is_hss_lms.false ∙ t)),
  λ e. c.is_hss_lms.ensures.1 (about_hss (cert_of c.args.cert.now) (key_of c.args.cert.now.spki) c.args.key.now c.told-key c.requires e).0,
)
