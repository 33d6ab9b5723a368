-- by the test
use Rattle.std.proofs.Common.{Bool, IsTrue, ◌↔◌, sym, subst}
use Rattle.pki_parts.specs.Certificates.{IsCertificates}
use Rattle.pki_parts.proofs.CertificateLemmas.{certificates_test}
use Rattle.pki_parts.proofs.certificates.are_certificates.Goals as goal

pub returns-clause-means : goal.returns-clause-means
returns-clause-means c = subst (λ (b : Bool). IsTrue b ↔ IsCertificates c.args.«content».now) (sym c.all_certificates.ensures) (certificates_test c.args.«content».now)
