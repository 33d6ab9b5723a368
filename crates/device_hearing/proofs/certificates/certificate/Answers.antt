-- what is read is the certificate, and no other one is there
use Rattle.std.proofs.Common.{Some, None, refl}
use Rattle.asn_types.specs.Key.{key_of}
use Rattle.x509_cert.specs.Cert.{cert_of, dated_of}
use Rattle.device_hearing.proofs.CertificateLemmas.{form_read, about_read}
use Rattle.device_hearing.proofs.certificates.certificate.Goals as goal

pub returns-in-Ok-clause-only : goal.returns-in-Ok-clause-only
returns-in-Ok-clause-only c = λ f h. form_read (Some (f, h.from, h.to)) (Some (dated_of c.in-Ok.cert)) (c.in-Ok.ensures.only f h.from h.to h.fits h.dated h.spelled)

pub returns-in-Ok-clause-about : goal.returns-in-Ok-clause-about
returns-in-Ok-clause-about c = about_read (cert_of c.in-Ok.cert) c.in-Ok.cert.spki.content.now (key_of c.in-Ok.cert.spki) c.in-Ok.ensures.found.0 refl c.in-Ok.ensures.key.0 c.in-Ok.ensures.key.1

pub returns-in-Err-clause-only : goal.returns-in-Err-clause-only
returns-in-Err-clause-only c = λ f h. form_read (Some (f, h.from, h.to)) None (c.in-Err.ensures.only f h.from h.to h.fits h.dated h.spelled)
