-- the element that stands first is the certificate that does
use Rattle.der_base.specs.Reading.{part_of}
use Rattle.x509_cert.specs.Cert.{cert_content}
use Rattle.device_hearing.proofs.CertificateLemmas.{as_element, first_read}
use Rattle.device_hearing.proofs.certificates.first_of.Goals as goal

pub returns-in-Ok-clause-only : goal.returns-in-Ok-clause-only
returns-in-Ok-clause-only c = λ f h.
    c.certificate.ensures.only f (first_read h.octets h.others c.in-Ok.field-0-1.now f (part_of c.in-Ok.element) h.certificate
    (c.in-Ok.ensures.only h.octets (cert_content f) h.others 0x30 (as_element h.octets f h.certificate) h.parts))
