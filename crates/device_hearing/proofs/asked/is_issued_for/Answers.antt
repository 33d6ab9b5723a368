-- the certificate that was read is the one that the octets are
use Rattle.x509_cert.specs.Cert.{cert_of}
use Rattle.device_hearing.proofs.TrustLemmas.{issued_as, unissued}
use Rattle.device_hearing.proofs.asked.is_issued_for.Goals as goal

pub returns-in-Some : goal.returns-in-Some
returns-in-Some c = issued_as c.args.root.now c.args.key.now c.args.cert.now (cert_of c.in-Some.cert) c.is_granted.result c.in-Some.ensures.some c.in-Some.ensures.only c.is_granted.ensures

pub returns-in-None : goal.returns-in-None
returns-in-None c = unissued c.args.root.now c.args.key.now c.args.cert.now c.in-None.ensures.only
