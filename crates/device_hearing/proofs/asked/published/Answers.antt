-- the first certificate has one key
use Rattle.std.proofs.Common.{Some, ap}
use Rattle.std.specs.Option.{option_copied}
use Rattle.asn_types.specs.Key.{key_of}
use Rattle.x509_cert.specs.Cert.{cert_of}
use Rattle.device_hearing.proofs.TrustLemmas.{published_one}
use Rattle.device_hearing.proofs.asked.published.Goals as goal

pub returns-in-Some-clause-only : goal.returns-in-Some-clause-only
returns-in-Some-clause-only c = λ root h. ap Some (published_one (option_copied c.args.ca_pubs) root (cert_of c.in-Some.cert) (key_of c.in-Some.cert.spki) c.in-Some.ensures.only c.in-Some.ensures.about h)
