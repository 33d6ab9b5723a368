-- by the law of certificates
use Rattle.x509_cert.proofs.CertLemmas.{cert_found, tbs_found, cert_reads}
use Rattle.x509_cert.proofs.cert.read_cert.Goals as goal

pub returns-clause-found : goal.returns-clause-found
returns-clause-found c = cert_found c.dated_cert.result c.args.bytes.now c.dated_cert.ensures.took

pub returns-clause-signed : goal.returns-clause-signed
returns-clause-signed c = tbs_found c.dated_cert.result c.dated_cert.ensures.tbs

pub returns-clause-only : goal.returns-clause-only
returns-clause-only c = λ f from to fits dates spelled. c.dated_cert.ensures.only f from to (cert_reads c.args.bytes.now f fits spelled) dates
