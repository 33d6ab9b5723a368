-- the signer is the one certificate that stands first
use Rattle.asn_types.specs.Key.{key_of}
use Rattle.x509_cert.specs.Cert.{cert_of}
use Rattle.pki_message.specs.Message.{message_of}
use Rattle.device_hearing.proofs.TrustLemmas.{signed_when}
use Rattle.device_hearing.proofs.trust.is_signed_reply.Goals as goal

pub returns : goal.returns
returns c =
    signed_when c.args.root.now (message_of c.args.m.now) (cert_of c.in-Some.signer) (key_of c.in-Some.signer.spki) c.holds_by.result c.in-Some.ensures.some c.in-Some.ensures.only c.in-Some.ensures.about
    (c.signs_replies.ensures.0 c.if-not-signs_replies.false) c.holds_by.ensures
