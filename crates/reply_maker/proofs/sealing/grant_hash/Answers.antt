-- by its definition
use Rattle.std.proofs.Common.{◌∙◌, ap}
use Rattle.sha2.specs.Sha256.{sha256}
use Rattle.reply_maker.specs.Replies.{replier_of, certificate_hash}
use Rattle.reply_maker.proofs.sealing.grant_hash.Goals as goal

pub returns : goal.returns
unfolding replier_of certificate_hash
returns c = c.digest.ensures ∙ ap sha256 (c.as_slice.ensures ∙ c.in_ok-cert.ensures.written)
