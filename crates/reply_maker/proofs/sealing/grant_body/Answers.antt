-- by its parts
use Rattle.std.proofs.Common.{◌∙◌}
use Rattle.reply_maker.proofs.SealLemmas.{granted_is}
use Rattle.reply_maker.proofs.sealing.grant_body.Goals as goal

pub returns-clause-written : goal.returns-clause-written
returns-clause-written c =
    granted_is c.granted_body.result c.args.keys.now.file c.args.keys.now.settings c.args.body c.args.mods c.args.r.now.change _ c.as_slice.result.now c.as_slice-2.result.now
    c.ca_pubs_for-ca_pubs.ensures.written (c.as_slice.ensures ∙ c.in-Some.ensures.made.1) (c.as_slice-2.ensures ∙ c.in_ok-cert.ensures.written) c.granted_body.ensures.written
