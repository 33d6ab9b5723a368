-- a second has one text
use Rattle.std.proofs.Common.{◌∙◌}
use Rattle.cert_maker.proofs.MomentLemmas.{generalized_is}
use Rattle.reply_maker.proofs.headers.time_text.Goals as goal

pub returns-clause-written : goal.returns-clause-written
returns-clause-written c = c.of.ensures ∙ c.into_vec.ensures ∙ generalized_is c.args.time c.in_ok-text.text c.in_ok-text.ensures
