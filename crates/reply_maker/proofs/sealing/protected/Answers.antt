-- by the stamp's leaf
use Rattle.std.proofs.Common.{◌∙◌, ap}
use Rattle.deal_changes.specs.declared.change.Settings.{Settings}
use Rattle.deal_table.specs.History.{brief_of}
use Rattle.reply_maker.proofs.SealLemmas.{leaf_below, signed_is, macked_is}
use Rattle.reply_maker.proofs.sealing.protected.Goals as goal

pub signed-requires-clause-below : goal.signed-requires-clause-below
signed-requires-clause-below c =
    leaf_below c.args.keys.now.file c.args.keys.now.settings c.args.r.now c.args.s.now c.in-Some.leaf c.requires.force c.requires.stamp c.in-Some.is

pub returns-in-Some : goal.returns-in-Some
returns-in-Some c =
    signed_is c.signed.result c.args.keys.now.file c.args.keys.now.settings c.args.r.now c.args.s.now c.in-Some.leaf c.args.header.now c.args.body.now
    c.requires.stamp c.in-Some.is c.requires.header c.requires.body c.signed.ensures

pub returns-in-None : goal.returns-in-None
returns-in-None c =
    macked_is c.macked.result c.args.keys.now.file c.args.keys.now.settings c.args.r.now c.args.s.now c.args.header.now c.args.body.now c.key.result.now c.brief_of-brief.result
    c.requires.stamp c.in-None.is c.requires.header c.requires.body c.key.ensures (c.brief_of-brief.ensures ∙ ap (λ (s : Settings). brief_of s) c.settings.ensures.same) c.macked.ensures
