-- The trees are those of the key file, and what is kept is made of them.
use Rattle.reply_maker.proofs.KeyLemmas.{AreGrown, agrees, kept, loaded_is, differs}
use Rattle.reply_maker.proofs.keys.Keys.grown.Goals as goal

pub returns-in-Err-clause-gives : goal.returns-in-Err-clause-gives
returns-in-Err-clause-gives c =
    let file = c.args.file.now in
    let trees = c.in-Ok.trees in
    let grown : AreGrown file c.args.settings.now trees.issue trees.reply =
    record { parts = c.requires.parts; issue_is = c.in-Ok.ensures.issue; reply_is = c.in-Ok.ensures.reply } in
    differs file c.args.settings.now trees.issue trees.reply c.in-Err.fault grown c.in-Err.ensures.0 c.in-Err.ensures.1 c.in-Err.ensures.2

pub invariant_of-result : goal.invariant_of-result
invariant_of-result c =
    let file = c.args.file.now in
    let trees = c.in-Ok.trees in
    let grown : AreGrown file c.args.settings.now trees.issue trees.reply =
    record { parts = c.requires.parts; issue_is = c.in-Ok.ensures.issue; reply_is = c.in-Ok.ensures.reply } in
    kept file c.args.settings.now c.in-Ok-copy_of.settings trees.issue trees.reply c.in-Ok-certificates_of.certificates grown c.requires.usable
    (agrees file c.args.settings.now trees.issue trees.reply grown c.in-Ok-compare.ensures)
    c.in-Ok-certificates_of.ensures.made c.in-Ok-certificates_of.ensures.short c.in-Ok-copy_of.ensures

pub returns-clause-gives : goal.returns-clause-gives
returns-clause-gives c =
    let file = c.args.file.now in
    let trees = c.in-Ok.trees in
    let grown : AreGrown file c.args.settings.now trees.issue trees.reply =
    record { parts = c.requires.parts; issue_is = c.in-Ok.ensures.issue; reply_is = c.in-Ok.ensures.reply } in (
      c.requires.parts.form,
      agrees file c.args.settings.now trees.issue trees.reply grown c.in-Ok-compare.ensures,
      loaded_is file c.args.settings.now c.in-Ok-copy_of.settings trees.issue trees.reply grown c.in-Ok-copy_of.ensures,
    )
