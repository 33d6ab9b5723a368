use Rattle.std.proofs.Common.{◌∙◌, sym}
use Rattle.registry.proofs.ViewLemmas.{only_view}
use Rattle.registry.proofs.file.has_only.Goals as goal

pub returns : goal.returns
returns c = c.are_among.ensures ∙ sym (only_view c.args.words.now c.args.table.now)
