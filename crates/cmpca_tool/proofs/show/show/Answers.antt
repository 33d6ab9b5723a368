-- The reply is by what the mount answers.
use Rattle.std.proofs.Common.{ap, ◌∙◌}
use Rattle.deal_lines.specs.Lines.{lines_of}
use Rattle.cmpca_tool.proofs.ShowLemmas.{lines_reply, no_memory_reply}
use Rattle.cmpca_tool.proofs.ChangeLemmas.{fault_reply}
use Rattle.cmpca_tool.proofs.show.show.Goals as goal

pub returns-in-Ok-show_lines-clause-reply : goal.returns-in-Ok-show_lines-clause-reply
returns-in-Ok-show_lines-clause-reply g c =
    lines_reply c.at_most_one_answer.ensures _ c.in-Ok.history.items _ _ c.in-Ok.ensures.told c.in-Ok.ensures.stands c.in-Ok.ensures.legal
    c.made.ensures.ends (c.made.ensures.says ∙ c.in-Ok-show_lines.ensures ∙ ap lines_of c.deref.ensures.value)

pub returns-in-Ok-clause-reply : goal.returns-in-Ok-clause-reply
returns-in-Ok-clause-reply g c = no_memory_reply _ _ _ c.no_memory.ensures.ends c.no_memory.ensures.says

pub returns-clause-reply : goal.returns-clause-reply
returns-clause-reply g c = fault_reply c.at_most_one_answer.ensures _ c.in-Err.fault _ _ c.in-Err.ensures.told c.unmounted.ensures.reply
