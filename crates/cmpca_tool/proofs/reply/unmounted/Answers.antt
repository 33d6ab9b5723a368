-- The line names the offset.
use Rattle.std.proofs.Common.{inl, sym, ◌∙◌}
use Rattle.journal_core.specs.declared.fault.MountFault.TheVariants.{Damaged}
use Rattle.cmpca_tool.proofs.reply.unmounted.Goals as goal

pub returns-in-Ok-clause-reply : goal.returns-in-Ok-clause-reply
returns-in-Ok-clause-reply c =
    record { told = Damaged c.in-Damaged.at; is_told = inl (sym c.in-Damaged.is); ends = c.made.ensures.ends; says = c.made.ensures.says ∙ c.in-Ok.ensures }
