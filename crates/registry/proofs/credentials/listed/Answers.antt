use Rattle.std.proofs.Common.{sym, ◌∙◌}
use Rattle.registry.proofs.ListLemmas.{listed_there, listed_not}
use Rattle.registry.proofs.credentials.listed.Goals as goal

pub returns-in_ok-value_at-clause-value : goal.returns-in_ok-value_at-clause-value
returns-in_ok-value_at-clause-value c =
    c.tables_in.ensures.value ∙ sym (listed_there _ _ (sym c.has_only.ensures ∙ c.if-has_only.true) (sym c.in_ok-value_at.ensures))

pub returns-else-has_only-clause-value : goal.returns-else-has_only-clause-value
returns-else-has_only-clause-value c = sym (listed_not _ (sym c.has_only.ensures ∙ c.if-has_only.false))
