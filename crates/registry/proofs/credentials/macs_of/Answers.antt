use Rattle.registry.proofs.ListLemmas.{some_macs, none_macs}
use Rattle.registry.proofs.credentials.macs_of.Goals as goal

pub returns-in-Some-clause-value : goal.returns-in-Some-clause-value
returns-in-Some-clause-value c = some_macs (λ list. list.items) _ _ _ c.in-Some.ensures.value c.in-Some.ensures.tables c.list_of.ensures.value

pub returns-in-None-clause-value : goal.returns-in-None-clause-value
returns-in-None-clause-value c = none_macs _ c.in-None.ensures.value
