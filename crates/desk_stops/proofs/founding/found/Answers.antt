use Rattle.std.proofs.Common.{[], sym, subst}
use Rattle.deal_model.specs.Rules.{Allowed}
use Rattle.deal_changes.specs.declared.change.Settings.{Settings}
use Rattle.desk.specs.Founded.{founding}
use Rattle.desk_stops.proofs.FirstLemmas.{first_found}
use Rattle.desk_stops.proofs.founding.found.Goals as goal

pub found-requires : goal.found-requires
found-requires c = subst (λ (s : Settings). Allowed [] (founding s 0)) (sym c.in_ok-settings.ensures) first_found
