-- A service may be founded with the settings of the first world.
use Rattle.std.proofs.Common.{[]}
use Rattle.deal_model.specs.Rules.{Allowed}
use Rattle.world_core.specs.Steps.{first_settings, first_change}
use Rattle.world_core.proofs.Beginning.{first_allowed}
use Rattle.desk.specs.Founded.{founding}

pub first_found : Allowed [] (founding first_settings 0)
unfolding first_change
first_found = first_allowed
