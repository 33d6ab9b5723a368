use Rattle.world_core.proofs.Worlds.{every_safe, every_step, every_signed}
use Rattle.world_core.proofs.laws.every_world_is_safe.Goals as goal

pub returns-clause-safe : goal.returns-clause-safe
returns-clause-safe c = every_safe c.legal_histories_grow.ensures.grows

pub returns-clause-step : goal.returns-clause-step
returns-clause-step c = every_step c.legal_histories_grow.ensures.grows

pub returns-clause-signed : goal.returns-clause-signed
returns-clause-signed c = every_signed c.legal_histories_grow.ensures.grows c.legal_histories.ensures.leaves c.legal_histories.ensures.signed
