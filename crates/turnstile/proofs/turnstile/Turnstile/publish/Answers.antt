use Rattle.std.proofs.Common.{rules}
use Rattle.turnstile.proofs.AtSeats.{publishes_as}
use Rattle.turnstile.proofs.turnstile.Turnstile.publish.Goals as goal

pub fetch_add-requires : goal.fetch_add-requires
fetch_add-requires g c = (search rules, search rules, publishes_as _ _ _ _ _ _ _ _ c.args.more c.requires.turn (rw (← c.requires.log) c.requires.extends) c.requires.longer)
