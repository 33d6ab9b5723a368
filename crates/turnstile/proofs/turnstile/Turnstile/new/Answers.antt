use Rattle.std.proofs.Common.{rules}
use Rattle.turnstile.proofs.Seats.{opens_as}
use Rattle.turnstile.proofs.turnstile.Turnstile.new.Goals as goal

pub new-requires : goal.new-requires
new-requires g c = opens_as _ _ c.args.seats c.args.value c.of.result.value c.length-length.result _ c.requires.some (search rules) c.length-length.type_inv c.length-length.ensures c.of.ensures (search rules) c.requires.kept
