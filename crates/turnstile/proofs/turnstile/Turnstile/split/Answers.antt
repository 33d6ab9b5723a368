use Rattle.std.proofs.Common.{rules}
use Rattle.turnstile.proofs.Seats.{splits}
use Rattle.turnstile.proofs.turnstile.Turnstile.split.Goals as goal

pub split_seat-requires : goal.split_seat-requires
split_seat-requires g c = (search rules, search rules, splits _ _ _ _ _ _ c.requires.rests.1 c.requires.enough)
