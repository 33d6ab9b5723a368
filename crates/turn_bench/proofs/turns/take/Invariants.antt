use Rattle.std.proofs.Common.{◌≡◌}
use Rattle.turnstile.specs.Steps.{Rests}
use Rattle.turn_bench.proofs.turns.take.Given as goal

-- the seat rests, and counts for as many as at the start
abbrev pub invariant-loop-turn : goal.invariant-loop-turn
invariant-loop-turn g l = (l.seat.table_id ≡ l.initial.seat.table_id) × Rests l.seat.me × (l.seat.me.0.share ≡ l.initial.seat.me.0.share)
