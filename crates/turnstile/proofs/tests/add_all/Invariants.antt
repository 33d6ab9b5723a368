use Rattle.std.proofs.Common.{◌≡◌}
use Rattle.turnstile.specs.Steps.{Rests}
use Rattle.turnstile.proofs.tests.add_all.Given as goal

-- the seat rests, and counts for as many as at the start
abbrev pub invariant-loop-entry : goal.invariant-loop-entry
invariant-loop-entry g l = (l.seat.table_id ≡ l.initial.seat.table_id) × Rests l.seat.me × (l.seat.me.0.share ≡ l.initial.seat.me.0.share)
