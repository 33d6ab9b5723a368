use Rattle.std.proofs.Common.{◌≡◌, ◌+◌, ◌≤◌, length}
use Rattle.turnstile.specs.Steps.{Rests}
use Rattle.clerk_meets.proofs.enlisting.list_hundred.Given as goal

-- the seat rests, and has gained as many places as were counted
abbrev pub invariant-loop-number : goal.invariant-loop-number
invariant-loop-number g l = (l.seat.table_id ≡ l.initial.seat.table_id) × Rests l.seat.me × (l.seat.me.0.share ≡ l.initial.seat.me.0.share) × (length l.seat.me.0.mine ≡ length l.initial.seat.me.0.mine + l.places) × (l.places ≤ l.number)
