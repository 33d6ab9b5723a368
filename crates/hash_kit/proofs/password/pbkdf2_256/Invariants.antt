use Rattle.std.proofs.Common.{◌≡◌}
use Rattle.hash_kit.specs.Pbkdf2.{turn, combined}
use Rattle.hash_kit.proofs.password.pbkdf2_256.Given as goal

-- after n turns more than the first
abbrev pub invariant-loop-n : goal.invariant-loop-n
invariant-loop-n l = record {
  turn : l.turn ≡ turn l.secret l.salt l.n;
  block : l.block ≡ combined l.secret l.salt l.n;
}
