-- An identifier of 1 to 64 octets has 2 to 128 digits.
use Rattle.std.proofs.Common.{arith}
use Rattle.hex.proofs.HexLemmas.{decode_of-ok}
use Rattle.cmp_ports.proofs.order.tid_of.Goals.{then-size-eq0-via-then-size-eq0, then-size-eq0-via-else-size-eq0+then-size-gt-SHORT_LIMIT}
use Rattle.cmp_ports.proofs.order.tid_of.Goals as goal

pub returns-then-size-eq0-clause-only : goal.returns-then-size-eq0-clause-only
returns-then-size-eq0-clause-only c tid spells = let n = decode_of-ok _ _ spells.spelled in elim c.then-size-eq0.branch [
  | then-size-eq0-via-then-size-eq0 w ↦ absurd (omega (arith, n, spells.some, w.if-size-eq0))
  | then-size-eq0-via-else-size-eq0+then-size-gt-SHORT_LIMIT w ↦ absurd (omega (arith, n, spells.fits, w.if-size-gt-SHORT_LIMIT))
]
