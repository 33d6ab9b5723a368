-- one more octet, and the number is too great
use Rattle.intake.proofs.Found.{too_great}
use Rattle.device_hearing.proofs.numbers.unsigned.Goals as goal

pub returns-then-n-ge72057594037927936 : goal.returns-then-n-ge72057594037927936
returns-then-n-ge72057594037927936 c = too_great c.args.octets.now c.loop-b.n c.loop-b.b-index c.loop-b.invariant c.loop-b-test.true c.if-n-ge72057594037927936.true
