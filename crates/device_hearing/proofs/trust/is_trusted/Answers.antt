-- by the guard that it is
use Rattle.device_hearing.proofs.trust.is_trusted.Goals as goal

pub returns-in-Mac : goal.returns-in-Mac
returns-in-Mac c = rw c.in-Mac.is c.holds.ensures

pub returns-in-Some : goal.returns-in-Some
returns-in-Some c = rw (c.in-Signed.is, c.in-Some.is) c.is_signed_reply.ensures
