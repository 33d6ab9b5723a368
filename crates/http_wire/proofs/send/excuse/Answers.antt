-- All of it was written, or the stream failed.
use Rattle.std.specs.Fmt.{digits}
use Rattle.http_wire.proofs.ExchangeLemmas.{excused}
use Rattle.http_wire.proofs.send.excuse.Goals as goal

pub returns-clause-told : goal.returns-clause-told
unfolding digits
returns-clause-told g c = excused _ _ _ _ c.send.result c.send.ensures.written c.send.ensures.prefix c.send.ensures.cause
