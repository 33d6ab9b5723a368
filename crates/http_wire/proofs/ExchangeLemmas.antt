-- What is told a peer that gets no reply.
use Rattle.std.specs.Prelude.{ℕ, List, Option, Result, Ok, Err, OnOk, OnErr}
use Rattle.std.proofs.Common.{inl, inr}
use Rattle.std.specs.Io.KnownBytes.{Appends}
use Rattle.cmp_ports.specs.Faults.{HasCause}
use Rattle.cmp_ports.specs.Whole.{AppendsPrefix}
use Rattle.http_wire.specs.Framing.{unavailable}
use Rattle.http_wire.specs.Steps.{Excuses}

-- the peer is told, or the stream failed
pub excused : {E : Type 0} (before after : Option (List ℕ)) (faults now : ℕ) (r : Result (Unit {0}) E) → OnOk r (Appends before after unavailable)
    → OnErr r (AppendsPrefix before after unavailable) → HasCause faults now r → Excuses before after faults now
excused before after faults now (Ok done) ok err cause = inl ok
excused before after faults now (Err e) ok err cause = inr (err, cause.failed)
