use Rattle.cmp_ports.specs.declared.mem_disk.call.Call.TheVariants.{Wrote}
use Rattle.cmp_ports.proofs.Tapes.{grew, replayed_on, wrote_crash, time_on}
use Rattle.cmp_ports.proofs.mem_disk.tape.Tape.write.Goals as goal

pub invariant_of-self : goal.invariant_of-self
invariant_of-self c =
    let grown = grew _ (Wrote c.args.at c.args.bytes.now c.args.done) c.args.self.now.calls.items c.write_parts.new.calls.items c.args.self.now.octets.items c.write_parts.new.octets.items c.write_parts.ensures.calls c.write_parts.ensures.octets in
    record { replayed = replayed_on _ _ _ c.args.self.now.calls.items c.write_parts.new.calls.items _ _ c.write_parts.ensures.first c.args.self.now.replayed grown }

pub returns-clause-crash : goal.returns-clause-crash
returns-clause-crash c =
    let grown = grew _ (Wrote c.args.at c.args.bytes.now c.args.done) c.args.self.now.calls.items c.write_parts.new.calls.items c.args.self.now.octets.items c.write_parts.new.octets.items c.write_parts.ensures.calls c.write_parts.ensures.octets in
    wrote_crash c.args.at c.args.bytes.now c.args.done _ _ c.args.self.now.calls.items c.write_parts.new.calls.items _ _ c.write_parts.ensures.first grown

pub returns-clause-time : goal.returns-clause-time
returns-clause-time c =
    let grown = grew _ (Wrote c.args.at c.args.bytes.now c.args.done) c.args.self.now.calls.items c.write_parts.new.calls.items c.args.self.now.octets.items c.write_parts.new.octets.items c.write_parts.ensures.calls c.write_parts.ensures.octets in
    time_on _ _ _ c.args.self.now.calls.items c.write_parts.new.calls.items _ _ c.write_parts.ensures.first grown
