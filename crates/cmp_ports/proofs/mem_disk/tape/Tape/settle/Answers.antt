use Rattle.std.proofs.Common.{refl}
use Rattle.cmp_ports.specs.declared.mem_disk.call.Call.TheVariants.{Synced}
use Rattle.cmp_ports.proofs.Tapes.{grew_same, replayed_on, synced_crash, synced_durable, time_on}
use Rattle.cmp_ports.proofs.mem_disk.tape.Tape.settle.Goals as goal

pub invariant_of-self : goal.invariant_of-self
invariant_of-self c =
    let grown = grew_same _ Synced c.args.self.now.calls.items c.push.new.self.items c.args.self.now.octets.items refl c.push.ensures.items in
    record { replayed = replayed_on Synced _ _ c.args.self.now.calls.items c.push.new.self.items _ _ refl c.args.self.now.replayed grown }

pub returns-clause-durable : goal.returns-clause-durable
returns-clause-durable c = synced_durable _ c.args.self.now.calls.items c.push.new.self.items c.args.self.now.octets.items c.args.self.now.replayed c.in_ok-push.ensures.items

pub returns-clause-crash : goal.returns-clause-crash
returns-clause-crash c = synced_crash _ c.args.self.now.calls.items c.push.new.self.items _ (grew_same _ Synced _ _ c.args.self.now.octets.items refl c.push.ensures.items)

pub returns-clause-time : goal.returns-clause-time
returns-clause-time c = time_on Synced _ _ c.args.self.now.calls.items c.push.new.self.items _ _ refl (grew_same _ Synced _ _ c.args.self.now.octets.items refl c.push.ensures.items)
