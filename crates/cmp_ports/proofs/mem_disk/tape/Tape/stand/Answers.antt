use Rattle.std.proofs.Common.{refl}
use Rattle.cmp_ports.specs.declared.mem_disk.call.Call.TheVariants.{Still}
use Rattle.cmp_ports.proofs.Tapes.{grew_same, replayed_on, still_crash, still_kept, time_on}
use Rattle.cmp_ports.proofs.mem_disk.tape.Tape.stand.Goals as goal

pub invariant_of-self : goal.invariant_of-self
invariant_of-self c =
    let grown = grew_same _ Still c.args.self.now.calls.items c.push.new.self.items c.args.self.now.octets.items refl c.push.ensures.items in
    record { replayed = replayed_on Still _ _ c.args.self.now.calls.items c.push.new.self.items _ _ refl c.args.self.now.replayed grown }

pub returns-clause-crash : goal.returns-clause-crash
returns-clause-crash c = still_crash _ c.args.self.now.calls.items c.push.new.self.items _ (grew_same _ Still _ _ c.args.self.now.octets.items refl c.push.ensures.items)

pub returns-clause-kept : goal.returns-clause-kept
returns-clause-kept c = still_kept _ c.args.self.now.calls.items c.push.new.self.items _ (grew_same _ Still _ _ c.args.self.now.octets.items refl c.push.ensures.items)

pub returns-clause-time : goal.returns-clause-time
returns-clause-time c = time_on Still _ _ c.args.self.now.calls.items c.push.new.self.items _ _ refl (grew_same _ Still _ _ c.args.self.now.octets.items refl c.push.ensures.items)
