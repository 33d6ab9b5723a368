use Rattle.std.proofs.Common.{rules, ◌≡◌, false, [], refl, arith}
use Rattle.cmp_ports.specs.Moments.{started, goes_on, weaker}
use Rattle.journal_core.specs.Log.{framed, log_of, IsBeforeOrAfter, IsWithout}
use Rattle.journal_core.specs.Journal.{is_at_gate}
use Rattle.journal_core.proofs.States.{end_within, closed_before, without}
use Rattle.journal_core.proofs.Settling.{shut, still_gate, gate_recovers}
use Rattle.journal_core.proofs.journal.Journal.settle.Goals as goal

pub write_through-requires-clause-inside : goal.write_through-requires-clause-inside
write_through-requires-clause-inside g c = λ f told.
    let s = c.requires in
    let within = end_within c.args.self.now.doubt (log_of s.0 s.1) (framed s.2) f (g.D.Disk.images c.args.disk.now) s.3.state (g.met.D.Disk.honest c.args.disk.now f told) in
    omega (arith, s.3.end, within)

pub returns-in-Ok-clause-sound : goal.returns-in-Ok-clause-sound
returns-in-Ok-clause-sound g c =
    let s = c.requires in
    (s.0, s.1, [], shut s.0 s.1 s.2 c.args.self.now.end c.args.self.now.count c.args.self.now.doubt (g.D.Disk.images c.args.disk.now) s.3 c.in-Gate.is (g.D.Disk.images c.write_through.new.disk) c.in-Ok.ensures.written)

pub returns-in-Ok-clause-moments : goal.returns-in-Ok-clause-moments
returns-in-Ok-clause-moments g c = λ magic payloads payload kept.
    weaker g.D.Disk.moment g.D.Disk.left_since _ _ _ (IsBeforeOrAfter magic payloads payload) c.write_through.ensures.moments
    (λ i left. gate_recovers magic payloads payload c.args.self.now.end c.args.self.now.count c.args.self.now.doubt (g.D.Disk.images c.args.disk.now) kept c.in-Gate.is i left)

pub returns-in-Err-clause-sound : goal.returns-in-Err-clause-sound
returns-in-Err-clause-sound g c =
    let s = c.requires in
    (s.0, s.1, s.2, still_gate s.0 s.1 s.2 c.args.self.now.end c.args.self.now.count c.args.self.now.doubt (g.D.Disk.images c.args.disk.now) s.3 c.in-Gate.is (g.D.Disk.images c.write_through.new.disk) c.write_through.ensures.torn)

pub returns-in-Err-clause-outcome : goal.returns-in-Err-clause-outcome
returns-in-Err-clause-outcome g c = λ magic payloads payload kept.
    (still_gate magic payloads payload c.args.self.now.end c.args.self.now.count c.args.self.now.doubt (g.D.Disk.images c.args.disk.now) kept c.in-Gate.is (g.D.Disk.images c.write_through.new.disk) c.write_through.ensures.torn, refl)

pub returns-in-Err-clause-moments : goal.returns-in-Err-clause-moments
returns-in-Err-clause-moments g c = λ magic payloads payload kept.
    weaker g.D.Disk.moment g.D.Disk.left_since _ _ _ (IsBeforeOrAfter magic payloads payload) c.write_through.ensures.moments
    (λ i left. gate_recovers magic payloads payload c.args.self.now.end c.args.self.now.count c.args.self.now.doubt (g.D.Disk.images c.args.disk.now) kept c.in-Gate.is i left)

pub returns-in-Ok-clause-gone : goal.returns-in-Ok-clause-gone
returns-in-Ok-clause-gone g c = λ magic payloads payload kept i left.
    without magic payloads payload i kept.small ((shut magic payloads payload c.args.self.now.end c.args.self.now.count c.args.self.now.doubt (g.D.Disk.images c.args.disk.now) kept c.in-Gate.is (g.D.Disk.images c.write_through.new.disk) c.in-Ok.ensures.written).state i left)

pub returns-in-Ok-sync-clause-unbegun : goal.returns-in-Ok-sync-clause-unbegun
returns-in-Ok-sync-clause-unbegun g c = λ magic payloads payload kept unbegun.
    let closed = closed_before c.args.self.now.doubt (log_of magic payloads) (framed payload) (g.D.Disk.images c.args.disk.now) unbegun kept.state in
    let P = IsWithout magic payloads payload in
    let at_start = started g.D.Disk.moment g.D.Disk.left_since c.args.disk.now P (λ i left. without magic payloads payload i kept.small (closed i (g.met.D.Disk.only_now c.args.disk.now i left))) in
    goes_on g.D.Disk.moment g.D.Disk.left_since c.args.disk.now c.args.disk.now c.sync.new.self P _ at_start c.sync.ensures.time (λ i left. without magic payloads payload i kept.small (closed i (c.sync.ensures.crash i left)))

pub returns-in-Err-sync-clause-unbegun : goal.returns-in-Err-sync-clause-unbegun
returns-in-Err-sync-clause-unbegun g c = λ magic payloads payload kept unbegun.
    let closed = closed_before c.args.self.now.doubt (log_of magic payloads) (framed payload) (g.D.Disk.images c.args.disk.now) unbegun kept.state in
    let P = IsWithout magic payloads payload in
    let at_start = started g.D.Disk.moment g.D.Disk.left_since c.args.disk.now P (λ i left. without magic payloads payload i kept.small (closed i (g.met.D.Disk.only_now c.args.disk.now i left))) in
    goes_on g.D.Disk.moment g.D.Disk.left_since c.args.disk.now c.args.disk.now c.sync.new.self P _ at_start c.sync.ensures.time (λ i left. without magic payloads payload i kept.small (closed i (c.sync.ensures.crash i left)))

pub returns-in-Ok-sync-clause-gone : goal.returns-in-Ok-sync-clause-gone
returns-in-Ok-sync-clause-gone g c = λ magic payloads payload kept i left.
    let unbegun : is_at_gate c.args.self.now.doubt ≡ false = search rules in
    let closed = closed_before c.args.self.now.doubt (log_of magic payloads) (framed payload) (g.D.Disk.images c.args.disk.now) unbegun kept.state in
    without magic payloads payload i kept.small (closed i (c.sync.ensures.crash i left))
