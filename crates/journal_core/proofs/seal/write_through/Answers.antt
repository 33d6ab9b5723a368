use Rattle.std.proofs.Common.{length}
use Rattle.cmp_ports.specs.Disk.{Torn, Reached}
use Rattle.cmp_ports.specs.Moments.{started, goes_on}
use Rattle.cmp_ports.specs.ReplayLaws.{torn_same}
use Rattle.journal_core.proofs.seal.write_through.Goals as goal

pub returns-in_err-write_at-clause-moments : goal.returns-in_err-write_at-clause-moments
returns-in_err-write_at-clause-moments g c =
    let n = length c.args.octets.now in
    let P = Reached (Torn c.args.at n) (g.D.Disk.images c.args.disk.now) in
    let at_start = started g.D.Disk.moment g.D.Disk.left_since c.args.disk.now P (λ d left. (d, g.met.D.Disk.only_now c.args.disk.now d left, torn_same c.args.at n d)) in
    goes_on g.D.Disk.moment g.D.Disk.left_since c.args.disk.now c.args.disk.now c.write_at.new.self P _ at_start c.write_at.ensures.time c.write_at.ensures.crash

pub returns-clause-moments : goal.returns-clause-moments
returns-clause-moments g c =
    let n = length c.args.octets.now in
    let P = Reached (Torn c.args.at n) (g.D.Disk.images c.args.disk.now) in
    let at_start = started g.D.Disk.moment g.D.Disk.left_since c.args.disk.now P (λ d left. (d, g.met.D.Disk.only_now c.args.disk.now d left, torn_same c.args.at n d)) in
    let written = goes_on g.D.Disk.moment g.D.Disk.left_since c.args.disk.now c.args.disk.now c.write_at.new.self P _ at_start c.write_at.ensures.time c.write_at.ensures.crash in
    goes_on g.D.Disk.moment g.D.Disk.left_since c.args.disk.now c.write_at.new.self c.sync.new.self P _ written c.sync.ensures.time (λ d left. c.write_at.ensures.crash d (c.sync.ensures.crash d left))
