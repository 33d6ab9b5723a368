use Rattle.std.proofs.Common.{◌≡◌, ◌++◌, ◌∷◌, [], length, Err, sym, ap, subst}
use Rattle.cmp_ports.specs.Moments.{weaker}
use Rattle.journal_core.specs.declared.fault.AppendFault.{AppendFault}
use Rattle.journal_core.specs.Journal.{IsAppended}
use Rattle.leaf_book.specs.Leaves.{AreDigests, magic, payloads_of, lms_key}
use Rattle.leaf_book.specs.Images.{RecoversWith}
use Rattle.leaf_book.proofs.LeafLemmas.{digests_push}
use Rattle.leaf_book.proofs.Kept.{keeps_out}
use Rattle.leaf_book.proofs.ReserveLemmas.{rests, given_keeps, doubt_keeps, pushed, own_left, has_room}
use Rattle.leaf_book.proofs.book.LeafBook.append.Goals as goal

pub append-requires-clause-sound : goal.append-requires-clause-sound
append-requires-clause-sound g c =
    let s = c.args.self.now in
    let rest = rests s.key s.given.items s.doubt s.journal (g.D.Disk.images s.disk) c.requires.clear (keeps_out s.key s.given.items s.doubt s.journal (g.D.Disk.images s.disk) s.kept) in
    (magic, payloads_of (lms_key s.key) s.given.items, [], rest.0)

pub append-requires-clause-clear : goal.append-requires-clause-clear
append-requires-clause-clear g c =
    let s = c.args.self.now in
    (rests s.key s.given.items s.doubt s.journal (g.D.Disk.images s.disk) c.requires.clear (keeps_out s.key s.given.items s.doubt s.journal (g.D.Disk.images s.disk) s.kept)).1

pub invariant_of-self : goal.invariant_of-self
invariant_of-self g c =
    let s = c.args.self.now in
    let rest = rests s.key s.given.items s.doubt s.journal (g.D.Disk.images s.disk) c.requires.clear (keeps_out s.key s.given.items s.doubt s.journal (g.D.Disk.images s.disk) s.kept) in
    let grown : c.push.new.self.items ≡ s.given.items ++ c.args.digest ∷ [] = pushed c.push.result c.push.new.self.items s.given.items c.args.digest _ _ c.push.ensures.items c.push.ensures.full c.requires.room in
    record {
      kept = ∣ given_keeps s.key s.given.items c.push.new.self.items c.args.digest s.doubt c.args.entry.now c.append.new.self (g.D.Disk.images c.append.new.disk) c.requires.clear c.requires.spelled grown (c.in-Ok.ensures.outcome magic (payloads_of (lms_key s.key) s.given.items) rest) ∣₁;
      own = s.own;
      size = s.size;
      sized = subst AreDigests (sym grown) (digests_push s.given.items c.args.digest s.sized cc);
    }

pub invariant_of-self-in-Err-DiskFault : goal.invariant_of-self-in-Err-DiskFault
invariant_of-self-in-Err-DiskFault g c =
    let s = c.args.self.now in
    let payloads = payloads_of (lms_key s.key) s.given.items in
    let rest = rests s.key s.given.items s.doubt s.journal (g.D.Disk.images s.disk) c.requires.clear (keeps_out s.key s.given.items s.doubt s.journal (g.D.Disk.images s.disk) s.kept) in
    let failed = subst (λ (e : AppendFault). IsAppended {T = Unit {0}} magic payloads c.args.entry.now (Err e) s.journal c.append.new.self (g.D.Disk.images c.append.new.disk)) c.in-Err-DiskFault.field-0-is (c.in-Err-DiskFault.ensures.outcome magic payloads rest) in
    record { kept = ∣ doubt_keeps s.key s.given.items c.args.digest c.args.entry.now c.append.new.self (g.D.Disk.images c.append.new.disk) c.requires.spelled failed ∣₁; own = s.own; size = s.size; sized = s.sized }

pub returns-in-Ok-push-clause-moments : goal.returns-in-Ok-push-clause-moments
returns-in-Ok-push-clause-moments g c =
    let s = c.args.self.now in
    let rest = rests s.key s.given.items s.doubt s.journal (g.D.Disk.images s.disk) c.requires.clear (keeps_out s.key s.given.items s.doubt s.journal (g.D.Disk.images s.disk) s.kept) in
    weaker g.D.Disk.moment g.D.Disk.left_since _ _ _ (RecoversWith s.key s.given.items (λ d. d ≡ c.args.digest)) (c.append.ensures.moments magic (payloads_of (lms_key s.key) s.given.items) rest) (λ image left. own_left s.key s.given.items c.args.digest c.args.entry.now image c.requires.spelled left)

pub returns-in-Err-DiskFault-clause-moments : goal.returns-in-Err-DiskFault-clause-moments
returns-in-Err-DiskFault-clause-moments g c =
    let s = c.args.self.now in
    let rest = rests s.key s.given.items s.doubt s.journal (g.D.Disk.images s.disk) c.requires.clear (keeps_out s.key s.given.items s.doubt s.journal (g.D.Disk.images s.disk) s.kept) in
    weaker g.D.Disk.moment g.D.Disk.left_since _ _ _ (RecoversWith s.key s.given.items (λ d. d ≡ c.args.digest)) (c.append.ensures.moments magic (payloads_of (lms_key s.key) s.given.items) rest) (λ image left. own_left s.key s.given.items c.args.digest c.args.entry.now image c.requires.spelled left)

pub unreachable-requires-in-Err-Full : goal.unreachable-requires-in-Err-Full
unreachable-requires-in-Err-Full g c =
    let s = c.args.self.now in
    let payloads = payloads_of (lms_key s.key) s.given.items in
    let rest = rests s.key s.given.items s.doubt s.journal (g.D.Disk.images s.disk) c.requires.clear (keeps_out s.key s.given.items s.doubt s.journal (g.D.Disk.images s.disk) s.kept) in
    let whole : length c.args.digest ≡ 32 = cc in
    has_room s.key s.given.items c.args.entry.now c.args.digest s.own s.size s.sized c.requires.below c.requires.spelled whole ((c.in-Err-Full.ensures.full magic payloads rest).0 (ap Err c.in-Err-Full.field-0-is))
