use Rattle.std.proofs.Common.{not, ap, ◌∙◌}
use Rattle.journal_core.specs.Journal.{is_doubtful}
use Rattle.cmp_ports.specs.Moments.{started, weaker}
use Rattle.leaf_book.specs.Leaves.{magic, payloads_of, lms_key}
use Rattle.leaf_book.specs.Images.{doubtful, RecoversWith, IsDoubt}
use Rattle.leaf_book.proofs.Kept.{keeps_out, keeps_images}
use Rattle.leaf_book.proofs.ReserveLemmas.{doubt_left}
use Rattle.leaf_book.proofs.book.LeafBook.settle.Goals as goal

pub returns-then-is_none-clause-moments : goal.returns-then-is_none-clause-moments
returns-then-is_none-clause-moments g c =
    let s = c.args.self.now in
    let images = keeps_images s.key s.given.items s.doubt s.journal (g.D.Disk.images s.disk) (keeps_out s.key s.given.items s.doubt s.journal (g.D.Disk.images s.disk) s.kept) in
    started g.D.Disk.moment g.D.Disk.left_since s.disk (RecoversWith s.key s.given.items (IsDoubt s.doubt)) (λ image left. images image (g.met.D.Disk.only_now s.disk image left))

pub settle-requires : goal.settle-requires
settle-requires g c =
    let s = c.args.self.now in
    (magic, payloads_of (lms_key s.key) s.given.items, doubtful s.given.items s.doubt, (keeps_out s.key s.given.items s.doubt s.journal (g.D.Disk.images s.disk) s.kept).0)

pub invariant_of-self : goal.invariant_of-self
invariant_of-self g c =
    let s = c.args.self.now in
    let keeps = keeps_out s.key s.given.items s.doubt s.journal (g.D.Disk.images s.disk) s.kept in
    record {
      kept = ∣ c.in-Ok.ensures.outcome magic (payloads_of (lms_key s.key) s.given.items) (doubtful s.given.items s.doubt) keeps.0 ∣₁;
      own = s.own;
      size = s.size;
      sized = s.sized;
    }

pub invariant_of-self-in-Err-1 : goal.invariant_of-self-in-Err-1
invariant_of-self-in-Err-1 g c =
    let s = c.args.self.now in
    let keeps = keeps_out s.key s.given.items s.doubt s.journal (g.D.Disk.images s.disk) s.kept in
    let still = c.in-Err.ensures.outcome magic (payloads_of (lms_key s.key) s.given.items) (doubtful s.given.items s.doubt) keeps.0 in
    record { kept = ∣ (still.0, ap is_doubtful still.1 ∙ keeps.1) ∣₁; own = s.own; size = s.size; sized = s.sized }

pub returns-in-Ok-clause-moments : goal.returns-in-Ok-clause-moments
returns-in-Ok-clause-moments g c =
    let s = c.args.self.now in
    let keeps = keeps_out s.key s.given.items s.doubt s.journal (g.D.Disk.images s.disk) s.kept in
    weaker g.D.Disk.moment g.D.Disk.left_since _ _ _ (RecoversWith s.key s.given.items (IsDoubt s.doubt)) (c.settle.ensures.moments magic (payloads_of (lms_key s.key) s.given.items) (doubtful s.given.items s.doubt) keeps.0) (λ image left. doubt_left s.key s.given.items s.doubt image (c.is_none.ensures ∙ ap (λ b. not b) c.if-is_none.false) left)

pub returns-in-Err-clause-moments : goal.returns-in-Err-clause-moments
returns-in-Err-clause-moments g c =
    let s = c.args.self.now in
    let keeps = keeps_out s.key s.given.items s.doubt s.journal (g.D.Disk.images s.disk) s.kept in
    weaker g.D.Disk.moment g.D.Disk.left_since _ _ _ (RecoversWith s.key s.given.items (IsDoubt s.doubt)) (c.settle.ensures.moments magic (payloads_of (lms_key s.key) s.given.items) (doubtful s.given.items s.doubt) keeps.0) (λ image left. doubt_left s.key s.given.items s.doubt image (c.is_none.ensures ∙ ap (λ b. not b) c.if-is_none.false) left)
