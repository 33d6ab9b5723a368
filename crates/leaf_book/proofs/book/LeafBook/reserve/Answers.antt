use Rattle.std.proofs.Common.{inl, ap, ◌∙◌}
use Rattle.sha2.specs.Sha256.{sha256}
use Rattle.hss_sig.specs.OneLevel.{hss_key}
use Rattle.cmp_ports.specs.Moments.{started}
use Rattle.leaf_book.specs.Images.{RecoversWith, IsDoubt, DoubtOr}
use Rattle.leaf_book.proofs.Kept.{keeps_out, keeps_images, resting_images}
use Rattle.leaf_book.proofs.ReserveLemmas.{with_less, rests}
use Rattle.leaf_book.proofs.SignLemmas.{below_key}
use Rattle.leaf_book.proofs.book.LeafBook.reserve.Goals as goal

pub returns-then-is_spent-clause-moments : goal.returns-then-is_spent-clause-moments
returns-then-is_spent-clause-moments g c =
    let s = c.args.self.now in
    let own = sha256 c.args.text in
    let images = keeps_images s.key s.given.items s.doubt s.journal (g.D.Disk.images s.disk) (keeps_out s.key s.given.items s.doubt s.journal (g.D.Disk.images s.disk) s.kept) in
    started g.D.Disk.moment g.D.Disk.left_since s.disk (RecoversWith s.key s.given.items (DoubtOr s.doubt own))
    (λ image left. with_less s.key s.given.items (IsDoubt s.doubt) (DoubtOr s.doubt own) image (λ d is. inl is) (images image (g.met.D.Disk.only_now s.disk image left)))

pub invariant_of-result : goal.invariant_of-result
invariant_of-result g c =
    let s = c.args.self.now in
    record { below = below_key s.key c.public.result c.in-Ok.leaf s.size s.own (c.public.ensures ∙ ap hss_key c.give.ensures.key) c.in-Ok.ensures.leaf.1 }

pub returns-in-Ok-clause-durable : goal.returns-in-Ok-clause-durable
returns-in-Ok-clause-durable g c =
    let b = c.give.new.self in
    resting_images b.key b.given.items b.journal (g.D.Disk.images b.disk)
    (rests b.key b.given.items b.doubt b.journal (g.D.Disk.images b.disk) c.in-Ok.ensures.doubt (keeps_out b.key b.given.items b.doubt b.journal (g.D.Disk.images b.disk) b.kept))
