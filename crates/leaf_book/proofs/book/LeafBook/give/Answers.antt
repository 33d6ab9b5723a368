use Rattle.std.proofs.Common.{◌≡◌, inl, inr, refl, sym, ◌∙◌, subst}
use Rattle.cmp_ports.specs.Moments.{started, weaker, joins}
use Rattle.leaf_book.specs.Leaves.{Digests, AreDigests}
use Rattle.leaf_book.specs.Images.{RecoversWith, IsDoubt, DoubtOr, Keeps}
use Rattle.leaf_book.proofs.Kept.{keeps_out, keeps_images}
use Rattle.leaf_book.proofs.ReserveLemmas.{with_less, same_less}
use Rattle.leaf_book.proofs.book.LeafBook.give.Goals as goal

pub returns-in_default-clause-moments : goal.returns-in_default-clause-moments
returns-in_default-clause-moments g c =
    let s = c.args.self.now in
    let images = keeps_images s.key s.given.items s.doubt s.journal (g.D.Disk.images s.disk) (keeps_out s.key s.given.items s.doubt s.journal (g.D.Disk.images s.disk) s.kept) in
    started g.D.Disk.moment g.D.Disk.left_since s.disk (RecoversWith s.key s.given.items (DoubtOr s.doubt c.args.digest))
    (λ image left. with_less s.key s.given.items (IsDoubt s.doubt) (DoubtOr s.doubt c.args.digest) image (λ d is. inl is) (images image (g.met.D.Disk.only_now s.disk image left)))

pub returns-then-is_err-clause-moments : goal.returns-then-is_err-clause-moments
returns-then-is_err-clause-moments g c =
    let s = c.args.self.now in
    let images = keeps_images s.key s.given.items s.doubt s.journal (g.D.Disk.images s.disk) (keeps_out s.key s.given.items s.doubt s.journal (g.D.Disk.images s.disk) s.kept) in
    started g.D.Disk.moment g.D.Disk.left_since s.disk (RecoversWith s.key s.given.items (DoubtOr s.doubt c.args.digest))
    (λ image left. with_less s.key s.given.items (IsDoubt s.doubt) (DoubtOr s.doubt c.args.digest) image (λ d is. inl is) (images image (g.met.D.Disk.only_now s.disk image left)))

pub invariant_of-self : goal.invariant_of-self
invariant_of-self g c =
    let s = c.args.self.now in
    record {
      kept = subst (λ (l : Digests). ∥ Keeps s.key l s.doubt s.journal (g.D.Disk.images s.disk) ∥₁) (sym {A = Digests} c.reserve.ensures.items) s.kept;
      own = s.own;
      size = s.size;
      sized = subst (λ (l : Digests). AreDigests l) (sym {A = Digests} c.reserve.ensures.items) s.sized;
    }

pub returns-in-Ok-append-clause-moments : goal.returns-in-Ok-append-clause-moments
returns-in-Ok-append-clause-moments g c =
    let s = c.args.self.now in
    let m = c.settle.new.self in
    let P = RecoversWith s.key s.given.items (DoubtOr s.doubt c.args.digest) in
    joins g.D.Disk.moment g.D.Disk.left_since s.disk m.disk c.append.new.self.disk P
    (weaker g.D.Disk.moment g.D.Disk.left_since _ _ _ P c.settle.ensures.moments (λ image left. same_less s.key s.key c.reserve.new.self.items s.given.items (IsDoubt s.doubt) (DoubtOr s.doubt c.args.digest) image refl c.reserve.ensures.items (λ d is. inl is) left))
    (weaker g.D.Disk.moment g.D.Disk.left_since _ _ _ P c.append.ensures.moments (λ image left. same_less s.key m.key m.given.items s.given.items (λ d. d ≡ c.args.digest) (DoubtOr s.doubt c.args.digest) image c.settle.ensures.key (c.settle.ensures.given ∙ c.reserve.ensures.items) (λ d is. inr is) left))

pub returns-clause-moments : goal.returns-clause-moments
returns-clause-moments g c =
    let s = c.args.self.now in
    let m = c.settle.new.self in
    let P = RecoversWith s.key s.given.items (DoubtOr s.doubt c.args.digest) in
    joins g.D.Disk.moment g.D.Disk.left_since s.disk m.disk c.append.new.self.disk P
    (weaker g.D.Disk.moment g.D.Disk.left_since _ _ _ P c.settle.ensures.moments (λ image left. same_less s.key s.key c.reserve.new.self.items s.given.items (IsDoubt s.doubt) (DoubtOr s.doubt c.args.digest) image refl c.reserve.ensures.items (λ d is. inl is) left))
    (weaker g.D.Disk.moment g.D.Disk.left_since _ _ _ P c.append.ensures.moments (λ image left. same_less s.key m.key m.given.items s.given.items (λ d. d ≡ c.args.digest) (DoubtOr s.doubt c.args.digest) image c.settle.ensures.key (c.settle.ensures.given ∙ c.reserve.ensures.items) (λ d is. inr is) left))
