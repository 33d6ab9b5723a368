use Rattle.std.proofs.Common.{◌≡◌, inl, sym, ◌∙◌, ap, subst}
use Rattle.std.specs.Prelude.{IfSome}
use Rattle.cmp_ports.specs.Moments.{started, weaker, joins}
use Rattle.deal_model.specs.Views.{History}
use Rattle.deal_model.specs.Rules.{Allowed, Legal}
use Rattle.desk.specs.History.{history_of}
use Rattle.desk.specs.Images.{RecoversWith, IsDoubt, DoubtOr, MayCome, Keeps}
use Rattle.desk.proofs.Kept.{keeps_out, keeps_images}
use Rattle.desk.proofs.AddLemmas.{with_less, same_less, may_still, kept_doubt, still_doubt, doubt_less}
use Rattle.desk.proofs.desk.Desk.add.Goals as goal

pub returns-in-Ok-None-clause-moments : goal.returns-in-Ok-None-clause-moments
returns-in-Ok-None-clause-moments g c =
    let s = c.args.self.now in
    let images = keeps_images (history_of s) s.doubt s.journal (g.D.Disk.images s.disk) (keeps_out (history_of s) s.doubt s.journal (g.D.Disk.images s.disk) s.kept) in
    started g.D.Disk.moment g.D.Disk.left_since s.disk (RecoversWith (history_of s) (DoubtOr s.doubt (MayCome (λ x. x ≡ c.args.c) (history_of s)))) (λ image left. with_less (history_of s) (IsDoubt s.doubt) (DoubtOr s.doubt (MayCome (λ x. x ≡ c.args.c) (history_of s))) image (λ x e. inl e) (images image (g.met.D.Disk.only_now s.disk image left)))

pub returns-in-Err-clause-moments : goal.returns-in-Err-clause-moments
returns-in-Err-clause-moments g c =
    let s = c.args.self.now in
    let images = keeps_images (history_of s) s.doubt s.journal (g.D.Disk.images s.disk) (keeps_out (history_of s) s.doubt s.journal (g.D.Disk.images s.disk) s.kept) in
    started g.D.Disk.moment g.D.Disk.left_since s.disk (RecoversWith (history_of s) (DoubtOr s.doubt (MayCome (λ x. x ≡ c.args.c) (history_of s)))) (λ image left. with_less (history_of s) (IsDoubt s.doubt) (DoubtOr s.doubt (MayCome (λ x. x ≡ c.args.c) (history_of s))) image (λ x e. inl e) (images image (g.met.D.Disk.only_now s.disk image left)))

pub returns-then-is_err-clause-moments : goal.returns-then-is_err-clause-moments
returns-then-is_err-clause-moments g c =
    let s = c.args.self.now in
    let images = keeps_images (history_of s) s.doubt s.journal (g.D.Disk.images s.disk) (keeps_out (history_of s) s.doubt s.journal (g.D.Disk.images s.disk) s.kept) in
    started g.D.Disk.moment g.D.Disk.left_since s.disk (RecoversWith (history_of s) (DoubtOr s.doubt (MayCome (λ x. x ≡ c.args.c) (history_of s)))) (λ image left. with_less (history_of s) (IsDoubt s.doubt) (DoubtOr s.doubt (MayCome (λ x. x ≡ c.args.c) (history_of s))) image (λ x e. inl e) (images image (g.met.D.Disk.only_now s.disk image left)))

pub invariant_of-self : goal.invariant_of-self
invariant_of-self g c =
    let s = c.args.self.now in
    record {
      kept = subst (λ (l : History). ∥ Keeps l s.doubt s.journal (g.D.Disk.images s.disk) ∥₁) (sym c.reserve.ensures.items) s.kept;
      lawful = subst (λ (l : History). ∥ Legal l × IfSome s.doubt (Allowed l) ∥₁) (sym c.reserve.ensures.items) s.lawful;
    }

pub returns-in-Ok-clause-moments : goal.returns-in-Ok-clause-moments
returns-in-Ok-clause-moments g c =
    let s = c.args.self.now in
    let P = RecoversWith (history_of s) (DoubtOr s.doubt (MayCome (λ x. x ≡ c.args.c) (history_of s))) in
    let settled : history_of c.settle.new.self ≡ (history_of s) = ap (λ v. v.items) c.settle.ensures.same ∙ c.reserve.ensures.items in
    joins g.D.Disk.moment g.D.Disk.left_since s.disk c.settle.new.self.disk c.append.new.self.disk P
    (weaker g.D.Disk.moment g.D.Disk.left_since _ _ _ P c.settle.ensures.moments (λ image left. same_less (history_of s) _ (IsDoubt s.doubt) (DoubtOr s.doubt (MayCome (λ x. x ≡ c.args.c) (history_of s))) image c.reserve.ensures.items (λ x e. inl e) left))
    (weaker g.D.Disk.moment g.D.Disk.left_since _ _ _ P c.append.ensures.moments (λ image left. same_less (history_of s) _ (MayCome (λ x. x ≡ c.args.c) (history_of c.settle.new.self)) (DoubtOr s.doubt (MayCome (λ x. x ≡ c.args.c) (history_of s))) image settled (λ x own. may_still (history_of s) (history_of c.settle.new.self) (λ y. y ≡ c.args.c) s.doubt x settled own) left))

pub returns-in-Err-settle-clause-moments : goal.returns-in-Err-settle-clause-moments
returns-in-Err-settle-clause-moments g c =
    let s = c.args.self.now in
    weaker g.D.Disk.moment g.D.Disk.left_since _ _ _ (RecoversWith (history_of s) (DoubtOr s.doubt (MayCome (λ x. x ≡ c.args.c) (history_of s)))) c.settle.ensures.moments (λ image left. same_less (history_of s) _ (IsDoubt s.doubt) (DoubtOr s.doubt (MayCome (λ x. x ≡ c.args.c) (history_of s))) image c.reserve.ensures.items (λ x e. inl e) left)

pub returns-in-Ok-None-clause-doubt : goal.returns-in-Ok-None-clause-doubt
returns-in-Ok-None-clause-doubt g c = kept_doubt c.args.self.now.doubt _

pub returns-in-Err-clause-doubt : goal.returns-in-Err-clause-doubt
returns-in-Err-clause-doubt g c = kept_doubt c.args.self.now.doubt _

pub returns-then-is_err-clause-doubt : goal.returns-then-is_err-clause-doubt
returns-then-is_err-clause-doubt g c = kept_doubt c.args.self.now.doubt _

pub returns-in-Ok-clause-doubt : goal.returns-in-Ok-clause-doubt
returns-in-Ok-clause-doubt g c =
    let s = c.args.self.now in
    let settled : history_of c.settle.new.self ≡ history_of s = ap (λ v. v.items) c.settle.ensures.same ∙ c.reserve.ensures.items in
    doubt_less c.append.new.self.doubt (MayCome (λ x. x ≡ c.args.c) (history_of c.settle.new.self)) (DoubtOr s.doubt (MayCome (λ x. x ≡ c.args.c) (history_of s))) (λ x own. may_still (history_of s) (history_of c.settle.new.self) (λ y. y ≡ c.args.c) s.doubt x settled own) c.append.ensures.doubt

pub returns-in-Err-settle-clause-doubt : goal.returns-in-Err-settle-clause-doubt
returns-in-Err-settle-clause-doubt g c = still_doubt c.args.self.now.doubt c.settle.new.self.doubt _ c.in-Err-settle.ensures.still.1
