use Rattle.std.proofs.Common.{inl, subst}
use Rattle.cmp_ports.specs.Moments.{started, weaker}
use Rattle.deal_model.specs.Views.{History}
use Rattle.desk.specs.History.{history_of}
use Rattle.desk.specs.Images.{RecoversWith, IsDoubt, DoubtOr, MayCome}
use Rattle.desk.specs.Verdicts.{LeftMakes}
use Rattle.desk.specs.Plans.{IsPlan, IsPlanned}
use Rattle.desk.proofs.Kept.{keeps_out, keeps_images}
use Rattle.desk.proofs.AddLemmas.{with_less, own_less, if_some_less}
use Rattle.desk.proofs.VerdictLemmas.{plan_ready, planned_makes, followed_left, left_in_time, left_decides}
use Rattle.desk.proofs.desk.Desk.decide.Goals as goal

pub follow-requires : goal.follow-requires
follow-requires g c =
    let s = c.args.self.now in
    let k = c.args.checked.now in
    let w = c.args.words.now in
    let plan = subst (λ (l : History). IsPlan l k c.args.now w c.in-Ok.plan) c.changes.ensures.value c.in-Ok.ensures in
    plan_ready (history_of s) k c.args.now w c.in-Ok.plan s.lawful c.requires.fits c.requires.clock c.told-words plan

pub returns-in-Ok-clause-ends : goal.returns-in-Ok-clause-ends
returns-in-Ok-clause-ends g c =
    let s = c.args.self.now in
    let k = c.args.checked.now in
    let w = c.args.words.now in
    let plan = subst (λ (l : History). IsPlan l k c.args.now w c.in-Ok.plan) c.changes.ensures.value c.in-Ok.ensures in
    followed_left (history_of s) s.doubt k c.args.now w c.in-Ok.plan c.follow.result (history_of c.follow.new.self) c.follow.new.self.doubt s.lawful c.requires.fits c.requires.clock c.told-words plan c.follow.ensures.ends

pub returns-in-Ok-clause-time : goal.returns-in-Ok-clause-time
returns-in-Ok-clause-time g c =
    let s = c.args.self.now in
    let k = c.args.checked.now in
    let w = c.args.words.now in
    let plan = subst (λ (l : History). IsPlan l k c.args.now w c.in-Ok.plan) c.changes.ensures.value c.in-Ok.ensures in
    left_in_time (history_of s) s.doubt k c.args.now w c.follow.result (history_of c.follow.new.self) c.follow.new.self.doubt s.lawful c.requires.clock
    (followed_left (history_of s) s.doubt k c.args.now w c.in-Ok.plan c.follow.result (history_of c.follow.new.self) c.follow.new.self.doubt s.lawful c.requires.fits c.requires.clock c.told-words plan c.follow.ensures.ends)

pub returns-in-Ok-clause-verdict : goal.returns-in-Ok-clause-verdict
returns-in-Ok-clause-verdict g c = λ l looked seen first second carries told.
    let s = c.args.self.now in
    let k = c.args.checked.now in
    let w = c.args.words.now in
    let plan = subst (λ (h : History). IsPlan h k c.args.now w c.in-Ok.plan) c.changes.ensures.value c.in-Ok.ensures in
    left_decides l looked seen (history_of s) s.doubt k c.args.now w c.follow.result (history_of c.follow.new.self) c.follow.new.self.doubt first second carries told
    (followed_left (history_of s) s.doubt k c.args.now w c.in-Ok.plan c.follow.result (history_of c.follow.new.self) c.follow.new.self.doubt s.lawful c.requires.fits c.requires.clock c.told-words plan c.follow.ensures.ends)

pub returns-in-Err-clause-moments : goal.returns-in-Err-clause-moments
returns-in-Err-clause-moments g c =
    let s = c.args.self.now in
    let images = keeps_images (history_of s) s.doubt s.journal (g.D.Disk.images s.disk) (keeps_out (history_of s) s.doubt s.journal (g.D.Disk.images s.disk) s.kept) in
    let Own = DoubtOr s.doubt (MayCome (LeftMakes (history_of s) c.args.checked.now c.args.now c.args.words.now) (history_of s)) in
    started g.D.Disk.moment g.D.Disk.left_since s.disk (RecoversWith (history_of s) Own) (λ image left. with_less (history_of s) (IsDoubt s.doubt) Own image (λ x e. inl e) (images image (g.met.D.Disk.only_now s.disk image left)))

pub returns-in-Ok-clause-moments : goal.returns-in-Ok-clause-moments
returns-in-Ok-clause-moments g c =
    let s = c.args.self.now in
    let h = history_of s in
    let k = c.args.checked.now in
    let w = c.args.words.now in
    let plan = subst (λ (l : History). IsPlan l k c.args.now w c.in-Ok.plan) c.changes.ensures.value c.in-Ok.ensures in
    let Planned = DoubtOr s.doubt (MayCome (IsPlanned c.in-Ok.plan) h) in
    let Own = DoubtOr s.doubt (MayCome (LeftMakes h k c.args.now w) h) in
    weaker g.D.Disk.moment g.D.Disk.left_since _ _ _ (RecoversWith h Own) c.follow.ensures.moments
    (λ image left. with_less h Planned Own image (own_less s.doubt h (IsPlanned c.in-Ok.plan) (LeftMakes h k c.args.now w) (λ x is. planned_makes h k c.args.now w c.in-Ok.plan x plan is)) left)

pub returns-in-Ok-clause-doubt : goal.returns-in-Ok-clause-doubt
returns-in-Ok-clause-doubt g c =
    let s = c.args.self.now in
    let h = history_of s in
    let k = c.args.checked.now in
    let w = c.args.words.now in
    let plan = subst (λ (l : History). IsPlan l k c.args.now w c.in-Ok.plan) c.changes.ensures.value c.in-Ok.ensures in
    if_some_less (DoubtOr s.doubt (MayCome (IsPlanned c.in-Ok.plan) h)) (DoubtOr s.doubt (MayCome (LeftMakes h k c.args.now w) h)) c.follow.new.self.doubt
    (own_less s.doubt h (IsPlanned c.in-Ok.plan) (LeftMakes h k c.args.now w) (λ x is. planned_makes h k c.args.now w c.in-Ok.plan x plan is)) c.follow.ensures.doubt
