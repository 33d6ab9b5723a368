use Rattle.std.proofs.Common.{◌≡◌, inl, ℕ, length, sym, ◌∙◌, ap, subst}
use Rattle.cmp_ports.specs.Moments.{started, weaker}
use Rattle.deal_changes.specs.declared.change.Change.TheVariants.{Dismiss}
use Rattle.deal_changes.specs.declared.change.Who.TheVariants.{Listed}
use Rattle.deal_changes.specs.declared.change.Change.{Change}
use Rattle.deal_model.specs.Views.{History}
use Rattle.desk.specs.History.{history_of}
use Rattle.desk.specs.Images.{RecoversWith, IsDoubt, DoubtOr, MayCome}
use Rattle.desk.specs.Due.{event_time}
use Rattle.desk.specs.Calls.{Fits}
use Rattle.desk.specs.Listings.{listing_end, IsDismissal, IsDismissed}
use Rattle.desk.proofs.Kept.{keeps_out, keeps_images}
use Rattle.desk.proofs.AddLemmas.{with_less, kept_doubt, doubt_less, own_less}
use Rattle.desk.proofs.ListLemmas.{can_dismiss, fits_dismiss, dismissed_ends}
use Rattle.desk.proofs.desk.Desk.dismiss.Goals as goal

pub returns-then-not-is_listed-clause-moments : goal.returns-then-not-is_listed-clause-moments
returns-then-not-is_listed-clause-moments g c =
    let s = c.args.self.now in
    let h = history_of s in
    let images = keeps_images h s.doubt s.journal (g.D.Disk.images s.disk) (keeps_out h s.doubt s.journal (g.D.Disk.images s.disk) s.kept) in
    let Own = DoubtOr s.doubt (MayCome (IsDismissal c.args.kind c.args.kid.now (event_time h c.args.now)) h) in
    started g.D.Disk.moment g.D.Disk.left_since s.disk (RecoversWith h Own) (λ image left. with_less h (IsDoubt s.doubt) Own image (λ x e. inl e) (images image (g.met.D.Disk.only_now s.disk image left)))

pub returns-then-is_dismissed-clause-moments : goal.returns-then-is_dismissed-clause-moments
returns-then-is_dismissed-clause-moments g c =
    let s = c.args.self.now in
    let h = history_of s in
    let images = keeps_images h s.doubt s.journal (g.D.Disk.images s.disk) (keeps_out h s.doubt s.journal (g.D.Disk.images s.disk) s.kept) in
    let Own = DoubtOr s.doubt (MayCome (IsDismissal c.args.kind c.args.kid.now (event_time h c.args.now)) h) in
    started g.D.Disk.moment g.D.Disk.left_since s.disk (RecoversWith h Own) (λ image left. with_less h (IsDoubt s.doubt) Own image (λ x e. inl e) (images image (g.met.D.Disk.only_now s.disk image left)))

pub add-added-requires : goal.add-added-requires
add-added-requires g c =
    let s = c.args.self.now in
    let h = history_of s in
    let seen : c.changes-changes.result.now ≡ h = c.changes-changes.ensures.value in
    let time : c.event_time-time.result ≡ event_time h c.args.now = c.event_time-time.ensures ∙ ap (λ (l : History). event_time l c.args.now) seen in
    let can = can_dismiss h c.changes-changes.result.now c.args.kind c.args.kid.now c.as_slice.result.now c.as_slice-2.result.now c.is_listed.result c.is_dismissed.result seen c.as_slice.ensures.value c.as_slice-2.ensures.value c.is_listed.ensures c.is_dismissed.ensures c.if-not-is_listed.false c.if-is_dismissed.false in
    subst (λ (t : ℕ). Fits h (Dismiss t (Listed c.args.kind c.args.kid.now))) (sym time) (fits_dismiss h c.args.now c.args.kind c.args.kid.now s.lawful c.requires can)

pub returns-clause-moments : goal.returns-clause-moments
returns-clause-moments g c =
    let s = c.args.self.now in
    let h = history_of s in
    let time : c.event_time-time.result ≡ event_time h c.args.now = c.event_time-time.ensures ∙ ap (λ (l : History). event_time l c.args.now) c.changes-changes.ensures.value in
    let change = λ (t : ℕ). Dismiss t (Listed c.args.kind c.args.kid.now) in
    let Own = (IsDismissal c.args.kind c.args.kid.now (event_time h c.args.now)) in
    let less : (x : Change) → x ≡ change c.event_time-time.result → Own x = λ x e. e ∙ ap change time in
    weaker g.D.Disk.moment g.D.Disk.left_since _ _ _ (RecoversWith h (DoubtOr s.doubt (MayCome Own h))) c.add-added.ensures.moments
    (λ image left. with_less h (DoubtOr s.doubt (MayCome (λ x. x ≡ change c.event_time-time.result) h)) (DoubtOr s.doubt (MayCome Own h)) image (own_less s.doubt h (λ x. x ≡ change c.event_time-time.result) Own less) left)

pub returns-clause-doubt : goal.returns-clause-doubt
returns-clause-doubt g c =
    let s = c.args.self.now in
    let h = history_of s in
    let time : c.event_time-time.result ≡ event_time h c.args.now = c.event_time-time.ensures ∙ ap (λ (l : History). event_time l c.args.now) c.changes-changes.ensures.value in
    let change = λ (t : ℕ). Dismiss t (Listed c.args.kind c.args.kid.now) in
    let Own = (IsDismissal c.args.kind c.args.kid.now (event_time h c.args.now)) in
    let less : (x : Change) → x ≡ change c.event_time-time.result → Own x = λ x e. e ∙ ap change time in
    doubt_less c.add-added.new.self.doubt (DoubtOr s.doubt (MayCome (λ x. x ≡ change c.event_time-time.result) h)) (DoubtOr s.doubt (MayCome Own h)) (own_less s.doubt h (λ x. x ≡ change c.event_time-time.result) Own less) c.add-added.ensures.doubt

pub returns-clause-ends : goal.returns-clause-ends
returns-clause-ends g c =
    let s = c.args.self.now in
    let h = history_of s in
    let kid = c.args.kid.now in
    let seen : c.changes-changes.result.now ≡ h = c.changes-changes.ensures.value in
    let time : c.event_time-time.result ≡ event_time h c.args.now = c.event_time-time.ensures ∙ ap (λ (l : History). event_time l c.args.now) seen in
    let can = can_dismiss h c.changes-changes.result.now c.args.kind kid c.as_slice.result.now c.as_slice-2.result.now c.is_listed.result c.is_dismissed.result seen c.as_slice.ensures.value c.as_slice-2.ensures.value c.is_listed.ensures c.is_dismissed.ensures c.if-not-is_listed.false c.if-is_dismissed.false in
    let g' = history_of c.add-added.new.self in
    let ends = dismissed_ends h s.doubt c.args.kind kid c.event_time-time.result c.add-added.result g' c.add-added.new.self.doubt can c.add-added.ensures.ends in
    let end : c.listing_end.result ≡ listing_end c.add-added.result (length g') = c.listing_end.ensures ∙ ap (λ (n : ℕ). listing_end c.add-added.result n) c.length.ensures in
    subst (λ r. IsDismissed h s.doubt c.args.kind kid (event_time h c.args.now) r g' c.add-added.new.self.doubt) (sym end) (subst (λ (t : ℕ). IsDismissed h s.doubt c.args.kind kid t (listing_end c.add-added.result (length g')) g' c.add-added.new.self.doubt) time ends)

pub returns-then-not-is_listed-clause-doubt : goal.returns-then-not-is_listed-clause-doubt
returns-then-not-is_listed-clause-doubt g c = kept_doubt c.args.self.now.doubt _

pub returns-then-is_dismissed-clause-doubt : goal.returns-then-is_dismissed-clause-doubt
returns-then-is_dismissed-clause-doubt g c = kept_doubt c.args.self.now.doubt _
