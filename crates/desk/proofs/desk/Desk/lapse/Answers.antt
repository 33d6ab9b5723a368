use Rattle.std.proofs.Common.{◌≡◌, inl, ℕ, length, sym, ◌∙◌, ap, subst}
use Rattle.cmp_ports.specs.Moments.{started, weaker}
use Rattle.deal_changes.specs.declared.change.Change.TheVariants.{Lapse}
use Rattle.deal_changes.specs.declared.change.Change.{Change}
use Rattle.deal_model.specs.Views.{History}
use Rattle.desk.specs.History.{history_of}
use Rattle.desk.specs.Images.{RecoversWith, IsDoubt, DoubtOr, MayCome}
use Rattle.desk.specs.Due.{event_time, IsDue, IsLapse}
use Rattle.desk.specs.Calls.{Fits, IsLapsed, lapse_end}
use Rattle.desk.proofs.Kept.{keeps_out, keeps_images}
use Rattle.desk.proofs.AddLemmas.{with_less, kept_doubt, doubt_less, own_less}
use Rattle.desk.proofs.FitLemmas.{fits_lapse, lapsed_ends}
use Rattle.desk.proofs.desk.Desk.lapse.Goals as goal

pub returns-in_default-clause-moments : goal.returns-in_default-clause-moments
returns-in_default-clause-moments g c =
    let s = c.args.self.now in
    let h = history_of s in
    let images = keeps_images h s.doubt s.journal (g.D.Disk.images s.disk) (keeps_out h s.doubt s.journal (g.D.Disk.images s.disk) s.kept) in
    let Own = DoubtOr s.doubt (MayCome (IsLapse h (event_time h c.args.now)) h) in
    started g.D.Disk.moment g.D.Disk.left_since s.disk (RecoversWith h Own) (λ image left. with_less h (IsDoubt s.doubt) Own image (λ x e. inl e) (images image (g.met.D.Disk.only_now s.disk image left)))

pub add_marked-added-requires : goal.add_marked-added-requires
add_marked-added-requires g c =
    let s = c.args.self.now in
    let h = history_of s in
    let seen : c.changes-changes.result.now ≡ h = c.changes-changes.ensures.value in
    let time : c.event_time-time.result ≡ event_time h c.args.now = c.event_time-time.ensures ∙ ap (λ (l : History). event_time l c.args.now) seen in
    let due = subst (λ (l : History). IsDue l c.event_time-time.result c.in-Some.due.tid) seen c.in-Some.ensures in
    let fits = fits_lapse h c.args.now c.in-Some.due.tid s.lawful c.requires (subst (λ (t : ℕ). IsDue h t c.in-Some.due.tid) time due) in
    subst (λ (t : ℕ). Fits h (Lapse t c.in-Some.due.tid)) (sym time) fits

pub returns-clause-moments : goal.returns-clause-moments
returns-clause-moments g c =
    let s = c.args.self.now in
    let h = history_of s in
    let seen : c.changes-changes.result.now ≡ h = c.changes-changes.ensures.value in
    let time : c.event_time-time.result ≡ event_time h c.args.now = c.event_time-time.ensures ∙ ap (λ (l : History). event_time l c.args.now) seen in
    let due = subst (λ (l : History). IsDue l c.event_time-time.result c.in-Some.due.tid) seen c.in-Some.ensures in
    let Own = (IsLapse h (event_time h c.args.now)) in
    let less : (x : Change) → x ≡ Lapse c.event_time-time.result c.in-Some.due.tid → Own x = λ x e. (c.in-Some.due.tid, subst (λ (t : ℕ). IsDue h t c.in-Some.due.tid) time due, e ∙ ap (λ (t : ℕ). Lapse t c.in-Some.due.tid) time) in
    weaker g.D.Disk.moment g.D.Disk.left_since _ _ _ (RecoversWith h (DoubtOr s.doubt (MayCome Own h))) c.add_marked-added.ensures.moments
    (λ image left. with_less h (DoubtOr s.doubt (MayCome (λ x. x ≡ Lapse c.event_time-time.result c.in-Some.due.tid) h)) (DoubtOr s.doubt (MayCome Own h)) image (own_less s.doubt h (λ x. x ≡ Lapse c.event_time-time.result c.in-Some.due.tid) Own less) left)

pub returns-clause-doubt : goal.returns-clause-doubt
returns-clause-doubt g c =
    let s = c.args.self.now in
    let h = history_of s in
    let seen : c.changes-changes.result.now ≡ h = c.changes-changes.ensures.value in
    let time : c.event_time-time.result ≡ event_time h c.args.now = c.event_time-time.ensures ∙ ap (λ (l : History). event_time l c.args.now) seen in
    let due = subst (λ (l : History). IsDue l c.event_time-time.result c.in-Some.due.tid) seen c.in-Some.ensures in
    let Own = (IsLapse h (event_time h c.args.now)) in
    let less : (x : Change) → x ≡ Lapse c.event_time-time.result c.in-Some.due.tid → Own x = λ x e. (c.in-Some.due.tid, subst (λ (t : ℕ). IsDue h t c.in-Some.due.tid) time due, e ∙ ap (λ (t : ℕ). Lapse t c.in-Some.due.tid) time) in
    doubt_less c.add_marked-added.new.self.doubt (DoubtOr s.doubt (MayCome (λ x. x ≡ Lapse c.event_time-time.result c.in-Some.due.tid) h)) (DoubtOr s.doubt (MayCome Own h)) (own_less s.doubt h (λ x. x ≡ Lapse c.event_time-time.result c.in-Some.due.tid) Own less) c.add_marked-added.ensures.doubt

pub returns-clause-ends : goal.returns-clause-ends
returns-clause-ends g c =
    let s = c.args.self.now in
    let h = history_of s in
    let seen : c.changes-changes.result.now ≡ h = c.changes-changes.ensures.value in
    let time : c.event_time-time.result ≡ event_time h c.args.now = c.event_time-time.ensures ∙ ap (λ (l : History). event_time l c.args.now) seen in
    let due = subst (λ (l : History). IsDue l c.event_time-time.result c.in-Some.due.tid) seen c.in-Some.ensures in
    let g' = history_of c.add_marked-added.new.self in
    let ends = lapsed_ends h s.doubt c.in-Some.due.tid c.event_time-time.result c.add_marked-added.result g' c.add_marked-added.new.self.doubt due c.add_marked-added.ensures.ends in
    let end : c.lapse_end.result ≡ lapse_end c.add_marked-added.result (length g') c.in-Some.due.tid = c.lapse_end.ensures ∙ ap (λ (n : ℕ). lapse_end c.add_marked-added.result n c.in-Some.due.tid) c.length.ensures in
    subst (λ r. IsLapsed h s.doubt (event_time h c.args.now) r g' c.add_marked-added.new.self.doubt) (sym end) (subst (λ (t : ℕ). IsLapsed h s.doubt t (lapse_end c.add_marked-added.result (length g') c.in-Some.due.tid) g' c.add_marked-added.new.self.doubt) time ends)

pub returns-in_default-clause-doubt : goal.returns-in_default-clause-doubt
returns-in_default-clause-doubt g c = kept_doubt c.args.self.now.doubt _
