use Rattle.std.proofs.Common.{◌≡◌, inl, ℕ, List, length, sym, ◌∙◌, ap, subst}
use Rattle.cmp_ports.specs.Moments.{started, weaker}
use Rattle.deal_changes.specs.declared.change.Credential.{Credential}
use Rattle.deal_changes.specs.declared.change.Change.{Change}
use Rattle.deal_changes.specs.declared.change.Change.TheVariants.{Enlist}
use Rattle.deal_model.specs.Views.{History}
use Rattle.desk.specs.History.{history_of}
use Rattle.desk.specs.Images.{RecoversWith, IsDoubt, DoubtOr, MayCome}
use Rattle.desk.specs.Due.{event_time}
use Rattle.desk.specs.Calls.{Fits, IsAdded}
use Rattle.desk.specs.Listings.{listing_end, AreFree, IsEnlisting, IsEnlisted}
use Rattle.desk.proofs.Kept.{keeps_out, keeps_images}
use Rattle.desk.proofs.AddLemmas.{with_less, kept_doubt, doubt_less, own_less}
use Rattle.desk.proofs.ListLemmas.{fits_enlist, enlisted_ends}
use Rattle.desk.proofs.desk.Desk.enlist.Goals as goal

pub returns-in-Some-clause-moments : goal.returns-in-Some-clause-moments
returns-in-Some-clause-moments g c =
    let s = c.args.self.now in
    let h = history_of s in
    let images = keeps_images h s.doubt s.journal (g.D.Disk.images s.disk) (keeps_out h s.doubt s.journal (g.D.Disk.images s.disk) s.kept) in
    let Own = DoubtOr s.doubt (MayCome (IsEnlisting c.args.list.now (event_time h c.args.now)) h) in
    started g.D.Disk.moment g.D.Disk.left_since s.disk (RecoversWith h Own) (λ image left. with_less h (IsDoubt s.doubt) Own image (λ x e. inl e) (images image (g.met.D.Disk.only_now s.disk image left)))

pub returns-in_default-enlisting-clause-moments : goal.returns-in_default-enlisting-clause-moments
returns-in_default-enlisting-clause-moments g c =
    let s = c.args.self.now in
    let h = history_of s in
    let images = keeps_images h s.doubt s.journal (g.D.Disk.images s.disk) (keeps_out h s.doubt s.journal (g.D.Disk.images s.disk) s.kept) in
    let Own = DoubtOr s.doubt (MayCome (IsEnlisting c.args.list.now (event_time h c.args.now)) h) in
    started g.D.Disk.moment g.D.Disk.left_since s.disk (RecoversWith h Own) (λ image left. with_less h (IsDoubt s.doubt) Own image (λ x e. inl e) (images image (g.met.D.Disk.only_now s.disk image left)))

pub add-added-requires : goal.add-added-requires
add-added-requires g c =
    let s = c.args.self.now in
    let h = history_of s in
    let list = c.args.list.now in
    let seen : c.changes-changes.result.now ≡ h = c.changes-changes.ensures.value in
    let time : c.event_time-time.result ≡ event_time h c.args.now = c.event_time-time.ensures ∙ ap (λ (l : History). event_time l c.args.now) seen in
    let free = subst (λ (l : History). AreFree l list) seen (subst (λ (l : List Credential). AreFree c.changes-changes.result.now l) c.as_slice.ensures c.in_default.ensures.free) in
    subst (Fits h) (sym (c.in-Ok.ensures ∙ ap (λ (t : ℕ). Enlist t list) time)) (fits_enlist h c.args.now list s.lawful c.requires.clock c.requires.some c.requires.most c.requires.fit free)

pub returns-clause-moments : goal.returns-clause-moments
returns-clause-moments g c =
    let s = c.args.self.now in
    let h = history_of s in
    let list = c.args.list.now in
    let time : c.event_time-time.result ≡ event_time h c.args.now = c.event_time-time.ensures ∙ ap (λ (l : History). event_time l c.args.now) c.changes-changes.ensures.value in
    let is : c.in-Ok.change ≡ Enlist (event_time h c.args.now) list = c.in-Ok.ensures ∙ ap (λ (t : ℕ). Enlist t list) time in
    let Own = (IsEnlisting c.args.list.now (event_time h c.args.now)) in
    let less : (x : Change) → x ≡ c.in-Ok.change → Own x = λ x e. e ∙ is in
    weaker g.D.Disk.moment g.D.Disk.left_since _ _ _ (RecoversWith h (DoubtOr s.doubt (MayCome Own h))) c.add-added.ensures.moments
    (λ image left. with_less h (DoubtOr s.doubt (MayCome (λ x. x ≡ c.in-Ok.change) h)) (DoubtOr s.doubt (MayCome Own h)) image (own_less s.doubt h (λ x. x ≡ c.in-Ok.change) Own less) left)

pub returns-clause-doubt : goal.returns-clause-doubt
returns-clause-doubt g c =
    let s = c.args.self.now in
    let h = history_of s in
    let list = c.args.list.now in
    let time : c.event_time-time.result ≡ event_time h c.args.now = c.event_time-time.ensures ∙ ap (λ (l : History). event_time l c.args.now) c.changes-changes.ensures.value in
    let is : c.in-Ok.change ≡ Enlist (event_time h c.args.now) list = c.in-Ok.ensures ∙ ap (λ (t : ℕ). Enlist t list) time in
    let Own = (IsEnlisting c.args.list.now (event_time h c.args.now)) in
    let less : (x : Change) → x ≡ c.in-Ok.change → Own x = λ x e. e ∙ is in
    doubt_less c.add-added.new.self.doubt (DoubtOr s.doubt (MayCome (λ x. x ≡ c.in-Ok.change) h)) (DoubtOr s.doubt (MayCome Own h)) (own_less s.doubt h (λ x. x ≡ c.in-Ok.change) Own less) c.add-added.ensures.doubt

pub returns-clause-ends : goal.returns-clause-ends
returns-clause-ends g c =
    let s = c.args.self.now in
    let h = history_of s in
    let list = c.args.list.now in
    let seen : c.changes-changes.result.now ≡ h = c.changes-changes.ensures.value in
    let time : c.event_time-time.result ≡ event_time h c.args.now = c.event_time-time.ensures ∙ ap (λ (l : History). event_time l c.args.now) seen in
    let is : c.in-Ok.change ≡ Enlist (event_time h c.args.now) list = c.in-Ok.ensures ∙ ap (λ (t : ℕ). Enlist t list) time in
    let free = subst (λ (l : History). AreFree l list) seen (subst (λ (l : List Credential). AreFree c.changes-changes.result.now l) c.as_slice.ensures c.in_default.ensures.free) in
    let g' = history_of c.add-added.new.self in
    let added = subst (λ (x : Change). IsAdded h s.doubt x c.add-added.result g' c.add-added.new.self.doubt) is c.add-added.ensures.ends in
    let ends = enlisted_ends h s.doubt list (event_time h c.args.now) c.add-added.result g' c.add-added.new.self.doubt free added in
    let end : c.listing_end.result ≡ listing_end c.add-added.result (length g') = c.listing_end.ensures ∙ ap (λ (n : ℕ). listing_end c.add-added.result n) c.length.ensures in
    subst (λ r. IsEnlisted h s.doubt list (event_time h c.args.now) r g' c.add-added.new.self.doubt) (sym end) ends

pub returns-in-Some-clause-doubt : goal.returns-in-Some-clause-doubt
returns-in-Some-clause-doubt g c = kept_doubt c.args.self.now.doubt _

pub returns-in_default-enlisting-clause-doubt : goal.returns-in_default-enlisting-clause-doubt
returns-in_default-enlisting-clause-doubt g c = kept_doubt c.args.self.now.doubt _
