-- What each command does is one step of the history.
use Rattle.std.proofs.Common.{◌≡◌, ◌⊎◌, inl, inr, ⊎_elim, ℕ, true, List, [], ◌∷◌, ◌++◌, append-nil, append_assoc, Option, Some, None, refl, sym, subst}
use Rattle.std.specs.Prelude.{IfSome, is_some}
use Rattle.std.proofs.Math.Logic.{∥∥₁_elim}
use Rattle.deal_changes.specs.declared.change.Change.{Change}
use Rattle.deal_changes.specs.declared.change.Change.TheVariants.{Enlist, Dismiss}
use Rattle.deal_changes.specs.declared.change.Credential.{Credential}
use Rattle.deal_changes.specs.declared.change.Kind.{Kind}
use Rattle.deal_changes.specs.declared.change.Who.TheVariants.{Listed}
use Rattle.cmp_ports.specs.declared.order.Order.{Order}
use Rattle.deal_model.specs.Views.{History}
use Rattle.deal_changes.specs.Times.{stamp_of}
use Rattle.deal_model.specs.Rules.{Allowed, AllowedFrom, Legal}
use Rattle.deal_table.specs.Message.{Letter}
use Rattle.deal_table.specs.Table.{Decision, Makes, Repeats, Refuses, Asks, decision}
use Rattle.desk.specs.declared.answers.Listing.{Listing}
use Rattle.desk.specs.declared.answers.Listing.TheVariants as listing
use Rattle.desk.specs.declared.answers.Ordered.{Ordered}
use Rattle.desk.specs.declared.answers.Ordered.TheVariants as ordered
use Rattle.desk.specs.Calls.{IsOrder, IsOrdered}
use Rattle.desk.specs.Listings.{IsEnlisting, IsEnlisted, IsDismissal, IsDismissed}
use Rattle.desk.specs.Images.{RecoversWith, MayCome, DoubtOr}
use Rattle.desk.proofs.PropLemmas.{allowed_prop}
use Rattle.desk.proofs.StampLemmas.{Stamped, decision_stamped}
use Rattle.letter_laws.specs.Laws.{HasLetter}
use Rattle.reply_maker.specs.Replies.{Replier, certificate_hash}
use Rattle.front.specs.Answers.{addressed, IsOwn}
use Rattle.cmpca_tool.specs.Changes.{IsStep}

-- nothing is made
pub no_step : (Own : Change → Type 0) (h g : History) (e : Option Change) → g ≡ h → e ≡ None → IsStep Own h g e
no_step Own h g e same clear = inl (same, clear)

-- what is in doubt is one's own, and may come next
pub doubt_own : (h : History) (d e : Option Change) (Own : Change → Type 0) → d ≡ None → IfSome e (DoubtOr d (MayCome Own h)) → IfSome e (MayCome Own h)
doubt_own h d None Own clear may = tt
doubt_own h d (Some c) Own clear may = ⊎_elim (λ was. absurd (cc (clear, was))) (λ own. own) may

-- where nothing was in doubt, an image has the call's own change at most
pub own_alone : (h : History) (d : Option Change) (Own : Change → Type 0) (image : List ℕ) → d ≡ None → RecoversWith h (DoubtOr d (MayCome Own h)) image → RecoversWith h (MayCome Own h) image
own_alone h d Own image clear left = ⊎_elim (λ was. inl was) (λ more. inr (more.0, ⊎_elim (λ was. absurd (cc (clear, was))) (λ own. own) more.1, more.2)) left

-- the history is as before, and what is in doubt may come next
pub same_step : (Own : Change → Type 0) (h g : History) (e : Option Change) → g ≡ h → IfSome e (MayCome Own h) → IsStep Own h g e
same_step Own h g None same may = inl (same, refl)
same_step Own h g (Some c) same may = inr (c, may, inr (same, refl))

-- a change was made
pub made_step : (Own : Change → Type 0) (h g : History) (c : Change) (e : Option Change) → Own c → Allowed h c → g ≡ h ++ c ∷ [] → e ≡ None → IsStep Own h g e
made_step Own h g c e own may grown clear = inr (c, (own, may), inl (grown, clear))

-- one's own in wider words
pub wider_step : (Own Wide : Change → Type 0) (h g : History) (e : Option Change) → ((c : Change) → Own c → Wide c) → IsStep Own h g e → IsStep Wide h g e
wider_step Own Wide h g e wide step = ⊎_elim (λ same. inl same) (λ made. inr (made.0, (wide made.0 made.1.0, made.1.1), made.2)) step

pub enlisted_step : (h g : History) (list : List Credential) (time : ℕ) (end : Listing) (e : Option Change) → IsEnlisted h None list time end g e → IfSome e (MayCome (IsEnlisting list time) h) → IsStep (IsEnlisting list time) h g e
enlisted_step h g list time (listing.Done place) e is may = made_step (IsEnlisting list time) h g (Enlist time list) e refl is.1.0 is.1.1 is.1.2
enlisted_step h g list time (listing.InUse index) e is may = same_step (IsEnlisting list time) h g e is.1.0 may
enlisted_step h g list time listing.Unknown e is may = absurd is
enlisted_step h g list time listing.Already e is may = absurd is
enlisted_step h g list time listing.Full e is may = same_step (IsEnlisting list time) h g e is.1.1 may
enlisted_step h g list time listing.DiskFault e is may = same_step (IsEnlisting list time) h g e is.1.0 may
enlisted_step h g list time listing.NoMemory e is may = same_step (IsEnlisting list time) h g e is.0 may

pub dismissed_step : (h g : History) (kind : Kind) (kid : List ℕ) (time : ℕ) (end : Listing) (e : Option Change) → IsDismissed h None kind kid time end g e → IfSome e (MayCome (IsDismissal kind kid time) h) → IsStep (IsDismissal kind kid time) h g e
dismissed_step h g kind kid time (listing.Done place) e is may = made_step (IsDismissal kind kid time) h g (Dismiss time (Listed kind kid)) e refl is.1.0 is.1.1 is.1.2
dismissed_step h g kind kid time (listing.InUse index) e is may = absurd is
dismissed_step h g kind kid time listing.Unknown e is may = same_step (IsDismissal kind kid time) h g e is.1.0 may
dismissed_step h g kind kid time listing.Already e is may = same_step (IsDismissal kind kid time) h g e is.2.0 may
dismissed_step h g kind kid time listing.Full e is may = same_step (IsDismissal kind kid time) h g e is.1.1 may
dismissed_step h g kind kid time listing.DiskFault e is may = same_step (IsDismissal kind kid time) h g e is.1.0 may
dismissed_step h g kind kid time listing.NoMemory e is may = same_step (IsDismissal kind kid time) h g e is.0 may

pub ordered_step : (h g : History) (order : Order) (time : ℕ) (end : Ordered) (e : Option Change) → IsOrdered h None order time end g e → IfSome e (MayCome (IsOrder order time) h) → IsStep (IsOrder order time) h g e
ordered_step h g order time (ordered.Done place) e is may = made_step (IsOrder order time) h g is.0.1.0 e is.0.1.1 is.0.1.2.0 is.0.1.2.1 is.0.1.2.2
ordered_step h g order time ordered.NotHeld e is may = same_step (IsOrder order time) h g e is.1.0 may
ordered_step h g order time ordered.Full e is may = same_step (IsOrder order time) h g e is.1.2.1 may
ordered_step h g order time ordered.DiskFault e is may = same_step (IsOrder order time) h g e is.1.2.0 may
ordered_step h g order time ordered.NoMemory e is may = same_step (IsOrder order time) h g e is.0 may

-- ---- the step of a message

-- the last change of a legal history came when it might
from_last : (before h : History) (c : Change) → AllowedFrom before (h ++ c ∷ []) → Allowed (before ++ h) c
from_last before [] c may = subst (λ (x : History). Allowed x c) (sym (append-nil before)) may.0
from_last before (d ∷ h) c may = subst (λ (x : History). Allowed x c) (append_assoc before (d ∷ []) h) (from_last (before ++ d ∷ []) h c may.1)

last_allowed : (h g : History) (c : Change) → Legal g → g ≡ h ++ c ∷ [] → Allowed h c
last_allowed h g c legal grown = from_last [] h c (subst (AllowedFrom []) grown legal.1)

-- what a decision of a letter makes has a stamp
alone_makes : (l : Letter) (d : Decision) (c : Change) → addressed l d ≡ addressed l (Makes c) → d ≡ Makes c
alone_makes l (Makes x) c same = same
alone_makes l (Repeats place) c same = absurd (cc same)
alone_makes l (Refuses fail to) c same = absurd (cc same)
alone_makes l (Asks place) c same = absurd (cc same)

made_stamped : (k : Replier) (b : List ℕ) (h : History) (now : ℕ) (w : List ℕ) (c : Change) → HasLetter b → IsOwn k b h now w c → is_some (stamp_of c) ≡ true
made_stamped k b h now w c letter own =
    let l = letter (certificate_hash k) in
    subst (Stamped h) (alone_makes l.0 (decision h l.0 now w) c (own l.0 l.1)) (decision_stamped h l.0 now w)

pub own_step : (k : Replier) (b : List ℕ) (h g : History) (e : Option Change) (now : ℕ) (w : List ℕ) (c : Change) → HasLetter b → ∥ Legal g × IfSome e (Allowed g) ∥₁
    → IsOwn k b h now w c → g ≡ h ++ c ∷ [] → e ≡ None → IsStep (IsOwn k b h now w) h g e
own_step k b h g e now w c letter lawful own grown clear =
    made_step (IsOwn k b h now w) h g c e own (∥∥₁_elim lawful (allowed_prop h c (made_stamped k b h now w c letter own)) (λ l. last_allowed h g c l.0 grown)) grown clear
