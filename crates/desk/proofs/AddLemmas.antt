-- What an append leaves of a desk.
use Rattle.std.proofs.Common.{◌≡◌, ◌⊎◌, inl, inr, ℕ, ◌+◌, Bool, true, false, List, [], ◌∷◌, ◌++◌, length, Option, Some, None, Result, Ok, Err, ◌<◌, ◌≤◌, refl, sym, ◌∙◌, subst, arith}
use Rattle.std.specs.Prelude.{IfSome, IsTrue, is_some, is_ok, OnErr, if◌then◌else◌}
use Rattle.std.proofs.Math.Logic.{∥∥₁_map}
use Rattle.std.proofs.lemmas.Option.{none-some}
use Rattle.journal_core.specs.declared.journal.Journal.{Journal}
use Rattle.journal_core.specs.Log as log
use Rattle.journal_core.specs.Log.{log_of}
use Rattle.journal_core.specs.Journal.{IsKept, IsAtRest, is_doubtful, is_past_limit}
use Rattle.deal_changes.specs.declared.change.Change.{Change}
use Rattle.deal_changes.specs.Spelling.{spelling}
use Rattle.deal_model.specs.Views.{History}
use Rattle.deal_model.specs.Rules.{Allowed, Legal}
use Rattle.deal_model.proofs.Histories.{legal_more}
use Rattle.journal_core.specs.Log.{IsBeforeOrAfter}
use Rattle.desk.specs.Images.{magic, spellings, doubtful, IsDoubt, DoubtOr, MayCome, RecoversWith, Keeps}
use Rattle.desk.specs.Calls.{Fits, is_full}
use Rattle.desk.proofs.Kept.{spellings_push, either_with}
use Rattle.desk.proofs.LawfulLemmas.{is_past, allowed}

-- nothing is in doubt
pub rests : (h : History) (doubt : Option Change) (journal : Journal) (images : List ℕ → Type 0) → doubt ≡ None → Keeps h doubt journal images → IsAtRest magic (spellings h) journal images
rests h doubt journal images none keeps = subst (λ (d : Option Change). Keeps h d journal images) none keeps

pub still : (h : History) (doubt : Option Change) (journal : Journal) (images : List ℕ → Type 0) → doubt ≡ None → IsAtRest magic (spellings h) journal images → Keeps h doubt journal images
still h doubt journal images none rest = subst (λ (d : Option Change). Keeps h d journal images) (sym none) rest

pub added_keeps : (h items : History) (c : Change) (doubt : Option Change) (entry : List ℕ) (journal : Journal) (images : List ℕ → Type 0) → doubt ≡ None → entry ≡ spelling c → items ≡ h ++ c ∷ []
    → IsAtRest magic (spellings h ++ entry ∷ []) journal images → Keeps items doubt journal images
added_keeps h items c doubt entry journal images none spelled grown rest =
    let there = subst (λ (e : List ℕ). IsAtRest magic (spellings h ++ e ∷ []) journal images) spelled rest in
    let here = subst (λ (l : List (List ℕ)). IsAtRest magic l journal images) (sym (spellings_push h c)) there in
    still items doubt journal images none (subst (λ (l : History). IsAtRest magic (spellings l) journal images) (sym grown) here)

pub added_lawful : {P : Type 0} (h items : History) (c : Change) (doubt : Option Change) → doubt ≡ None → items ≡ h ++ c ∷ [] → Allowed h c → ∥ Legal h × P ∥₁ → ∥ Legal items × IfSome doubt (Allowed items) ∥₁
added_lawful h items c doubt none grown a t =
    ∥∥₁_map t (λ l. (subst Legal (sym grown) (legal_more h c l.0 a), subst (λ (d : Option Change). IfSome d (Allowed items)) (sym none) tt))

pub doubtful_lawful : {P : Type 0} (h : History) (c : Change) → Allowed h c → ∥ Legal h × P ∥₁ → ∥ Legal h × IfSome (Some c) (Allowed h) ∥₁
doubtful_lawful h c a t = ∥∥₁_map t (λ l. (l.0, a))

pub clear_lawful : {P : Type 0} (h : History) → ∥ Legal h × P ∥₁ → ∥ Legal h × IfSome None (Allowed h) ∥₁
clear_lawful h t = ∥∥₁_map t (λ l. (l.0, tt))

not_true : (b : Bool) → (IsTrue b → ⊥) → b ≡ false
not_true true f = absurd (f refl)
not_true false f = refl

pub has_room : (h : History) (c : Change) (entry : List ℕ) → entry ≡ spelling c → Fits h c → (IsTrue (is_past_limit (length (spellings h)) (length (log_of magic (spellings h))) (length entry + 5)) → ⊥) → Allowed h c
has_room h c entry spelled f never =
    allowed h c f (not_true (is_full h c) (λ full. never (subst (λ (e : List ℕ). IsTrue (is_past_limit (length (spellings h)) (length (log_of magic (spellings h))) (length e + 5))) (sym spelled) (is_past h c ∙ full))))

pub has_no_room : (h : History) (c : Change) (entry : List ℕ) → entry ≡ spelling c → IsTrue (is_past_limit (length (spellings h)) (length (log_of magic (spellings h))) (length entry + 5)) → IsTrue (is_full h c)
has_no_room h c entry spelled past = sym (is_past h c) ∙ subst (λ (e : List ℕ). IsTrue (is_past_limit (length (spellings h)) (length (log_of magic (spellings h))) (length e + 5))) spelled past

pub own_left : (h : History) (c : Change) (entry image : List ℕ) → entry ≡ spelling c → Allowed h c → log.Recovers magic image (spellings h) ⊎ log.Recovers magic image (spellings h ++ entry ∷ []) → RecoversWith h (MayCome (λ x. x ≡ c) h) image
own_left h c entry image spelled a left = either_with h c image (MayCome (λ x. x ≡ c) h) (refl, a) (subst (λ (e : List ℕ). log.Recovers magic image (spellings h) ⊎ log.Recovers magic image (spellings h ++ e ∷ [])) spelled left)

pub doubt_keeps : (h : History) (c : Change) (entry : List ℕ) (journal : Journal) (images : List ℕ → Type 0) → entry ≡ spelling c → IsKept magic (spellings h) entry journal images × (is_doubtful journal ≡ true) → Keeps h (Some c) journal images
doubt_keeps h c entry journal images spelled o = (subst (λ (e : List ℕ). IsKept magic (spellings h) e journal images) spelled o.0, o.1)

-- a push where there is room
pub pushed : {T E X : Type 0} (result : Result T E) (items old : List X) (x : X) (len capacity : ℕ) → items ≡ (if is_ok result then old ++ x ∷ [] else old) → OnErr result (capacity ≤ len) → len < capacity → items ≡ old ++ x ∷ []
pushed (Ok t) items old x len capacity grown full room = grown
pushed (Err e) items old x len capacity grown full room = absurd (omega (arith, full, room))

-- what settling leaves at each moment
pub doubt_left : (h : History) (doubt : Option Change) (image : List ℕ) → is_some doubt ≡ true → IsBeforeOrAfter magic (spellings h) (doubtful doubt) image → RecoversWith h (IsDoubt doubt) image
doubt_left h None image some left = absurd (cc some)
doubt_left h (Some c) image some left = either_with h c image (IsDoubt (Some c)) refl left

-- what says more of the change behind a history says less
pub with_less : (h : History) (A B : Change → Type 0) (image : List ℕ) → ((c : Change) → A c → B c) → RecoversWith h A image → RecoversWith h B image
with_less h A B image less (inl before) = inl before
with_less h A B image less (inr longer) = inr (longer.0, less longer.0 longer.1, longer.2)

pub same_less : (h g : History) (A B : Change → Type 0) (image : List ℕ) → g ≡ h → ((c : Change) → A c → B c) → RecoversWith g A image → RecoversWith h B image
same_less h g A B image same less left = with_less h A B image less (subst (λ (l : History). RecoversWith l A image) same left)

-- where nothing is in doubt an image has the history alone
pub clear_left : (h : History) (doubt : Option Change) (B : Change → Type 0) (image : List ℕ) → doubt ≡ None → RecoversWith h (IsDoubt doubt) image → RecoversWith h B image
clear_left h doubt B image none left = with_less h (IsDoubt doubt) B image (λ c is. absurd (none-some c (sym none ∙ is))) left

-- ---- what is in doubt afterwards

pub no_doubt : (e : Option Change) (P : Change → Type 0) → e ≡ None → IfSome e P
no_doubt e P none = subst (λ (x : Option Change). IfSome x P) (sym none) tt

pub kept_doubt : (d : Option Change) (Own : Change → Type 0) → IfSome d (DoubtOr d Own)
kept_doubt None Own = tt
kept_doubt (Some c) Own = inl refl

pub still_doubt : (d e : Option Change) (Own : Change → Type 0) → e ≡ d → IfSome e (DoubtOr d Own)
still_doubt d e Own same = subst (λ (x : Option Change). IfSome x (DoubtOr d Own)) (sym same) (kept_doubt d Own)

pub doubt_less : (e : Option Change) (A B : Change → Type 0) → ((c : Change) → A c → B c) → IfSome e A → IfSome e B
doubt_less None A B less held = tt
doubt_less (Some c) A B less held = less c held

-- the call's own change, told in other words
pub own_less : (d : Option Change) (h : History) (A B : Change → Type 0) → ((c : Change) → A c → B c) → (c : Change) → DoubtOr d (MayCome A h) c → DoubtOr d (MayCome B h) c
own_less d h A B less c (inl is) = inl is
own_less d h A B less c (inr own) = inr (less c own.0, own.1)

-- a change that may come behind the same history
pub may_still : (h g : History) (A : Change → Type 0) (d : Option Change) (c : Change) → g ≡ h → MayCome A g c → DoubtOr d (MayCome A h) c
may_still h g A d c same own = inr (own.0, subst (λ (l : History). Allowed l c) same own.1)

-- what is there is such a one, where each such one is of the wider sort
pub if_some_less : (P Q : Change → Type 0) (o : Option Change) → ((x : Change) → P x → Q x) → IfSome o P → IfSome o Q
if_some_less P Q None less is = tt
if_some_less P Q (Some x) less is = less x is
