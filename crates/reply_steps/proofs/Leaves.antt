-- A text of a history is by a leaf with which the change at its place signs.
use Rattle.std.proofs.Common.{◌≡◌, ℕ, suc, ◌+◌, ◌-◌, List, [], ◌∷◌, ◌++◌, length, Option, Some, None, refl, subst, ◌∙◌, length-append, arith, inl, inr}
use Rattle.std.specs.Prelude.{slice_get}
use Rattle.std.specs.List.{AllByRecursion}
use Rattle.std.proofs.lemmas.Option.{none-some}
use Rattle.deal_changes.specs.declared.change.Stamp.{Stamp}
use Rattle.deal_changes.specs.declared.change.Change.{Change}
use Rattle.deal_changes.specs.declared.change.Change.TheVariants.{Found, Enlist, Dismiss, Grant, Hold, Release, Deny, Turned, Polled, Settled, Revoke, Lapse}
use Rattle.deal_model.specs.Views.{History, reply_leaves, stamp_leaves, HasLeaf, SignsWith}
use Rattle.deal_table.specs.History.{receipt_of}
use Rattle.reply_maker.specs.Replies.{Replier}
use Rattle.signed_texts.specs.Texts.{SignedText, leaf_texts, reply_texts, last_texts, texts_behind, texts_of}
use Rattle.signed_texts.specs.Laws.{Stands}
use Rattle.reply_steps.proofs.Lists.{stands_either, all_at, all_so}

-- ---- the texts of one change

-- the text is of this place, and by one of these leaves
abbrev IsOf : ℕ → Change → SignedText → Type 0
IsOf place c e = (e.place ≡ place) × SignsWith c e.key e.leaf

abbrev IsOfStamp : ℕ → Option Stamp → SignedText → Type 0
IsOfStamp place o e = (e.place ≡ place) × HasLeaf (stamp_leaves o) e.key e.leaf

by_leaf : (k : Replier) (h : History) (c : Change) (s : Stamp) (l : Option ℕ) → AllByRecursion (λ e. (e.place ≡ length h) × HasLeaf (reply_leaves l) e.key e.leaf) (leaf_texts k (receipt_of h (length h) c s) s l)
by_leaf k h c s None = tt
by_leaf k h c s (Some l) = ((refl, inl (refl, refl)), tt)

by_stamp : (k : Replier) (h : History) (c : Change) (o : Option Stamp) → AllByRecursion (IsOfStamp (length h) o) (reply_texts k h c o)
by_stamp k h c None = tt
by_stamp k h c (Some s) = by_leaf k h c s s.leaf

of_change : (k : Replier) (h : History) (c : Change) → AllByRecursion (IsOf (length h) c) (last_texts k h c)
of_change k h (Found s) = ((refl, inl (refl, refl)), ((refl, inr (inl (refl, refl))), tt))
of_change k h (Enlist time list) = tt
of_change k h (Dismiss time w) = tt
of_change k h (Grant s b w serial leaf) = ((refl, inl (refl, refl)), all_so _ (IsOf (length h) (Grant s b w serial leaf)) (reply_texts k h (Grant s b w serial leaf) (Some s)) (λ e has. (has.0, inr has.1)) (by_stamp k h (Grant s b w serial leaf) (Some s)))
of_change k h (Hold s b w) = by_stamp k h (Hold s b w) (Some s)
of_change k h (Release time tid) = tt
of_change k h (Deny time tid) = tt
of_change k h (Turned s) = by_stamp k h (Turned s) (Some s)
of_change k h (Polled s) = by_stamp k h (Polled s) (Some s)
of_change k h (Settled s accepted) = by_stamp k h (Settled s accepted) (Some s)
of_change k h (Revoke s serial reason) = by_stamp k h (Revoke s serial reason) (Some s)
of_change k h (Lapse time tid) = tt

-- ---- of all changes

-- the change behind so many of these, at the text's place
record IsAmong (before : ℕ) (cs : List Change) (e : SignedText) : Type 0 where
  pub index : ℕ
  pub change : Change
  pub there : slice_get cs index ≡ Some change
  pub place : e.place ≡ before + suc index
  pub signs : SignsWith change e.key e.leaf

first_among : (before : History) (c : Change) (cs : List Change) (e : SignedText) → IsOf (length (before ++ c ∷ [])) c e → IsAmong (length before) (c ∷ cs) e
first_among before c cs e is =
    let long : length (before ++ c ∷ []) ≡ length before + 1 = length-append before (c ∷ []) in
    record { index = 0; change = c; there = refl; place = is.0 ∙ long; signs = is.1 }

later_among : (before : History) (c : Change) (cs : List Change) (e : SignedText) → IsAmong (length (before ++ c ∷ [])) cs e → IsAmong (length before) (c ∷ cs) e
later_among before c cs e is =
    let long : length (before ++ c ∷ []) ≡ length before + 1 = length-append before (c ∷ []) in
    let place : e.place ≡ length before + suc (suc is.index) = omega (arith, is.place, long) in
    record { index = suc is.index; change = is.change; there = is.there; place = place; signs = is.signs }

among : (k : Replier) (before cs : List Change) (e : SignedText) → Stands e (texts_behind k before cs) → IsAmong (length before) cs e
among k before [] e s = absurd (none-some e s.1)
among k before (c ∷ cs) e s = elim (stands_either e (last_texts k (before ++ c ∷ []) c) (texts_behind k (before ++ c ∷ []) cs) s) as (λ _. IsAmong (length before) (c ∷ cs) e) [
  | inl here ↦ first_among before c cs e (all_at (IsOf (length (before ++ c ∷ [])) c) (last_texts k (before ++ c ∷ []) c) e (of_change k (before ++ c ∷ []) c) here)
  | inr there ↦ later_among before c cs e (among k (before ++ c ∷ []) cs e there)
]

-- the change at a text's place signs with its leaf
pub record IsBy (h : History) (e : SignedText) : Type 0 where
  pub change : Change
  pub there : slice_get h (e.place - 1) ≡ Some change
  pub signs : SignsWith change e.key e.leaf

pub text_is_by : (k : Replier) (h : History) (e : SignedText) → Stands e (texts_of k h) → IsBy h e
unfolding texts_of
text_is_by k h e s =
    let w = among k [] h e s in
    let index : w.index ≡ e.place - 1 = omega (arith, w.place) in
    record { change = w.change; there = subst (λ (n : ℕ). slice_get h n ≡ Some w.change) index w.there; signs = w.signs }
