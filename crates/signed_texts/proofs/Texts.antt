-- In a legal history each leaf of a key has one text.
use Rattle.std.proofs.Common.{◌≡◌, ℕ, zero, suc, ◌≤◌, List, [], ◌∷◌, ◌++◌, length, take, Option, Some, None, refl, sym, ap, subst, ◌∙◌, append_assoc, arith, inl, inr}
use Rattle.std.specs.Prelude.{slice_get}
use Rattle.std.specs.List.{AllByRecursion}
use Rattle.std.proofs.lemmas.Option.{none-some, same_Some}
use Rattle.deal_changes.specs.declared.change.Stamp.{Stamp}
use Rattle.deal_changes.specs.declared.change.Change.{Change}
use Rattle.deal_changes.specs.declared.change.Change.TheVariants.{Found, Enlist, Dismiss, Grant, Hold, Release, Deny, Turned, Polled, Settled, Revoke, Lapse}
use Rattle.deal_model.specs.declared.states.Key.{Key}
use Rattle.deal_model.specs.declared.states.Key.TheVariants.{Issue, Reply}
use Rattle.deal_model.specs.Views.{History, leaves_used, reply_leaves, stamp_leaves, HasLeaf, TakesLeaf}
use Rattle.deal_model.specs.Rules.{Allowed, AllowedFrom, Legal}
use Rattle.deal_model.proofs.Leaves.{Between, between, used_grows}
use Rattle.deal_table.specs.History.{receipt_of}
use Rattle.cert_maker.specs.Certificates.{tbs_of}
use Rattle.reply_maker.specs.Replies.{Replier}
use Rattle.signed_texts.specs.Texts.{SignedText, leaf_texts, reply_texts, last_texts, texts_behind, texts_of}
use Rattle.signed_texts.specs.Laws.{Stands, EachLeafOneText}
use Rattle.signed_texts.proofs.Lists.{stands_left, stands_right, all_append, all_at, all_so}

-- ---- apart

-- not the same leaf of one key
abbrev pub IsOther : SignedText → SignedText → Type 0
IsOther e f = e.key ≡ f.key → e.leaf ≡ f.leaf → ⊥

abbrev pub Apart : List SignedText → Type 0
Apart [] = Unit {0}
Apart (e ∷ es) = AllByRecursion (IsOther e) es × Apart es

apart_append : (P Q : SignedText → Type 0) (es fs : List SignedText) → ((e f : SignedText) → P e → Q f → IsOther e f) → AllByRecursion P es → AllByRecursion Q fs → Apart es → Apart fs → Apart (es ++ fs)
apart_append P Q [] fs other ps qs a b = b
apart_append P Q (e ∷ es) fs other ps qs a b = (all_append (IsOther e) es fs a.0 (all_so Q (IsOther e) fs (λ f q. other e f ps.0 q) qs), apart_append P Q es fs other ps.1 qs a.1 b)

apart_places : (es : List SignedText) → Apart es → (i j : ℕ) (e f : SignedText) → slice_get es i ≡ Some e → slice_get es j ≡ Some f → e.key ≡ f.key → e.leaf ≡ f.leaf → i ≡ j
apart_places [] a i j e f is there key leaf = absurd (none-some e is)
apart_places (x ∷ es) a zero zero e f is there key leaf = refl
apart_places (x ∷ es) a zero (suc j) e f is there key leaf = absurd (all_at (IsOther x) es j f a.0 there (ap (λ (y : SignedText). y.key) (same_Some x e is) ∙ key) (ap (λ (y : SignedText). y.leaf) (same_Some x e is) ∙ leaf))
apart_places (x ∷ es) a (suc i) zero e f is there key leaf = absurd (all_at (IsOther x) es i e a.0 is (ap (λ (y : SignedText). y.key) (same_Some x f there) ∙ sym key) (ap (λ (y : SignedText). y.leaf) (same_Some x f there) ∙ sym leaf))
apart_places (x ∷ es) a (suc i) (suc j) e f is there key leaf = ap suc (apart_places es a.1 i j e f is there key leaf)

-- ---- the texts of one change

-- the text is by a leaf that the change takes
abbrev pub IsBy : Change → SignedText → Type 0
IsBy c e = TakesLeaf c e.key e.leaf

by_stamp : (k : Replier) (h : History) (c : Change) (o : Option Stamp) → AllByRecursion (λ e. HasLeaf (stamp_leaves o) e.key e.leaf) (reply_texts k h c o)
by_stamp k h c None = tt
by_stamp k h c (Some s) = by_leaf s.leaf
  where
    by_leaf : (l : Option ℕ) → AllByRecursion (λ e. HasLeaf (reply_leaves l) e.key e.leaf) (leaf_texts k (receipt_of h (length h) c s) s l)
    by_leaf (Some l) = (inl (refl, refl), tt)
    by_leaf None = tt

pub by_change : (k : Replier) (h : History) (c : Change) → AllByRecursion (IsBy c) (last_texts k h c)
by_change k h (Found s) = (inl (refl, refl), (inr (inl (refl, refl)), tt))
by_change k h (Enlist time list) = tt
by_change k h (Dismiss time w) = tt
by_change k h (Grant s b w serial leaf) = (inl (refl, refl), all_so _ (IsBy (Grant s b w serial leaf)) (reply_texts k h (Grant s b w serial leaf) (Some s)) (λ e has. inr has) (by_stamp k h (Grant s b w serial leaf) (Some s)))
by_change k h (Hold s b w) = by_stamp k h (Hold s b w) (Some s)
by_change k h (Release time tid) = tt
by_change k h (Deny time tid) = tt
by_change k h (Turned s) = by_stamp k h (Turned s) (Some s)
by_change k h (Polled s) = by_stamp k h (Polled s) (Some s)
by_change k h (Settled s accepted) = by_stamp k h (Settled s accepted) (Some s)
by_change k h (Revoke s serial reason) = by_stamp k h (Revoke s serial reason) (Some s)
by_change k h (Lapse time tid) = tt

reply_apart : (k : Replier) (h : History) (c : Change) (o : Option Stamp) → Apart (reply_texts k h c o)
reply_apart k h c None = tt
reply_apart k h c (Some s) = by_leaf s.leaf
  where
    by_leaf : (l : Option ℕ) → Apart (leaf_texts k (receipt_of h (length h) c s) s l)
    by_leaf (Some l) = (tt, tt)
    by_leaf None = tt

-- a reply is signed by the other key
reply_other : (k : Replier) (h : History) (c : Change) (o : Option Stamp) (e : SignedText) → e.key ≡ Issue → AllByRecursion (IsOther e) (reply_texts k h c o)
reply_other k h c None e is = tt
reply_other k h c (Some s) e is = by_leaf s.leaf
  where
    by_leaf : (l : Option ℕ) → AllByRecursion (IsOther e) (leaf_texts k (receipt_of h (length h) c s) s l)
    by_leaf (Some l) = ((λ key leaf. let wrong : Issue ≡ Reply = sym is ∙ key in cc), tt)
    by_leaf None = tt

change_apart : (k : Replier) (h : History) (c : Change) → Apart (last_texts k h c)
change_apart k h (Found s) = (((λ key leaf. cc), tt), (tt, tt))
change_apart k h (Enlist time list) = tt
change_apart k h (Dismiss time w) = tt
change_apart k h (Grant s b w serial leaf) = (reply_other k h (Grant s b w serial leaf) (Some s) (record { key = Issue; leaf = leaf; text = tbs_of k.keys (Grant s b w serial leaf); place = length h }) refl, reply_apart k h (Grant s b w serial leaf) (Some s))
change_apart k h (Hold s b w) = reply_apart k h (Hold s b w) (Some s)
change_apart k h (Release time tid) = tt
change_apart k h (Deny time tid) = tt
change_apart k h (Turned s) = reply_apart k h (Turned s) (Some s)
change_apart k h (Polled s) = reply_apart k h (Polled s) (Some s)
change_apart k h (Settled s accepted) = reply_apart k h (Settled s accepted) (Some s)
change_apart k h (Revoke s serial reason) = reply_apart k h (Revoke s serial reason) (Some s)
change_apart k h (Lapse time tid) = tt

-- ---- of all changes

-- by a leaf that isn't used yet
abbrev IsLater : History → SignedText → Type 0
IsLater before e = leaves_used before e.key ≤ e.leaf

abbrev IsNow : History → Change → SignedText → Type 0
IsNow before c e = Between before c e.key e.leaf

now : (k : Replier) (before : History) (c : Change) → Allowed before c → AllByRecursion (IsNow before c) (last_texts k (before ++ c ∷ []) c)
now k before c a = all_so (IsBy c) (IsNow before c) (last_texts k (before ++ c ∷ []) c) (λ e by. between before c a e.key e.leaf by) (by_change k (before ++ c ∷ []) c)

still_later : (before : History) (c : Change) (e : SignedText) → IsLater (before ++ c ∷ []) e → IsLater before e
still_later before c e later = omega (arith, used_grows before (c ∷ []) e.key, later)

later : (k : Replier) (before cs : List Change) → AllowedFrom before cs → AllByRecursion (IsLater before) (texts_behind k before cs)
later k before [] a = tt
later k before (c ∷ cs) a = all_append (IsLater before) (last_texts k (before ++ c ∷ []) c) (texts_behind k (before ++ c ∷ []) cs)
    (all_so (IsNow before c) (IsLater before) (last_texts k (before ++ c ∷ []) c) (λ e b. b.0) (now k before c a.0))
    (all_so (IsLater (before ++ c ∷ [])) (IsLater before) (texts_behind k (before ++ c ∷ []) cs) (still_later before c) (later k (before ++ c ∷ []) cs a.1))

used_before : (before : History) (c : Change) (e f : SignedText) → IsNow before c e → IsLater (before ++ c ∷ []) f → IsOther e f
used_before before c e f n l key leaf =
    let next : leaves_used (before ++ c ∷ []) e.key ≤ f.leaf = subst (λ (x : Key). leaves_used (before ++ c ∷ []) x ≤ f.leaf) (sym key) l in
    omega (arith, n.1, next, leaf)

all_apart : (k : Replier) (before cs : List Change) → AllowedFrom before cs → Apart (texts_behind k before cs)
all_apart k before [] a = tt
all_apart k before (c ∷ cs) a = apart_append (IsNow before c) (IsLater (before ++ c ∷ [])) (last_texts k (before ++ c ∷ []) c) (texts_behind k (before ++ c ∷ []) cs) (used_before before c) (now k before c a.0) (later k (before ++ c ∷ []) cs a.1) (change_apart k (before ++ c ∷ []) c) (all_apart k (before ++ c ∷ []) cs a.1)

pub one_text : (k : Replier) (h : History) → Legal h → EachLeafOneText k h
unfolding texts_of
one_text k h l = apart_places (texts_behind k [] h) (all_apart k [] h l.1)

-- ---- where a text stands

pub text_stands : (k : Replier) (before cs : List Change) (i : ℕ) (c : Change) (e : SignedText) → slice_get cs i ≡ Some c → Stands e (last_texts k (before ++ take (suc i) cs) c) → Stands e (texts_behind k before cs)
text_stands k before [] i c e there s = absurd (none-some c there)
text_stands k before (x ∷ cs) zero c e there s = stands_left e _ (texts_behind k (before ++ x ∷ []) cs) (subst (λ (y : Change). Stands e (last_texts k (before ++ x ∷ []) y)) (sym (same_Some x c there)) s)
text_stands k before (x ∷ cs) (suc i) c e there s = stands_right e (last_texts k (before ++ x ∷ []) x) (texts_behind k (before ++ x ∷ []) cs) (text_stands k (before ++ x ∷ []) cs i c e there (subst (λ (g : History). Stands e (last_texts k g c)) (sym (append_assoc before (x ∷ []) (take (suc i) cs))) s))
