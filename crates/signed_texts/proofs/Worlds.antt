-- What worlds sign, over all runs.
use Rattle.std.proofs.Common.{◌≡◌, ℕ, zero, suc, ◌+◌, ◌-◌, ◌<◌, ◌≤◌, false, List, [], ◌∷◌, ◌++◌, length, take, drop, Option, Some, None, refl, sym, ap, subst, ◌∙◌, append_assoc, length-append, arith, inl, inr, ◌⊎◌}
use Rattle.std.specs.Prelude.{slice_get}
use Rattle.std.specs.List.{AllByRecursion}
use Rattle.std.proofs.lemmas.List.{append-nil, length-take-le, take-append-drop}
use Rattle.std.proofs.lemmas.Option.{none-some, same_Some}
use Rattle.deal_changes.specs.declared.change.Stamp.{Stamp}
use Rattle.deal_changes.specs.declared.change.Change.{Change}
use Rattle.deal_changes.specs.declared.change.Change.TheVariants.{Found, Enlist, Dismiss, Grant, Hold, Release, Deny, Turned, Polled, Settled, Revoke, Lapse}
use Rattle.deal_model.specs.declared.states.Key.{Key}
use Rattle.deal_model.specs.declared.states.Key.TheVariants.{Issue, Reply}
use Rattle.deal_model.specs.Views.{History, settings_of, reply_leaves, stamp_leaves, HasLeaf, TakesLeaf}
use Rattle.deal_model.specs.Rules.{Legal}
use Rattle.deal_model.proofs.Histories.{legal_more}
use Rattle.deal_table.specs.History.{receipt_of}
use Rattle.cert_maker.specs.Certificates.{root_tbs, reply_tbs, tbs_of}
use Rattle.reply_maker.specs.Replies.{Replier}
use Rattle.world_core.specs.declared.world.Signed.{Signed}
use Rattle.world_core.specs.declared.world.World.{World}
use Rattle.world_core.specs.declared.world.Step.{Step}
use Rattle.world_core.specs.declared.world.Step.TheVariants as steps
use Rattle.world_core.specs.Steps.{founded, Leads, Run}
use Rattle.world_core.specs.Safety.{IsEntry, place_of, Safe, is_founding, Follows}
use Rattle.world_core.proofs.Worlds.{every_safe, every_step}
use Rattle.world_core.proofs.Runs.{run_more}
use Rattle.signed_texts.specs.Texts.{SignedText, leaf_texts, reply_texts, last_texts, texts_behind, texts_of}
use Rattle.signed_texts.specs.Laws.{Stands, HasSigned, AllHaveTexts, OneTextEach, SignedStays, SettingsStay}
use Rattle.signed_texts.proofs.Lists.{stands_left, stands_right, stands_either, all_at}
use Rattle.signed_texts.proofs.Texts.{one_text, text_stands}

-- ---- each leaf has a text

-- a text for this leaf of the key, for the change at this place
record HasText (es : List SignedText) (for : Key) (by at : ℕ) : Type 0 where
  pub entry : SignedText
  pub stands : Stands entry es
  pub key : entry.key ≡ for
  pub leaf : entry.leaf ≡ by
  pub place : entry.place ≡ at

text_left : (es fs : List SignedText) (key : Key) (leaf place : ℕ) → HasText es key leaf place → HasText (es ++ fs) key leaf place
text_left es fs key leaf place t = record { entry = t.entry; stands = stands_left t.entry es fs t.stands; key = t.key; leaf = t.leaf; place = t.place }

text_right : (es fs : List SignedText) (key : Key) (leaf place : ℕ) → HasText fs key leaf place → HasText (es ++ fs) key leaf place
text_right es fs key leaf place t = record { entry = t.entry; stands = stands_right t.entry es fs t.stands; key = t.key; leaf = t.leaf; place = t.place }

leaf_text : (k : Replier) (h : History) (c : Change) (s : Stamp) (l : Option ℕ) (key : Key) (leaf : ℕ) → HasLeaf (reply_leaves l) key leaf → HasText (leaf_texts k (receipt_of h (length h) c s) s l) key leaf (length h)
leaf_text k h c s None key leaf has = elim has [ ]
leaf_text k h c s (Some l) key leaf (inr nothing) = elim nothing [ ]
leaf_text k h c s (Some l) key leaf (inl is) = record { entry = record { key = Reply; leaf = l; text = _; place = length h }; stands = (0, refl); key = is.0; leaf = is.1; place = refl }

stamp_text : (k : Replier) (h : History) (c : Change) (o : Option Stamp) (key : Key) (leaf : ℕ) → HasLeaf (stamp_leaves o) key leaf → HasText (reply_texts k h c o) key leaf (length h)
stamp_text k h c None key leaf has = elim has [ ]
stamp_text k h c (Some s) key leaf has = leaf_text k h c s s.leaf key leaf has

change_text : (k : Replier) (h : History) (c : Change) (key : Key) (leaf : ℕ) → TakesLeaf c key leaf → HasText (last_texts k h c) key leaf (length h)
change_text k h (Found s) key leaf (inl is) = record { entry = record { key = Issue; leaf = 0; text = root_tbs k.keys s.time; place = length h }; stands = (0, refl); key = is.0; leaf = is.1; place = refl }
change_text k h (Found s) key leaf (inr (inl is)) = record { entry = record { key = Issue; leaf = 1; text = reply_tbs k.keys s.time; place = length h }; stands = (1, refl); key = is.0; leaf = is.1; place = refl }
change_text k h (Found s) key leaf (inr (inr nothing)) = elim nothing [ ]
change_text k h (Grant s b w serial n) key leaf (inl is) = record { entry = record { key = Issue; leaf = n; text = tbs_of k.keys (Grant s b w serial n); place = length h }; stands = (0, refl); key = is.0; leaf = is.1; place = refl }
change_text k h (Grant s b w serial n) key leaf (inr has) = text_right (record { key = Issue; leaf = n; text = tbs_of k.keys (Grant s b w serial n); place = length h } ∷ []) (reply_texts k h (Grant s b w serial n) (Some s)) key leaf (length h) (stamp_text k h (Grant s b w serial n) (Some s) key leaf has)
change_text k h (Enlist time list) key leaf has = elim has [ ]
change_text k h (Dismiss time w) key leaf has = elim has [ ]
change_text k h (Hold s b w) key leaf has = stamp_text k h (Hold s b w) (Some s) key leaf has
change_text k h (Release time tid) key leaf has = elim has [ ]
change_text k h (Deny time tid) key leaf has = elim has [ ]
change_text k h (Turned s) key leaf has = stamp_text k h (Turned s) (Some s) key leaf has
change_text k h (Polled s) key leaf has = stamp_text k h (Polled s) (Some s) key leaf has
change_text k h (Settled s accepted) key leaf has = stamp_text k h (Settled s accepted) (Some s) key leaf has
change_text k h (Revoke s serial reason) key leaf has = stamp_text k h (Revoke s serial reason) (Some s) key leaf has
change_text k h (Lapse time tid) key leaf has = elim has [ ]

named : (e : SignedText) (es : List SignedText) (key : Key) (leaf place : ℕ) → e.key ≡ key → e.leaf ≡ leaf → e.place ≡ place → Stands e es → Stands (record { key = key; leaf = leaf; text = e.text; place = place }) es
named e es key leaf place is by at s =
    subst (λ (x : Key). Stands (record { key = x; leaf = leaf; text = e.text; place = place }) es) is
    (subst (λ (x : ℕ). Stands (record { key = e.key; leaf = x; text = e.text; place = place }) es) by
    (subst (λ (x : ℕ). Stands (record { key = e.key; leaf = e.leaf; text = e.text; place = x }) es) at s))

entry_text : (k : Replier) (h : History) (acked : ℕ) (e : Signed) → acked ≤ length h → IsEntry h acked e → (text : List ℕ) × Stands (record { key = e.key; leaf = e.leaf; text = text; place = place_of e.source }) (texts_of k h)
unfolding texts_of
entry_text k h acked e le entry =
    let i : ℕ = place_of e.source - 1 in
    let next : suc i ≡ place_of e.source = omega (arith, entry.low) in
    let long : length (take (suc i) h) ≡ suc i = length-take-le (suc i) h (omega (arith, entry.low, entry.high, le)) in
    let t = change_text k (take (suc i) h) entry.change e.key e.leaf entry.has in
    (t.entry.text, text_stands k [] h i entry.change _ entry.stands (named t.entry (last_texts k (take (suc i) h) entry.change) e.key e.leaf (place_of e.source) t.key t.leaf (t.place ∙ long ∙ next) t.stands))

all_have : (k : Replier) (w : World) → Safe w → AllHaveTexts k w
all_have k w safe e s = let t = entry_text k w.durable w.acked e safe.acked_high (all_at (IsEntry w.durable w.acked) w.signed s.0 e safe.signed s.1) in (t.0, (e, s, refl, refl, t.1))

pub every_text : (k : Replier) (ss : List Step) (w : World) → Run founded ss w → AllHaveTexts k w
every_text k ss w run = all_have k w (every_safe legal_more ss w run)

-- ---- texts stay

split_texts : (k : Replier) (before xs ys : List Change) → texts_behind k before (xs ++ ys) ≡ texts_behind k before xs ++ texts_behind k (before ++ xs) ys
split_texts k before [] ys = ap (λ (l : List Change). texts_behind k l ys) (sym (append-nil before))
split_texts k before (x ∷ xs) ys =
    ap (λ (l : List SignedText). last_texts k (before ++ x ∷ []) x ++ l) (split_texts k (before ++ x ∷ []) xs ys ∙ ap (λ (g : History). texts_behind k (before ++ x ∷ []) xs ++ texts_behind k g ys) (append_assoc before (x ∷ []) xs))
    ∙ sym (append_assoc (last_texts k (before ++ x ∷ []) x) (texts_behind k (before ++ x ∷ []) xs) (texts_behind k (before ++ x ∷ xs) ys))

-- a text for this place
abbrev IsAt : ℕ → SignedText → Type 0
IsAt place e = e.place ≡ place

leaf_places : (k : Replier) (h : History) (c : Change) (s : Stamp) (l : Option ℕ) → AllByRecursion (IsAt (length h)) (leaf_texts k (receipt_of h (length h) c s) s l)
leaf_places k h c s None = tt
leaf_places k h c s (Some l) = (refl, tt)

reply_places : (k : Replier) (h : History) (c : Change) (o : Option Stamp) → AllByRecursion (IsAt (length h)) (reply_texts k h c o)
reply_places k h c None = tt
reply_places k h c (Some s) = leaf_places k h c s s.leaf

last_places : (k : Replier) (h : History) (c : Change) → AllByRecursion (IsAt (length h)) (last_texts k h c)
last_places k h (Found s) = (refl, (refl, tt))
last_places k h (Enlist time list) = tt
last_places k h (Dismiss time w) = tt
last_places k h (Grant s b w serial leaf) = (refl, reply_places k h (Grant s b w serial leaf) (Some s))
last_places k h (Hold s b w) = reply_places k h (Hold s b w) (Some s)
last_places k h (Release time tid) = tt
last_places k h (Deny time tid) = tt
last_places k h (Turned s) = reply_places k h (Turned s) (Some s)
last_places k h (Polled s) = reply_places k h (Polled s) (Some s)
last_places k h (Settled s accepted) = reply_places k h (Settled s accepted) (Some s)
last_places k h (Revoke s serial reason) = reply_places k h (Revoke s serial reason) (Some s)
last_places k h (Lapse time tid) = tt

behind_later : (k : Replier) (before cs : List Change) (e : SignedText) → Stands e (texts_behind k before cs) → length before < e.place
behind_later k before [] e s = absurd (none-some e s.1)
behind_later k before (c ∷ cs) e s =
    let more : length (before ++ c ∷ []) ≡ length before + 1 = length-append before (c ∷ []) in
    elim (stands_either e (last_texts k (before ++ c ∷ []) c) (texts_behind k (before ++ c ∷ []) cs) s) as (λ _. length before < e.place) [
      | inl here ↦ (let at : e.place ≡ length (before ++ c ∷ []) = all_at (IsAt (length (before ++ c ∷ []))) (last_texts k (before ++ c ∷ []) c) here.0 e (last_places k (before ++ c ∷ []) c) here.1 in omega (arith, at, more))
      | inr there ↦ (let at : length (before ++ c ∷ []) < e.place = behind_later k (before ++ c ∷ []) cs e there in omega (arith, at, more))
    ]

-- a text for a place among the first is one of those changes alone
text_early : (k : Replier) (h : History) (n : ℕ) (e : SignedText) → n ≤ length h → e.place ≤ n → Stands e (texts_behind k [] h) → Stands e (texts_behind k [] (take n h))
text_early k h n e le at s =
    let parts : texts_behind k [] h ≡ texts_behind k [] (take n h) ++ texts_behind k (take n h) (drop n h) = ap (texts_behind k []) (sym (take-append-drop n h)) ∙ split_texts k [] (take n h) (drop n h) in
    let long : length (take n h) ≡ n = length-take-le n h le in
    elim (stands_either e (texts_behind k [] (take n h)) (texts_behind k (take n h) (drop n h)) (subst (Stands e) parts s)) as (λ _. Stands e (texts_behind k [] (take n h))) [
      | inl here ↦ here
      | inr there ↦ absurd (let more : length (take n h) < e.place = behind_later k (take n h) (drop n h) e there in omega (arith, more, long, at))
    ]

text_late : (k : Replier) (h : History) (n : ℕ) (e : SignedText) → Stands e (texts_behind k [] (take n h)) → Stands e (texts_behind k [] h)
text_late k h n e s =
    let parts : texts_behind k [] h ≡ texts_behind k [] (take n h) ++ texts_behind k (take n h) (drop n h) = ap (texts_behind k []) (sym (take-append-drop n h)) ∙ split_texts k [] (take n h) (drop n h) in
    subst (Stands e) (sym parts) (stands_left e (texts_behind k [] (take n h)) (texts_behind k (take n h) (drop n h)) s)

text_kept : (k : Replier) (h g : History) (n : ℕ) (e : SignedText) → n ≤ length h → take n g ≡ take n h → e.place ≤ n → Stands e (texts_of k h) → Stands e (texts_of k g)
unfolding texts_of
text_kept k h g n e le same at s = text_late k g n e (subst (λ (l : History). Stands e (texts_behind k [] l)) (sym same) (text_early k h n e le at s))

-- where something is signed already, a step doesn't found
still_or : (w v : World) (s : Step) (e : Signed) → Leads w s v → Stands e w.signed → (v ≡ w) ⊎ (is_founding s ≡ false)
still_or w v (steps.Found c) e (inl taken) there = absurd (none-some e (subst (λ (x : World). slice_get x.signed there.0 ≡ Some e) taken.0.0 there.1))
still_or w v (steps.Found c) e (inr kept) there = inl kept.1
still_or w v (steps.Propose c) e leads there = inr refl
still_or w v steps.Sync e leads there = inr refl
still_or w v steps.SyncFail e leads there = inr refl
still_or w v steps.Settle e leads there = inr refl
still_or w v (steps.Sign n) e leads there = inr refl
still_or w v (steps.Send n) e leads there = inr refl
still_or w v (steps.Crash keep) e leads there = inr refl
still_or w v steps.Reopen e leads there = inr refl

step_kept : (k : Replier) (w v : World) (s : Step) → Safe w → Follows w s v → is_founding s ≡ false → SignedStays k w v
step_kept k w v s safe follows other key leaf text t =
    let entry = all_at (IsEntry w.durable w.acked) w.signed t.1.0 t.0 safe.signed t.1.1 in
    (t.0, subst (Stands t.0) (sym follows.signed.1) (stands_left t.0 w.signed follows.signed.0 t.1), t.2, t.3, text_kept k w.durable v.durable w.acked _ safe.acked_high (follows.kept other) entry.high t.4)

step_stays : (k : Replier) (w v : World) (s : Step) → Safe w → Follows w s v → Leads w s v → SignedStays k w v
step_stays k w v s safe follows leads key leaf text t = elim (still_or w v s t.0 leads t.1) as (λ _. HasSigned k v key leaf text) [
  | inl same ↦ subst (λ (x : World). HasSigned k x key leaf text) (sym same) t
  | inr other ↦ step_kept k w v s safe follows other key leaf text t
]

pub every_stays : (k : Replier) (ss more : List Step) (w v : World) → Run founded ss w → Run w more v → SignedStays k w v
every_stays k ss [] w v run rest key leaf text t = subst (λ (x : World). HasSigned k x key leaf text) (sym rest) t
every_stays k ss (s ∷ more) w v run rest key leaf text t =
    every_stays k (ss ++ s ∷ []) more rest.0 v (run_more founded ss w s rest.0 run rest.1) rest.2 key leaf text
    (step_stays k w rest.0 s (every_safe legal_more ss w run) (every_step legal_more ss w rest.0 s run rest.1) rest.1 key leaf text t)

-- ---- one text each

run_all : (w : World) (ss more : List Step) (u v : World) → Run w ss u → Run u more v → Run w (ss ++ more) v
run_all w [] more u v run rest = subst (λ (x : World). Run x more v) run rest
run_all w (s ∷ ss) more u v run rest = (run.0, run.1, run_all run.0 ss more u v run.2 rest)

same_text : (k : Replier) (w : World) (key : Key) (leaf : ℕ) (text other : List ℕ) → Legal w.durable → HasSigned k w key leaf text → HasSigned k w key leaf other → text ≡ other
same_text k w key leaf text other legal t u =
    let there : t.4.0 ≡ u.4.0 = one_text k w.durable legal t.4.0 u.4.0 _ _ t.4.1 u.4.1 refl refl in
    ap (λ (e : SignedText). e.text) (same_Some _ _ (sym t.4.1 ∙ ap (slice_get (texts_of k w.durable)) there ∙ u.4.1))

pub every_once : (k : Replier) (ss more : List Step) (w v : World) → Run founded ss w → Run w more v → OneTextEach k w v
every_once k ss more w v run rest key leaf text other t u = same_text k v key leaf text other (every_safe legal_more (ss ++ more) v (run_all founded ss more w v run rest)).legal (every_stays k ss more w v run rest key leaf text t) u

-- ---- the settings

settings_first : (h g : History) (n : ℕ) → 1 ≤ n → n ≤ length h → take n g ≡ take n h → settings_of g ≡ settings_of h
settings_first h g zero low high same = absurd (omega (arith, low))
settings_first [] g (suc n) low high same = absurd (omega (arith, high))
settings_first (d ∷ h) [] (suc n) low high same = ap settings_of same
settings_first (d ∷ h) (c ∷ g) (suc n) low high same = ap settings_of same

step_settings : (w v : World) (s : Step) → Safe w → Follows w s v → Leads w s v → SettingsStay w v
step_settings w v s safe follows leads e there = elim (still_or w v s e leads there) as (λ _. settings_of v.durable ≡ settings_of w.durable) [
  | inl same ↦ ap (λ (x : World). settings_of x.durable) same
  | inr other ↦ settings_first w.durable v.durable w.acked safe.acked_low safe.acked_high (follows.kept other)
]

pub every_settings : (ss more : List Step) (w v : World) → Run founded ss w → Run w more v → SettingsStay w v
every_settings ss [] w v run rest e there = ap (λ (x : World). settings_of x.durable) rest
every_settings ss (s ∷ more) w v run rest e there =
    let follows = every_step legal_more ss w rest.0 s run rest.1 in
    every_settings (ss ++ s ∷ []) more rest.0 v (run_more founded ss w s rest.0 run rest.1) rest.2 e (subst (Stands e) (sym follows.signed.1) (stands_left e w.signed follows.signed.0 there))
    ∙ step_settings w rest.0 s (every_safe legal_more ss w run) follows rest.1 e there
