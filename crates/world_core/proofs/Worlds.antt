-- Every step keeps a safe world safe, and follows from it.
use Rattle.std.proofs.Common.{◌≡◌, ◌≢◌, ℕ, zero, suc, ◌+◌, ◌-◌, ◌<◌, ◌≤◌, Bool, true, false, cond, List, [], ◌∷◌, ◌++◌, length, take, Option, Some, None, refl, sym, ap, subst, ◌∙◌, arith, inl, inr, ◌⊎◌, lit≤}
use Rattle.std.specs.Prelude.{IfSome}
use Rattle.std.specs.List.{slice_get, AllByRecursion}
use Rattle.std.proofs.lemmas.List.{length-append}
use Rattle.deal_changes.specs.declared.change.Change.{Change}
use Rattle.deal_model.specs.Views.{History, SignsWith}
use Rattle.deal_model.specs.Rules.{Allowed, Legal}
use Rattle.deal_model.specs.Laws.{GrowsLegally, EachLeafOnce, SignedAreTaken}
use Rattle.world_core.specs.declared.world.Signed.{Signed}
use Rattle.world_core.specs.declared.world.World.{World}
use Rattle.world_core.specs.declared.world.Step.{Step}
use Rattle.world_core.specs.declared.world.Step.TheVariants.{Found, Propose, Sync, SyncFail, Settle, Sign, Send, Crash, Reopen}
use Rattle.world_core.specs.Steps.{first_change, founded, with_place, with_change, Enabled, after, Leads, Run}
use Rattle.world_core.specs.Safety.{IsPlace, IsEntry, place_of, Safe, Begins, is_founding, Follows, SignedOnce}
use Rattle.world_core.proofs.Entries.{begins_same, begins_push, begins_then, begins_take, begins_length, begins_change, all_push, all_get, entries_later, places_later, place_begins, place_entries}
use Rattle.world_core.proofs.Beginning.{first_allowed}

one_change : (c : Change) → c ∷ [] ≢ []
one_change c e = cc

-- a world that was founded by this change
founded_safe : (c : Change) → Allowed [] c → Safe (record founded { durable = c ∷ [] })
founded_safe c a = record { legal = (one_change c, (a, tt)); single = inl refl; pending = tt; doubt = tt; acked_low = lit≤ tt; acked_high = lit≤ tt; signed = tt; sent = tt }

pub first_safe : Safe founded
first_safe = founded_safe first_change first_allowed

if_none : (o : Option Change) (P : Change → Type 0) → o ≡ None → IfSome o P
if_none None P e = tt
if_none (Some c) P e = absurd cc

-- the history with the change that is on its way is legal
change_legal : GrowsLegally → (h : History) (o : Option Change) → Legal h → IfSome o (Allowed h) → Legal (with_change h o)
change_legal grows h (Some c) legal allowed = grows h c legal allowed
change_legal grows h None legal allowed = legal

both_legal : GrowsLegally → (h : History) (o p : Option Change) → Legal h → (o ≡ None) ⊎ (p ≡ None) → IfSome o (Allowed h) → IfSome p (Allowed h) → Legal (with_change (with_change h o) p)
both_legal grows h None p legal single pending doubt = change_legal grows h p legal doubt
both_legal grows h (Some c) None legal single pending doubt = grows h c legal pending
both_legal grows h (Some c) (Some d) legal (inl none) pending doubt = absurd cc
both_legal grows h (Some c) (Some d) legal (inr none) pending doubt = absurd cc

crash_legal : GrowsLegally → (w : World) (keep : Bool) → Safe w → Legal (cond keep (with_change (with_change w.durable w.pending) w.doubt) w.durable)
crash_legal grows w true safe = both_legal grows w.durable w.pending w.doubt safe.legal safe.single safe.pending safe.doubt
crash_legal grows w false safe = safe.legal

crash_begins : (w : World) (keep : Bool) → Begins w.durable (cond keep (with_change (with_change w.durable w.pending) w.doubt) w.durable)
crash_begins w true = begins_then w.durable (with_change w.durable w.pending) (with_change (with_change w.durable w.pending) w.doubt) (begins_change w.durable w.pending) (begins_change (with_change w.durable w.pending) w.doubt)
crash_begins w false = begins_same w.durable

sync_acked : (w : World) → Safe w → w.acked ≤ length (with_change w.durable w.pending)
sync_acked w safe =
    let high : w.acked ≤ length w.durable = safe.acked_high in
    let more : length w.durable ≤ length (with_change w.durable w.pending) = begins_length w.durable (with_change w.durable w.pending) (begins_change w.durable w.pending) in
    omega arith

crash_acked : (w : World) (keep : Bool) → Safe w → w.acked ≤ length (cond keep (with_change (with_change w.durable w.pending) w.doubt) w.durable)
crash_acked w keep safe =
    let high : w.acked ≤ length w.durable = safe.acked_high in
    let more : length w.durable ≤ length (cond keep (with_change (with_change w.durable w.pending) w.doubt) w.durable) = begins_length w.durable (cond keep (with_change (with_change w.durable w.pending) w.doubt) w.durable) (crash_begins w keep) in
    omega arith

low_then : (a b : ℕ) → 1 ≤ a → a ≤ b → 1 ≤ b
low_then a b one le = omega arith

le_same : (n : ℕ) → n ≤ n
le_same n = omega arith

after_safe : GrowsLegally → (w : World) (s : Step) → Safe w → Enabled w s → Safe (after w s)
after_safe grows w (Found c) safe enabled = subst (λ (v : World). Safe (record v { durable = c ∷ [] })) (sym enabled.0) (founded_safe c enabled.1)
after_safe grows w (Propose c) safe enabled = record { legal = safe.legal; single = inr enabled.2; pending = enabled.3; doubt = safe.doubt; acked_low = safe.acked_low; acked_high = safe.acked_high; signed = safe.signed; sent = safe.sent }
after_safe grows w Sync safe enabled = record {
  legal = change_legal grows w.durable w.pending safe.legal safe.pending;
  single = inl refl;
  pending = tt;
  doubt = if_none w.doubt (Allowed (with_change w.durable w.pending)) (elim safe.single [ inl none ↦ absurd (let e : None ≡ Some enabled.1.0 = sym none ∙ enabled.1.1 in cc) | inr none ↦ none ]);
  acked_low = low_then w.acked (length (with_change w.durable w.pending)) safe.acked_low (sync_acked w safe);
  acked_high = le_same (length (with_change w.durable w.pending));
  signed = entries_later w.durable (with_change w.durable w.pending) w.acked (length (with_change w.durable w.pending)) w.signed (begins_change w.durable w.pending) (sync_acked w safe) safe.signed;
  sent = places_later w.acked (length (with_change w.durable w.pending)) w.sent (sync_acked w safe) safe.sent;
}
after_safe grows w SyncFail safe enabled = record { legal = safe.legal; single = inl refl; pending = tt; doubt = safe.pending; acked_low = safe.acked_low; acked_high = safe.acked_high; signed = safe.signed; sent = safe.sent }
after_safe grows w Settle safe enabled = record { legal = safe.legal; single = inr refl; pending = safe.pending; doubt = tt; acked_low = safe.acked_low; acked_high = safe.acked_high; signed = safe.signed; sent = safe.sent }
after_safe grows w (Sign n) safe enabled = record {
  legal = safe.legal;
  single = safe.single;
  pending = safe.pending;
  doubt = safe.doubt;
  acked_low = safe.acked_low;
  acked_high = safe.acked_high;
  signed = place_entries (with_place w.signed w.durable 1) w.durable w.acked n enabled.1 enabled.2 (place_entries w.signed w.durable w.acked 1 (lit≤ tt) safe.acked_low safe.signed);
  sent = safe.sent;
}
after_safe grows w (Send n) safe enabled = record { legal = safe.legal; single = safe.single; pending = safe.pending; doubt = safe.doubt; acked_low = safe.acked_low; acked_high = safe.acked_high; signed = safe.signed; sent = all_push (IsPlace w.acked) w.sent n safe.sent (enabled.1, enabled.2) }
after_safe grows w (Crash keep) safe enabled = record {
  legal = crash_legal grows w keep safe;
  single = inl refl;
  pending = tt;
  doubt = tt;
  acked_low = safe.acked_low;
  acked_high = crash_acked w keep safe;
  signed = entries_later w.durable (cond keep (with_change (with_change w.durable w.pending) w.doubt) w.durable) w.acked w.acked w.signed (crash_begins w keep) (le_same w.acked) safe.signed;
  sent = safe.sent;
}
after_safe grows w Reopen safe enabled = record {
  legal = safe.legal;
  single = safe.single;
  pending = safe.pending;
  doubt = safe.doubt;
  acked_low = low_then w.acked (length w.durable) safe.acked_low safe.acked_high;
  acked_high = le_same (length w.durable);
  signed = entries_later w.durable w.durable w.acked (length w.durable) w.signed (begins_same w.durable) safe.acked_high safe.signed;
  sent = places_later w.acked (length w.durable) w.sent safe.acked_high safe.sent;
}

step_safe : GrowsLegally → (w : World) (s : Step) (v : World) → Safe w → Leads w s v → Safe v
step_safe grows w s v safe (inl taken) = subst Safe (sym taken.1) (after_safe grows w s safe taken.0)
step_safe grows w s v safe (inr stays) = subst Safe (sym stays.1) safe

run_safe : GrowsLegally → (steps : List Step) (w v : World) → Safe w → Run w steps v → Safe v
run_safe grows [] w v safe run = subst Safe (sym run) safe
run_safe grows (s ∷ ss) w v safe run = run_safe grows ss run.0 v (step_safe grows w s run.0 safe run.1) run.2

pub every_safe : GrowsLegally → (steps : List Step) (w : World) → Run founded steps w → Safe w
every_safe grows steps w run = run_safe grows steps founded w first_safe run

-- ---- what a step keeps

stays : (w : World) (s : Step) → Follows w s w
stays w s = record { kept = λ _. refl; acked = le_same w.acked; signed = begins_same w.signed; sent = begins_same w.sent }

founding_step : (P : Type 0) → true ≡ false → P
founding_step P e = absurd cc

after_follows : (w : World) (s : Step) → Safe w → Enabled w s → Follows w s (after w s)
after_follows w (Found c) safe enabled = record { kept = λ e. founding_step _ e; acked = le_same w.acked; signed = begins_same w.signed; sent = begins_same w.sent }
after_follows w (Propose c) safe enabled = record { kept = λ _. refl; acked = le_same w.acked; signed = begins_same w.signed; sent = begins_same w.sent }
after_follows w Sync safe enabled = record { kept = λ _. begins_take w.durable (with_change w.durable w.pending) w.acked safe.acked_high (begins_change w.durable w.pending); acked = sync_acked w safe; signed = begins_same w.signed; sent = begins_same w.sent }
after_follows w SyncFail safe enabled = record { kept = λ _. refl; acked = le_same w.acked; signed = begins_same w.signed; sent = begins_same w.sent }
after_follows w Settle safe enabled = record { kept = λ _. refl; acked = le_same w.acked; signed = begins_same w.signed; sent = begins_same w.sent }
after_follows w (Sign n) safe enabled = record { kept = λ _. refl; acked = le_same w.acked; signed = begins_then w.signed (with_place w.signed w.durable 1) (with_place (with_place w.signed w.durable 1) w.durable n) (place_begins w.signed w.durable 1) (place_begins (with_place w.signed w.durable 1) w.durable n); sent = begins_same w.sent }
after_follows w (Send n) safe enabled = record { kept = λ _. refl; acked = le_same w.acked; signed = begins_same w.signed; sent = begins_push w.sent n }
after_follows w (Crash keep) safe enabled = record { kept = λ _. begins_take w.durable (cond keep (with_change (with_change w.durable w.pending) w.doubt) w.durable) w.acked safe.acked_high (crash_begins w keep); acked = le_same w.acked; signed = begins_same w.signed; sent = begins_same w.sent }
after_follows w Reopen safe enabled = record { kept = λ _. refl; acked = safe.acked_high; signed = begins_same w.signed; sent = begins_same w.sent }

step_follows : (w v : World) (s : Step) → Safe w → Leads w s v → Follows w s v
step_follows w v s safe (inl taken) = subst (Follows w s) (sym taken.1) (after_follows w s safe taken.0)
step_follows w v s safe (inr kept) = subst (Follows w s) (sym kept.1) (stays w s)

pub every_step : GrowsLegally → (steps : List Step) (w v : World) (s : Step) → Run founded steps w → Leads w s v → Follows w s v
every_step grows steps w v s run leads = step_follows w v s (every_safe grows steps w run) leads

-- ---- each leaf for one place

same_entry : (h : History) (acked : ℕ) (e f : Signed) → EachLeafOnce h → SignedAreTaken → IsEntry h acked e → IsEntry h acked f → e.key ≡ f.key → e.leaf ≡ f.leaf → place_of e.source ≡ place_of f.source
same_entry h acked e f once taken one two key leaf =
    let moved = subst (λ l. SignsWith two.change e.key l) (sym leaf) (subst (λ k. SignsWith two.change k f.leaf) (sym key) two.has) in
    let places : place_of e.source - 1 ≡ place_of f.source - 1 = once (place_of e.source - 1) (place_of f.source - 1) one.change two.change e.key e.leaf one.stands two.stands (taken one.change e.key e.leaf one.has) (taken two.change e.key e.leaf moved) in
    let low : 1 ≤ place_of e.source = one.low in
    let too : 1 ≤ place_of f.source = two.low in
    omega arith

pub every_signed : GrowsLegally → ((h : History) → Legal h → EachLeafOnce h) → SignedAreTaken → (steps : List Step) (w : World) → Run founded steps w → SignedOnce w
every_signed grows once taken steps w run i j e f at_i at_j key leaf =
    let safe = every_safe grows steps w run in
    same_entry w.durable w.acked e f (once w.durable safe.legal) taken (all_get (IsEntry w.durable w.acked) w.signed i e safe.signed at_i) (all_get (IsEntry w.durable w.acked) w.signed j f safe.signed at_j) key leaf
