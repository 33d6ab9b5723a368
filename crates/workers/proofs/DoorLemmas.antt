-- What a front does at a door, stream by stream.
use Rattle.std.proofs.Common.{◌≡◌, ◌≢◌, ℕ, zero, suc, ◌+◌, ◌-◌, ◌^◌, ◌≤◌, List, [], ◌∷◌, ◌++◌, length, Option, Some, None, refl, sym, ◌∙◌, ap, subst, append_assoc, length-append, le_refl, arith}
use Rattle.std.specs.Prelude.{min, false, true, Bool, ◌||◌, map, flat_map, sum_by, ◌<◌}
use Rattle.std.specs.List.{AllByRecursion}
use Rattle.std.specs.Io.KnownBytes.{Keeps}
use Rattle.std.proofs.lemmas.List.{append-nil, map-append}
use Rattle.std.proofs.lemmas.List.Sums.{sum_by-append}
use Rattle.cmp_links.specs.declared.door.Door as doors
use Rattle.cmp_links.specs.declared.end.EndCause.{EndCause}
use Rattle.cmp_links.specs.declared.end.EndCause.TheVariants.{NoMemory}
use Rattle.cmp_links.specs.declared.end.SessionEnd.{SessionEnd}
use Rattle.cmp_links.specs.declared.link.Link as links
use Rattle.cmp_links.specs.Links.{Adds, IsUntouched, Stays}
use Rattle.cmp_ports.specs.Coming.{GivesAll}
use Rattle.cmp_ports.specs.Faults.{counted}
use Rattle.cmp_ports.specs.declared.clock.Clock as clocks
use Rattle.cmp_ports.specs.declared.entropy.Entropy as entropies
use Rattle.cmp_ports.proofs.CountLemmas.{rose_by_none, rose_by_both, gives_none, gives_both}
use Rattle.deal_model.specs.Views.{History}
use Rattle.deal_table.specs.History.{Begins}
use Rattle.desk.specs.declared.clerk.Clerk as clerks
use Rattle.front.specs.Fronts.{Parts, replier_by}
use Rattle.http_heads.specs.Comings.{input}
use Rattle.reply_maker.specs.Replies.{Replier}
use Rattle.sessions.specs.Events.{readings_of, draws_of, done_places, lost_places}
use Rattle.sessions.specs.Links.{IsLinkServed}
use Rattle.sessions.specs.Sessions.{IsSession}
use Rattle.sessions.proofs.Stays.{is_session_sooner}
use Rattle.workers.specs.declared.tally.Tally.{Tally}
use Rattle.workers.specs.Doors.{Served, counted_by, AddsAll, handed, readings_in, draws_in, places_in, failures_in, IsServed, IsRemembered, IsDoorServed}
use Rattle.workers.specs.Tallies.{both, is_want_of_memory}

-- ---- lists

pub begins_trans : (xs ys zs : History) → Begins xs ys → Begins ys zs → Begins xs zs
begins_trans xs ys zs (a, e) (b, f) = (a ++ b, f ∙ ap (λ (l : History). l ++ b) e ∙ append_assoc xs a b)

pub begins_self : (xs : History) → Begins xs xs
begins_self xs = ([], sym (append-nil xs))

pub all_as : {X : Type 0} (P Q : X → Type 0) (xs : List X) → ((x : X) → P x → Q x) → AllByRecursion P xs → AllByRecursion Q xs
all_as P Q [] to a = tt
all_as P Q (x ∷ xs) to a = (to x a.0, all_as P Q xs to a.1)

pub all_both : {X : Type 0} (P : X → Type 0) (xs ys : List X) → AllByRecursion P xs → AllByRecursion P ys → AllByRecursion P (xs ++ ys)
all_both P [] ys a b = b
all_both P (x ∷ xs) ys a b = (a.0, all_both P xs ys a.1 b)

pub flat_map_both : {X A : Type 0} (f : X → List A) (xs ys : List X) → flat_map f (xs ++ ys) ≡ flat_map f xs ++ flat_map f ys
flat_map_both f [] ys = refl
flat_map_both f (x ∷ xs) ys = ap (λ (l : List _). f x ++ l) (flat_map_both f xs ys) ∙ sym (append_assoc (f x) (flat_map f xs) (flat_map f ys))

pub stays_itself : {X : Type 0} (o : Option (List X)) → Stays o o
stays_itself None = tt
stays_itself (Some xs) = refl

adds_none : {X : Type 0} (old new : Option (List X)) → Stays old new → AddsAll old new []
adds_none None new s = tt
adds_none (Some old) None s = absurd s
adds_none (Some old) (Some new) s = s ∙ sym (append-nil old)

adds_one : {X : Type 0} (old mid new : Option (List X)) (x : X) → Stays old mid → Adds mid new x → AddsAll old new (x ∷ [])
adds_one None mid new x s a = tt
adds_one (Some old) None new x s a = absurd s
adds_one (Some old) (Some mid) None x s a = absurd a
adds_one (Some old) (Some mid) (Some new) x s a = a ∙ ap (λ (l : List _). l ++ x ∷ []) s

adds_both : {X : Type 0} (old mid new : Option (List X)) (xs ys : List X) → AddsAll old mid xs → AddsAll mid new ys → AddsAll old new (xs ++ ys)
adds_both None mid new xs ys a b = tt
adds_both (Some old) None new xs ys a b = absurd a
adds_both (Some old) (Some mid) None xs ys a b = absurd b
adds_both (Some old) (Some mid) (Some new) xs ys a b = b ∙ ap (λ (l : List _). l ++ ys) a ∙ append_assoc old xs ys

counted_both : (m n before between after : ℕ) → between ≡ counted_by m before → after ≡ counted_by n between → after ≡ counted_by (m + n) before
counted_both m zero before between after a b = let e : m ≡ m + 0 = omega arith in b ∙ a ∙ ap (λ (k : ℕ). counted_by k before) e
counted_both m (suc n) before between after a b = let e : suc (m + n) ≡ m + suc n = omega arith in b ∙ ap counted (counted_both m n before between (counted_by n between) a refl) ∙ ap (λ (k : ℕ). counted_by k before) e

pub neither : (a b : Bool) → (a || b) ≡ false → (a ≡ false) × (b ≡ false)
neither false b e = (refl, e)
neither true b e = absurd (let f : true ≡ false = e in cc)

-- ---- streams at a door

module _ {L : Type 0} (ls : links.Ghosts L) where
  served_sooner : (k j : Replier) (h0 less h : History) → j ≡ k → Begins less h0 → (s : Served L) → IsServed ls j h0 h s → IsServed ls k less h s
  served_sooner k j h0 less h same begins s i = record {
    fresh = i.fresh;
    whole = i.whole;
    session = is_session_sooner k h0 h _ _ _ _ _ _ _ _ _ _ less begins (subst (λ (r : Replier). IsSession r h0 h (ls.left s.from) (ls.written s.from) (ls.written s.link) (ls.faults s.from) (ls.faults s.link) (readings_in s) (draws_in s) s.end s.events s.lost) same i.session);
  }

module _ {K C E S L : Type 0} (ls : links.Ghosts L) (ds : doors.Ghosts S L) (ks : clerks.Ghosts K) (cs : clocks.Ghosts C) (es : entropies.Ghosts E) where
  -- no stream
  pub door_none : (front : Parts K C E) (before after : S) (t : Tally) → ds.accepted after ≡ ds.accepted before → ds.ended after ≡ ds.ended before → Stays (ds.finished before) (ds.finished after) → ds.faults before ≤ ds.faults after → t.failures ≡ 0 → IsDoorServed ls ds ks cs es front front before after [] t
  door_none front before after t accepted ended finished later failures = record {
    accepted = accepted;
    ended = ended;
    finished = adds_none (ds.finished before) (ds.finished after) finished;
    each = λ h begins. tt;
    keys = refl;
    grown = begins_self (ks.seen front.clerk);
    held = refl;
    mine = sym (append-nil (ks.mine front.clerk));
    clock = refl;
    reads = gives_none (cs.readings front.clock);
    entropy = refl;
    drew = gives_none (es.draws front.entropy);
    failures = failures;
    draw_faults = 0;
    disk_faults = 0;
    counts = refl;
    entropy_faults = rose_by_none (es.faults front.entropy) (es.faults front.entropy) (le_refl (es.faults front.entropy));
    clerk_faults = rose_by_none (ks.faults front.clerk) (ks.faults front.clerk) (le_refl (ks.faults front.clerk));
    later = later;
    entropy_later = le_refl (es.faults front.entropy);
    remembered = λ e. tt;
  }

  -- one stream
  pub door_one : (old new : Parts K C E) (before between after : S) (s : Served L) (t : Tally) → ds.accepted between ≡ counted (ds.accepted before) → ds.ended between ≡ ds.ended before → Stays (ds.finished before) (ds.finished between)
      → ds.accepted after ≡ ds.accepted between → ds.ended after ≡ counted (ds.ended between) → Adds (ds.finished between) (ds.finished after) (handed s) → ds.faults before ≤ ds.faults after
      → IsUntouched (ls.faults s.from) (ls.gave s.from) (ls.written s.from) → Keeps (input (ls.gave s.from) (ls.left s.from)) (input (ls.gave s.link) (ls.left s.link))
      → (i : IsLinkServed ks cs es old new (ls.left s.from) (ls.written s.from) (ls.written s.link) (ls.faults s.from) (ls.faults s.link) s.end) → s.events ≡ i.events → s.lost ≡ i.lost
      → t.failures ≡ failures_in s → t.failures < 2 ^ 64 → (t.memory ≡ false → IsRemembered s) → IsDoorServed ls ds ks cs es old new before after (s ∷ []) t
  door_one old new before between after s t accepted ended finished accepted' ended' adds later fresh whole i events lost failures few memory =
      let reads : readings_in s ≡ readings_of i.events i.lost = rw (events, lost) refl in
      let draws : draws_in s ≡ draws_of i.events i.lost = rw (events, lost) refl in
      let mine : places_in s ≡ done_places s.end.notes ++ lost_places i.lost = rw lost refl in
      record {
        accepted = accepted' ∙ accepted;
        ended = ended' ∙ ap counted ended;
        finished = adds_one (ds.finished before) (ds.finished between) (ds.finished after) (handed s) finished adds;
        each = λ h begins. (record { fresh = fresh; whole = whole; session = rw (events, lost) (i.session h begins) }, tt);
        keys = i.keys;
        grown = i.grown;
        held = i.held;
        mine = i.mine ∙ ap (λ (l : List ℕ). ks.mine old.clerk ++ l) (sym (append-nil (places_in s) ∙ mine));
        clock = i.clock;
        reads = subst (λ (l : List ℕ). GivesAll (cs.readings old.clock) (cs.readings new.clock) l) (sym (append-nil (readings_in s) ∙ reads)) i.reads;
        entropy = i.entropy;
        drew = subst (λ (l : List (Option (List ℕ))). GivesAll (es.draws old.entropy) (es.draws new.entropy) l) (sym (append-nil (draws_in s) ∙ draws)) i.drew;
        failures = omega (arith, failures, few);
        draw_faults = i.draw_faults;
        disk_faults = i.disk_faults;
        counts = omega (arith, i.failures);
        entropy_faults = i.entropy_faults;
        clerk_faults = i.clerk_faults;
        later = later;
        entropy_later = i.entropy_later;
        remembered = λ e. (memory e, tt);
      }

  -- some streams, and then others
  pub door_both : (old mid new : Parts K C E) (before between after : S) (xs ys : List (Served L)) (a b : Tally) → IsDoorServed ls ds ks cs es old mid before between xs a → IsDoorServed ls ds ks cs es mid new between after ys b → IsDoorServed ls ds ks cs es old new before after (xs ++ ys) (both a b)
  door_both old mid new before between after xs ys a b x y =
      let long : length (xs ++ ys) ≡ length xs + length ys = length-append xs ys in
      let sums : sum_by failures_in (xs ++ ys) ≡ sum_by failures_in xs + sum_by failures_in ys = sum_by-append failures_in xs ys in
      let k = replier_by old.keys in
      record {
        accepted = counted_both (length xs) (length ys) (ds.accepted before) (ds.accepted between) (ds.accepted after) x.accepted y.accepted ∙ ap (λ (n : ℕ). counted_by n (ds.accepted before)) (sym long);
        ended = counted_both (length xs) (length ys) (ds.ended before) (ds.ended between) (ds.ended after) x.ended y.ended ∙ ap (λ (n : ℕ). counted_by n (ds.ended before)) (sym long);
        finished = subst (λ (l : List (L × SessionEnd)). AddsAll (ds.finished before) (ds.finished after) l) (sym (map-append handed xs ys)) (adds_both (ds.finished before) (ds.finished between) (ds.finished after) (map handed xs) (map handed ys) x.finished y.finished);
        each = λ h begins. all_both (IsServed ls k (ks.seen old.clerk) h) xs ys (x.each h (begins_trans (ks.seen mid.clerk) (ks.seen new.clerk) h y.grown begins))
            (all_as (IsServed ls (replier_by mid.keys) (ks.seen mid.clerk) h) (IsServed ls k (ks.seen old.clerk) h) ys (served_sooner ls k (replier_by mid.keys) (ks.seen mid.clerk) (ks.seen old.clerk) h (ap replier_by x.keys) x.grown) (y.each h begins));
        keys = y.keys ∙ x.keys;
        grown = begins_trans (ks.seen old.clerk) (ks.seen mid.clerk) (ks.seen new.clerk) x.grown y.grown;
        held = y.held ∙ x.held;
        mine = y.mine ∙ ap (λ (l : List ℕ). l ++ flat_map places_in ys) x.mine ∙ append_assoc (ks.mine old.clerk) (flat_map places_in xs) (flat_map places_in ys) ∙ ap (λ (l : List ℕ). ks.mine old.clerk ++ l) (sym (flat_map_both places_in xs ys));
        clock = y.clock ∙ x.clock;
        reads = subst (λ (l : List ℕ). GivesAll (cs.readings old.clock) (cs.readings new.clock) l) (sym (flat_map_both readings_in xs ys)) (gives_both (cs.readings old.clock) (cs.readings mid.clock) (cs.readings new.clock) (flat_map readings_in xs) (flat_map readings_in ys) x.reads y.reads);
        entropy = y.entropy ∙ x.entropy;
        drew = subst (λ (l : List (Option (List ℕ))). GivesAll (es.draws old.entropy) (es.draws new.entropy) l) (sym (flat_map_both draws_in xs ys)) (gives_both (es.draws old.entropy) (es.draws mid.entropy) (es.draws new.entropy) (flat_map draws_in xs) (flat_map draws_in ys) x.drew y.drew);
        failures = let e : min (a.failures + b.failures) (2 ^ 64 - 1) ≡ min (sum_by failures_in xs + sum_by failures_in ys) (2 ^ 64 - 1) = omega (arith, x.failures, y.failures) in e ∙ ap (λ (n : ℕ). min n (2 ^ 64 - 1)) (sym sums);
        draw_faults = x.draw_faults + y.draw_faults;
        disk_faults = x.disk_faults + y.disk_faults;
        counts = omega (arith, sums, x.counts, y.counts);
        entropy_faults = rose_by_both x.draw_faults y.draw_faults (es.faults old.entropy) (es.faults mid.entropy) (es.faults new.entropy) x.entropy_faults y.entropy_faults;
        clerk_faults = rose_by_both x.disk_faults y.disk_faults (ks.faults old.clerk) (ks.faults mid.clerk) (ks.faults new.clerk) x.clerk_faults y.clerk_faults;
        later = omega (arith, x.later, y.later);
        entropy_later = omega (arith, x.entropy_later, y.entropy_later);
        remembered = λ e. let n = neither a.memory b.memory e in all_both IsRemembered xs ys (x.remembered n.0) (y.remembered n.1);
      }

-- a cause that isn't want of memory
pub unforgotten : (cause : EndCause) → is_want_of_memory cause ≡ false → cause ≢ NoMemory
unforgotten cause e same = let f : true ≡ false = ap is_want_of_memory (sym same) ∙ e in cc
