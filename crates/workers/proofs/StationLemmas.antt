-- What workers did, at one station and at several.
use Rattle.std.proofs.Common.{◌≡◌, ℕ, ◌+◌, ◌-◌, ◌^◌, ◌<◌, ◌≤◌, List, [], ◌∷◌, ◌++◌, length, Some, refl, sym, ◌∙◌, ap, subst, append_assoc, arith, ⊎_elim, inl, inr}
use Rattle.std.specs.Prelude.{min, nat_lt, false, true, Bool, ◌||◌, flat_map, sum_by, ◌⊎◌}
use Rattle.std.specs.List.{AllByRecursion}
use Rattle.std.proofs.lemmas.Bool.Decides.{nat_tests}
use Rattle.std.proofs.lemmas.List.{append-nil}
use Rattle.std.proofs.lemmas.List.Sums.{sum_by-append}
use Rattle.atomic_table.specs.Seated.{TableId}
use Rattle.cmp_links.specs.declared.door.Door as doors
use Rattle.cmp_links.specs.declared.link.Link as links
use Rattle.cmp_ports.specs.Coming.{GivesAll}
use Rattle.cmp_ports.specs.Faults.{Rose, RoseBy}
use Rattle.cmp_ports.specs.declared.clock.Clock as clocks
use Rattle.cmp_ports.specs.declared.entropy.Entropy as entropies
use Rattle.deal_changes.specs.declared.change.Change.{Change}
use Rattle.deal_model.specs.Views.{History}
use Rattle.deal_table.specs.History.{Begins}
use Rattle.desk.specs.declared.clerk.Clerk as clerks
use Rattle.front.specs.Fronts.{Parts, replier_by}
use Rattle.reply_maker.specs.Replies.{Replier}
use Rattle.turnstile.specs.declared.view.View.{View}
use Rattle.turnstile.specs.declared.view.Stage.TheVariants.{Idle}
use Rattle.turnstile.specs.Views.{joined}
use Rattle.workers.specs.Accounts.{IsClean, AreAttended}
use Rattle.workers.specs.Badges.{view_of, seen_by, places_by, share_by, Splits}
use Rattle.workers.specs.Doors.{Served, readings_in, draws_in, places_in, failures_in, IsServed, IsRemembered, IsDoorServed}
use Rattle.workers.specs.Stations.{IsSound, IsAttended, AllAttended, AnyPair}
use Rattle.workers.specs.declared.account.Account.{Account}
use Rattle.workers.specs.declared.station.Station.{Station}
use Rattle.workers.specs.declared.tally.Tally.{Tally}
use Rattle.workers.proofs.DoorLemmas.{begins_trans, begins_self, neither}

-- ---- one station

pub same_some : {X : Type 0} (a b : X) → Some a ≡ Some b → a ≡ b
same_some a b e = cc

no_failure : {L : Type 0} (xs : List (Served L)) → AllByRecursion IsRemembered xs → sum_by failures_in xs ≡ 0 → AllByRecursion IsSound xs
no_failure [] kept none = tt
no_failure (x ∷ xs) kept none =
    let sums : sum_by failures_in (x ∷ xs) ≡ sum_by failures_in (x ∷ []) + sum_by failures_in xs = sum_by-append failures_in (x ∷ []) xs in
    (record { remembered = kept.0; unfailed = omega (arith, sums, none) }, no_failure xs kept.1 (omega (arith, sums, none)))

at_most : (m n : ℕ) → nat_lt m n ≡ false → n ≤ m
at_most m n e = grind (arith, nat_tests)

below : (m n : ℕ) → nat_lt m n ≡ true → m < n
below m n e = grind (arith, nat_tests)

-- answers told more failures than the disk had
drawn_wrong : (failures sum draws disks before now marks : ℕ) → failures ≡ min sum (2 ^ 64 - 1) → sum ≡ draws + disks → RoseBy draws before now → RoseBy disks 0 marks → marks < failures → Rose before now
drawn_wrong failures sum draws disks before now marks told counts entropy disk more = omega (arith, told, counts, entropy, disk, more)

module _ {K P Q S L C E G : Type 0} (ls : links.Ghosts L) (ds : doors.Ghosts S L) (ks : clerks.Ghosts K) (ps : clocks.Ghosts P) (qs : entropies.Ghosts Q) (cs : clocks.Ghosts C) (es : entropies.Ghosts E) where
  -- a front served streams at a door, over a seat's clerk, a lent clock and a lent entropy
  pub attended_one : (k : Replier) (table : TableId) (count : ℕ) (v w : View Change) (old new : Parts K P Q) (before after : S) (c0 c1 : C) (e0 e1 : E) (g0 g1 : G) (streams : List (Served L)) (tally : Tally) (a : Account)
      → IsDoorServed ls ds ks ps qs old new before after streams tally → length streams ≤ count → (tally.door ≡ false → length streams ≡ count) → (tally.door ≡ true → Rose (ds.faults before) (ds.faults after))
      → replier_by old.keys ≡ k → ks.seen old.clerk ≡ v.seen → ks.seen new.clerk ≡ w.seen → ks.mine old.clerk ≡ [] → ks.mine new.clerk ≡ w.mine → ks.faults old.clerk ≡ 0 → ks.faults new.clerk ≡ a.marks
      → ps.readings old.clock ≡ cs.readings c0 → ps.readings new.clock ≡ cs.readings c1 → qs.draws old.entropy ≡ es.draws e0 → qs.draws new.entropy ≡ es.draws e1 → qs.faults old.entropy ≡ es.faults e0 → qs.faults new.entropy ≡ es.faults e1
      → a.badge.table_id ≡ table → a.badge.views ≡ w ∷ [] → w.stage ≡ Idle → 0 < w.share → w.share ≡ v.share
      → a.door ≡ tally.door → a.memory ≡ tally.memory → a.entropy ≡ nat_lt a.marks tally.failures
      → AreAttended ls ds cs es k table count (v ∷ []) (record { door = before; clock = c0; entropy = e0; gate = g0 } ∷ []) (record { door = after; clock = c1; entropy = e1; gate = g1 } ∷ []) a
  attended_one k table count v w old new before after c0 c1 e0 e1 g0 g1 streams tally a d most all rose keys seen0 seen1 mine0 mine1 marks0 marks1 clock0 clock1 draws0 draws1 faults0 faults1 own views idle some share door memory entropy =
      let same : view_of a.badge.views ≡ w = ap view_of views in
      let seen : seen_by a.badge.views ≡ w.seen = ap (λ (u : View Change). u.seen) same in
      let begun : Begins v.seen w.seen = subst (λ (h : History). Begins h w.seen) seen0 (subst (λ (h : History). Begins (ks.seen old.clerk) h) seen1 d.grown) in
      let disks : RoseBy d.disk_faults 0 a.marks = subst (λ (n : ℕ). RoseBy d.disk_faults n a.marks) marks0 (subst (λ (n : ℕ). RoseBy d.disk_faults (ks.faults old.clerk) n) marks1 d.clerk_faults) in
      let draws : RoseBy d.draw_faults (es.faults e0) (es.faults e1) = subst (λ (n : ℕ). RoseBy d.draw_faults n (es.faults e1)) faults0 (subst (λ (n : ℕ). RoseBy d.draw_faults (qs.faults old.entropy) n) faults1 d.entropy_faults) in
      record {
        rests = record { own = own; one = views ∙ ap (λ (u : View Change). u ∷ []) (sym same); idle = ap (λ (u : View Change). u.stage) same ∙ idle; some = subst (λ (u : View Change). 0 < u.share) (sym same) some };
        share = ap (λ (u : View Change). u.share) same ∙ share;
        grown = subst (λ (h : History). Begins v.seen h) (sym seen) begun;
        attended = λ h begins. (
          places_by a.badge.views,
          [],
          sym (append-nil (places_by a.badge.views)),
          record {
            streams = streams;
            most = most;
            all = λ (well : IsClean a). all (sym door ∙ well.door);
            sound = λ (well : IsClean a).
                let low = at_most a.marks tally.failures (sym entropy ∙ well.entropy) in
                let told = d.failures in let disk = well.disk in
                no_failure streams (d.remembered (sym memory ∙ well.memory)) (omega (arith, low, told, disk));
            accepted = d.accepted;
            ended = d.ended;
            finished = d.finished;
            each = subst (λ (r : Replier). AllByRecursion (IsServed ls r v.seen h) streams) keys (subst (λ (g : History). AllByRecursion (IsServed ls (replier_by old.keys) g h) streams) seen0 (d.each h (subst (λ (g : History). Begins g h) (seen ∙ sym seen1) begins)));
            reads = subst (λ (r : _). GivesAll r (cs.readings c1) (flat_map readings_in streams)) clock0 (subst (λ (r : _). GivesAll (ps.readings old.clock) r (flat_map readings_in streams)) clock1 d.reads);
            drew = subst (λ (r : _). GivesAll r (es.draws e1) (flat_map draws_in streams)) draws0 (subst (λ (r : _). GivesAll (qs.draws old.entropy) r (flat_map draws_in streams)) draws1 d.drew);
            made = ap (λ (u : View Change). u.mine) same ∙ sym mine1 ∙ d.mine ∙ ap (λ (l : List ℕ). l ++ flat_map places_in streams) mine0;
          },
          refl,
        );
        door = λ e. inl (rose (sym door ∙ e));
        entropy = λ e. inl (drawn_wrong tally.failures (sum_by failures_in streams) d.draw_faults d.disk_faults (es.faults e0) (es.faults e1) a.marks d.failures d.counts draws disks (below a.marks tally.failures (sym entropy ∙ e)));
      }

-- ---- several stations

any_front : {X : Type 0} (P : X → X → Type 0) (ss ts ss' ts' : List X) → AnyPair P ss ts → AnyPair P (ss ++ ss') (ts ++ ts')
any_front P [] ts ss' ts' a = absurd a
any_front P (s ∷ ss) [] ss' ts' a = absurd a
any_front P (s ∷ ss) (t ∷ ts) ss' ts' (inl a) = inl a
any_front P (s ∷ ss) (t ∷ ts) ss' ts' (inr a) = inr (any_front P ss ts ss' ts' a)

any_back : {X : Type 0} (P : X → X → Type 0) (ss ts ss' ts' : List X) → length ss ≡ length ts → AnyPair P ss' ts' → AnyPair P (ss ++ ss') (ts ++ ts')
any_back P [] [] ss' ts' e a = a
any_back P [] (t ∷ ts) ss' ts' e a = absurd (omega (arith, e))
any_back P (s ∷ ss) [] ss' ts' e a = absurd (omega (arith, e))
any_back P (s ∷ ss) (t ∷ ts) ss' ts' e a = inr (any_back P ss ts ss' ts' (omega (arith, e)) a)

one_of : (a b : Bool) → (a || b) ≡ true → (a ≡ true) ⊎ (b ≡ true)
one_of true b e = inl refl
one_of false b e = inr e

module _ {S L C E G : Type 0} (ls : links.Ghosts L) (ds : doors.Ghosts S L) (cs : clocks.Ghosts C) (es : entropies.Ghosts E) (k : Replier) (h0 h : History) (count : ℕ) where
  attended_as : (P Q : Type 0) → (Q → P) → (s t : Station S C E G) (places : List ℕ) → IsAttended ls ds cs es k h0 h count P s t places → IsAttended ls ds cs es k h0 h count Q s t places
  attended_as P Q to s t places a = record {
    streams = a.streams;
    most = a.most;
    all = λ q. a.all (to q);
    sound = λ q. a.sound (to q);
    accepted = a.accepted;
    ended = a.ended;
    finished = a.finished;
    each = a.each;
    reads = a.reads;
    drew = a.drew;
    made = a.made;
  }

  as_many : (P : Type 0) (ss ts : List (Station S C E G)) (places : List ℕ) → AllAttended ls ds cs es k h0 h count P ss ts places → length ss ≡ length ts
  as_many P [] [] places a = refl
  as_many P [] (t ∷ ts) places a = absurd a
  as_many P (s ∷ ss) [] places a = absurd a
  as_many P (s ∷ ss) (t ∷ ts) places (own, more, e, one, rest) = let n = as_many P ss ts more rest in omega (arith, n)

  all_attended_as : (P Q : Type 0) → (Q → P) → (ss ts : List (Station S C E G)) (places : List ℕ) → AllAttended ls ds cs es k h0 h count P ss ts places → AllAttended ls ds cs es k h0 h count Q ss ts places
  all_attended_as P Q to [] [] places a = a
  all_attended_as P Q to [] (t ∷ ts) places a = absurd a
  all_attended_as P Q to (s ∷ ss) [] places a = absurd a
  all_attended_as P Q to (s ∷ ss) (t ∷ ts) places (own, more, e, one, rest) = (own, more, e, attended_as P Q to s t own one, all_attended_as P Q to ss ts more rest)

  attended_both : (P : Type 0) (ss ts ss' ts' : List (Station S C E G)) (xs ys : List ℕ) → AllAttended ls ds cs es k h0 h count P ss ts xs → AllAttended ls ds cs es k h0 h count P ss' ts' ys → AllAttended ls ds cs es k h0 h count P (ss ++ ss') (ts ++ ts') (xs ++ ys)
  attended_both P [] [] ss' ts' xs ys a b = subst (λ (l : List ℕ). AllAttended ls ds cs es k h0 h count P ss' ts' (l ++ ys)) (sym a) b
  attended_both P [] (t ∷ ts) ss' ts' xs ys a b = absurd a
  attended_both P (s ∷ ss) [] ss' ts' xs ys a b = absurd a
  attended_both P (s ∷ ss) (t ∷ ts) ss' ts' xs ys (own, more, e, one, rest) b = (own, more ++ ys, ap (λ (l : List ℕ). l ++ ys) e ∙ append_assoc own more ys, one, attended_both P ss ts ss' ts' more ys rest b)

module _ {S L C E G : Type 0} (ls : links.Ghosts L) (ds : doors.Ghosts S L) (cs : clocks.Ghosts C) (es : entropies.Ghosts E) where
  -- the account of two badges, of which one was split off
  pub attended_joined : (k : Replier) (table : TableId) (count : ℕ) (whole own rest : List (View Change)) (front front' back back' : List (Station S C E G)) (one others a : Account)
      → Splits whole own rest → AreAttended ls ds cs es k table count own front front' one → AreAttended ls ds cs es k table count rest back back' others
      → a.badge.table_id ≡ table → a.badge.views ≡ joined (view_of one.badge.views) (view_of others.badge.views) ∷ []
      → Begins (seen_by one.badge.views) (seen_by a.badge.views) → Begins (seen_by others.badge.views) (seen_by a.badge.views)
      → a.door ≡ (one.door || others.door) → a.entropy ≡ (one.entropy || others.entropy) → a.memory ≡ (one.memory || others.memory) → a.marks ≡ min (one.marks + others.marks) (2 ^ 64 - 1)
      → AreAttended ls ds cs es k table count whole (front ++ back) (front' ++ back') a
  attended_joined k table count whole own rest front front' back back' one others a splits x y at views first second door entropy memory marks =
      let same : view_of a.badge.views ≡ joined (view_of one.badge.views) (view_of others.badge.views) = ap view_of views in
      let seen_own : seen_by own ≡ seen_by whole = ap seen_by splits.given in
      let seen_rest : seen_by rest ≡ seen_by whole = ap seen_by splits.kept in
      let share_own : share_by own ≡ 1 = ap share_by splits.given in
      let share_rest : share_by rest ≡ share_by whole - 1 = ap share_by splits.kept in
      let shares : share_by a.badge.views ≡ share_by one.badge.views + share_by others.badge.views = ap (λ (u : View Change). u.share) same in
      let front_share = x.share in let back_share = y.share in let back_some = y.rests.some in
      let clean_one : IsClean a → IsClean one = λ (c : IsClean a). (
      let disk = c.disk in
      record { door = (neither one.door others.door (sym door ∙ c.door)).0; entropy = (neither one.entropy others.entropy (sym entropy ∙ c.entropy)).0; memory = (neither one.memory others.memory (sym memory ∙ c.memory)).0; disk = omega (arith, marks, disk) }) in
      let clean_others : IsClean a → IsClean others = λ (c : IsClean a). (
      let disk = c.disk in
      record { door = (neither one.door others.door (sym door ∙ c.door)).1; entropy = (neither one.entropy others.entropy (sym entropy ∙ c.entropy)).1; memory = (neither one.memory others.memory (sym memory ∙ c.memory)).1; disk = omega (arith, marks, disk) }) in
      let long : length front ≡ length front' = as_many ls ds cs es k (seen_by own) (seen_by one.badge.views) count (IsClean one) front front' (places_by one.badge.views) (x.attended (seen_by one.badge.views) (begins_self (seen_by one.badge.views))) in
      record {
        rests = record { own = at; one = views ∙ ap (λ (u : View Change). u ∷ []) (sym same); idle = ap (λ (u : View Change). u.stage) same; some = omega (arith, shares, back_some) };
        share = omega (arith, shares, front_share, back_share, share_own, share_rest, back_some);
        grown = subst (λ (h : History). Begins h (seen_by a.badge.views)) seen_own (begins_trans (seen_by own) (seen_by one.badge.views) (seen_by a.badge.views) x.grown first);
        attended = λ h begins.
            let all_own = all_attended_as ls ds cs es k (seen_by own) h count (IsClean one) (IsClean a) clean_one front front' (places_by one.badge.views) (x.attended h (begins_trans (seen_by one.badge.views) (seen_by a.badge.views) h first begins)) in
            let all_rest = all_attended_as ls ds cs es k (seen_by rest) h count (IsClean others) (IsClean a) clean_others back back' (places_by others.badge.views) (y.attended h (begins_trans (seen_by others.badge.views) (seen_by a.badge.views) h second begins)) in
            subst (λ (l : List ℕ). AllAttended ls ds cs es k (seen_by whole) h count (IsClean a) (front ++ back) (front' ++ back') l) (sym (ap (λ (u : View Change). u.mine) same))
            (attended_both ls ds cs es k (seen_by whole) h count (IsClean a) front front' back back' (places_by one.badge.views) (places_by others.badge.views)
            (subst (λ (g : History). AllAttended ls ds cs es k g h count (IsClean a) front front' (places_by one.badge.views)) seen_own all_own)
            (subst (λ (g : History). AllAttended ls ds cs es k g h count (IsClean a) back back' (places_by others.badge.views)) seen_rest all_rest));
        door = λ e. ⊎_elim
            (λ o. any_front (λ (s t : Station S C E G). Rose (ds.faults s.door) (ds.faults t.door)) front front' back back' (x.door o))
            (λ o. any_back (λ (s t : Station S C E G). Rose (ds.faults s.door) (ds.faults t.door)) front front' back back' long (y.door o))
            (one_of one.door others.door (sym door ∙ e));
        entropy = λ e. ⊎_elim
            (λ o. any_front (λ (s t : Station S C E G). Rose (es.faults s.entropy) (es.faults t.entropy)) front front' back back' (x.entropy o))
            (λ o. any_back (λ (s t : Station S C E G). Rose (es.faults s.entropy) (es.faults t.entropy)) front front' back back' long (y.entropy o))
            (one_of one.entropy others.entropy (sym entropy ∙ e));
      }
