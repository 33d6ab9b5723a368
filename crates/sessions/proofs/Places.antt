-- What some calls of a front did, one after the other: to its clerk, its clock and its entropy.
use Rattle.std.proofs.Common.{◌≡◌, ℕ, ◌+◌, ◌≤◌, List, [], ◌++◌, length, Option, refl, sym, ◌∙◌, ap, append_assoc, append-nil, le_refl, arith}
use Rattle.cmp_ports.specs.Coming.{GivesAll}
use Rattle.cmp_ports.specs.Faults.{RoseBy}
use Rattle.cmp_ports.specs.declared.clock.Clock as clocks
use Rattle.cmp_ports.specs.declared.entropy.Entropy as entropies
use Rattle.cmp_ports.proofs.CountLemmas.{rose_by_none, rose_by_both, gives_none, gives_both}
use Rattle.deal_table.specs.History.{Begins}
use Rattle.desk.specs.Clerks.{places_since}
use Rattle.desk.specs.declared.clerk.Clerk as clerks
use Rattle.desk.proofs.ClerkLemmas.{begins_longer}
use Rattle.front.specs.Clerks.{Clerked, clerked, IsAlone, IsLawful}
use Rattle.front.specs.Fronts.{Parts}
use Rattle.sessions.proofs.Histories.{begins_itself, begins_on}

-- ---- the clerk

-- It saw more of the history, and its own changes have these places; where it is alone, there are no others.
pub record Moved (old new : Clerked) (places : List ℕ) (faults : ℕ) : Type 0 where
  pub grown : Begins old.seen new.seen
  pub lawful : IsLawful old → IsLawful new
  pub held : new.held ≡ old.held
  pub mine : new.mine ≡ old.mine ++ places
  pub alone : IsAlone old → (opening : ℕ) → opening ≤ length old.seen → places_since opening new.seen ≡ places_since opening old.seen ++ places
  pub rose : RoseBy faults old.faults new.faults
  pub later : old.faults ≤ new.faults

moved_none : (a : Clerked) → Moved a a [] 0
moved_none a = record {
  grown = begins_itself a.seen;
  lawful = λ l. l;
  held = refl;
  mine = sym (append-nil a.mine);
  alone = λ alone opening le. sym (append-nil (places_since opening a.seen));
  rose = rose_by_none a.faults a.faults (le_refl a.faults);
  later = le_refl a.faults;
}

moved_both : (a b c : Clerked) (p q : List ℕ) (m n : ℕ) → Moved a b p m → Moved b c q n → Moved a c (p ++ q) (m + n)
moved_both a b c p q m n first second = record {
  grown = begins_on a.seen b.seen c.seen first.grown second.grown;
  lawful = λ l. second.lawful (first.lawful l);
  held = second.held ∙ first.held;
  mine = second.mine ∙ ap (λ (l : List ℕ). l ++ q) first.mine ∙ append_assoc a.mine p q;
  alone = λ alone opening le.
      second.alone (ap (λ h. h.table) first.held ∙ alone) opening (begins_longer opening a.seen b.seen le first.grown)
      ∙ ap (λ (l : List ℕ). l ++ q) (first.alone alone opening le) ∙ append_assoc (places_since opening a.seen) p q;
  rose = rose_by_both m n a.faults b.faults c.faults first.rose second.rose;
  later = omega (arith, first.later, second.later);
}

-- ---- all parts

module _ {K C E : Type 0} (ks : clerks.Ghosts K) (cs : clocks.Ghosts C) (es : entropies.Ghosts E) where
  -- What the front did, with the readings and the draws, and the faults of the entropy and of the clerk.
  pub record Ran (old new : Parts K C E) (places : List ℕ) (readings : List ℕ) (draws : List (Option (List ℕ))) (missed failed : ℕ) : Type 0 where
    pub keys : new.keys ≡ old.keys
    pub clerk : Moved (clerked ks old.clerk) (clerked ks new.clerk) places failed
    pub clock : cs.loan new.clock ≡ cs.loan old.clock
    pub reads : GivesAll (cs.readings old.clock) (cs.readings new.clock) readings
    pub entropy : es.loan new.entropy ≡ es.loan old.entropy
    pub drew : GivesAll (es.draws old.entropy) (es.draws new.entropy) draws
    pub rose : RoseBy missed (es.faults old.entropy) (es.faults new.entropy)
    pub later : es.faults old.entropy ≤ es.faults new.entropy

  pub ran_none : (a : Parts K C E) → Ran a a [] [] [] 0 0
  ran_none a = record {
    keys = refl;
    clerk = moved_none (clerked ks a.clerk);
    clock = refl;
    reads = gives_none (cs.readings a.clock);
    entropy = refl;
    drew = gives_none (es.draws a.entropy);
    rose = rose_by_none (es.faults a.entropy) (es.faults a.entropy) (le_refl (es.faults a.entropy));
    later = le_refl (es.faults a.entropy);
  }

  pub ran_both : (a b c : Parts K C E) (p q r s : List ℕ) (v w : List (Option (List ℕ))) (m n i j : ℕ) → Ran a b p r v m i → Ran b c q s w n j → Ran a c (p ++ q) (r ++ s) (v ++ w) (m + n) (i + j)
  ran_both a b c p q r s v w m n i j first second = record {
    keys = second.keys ∙ first.keys;
    clerk = moved_both (clerked ks a.clerk) (clerked ks b.clerk) (clerked ks c.clerk) p q i j first.clerk second.clerk;
    clock = second.clock ∙ first.clock;
    reads = gives_both (cs.readings a.clock) (cs.readings b.clock) (cs.readings c.clock) r s first.reads second.reads;
    entropy = second.entropy ∙ first.entropy;
    drew = gives_both (es.draws a.entropy) (es.draws b.entropy) (es.draws c.entropy) v w first.drew second.drew;
    rose = rose_by_both m n (es.faults a.entropy) (es.faults b.entropy) (es.faults c.entropy) first.rose second.rose;
    later = omega (arith, first.later, second.later);
  }
