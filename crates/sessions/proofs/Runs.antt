-- The answers of a front, one after the other, are a session.
use Rattle.std.proofs.Common.{◌≡◌, ◌≢◌, ℕ, ◌+◌, ◌≤◌, List, [], ◌∷◌, ◌++◌, length, map, count_by, cond, Option, Some, None, refl, sym, ◌∙◌, ap, subst, le_refl, arith}
use Rattle.std.specs.Prelude.{IfSome}
use Rattle.std.proofs.lemmas.List.Sums.{sum_by-cons}
use Rattle.cmp_ports.specs.Faults.{RoseBy}
use Rattle.cmp_ports.specs.declared.clock.Clock as clocks
use Rattle.cmp_ports.specs.declared.entropy.Entropy as entropies
use Rattle.cmp_ports.specs.declared.note.Note.{Note}
use Rattle.cmp_ports.specs.declared.note.Answered.{Answered}
use Rattle.cmp_ports.specs.declared.note.Answered.TheVariants as answered
use Rattle.cmp_links.specs.Ends.{is_failure}
use Rattle.cmp_links.specs.declared.end.EndCause.{EndCause}
use Rattle.cmp_links.specs.declared.end.EndCause.TheVariants.{Closed, Asked, Rejected, Limit, ReadFault, WriteFault, Unanswered, NoMemory}
use Rattle.cmp_links.specs.declared.end.SessionEnd.{SessionEnd}
use Rattle.deal_table.specs.Laws.{ReceiptsStay, DecidesByTheTime}
use Rattle.desk.specs.declared.clerk.Clerk as clerks
use Rattle.reply_maker.specs.Replies.{Replier}
use Rattle.front.specs.Fronts.{Parts, replier_by, IsFrontAnswer}
use Rattle.http_heads.specs.Requests.{Posted}
use Rattle.http_wire.specs.Sessions.{Exchange, note_of, AllAnswered, Breaks, IsServed, AreAsked, IsWritten}
use Rattle.sessions.specs.Events.{Event, Lost, exchange_of, lost_request, lost_reading, lost_draw, lost_places, readings_of, draws_of, done_places, AreNoted, last_place, IsLost}
use Rattle.sessions.specs.Sessions.{IsLostBy, IsSession}
use Rattle.sessions.specs.Links.{IsLinkServed}
use Rattle.sessions.proofs.Histories.{since_itself}
use Rattle.sessions.proofs.Places.{Ran, ran_none, ran_both}
use Rattle.sessions.proofs.Stays.{noted_later, are_noted_later, is_session_later}
use Rattle.sessions.proofs.Steps.{Stepped, stepped, Loses, loses}

-- ---- notes

abbrev pub noted : Event → Note
noted x = x.note

notes_of : (xs : List Event) → map note_of (map exchange_of xs) ≡ map noted xs
notes_of [] = refl
notes_of (x ∷ xs) = ap (λ (l : List Note). x.note ∷ l) (notes_of xs)

failures_more : (n : Note) (ns : List Note) → count_by is_failure (n ∷ ns) ≡ count_by is_failure (n ∷ []) + count_by is_failure ns
failures_more n ns = omega (arith, sum_by-cons (λ (x : Note). cond (is_failure x) 1 0) n ns)

failures_sum : (a b c i j m n : ℕ) → a ≡ b + c → b ≡ i + m → c ≡ j + n → a ≡ (i + j) + (m + n)
failures_sum a b c i j m n both one others = omega (arith, both, one, others)

rose_less : (m n before now : ℕ) → RoseBy (m + n) before now → RoseBy m before now
rose_less m n before now rose = omega (arith, rose)

module _ {K C E : Type 0} (ks : clerks.Ghosts K) (cs : clocks.Ghosts C) (es : entropies.Ghosts E) (stay : ReceiptsStay) (law : DecidesByTheTime) where
  -- ---- the messages that were answered

  pub record Chained (old : Parts K C E) (xs : List Event) (new : Parts K C E) : Type 0 where
    pub missed : ℕ
    pub failed : ℕ
    pub ran : Ran ks cs es old new (done_places (map noted xs)) (map (λ x. x.now) xs) (map (λ x. x.drawn) xs) missed failed
    pub failures : count_by is_failure (map noted xs) ≡ missed + failed
    pub told : (floor : ℕ) → floor ≤ length (ks.seen old.clerk) → AreNoted (replier_by old.keys) (ks.seen new.clerk) floor xs
    pub last : (floor : ℕ) → floor ≤ length (ks.seen old.clerk) → last_place floor xs ≤ length (ks.seen new.clerk)

  chain_none : (a : Parts K C E) → Chained a [] a
  chain_none a = record {
    missed = 0;
    failed = 0;
    ran = ran_none ks cs es a;
    failures = refl;
    told = λ floor le. le;
    last = λ floor le. le;
  }

  chain_more : (a m b : Parts K C E) (x : Event) (xs : List Event) → Stepped ks cs es a x m → Chained m xs b → Chained a (x ∷ xs) b
  chain_more a m b x xs s c = record {
    missed = s.missed + c.missed;
    failed = s.failed + c.failed;
    ran = ran_both ks cs es a m b _ _ _ _ _ _ s.missed c.missed s.failed c.failed s.ran c.ran;
    failures = failures_sum _ _ _ s.missed c.missed s.failed c.failed (failures_more x.note (map noted xs)) s.failures c.failures;
    told = λ floor le. (
      omega (arith, le, s.low),
      noted_later stay (replier_by a.keys) (ks.seen m.clerk) (ks.seen b.clerk) x c.ran.clerk.grown s.noted,
      subst (λ (k : Replier). AreNoted k (ks.seen b.clerk) x.note.place xs) (ap replier_by s.ran.keys) (c.told x.note.place s.noted.within),
    );
    last = λ floor le. c.last x.note.place s.noted.within;
  }

  -- ---- the session

  -- what is known of the last request, where it got no reply
  pub record Broken (mid : Parts K C E) (lost : Option Lost) (cause : EndCause) (new : Parts K C E) : Type 0 where
    pub missed : ℕ
    pub failed : ℕ
    pub ran : Ran ks cs es mid new (lost_places lost) (lost_reading lost) (lost_draw lost) missed failed
    pub ends : IsLostBy cause lost
    pub told : (floor : ℕ) → floor ≤ length (ks.seen mid.clerk) → IfSome lost (IsLost (replier_by mid.keys) (ks.seen new.clerk) floor)

  broken_none : (mid new : Parts K C E) (cause : EndCause) → new ≡ mid → cause ≢ Unanswered → Broken mid None cause new
  broken_none mid new cause same not = subst (λ (n : Parts K C E). Broken mid None cause n) (sym same) (record {
    missed = 0;
    failed = 0;
    ran = ran_none ks cs es mid;
    ends = not;
    told = λ floor le. tt;
  })

  broken_some : (mid new : Parts K C E) (x : Lost) → Loses ks cs es mid x new → Broken mid (Some x) NoMemory new
  broken_some mid new x l = record {
    missed = l.missed;
    failed = l.failed;
    ran = l.ran;
    ends = refl;
    told = l.lost;
  }

  module _ (left before after : Option (List ℕ)) (faults now : ℕ) where
    -- the whole, over what the clerk has seen at the end
    is_session : (old mid new : Parts K C E) (xs : List Event) (lost : Option Lost) (end : SessionEnd) → end.notes ≡ map noted xs → Chained old xs mid → Broken mid lost end.cause new → IfSome left (λ all. AreAsked all (map exchange_of xs) (lost_request lost) end.cause) → IsWritten left (map exchange_of xs) end.cause before after faults now
        → IsSession (replier_by old.keys) (ks.seen old.clerk) (ks.seen new.clerk) left before after faults now (readings_of xs lost) (draws_of xs lost) end xs lost
    is_session old mid new xs lost end notes c b asked written =
        let first = length (ks.seen old.clerk) in
        let all = ran_both ks cs es old mid new _ _ _ _ _ _ c.missed b.missed c.failed b.failed c.ran b.ran in
        record {
          begun = all.clerk.grown;
          notes = notes;
          noted = are_noted_later stay (replier_by old.keys) (ks.seen mid.clerk) (ks.seen new.clerk) first xs b.ran.clerk.grown (c.told first (le_refl first));
          ends = b.ends;
          unanswered = subst (λ (k : Replier). IfSome lost (IsLost k (ks.seen new.clerk) (last_place first xs))) (ap replier_by c.ran.keys) (b.told (last_place first xs) (c.last first (le_refl first)));
          read = refl;
          drew = refl;
          asked = asked;
          written = written;
        }

    pub link_served : (old mid new : Parts K C E) (xs : List Event) (lost : Option Lost) (end : SessionEnd) → end.notes ≡ map noted xs → Chained old xs mid → Broken mid lost end.cause new → IfSome left (λ all. AreAsked all (map exchange_of xs) (lost_request lost) end.cause) → IsWritten left (map exchange_of xs) end.cause before after faults now
        → IsLinkServed ks cs es old new left before after faults now end
    link_served old mid new xs lost end notes c b asked written =
        let s = is_session old mid new xs lost end notes c b asked written in
        let all = ran_both ks cs es old mid new _ _ _ _ _ _ c.missed b.missed c.failed b.failed c.ran b.ran in
        let places : done_places (map noted xs) ++ lost_places lost ≡ done_places end.notes ++ lost_places lost = ap (λ (l : List Note). done_places l ++ lost_places lost) (sym notes) in
        record {
          events = xs;
          lost = lost;
          session = λ h begins. is_session_later (replier_by old.keys) (ks.seen old.clerk) (ks.seen new.clerk) left before after faults now (readings_of xs lost) (draws_of xs lost) end xs lost stay h begins s;
          keys = all.keys;
          grown = all.clerk.grown;
          lawful = all.clerk.lawful;
          held = all.clerk.held;
          mine = all.clerk.mine ∙ ap (λ (l : List ℕ). ks.mine old.clerk ++ l) places;
          alone = λ alone. all.clerk.alone alone (length (ks.seen old.clerk)) (le_refl (length (ks.seen old.clerk))) ∙ ap (λ (l : List ℕ). l ++ (done_places (map noted xs) ++ lost_places lost)) (since_itself (ks.seen old.clerk)) ∙ places;
          clock = all.clock;
          reads = all.reads;
          entropy = all.entropy;
          drew = all.drew;
          draw_faults = c.missed;
          disk_faults = c.failed;
          failures = ap (count_by is_failure) notes ∙ c.failures;
          entropy_faults = rose_less c.missed b.missed _ _ all.rose;
          clerk_faults = rose_less c.failed b.failed _ _ all.clerk.rose;
          entropy_later = all.later;
          clerk_later = all.clerk.later;
        }

  -- ---- an answerer whose answers are those of a front

  module _ {A : Type 0} (answers : A → List ℕ → Answered → List ℕ → A → Type 0) (parts : A → Parts K C E) (sound : (a : A) (b : List ℕ) (end : Answered) (reply : List ℕ) (n : A) → answers a b end reply n → IsFrontAnswer ks cs es (parts a) b end reply (parts n)) where
    -- the exchanges are events
    pub record Events (a : A) (exchanges : List Exchange) (b : A) : Type 0 where
      pub events : List Event
      pub same : map exchange_of events ≡ exchanges
      pub chained : Chained (parts a) events (parts b)

    events_of : (a : A) (exchanges : List Exchange) (b : A) → AllAnswered answers a exchanges b → Events a exchanges b
    events_of a [] b same = record { events = []; same = refl; chained = subst (λ (n : A). Chained (parts a) [] (parts n)) (sym same) (chain_none (parts a)) }
    events_of a (x ∷ xs) b all =
        let f = sound a x.request (answered.Replied x.note) x.reply all.0 all.1 in
        let rest = events_of all.0 xs b all.2 in
        let e : Event = record { request = x.request; asks = x.asks; now = f.now; drawn = f.drawn; note = x.note; reply = x.reply } in
        record {
          events = e ∷ rest.events;
          same = ap (λ (l : List Exchange). x ∷ l) rest.same;
          chained = chain_more (parts a) (parts all.0) (parts b) e rest.events (stepped ks cs es stay law (parts a) (parts all.0) x.request x.asks x.note x.reply f) rest.chained;
        }

    -- how it ended
    pub record Ending (a : A) (request : Option Posted) (cause : EndCause) (b : A) : Type 0 where
      pub lost : Option Lost
      pub same : lost_request lost ≡ request
      pub broken : Broken (parts a) lost cause (parts b)

    never : (a : A) (r : Posted) (b : A) → answers a r.body answered.Failed [] b → ⊥
    never a r b all = (sound a r.body answered.Failed [] b all).end_is

    ending_of : (a : A) (request : Option Posted) (cause : EndCause) (b : A) → Breaks answers a request cause b → Ending a request cause b
    ending_of a None cause b breaks = record { lost = None; same = refl; broken = broken_none (parts a) (parts b) cause (ap parts breaks.0) breaks.1 }
    ending_of a (Some r) Unanswered b breaks = absurd (never a r b breaks)
    ending_of a (Some r) NoMemory b breaks =
        let f = sound a r.body breaks.0 breaks.1 b breaks.3 in
        let l = loses ks cs es stay law (parts a) (parts b) r.body r.asks breaks.0 breaks.1 breaks.2 f in
        let x : Lost = record { request = r.body; asks = r.asks; now = f.now; drawn = f.drawn; made = l.0 } in
        record { lost = Some x; same = refl; broken = broken_some (parts a) (parts b) x l.1 }
    ending_of a (Some r) Closed b breaks = absurd breaks
    ending_of a (Some r) Asked b breaks = absurd breaks
    ending_of a (Some r) (Rejected status) b breaks = absurd breaks
    ending_of a (Some r) Limit b breaks = absurd breaks
    ending_of a (Some r) ReadFault b breaks = absurd breaks
    ending_of a (Some r) WriteFault b breaks = absurd breaks

    pub served : (a b : A) (left before after : Option (List ℕ)) (faults now : ℕ) (end : SessionEnd) → IsServed answers a b left before after faults now end → IsLinkServed ks cs es (parts a) (parts b) left before after faults now end
    served a b left before after faults now end s =
        let e = events_of a s.exchanges s.mid s.answered in
        let l = ending_of s.mid s.lost end.cause b s.broken in
        link_served left before after faults now (parts a) (parts s.mid) (parts b) e.events l.lost end
        (s.notes ∙ ap (map note_of) (sym e.same) ∙ notes_of e.events) e.chained l.broken
        (subst (λ (r : Option Posted). IfSome left (λ all. AreAsked all (map exchange_of e.events) r end.cause)) (sym l.same)
        (subst (λ (xs : List Exchange). IfSome left (λ all. AreAsked all xs s.lost end.cause)) (sym e.same) s.asked))
        (subst (λ (xs : List Exchange). IsWritten left xs end.cause before after faults now) (sym e.same) s.written)
