-- An answer of a front is an event of a session: a message that was answered, or one that memory ran out for.
use Rattle.std.proofs.Common.{◌≡◌, ◌≢◌, ℕ, zero, suc, ◌+◌, ◌-◌, ◌<◌, ◌≤◌, List, [], ◌∷◌, ◌++◌, length, take, count_by, Option, Some, None, Bool, refl, sym, ◌∙◌, ap, subst, inl, inr, append-nil, arith}
use Rattle.std.specs.Prelude.{IfSome, slice_get}
use Rattle.std.proofs.lemmas.Option.{none-some}
use Rattle.cmp_values.specs.declared.fail_info.FailInfo.TheVariants as fails
use Rattle.cmp_ports.specs.Coming.{latest}
use Rattle.cmp_ports.specs.Faults.{RoseBy}
use Rattle.cmp_ports.specs.declared.clock.Clock as clocks
use Rattle.cmp_ports.specs.declared.entropy.Entropy as entropies
use Rattle.cmp_ports.specs.declared.note.Note.{Note}
use Rattle.cmp_ports.specs.declared.note.Answered.{Answered}
use Rattle.cmp_ports.specs.declared.note.Answered.TheVariants.{Replied, Failed, NoMemory}
use Rattle.cmp_ports.specs.declared.note.Outcome.{Outcome}
use Rattle.cmp_ports.specs.declared.note.Outcome.TheVariants.{Done, Again, Refused, SystemFailure}
use Rattle.cmp_ports.proofs.CountLemmas.{rose_by_one, rose_by_none, gives_one}
use Rattle.cmp_links.specs.Ends.{is_failure}
use Rattle.deal_changes.specs.declared.change.Change.{Change}
use Rattle.deal_model.specs.Views.{History}
use Rattle.deal_table.specs.History.{Begins, event_time, receipt_at}
use Rattle.deal_table.specs.Laws.{DecidesByTheTime}
use Rattle.deal_table.specs.Message.{Letter, echo_of, echo_to}
use Rattle.deal_table.specs.Table.{Decision, Makes, Repeats, Refuses, Asks, decision}
use Rattle.desk.specs.Clerks.{places_since}
use Rattle.desk.specs.declared.clerk.Clerk as clerks
use Rattle.desk.proofs.ClerkLemmas.{gains_nothing, gains_one}
use Rattle.letter_laws.specs.Laws.{HasLetter}
use Rattle.reply_maker.specs.Refusals.{refusal_of}
use Rattle.reply_maker.specs.Replies.{Replier}
use Rattle.deal_table.specs.Laws.{ReceiptsStay}
use Rattle.front.specs.Answers.{ForLetter, addressed, IsDecision, IsOwn, IsReplyAt, IsAnswer, IsOutcome, IsFailure, after}
use Rattle.front.specs.Clerks.{Clerked, clerked, IsAlone, IsLawful, Goes}
use Rattle.front.specs.Ends.{done_place, IsReply, IsDown, IsIdle, IsUnanswered, IsReplyFor, IsReplied, IsSpent}
use Rattle.front.specs.Fronts.{Parts, replier_by, IsCounted, IsFrontAnswer}
use Rattle.sessions.specs.Events.{Event, Lost, lone_place, length_before, known, before, IsNotedAs, IsWorded, IsNoted, IsMadeAt, IsLost}
use Rattle.sessions.proofs.Histories.{begins_low, take_begun, stands_at, before_after, long_after, since_same}
use Rattle.sessions.proofs.Places.{Moved, Ran}
use Rattle.sessions.proofs.Stays.{reply_stays}

reply_later : ReceiptsStay → (k : Replier) (g h : History) (place : ℕ) (reply : List ℕ) → Begins g h → IsReplyAt k g place reply → IsReplyAt k h place reply
reply_later stay k g h place reply (more, e) r = subst (λ (l : History). IsReplyAt k l place reply) (sym e) (reply_stays stay k g more place reply r)

-- ---- what is noted of an answer

-- a message was answered over the history g
noted_by : (k : Replier) (h g : History) (x : Event) (o : Outcome) → HasLetter x.request → x.now ≤ latest → Begins g h → x.note.outcome ≡ o → length_before x.note.place o ≡ length g → x.note.place ≤ length h → x.note.time ≡ event_time g x.now → IsWorded x.drawn x.note → IsNotedAs k h g x o → IsNoted k h x
noted_by k h g x o letter timely begun is len within time words answered =
    let same : before h x.note ≡ g = ap (λ (p : Outcome). take (length_before x.note.place p) h) is ∙ ap (λ (n : ℕ). take n h) len ∙ take_begun g h begun in
    record {
      letter = letter;
      timely = timely;
      within = within;
      time = time ∙ ap (λ (l : History). event_time l x.now) (sym same);
      words = words;
      answered = subst (λ (l : History). IsNotedAs k h l x x.note.outcome) (sym same) (subst (λ (p : Outcome). IsNotedAs k h g x p) (sym is) answered);
    }

-- a decision asks the event's time of the reading, and the words that were noted
decided_at : DecidesByTheTime → (k : Replier) (b : List ℕ) (g : History) (now t : ℕ) (w v : List ℕ) (d : Decision) → t ≡ event_time g now → v ≡ w → IsDecision k b g now w d → IsDecision k b g t v d
decided_at law k b g now t w v d time words is = λ l letter.
    ap (λ (n : ℕ). addressed l (decision g l n v)) time ∙ ap (λ (x : List ℕ). addressed l (decision g l (event_time g now) x)) words ∙ ap (addressed l) (law g l now w) ∙ is l letter

refused_at : (k : Replier) (b : List ℕ) (g : History) (reply : List ℕ) (now t : ℕ) (w v : List ℕ) (f : ℕ → List ℕ → Letter → List ℕ) → t ≡ event_time g now → v ≡ w → ForLetter k b (λ l. reply ≡ f (event_time g now) w l) → ForLetter k b (λ l. reply ≡ f t v l)
refused_at k b g reply now t w v f time words is = λ l letter.
    is l letter ∙ ap (λ (n : ℕ). f n w l) (sym time) ∙ ap (λ (x : List ℕ). f t x l) (sym words)

module _ (stay : ReceiptsStay) (law : DecidesByTheTime) (k : Replier) where
  -- how it ends, by what was decided
  pub record Noted (h g : History) (x : Event) : Type 0 where
    pub low : known x.note ≡ length g
    pub noted : IsNoted k h x

  noted_with : (h g : History) (x : Event) (o : Outcome) → HasLetter x.request → x.now ≤ latest → Begins g h → x.note.outcome ≡ o → length_before x.note.place o ≡ length g → x.note.place ≤ length h → x.note.time ≡ event_time g x.now → IsWorded x.drawn x.note → IsNotedAs k h g x o → Noted h g x
  noted_with h g x o letter timely begun is len within time words answered = record {
    low = ap (length_before x.note.place) is ∙ len;
    noted = noted_by k h g x o letter timely begun is len within time words answered;
  }

  answer_noted : (h g : History) (x : Event) (w : List ℕ) (d : Decision) → x.drawn ≡ Some w → HasLetter x.request → x.now ≤ latest → Begins (after g d) h → IsDecision k x.request g x.now w d → IsOutcome d x.note.outcome → x.note.place ≡ length (after g d) → x.note.time ≡ event_time g x.now → x.note.words ≡ w → IsAnswer k x.request g x.now w d x.reply → Noted h g x
  answer_noted h g x w (Makes c) drew letter timely upto decided o place time words answer =
      let one : x.note.place - 1 ≡ length g = omega (arith, place, long_after g c) in
      noted_with h g x Done letter timely (before_after g h c upto) o one (subst (λ (n : ℕ). n ≤ length h) (sym place) (begins_low (g ++ c ∷ []) h upto)) time
      (subst (λ (d : Option (List ℕ)). IsWorded d x.note) (sym drew) words) (
        c,
        ap (slice_get h) one ∙ stands_at g h c upto,
        decided_at law k x.request g x.now x.note.time w x.note.words (Makes c) time words decided,
        reply_later stay k (g ++ c ∷ []) h x.note.place x.reply upto (subst (λ (n : ℕ). IsReplyAt k (g ++ c ∷ []) n x.reply) (sym place) answer),
      )
  answer_noted h g x w (Repeats at) drew letter timely upto decided o place time words answer =
      noted_with h g x Again letter timely upto o place (subst (λ (n : ℕ). n ≤ length h) (sym place) (begins_low g h upto)) time
      (subst (λ (d : Option (List ℕ)). IsWorded d x.note) (sym drew) words)
      (at, decided_at law k x.request g x.now x.note.time w x.note.words (Repeats at) time words decided, reply_later stay k g h at x.reply upto answer)
  answer_noted h g x w (Refuses fail to) drew letter timely upto decided o place time words answer =
      noted_with h g x (Refused fail) letter timely upto o place (subst (λ (n : ℕ). n ≤ length h) (sym place) (begins_low g h upto)) time
      (subst (λ (d : Option (List ℕ)). IsWorded d x.note) (sym drew) words) (
        to,
        decided_at law k x.request g x.now x.note.time w x.note.words (Refuses fail to) time words decided,
        refused_at k x.request g x.reply x.now x.note.time w x.note.words (λ n v l. refusal_of k.keys (echo_to l to.outer) fail to.guard n (Some v)) time words answer,
      )
  answer_noted h g x w (Asks at) drew letter timely upto decided o place time words answer = absurd o

  failure_noted : (old h : History) (x : Event) → HasLetter x.request → x.now ≤ latest → IsWorded x.drawn x.note → (f : IsFailure k x.request old h x.now x.note x.reply) → Noted h f.known x
  failure_noted old h x letter timely words f =
      noted_with h f.known x SystemFailure letter timely f.upto f.outcome f.place (subst (λ (n : ℕ). n ≤ length h) (sym f.place) (begins_low f.known h f.upto)) f.time words
      (λ l is. f.answer l is ∙ ap (λ (t : ℕ). refusal_of k.keys (echo_of l.message.header) fails.SystemFailure None t None) (sym f.time))

-- ---- the clerk's part

-- what a decision does to the places of a clerk that is alone
places_after : (h new : History) (d : Decision) (o : Outcome) (place : ℕ) → IsOutcome d o → new ≡ after h d → place ≡ length (after h d) → (opening : ℕ) → opening ≤ length h → places_since opening new ≡ places_since opening h ++ done_place place o
places_after h new (Makes c) o place is grown there opening le =
    (gains_one opening h new c place le grown (there ∙ ap (λ (l : History). length l) (sym grown))).mine ∙ ap (λ (p : Outcome). places_since opening h ++ done_place place p) (sym is)
places_after h new (Repeats at) o place is grown there opening le =
    (gains_nothing opening h new grown).mine ∙ ap (λ (p : Outcome). places_since opening h ++ done_place place p) (sym is)
places_after h new (Refuses fail to) o place is grown there opening le =
    (gains_nothing opening h new grown).mine ∙ ap (λ (p : Outcome). places_since opening h ++ done_place place p) (sym is)
places_after h new (Asks at) o place is grown there opening le = absurd is

-- how a clerk went, but for its places
record Went (old new : Clerked) : Type 0 where
  grown : Begins old.seen new.seen
  lawful : IsLawful new
  held : new.held ≡ old.held
  later : old.faults ≤ new.faults

-- it made nothing
moved_idle : (old new : Clerked) (failed : ℕ) → Went old new → new.mine ≡ old.mine → (IsAlone old → new.seen ≡ old.seen) → RoseBy failed old.faults new.faults → Moved old new [] failed
moved_idle old new failed went mine alone rose = record {
  grown = went.grown;
  lawful = λ l. went.lawful;
  held = went.held;
  mine = mine ∙ sym (append-nil old.mine);
  alone = λ is opening le. since_same opening old.seen new.seen (alone is);
  rose = rose;
  later = went.later;
}

moved_with : (old new : Clerked) (places : List ℕ) → Went old new → new.mine ≡ old.mine ++ places → (IsAlone old → (opening : ℕ) → opening ≤ length old.seen → places_since opening new.seen ≡ places_since opening old.seen ++ places) → Moved old new places 0
moved_with old new places went mine alone = record {
  grown = went.grown;
  lawful = λ l. went.lawful;
  held = went.held;
  mine = mine;
  alone = alone;
  rose = rose_by_none old.faults new.faults went.later;
  later = went.later;
}

-- by how much the entropy's faults rise with a draw
abbrev pub missed_by : Option (List ℕ) → ℕ
missed_by (Some w) = 0
missed_by None = 1

abbrev pub failures_of : Note → ℕ
failures_of n = count_by is_failure (n ∷ [])

-- what a note of this outcome counts as a failure
one_failure : (n : Note) (o : Outcome) → n.outcome ≡ o → failures_of n ≡ count_by is_failure (record { place = n.place; time = n.time; words = n.words; outcome = o } ∷ [])
one_failure n o e = ap (λ (p : Outcome). failures_of (record { place = n.place; time = n.time; words = n.words; outcome = p })) e

module _ (stay : ReceiptsStay) (law : DecidesByTheTime) (k : Replier) where
  -- what an answer of the clerk's front is to the clerk
  pub record Answers (old new : Clerked) (x : Event) : Type 0 where
    pub low : length old.seen ≤ known x.note
    pub noted : IsNoted k new.seen x
    pub failed : ℕ
    pub moved : Moved old new (done_place x.note.place x.note.outcome) failed
    pub failures : failures_of x.note ≡ missed_by x.drawn + failed

  replied_well : (old new : Clerked) (x : Event) (w : List ℕ) → Went old new → HasLetter x.request → x.now ≤ latest → x.drawn ≡ Some w → failures_of x.note ≡ 0 → IsReply k x.request old new x.now w x.note x.reply → Answers old new x
  replied_well old new x w went letter timely drew none r =
      let a = r.answered in
      let n = answer_noted stay law k new.seen a.before x w a.what drew letter timely a.upto a.decided a.outcome a.place a.time a.words a.answer in
      record {
        low = subst (λ (m : ℕ). length old.seen ≤ m) (sym n.low) (begins_low old.seen a.before a.begun);
        noted = n.noted;
        failed = 0;
        moved = moved_with old new (done_place x.note.place x.note.outcome) went r.mine
            (λ alone. places_after old.seen new.seen a.what x.note.outcome x.note.place a.outcome ((r.alone alone).1 ∙ ap (λ (h : History). after h a.what) (r.alone alone).0)
            (a.place ∙ ap (λ (h : History). length (after h a.what)) (r.alone alone).0));
        failures = none ∙ ap (λ (d : Option (List ℕ)). missed_by d + 0) (sym drew);
      }

  replied_down : (old new : Clerked) (x : Event) (failed : ℕ) → Went old new → HasLetter x.request → x.now ≤ latest → IsWorded x.drawn x.note → missed_by x.drawn + failed ≡ 1 → RoseBy failed old.faults new.faults → IsDown k x.request old new x.now x.note x.reply → Answers old new x
  replied_down old new x failed went letter timely words one rose d =
      let n = failure_noted stay law k old.seen new.seen x letter timely words d.failure in
      record {
        low = subst (λ (m : ℕ). length old.seen ≤ m) (sym n.low) (begins_low old.seen d.failure.known d.failure.begun);
        noted = n.noted;
        failed = failed;
        moved = subst (λ (o : Outcome). Moved old new (done_place x.note.place o) failed) (sym d.failure.outcome) (moved_idle old new failed went d.mine (λ alone. (d.alone alone).1) rose);
        failures = one_failure x.note SystemFailure d.failure.outcome ∙ sym one;
      }

  replied_for : (old new : Clerked) (x : Event) (w : List ℕ) (o : Outcome) → Went old new → HasLetter x.request → x.now ≤ latest → x.drawn ≡ Some w → x.note.outcome ≡ o → IsReplyFor k x.request old new x.now w x.note x.reply o → Answers old new x
  replied_for old new x w Done went letter timely drew is r = replied_well old new x w went letter timely drew (one_failure x.note Done is) r
  replied_for old new x w Again went letter timely drew is r = replied_well old new x w went letter timely drew (one_failure x.note Again is) r
  replied_for old new x w (Refused fail) went letter timely drew is r = replied_well old new x w went letter timely drew (one_failure x.note (Refused fail) is) r
  replied_for old new x w SystemFailure went letter timely drew is r = replied_down old new x 1 went letter timely
      (subst (λ (d : Option (List ℕ)). IsWorded d x.note) (sym drew) r.words)
      (ap (λ (d : Option (List ℕ)). missed_by d + 1) drew) (rose_by_one old.faults new.faults r.rose) r.down

  replied_by : (old new : Clerked) (x : Event) (d : Option (List ℕ)) → Went old new → HasLetter x.request → x.now ≤ latest → x.drawn ≡ d → IsReplied k x.request old new x.now d x.note x.reply → Answers old new x
  replied_by old new x (Some w) went letter timely drew r = replied_for old new x w x.note.outcome went letter timely drew refl r
  replied_by old new x None went letter timely drew r = replied_down old new x 0 went letter timely
      (subst (λ (d : Option (List ℕ)). IsWorded d x.note) (sym drew) (r.words, r.down.failure.outcome))
      (ap (λ (d : Option (List ℕ)). missed_by d + 0) drew) (rose_by_none old.faults new.faults went.later) r.down

-- ---- a message that was answered

missed_rose : (d : Option (List ℕ)) (before now : ℕ) → IsCounted d before now → RoseBy (missed_by d) before now
missed_rose (Some w) before now same = rose_by_none before now (omega (arith, same))
missed_rose None before now rose = rose_by_one before now rose.0

counted_later : (d : Option (List ℕ)) (before now : ℕ) → IsCounted d before now → before ≤ now
counted_later (Some w) before now same = omega (arith, same)
counted_later None before now rose = rose.1

module _ {K C E : Type 0} (ks : clerks.Ghosts K) (cs : clocks.Ghosts C) (es : entropies.Ghosts E) where
  went_by : (old new : K) (Own : Change → Type 0) → Goes ks old new Own → Went (clerked ks old) (clerked ks new)
  went_by old new Own g = record { grown = g.grown; lawful = g.lawful; held = g.held; later = g.later }

  -- what an answer did to the parts, but for the clerk
  ran_by : (old new : Parts K C E) (b : List ℕ) (end : Answered) (reply : List ℕ) (places : List ℕ) (failed : ℕ) → (a : IsFrontAnswer ks cs es old b end reply new) → Moved (clerked ks old.clerk) (clerked ks new.clerk) places failed
      → Ran ks cs es old new places (a.now ∷ []) (a.drawn ∷ []) (missed_by a.drawn) failed
  ran_by old new b end reply places failed a moved = record {
    keys = a.keys;
    clerk = moved;
    clock = a.clock;
    reads = gives_one (cs.readings old.clock) (cs.readings new.clock) a.now a.reads;
    entropy = a.entropy;
    drew = gives_one (es.draws old.entropy) (es.draws new.entropy) a.drawn a.draws;
    rose = missed_rose a.drawn (es.faults old.entropy) (es.faults new.entropy) a.counted;
    later = counted_later a.drawn (es.faults old.entropy) (es.faults new.entropy) a.counted;
  }

  -- An answer was an event.
  pub record Stepped (old : Parts K C E) (x : Event) (new : Parts K C E) : Type 0 where
    pub low : length (ks.seen old.clerk) ≤ known x.note
    pub noted : IsNoted (replier_by old.keys) (ks.seen new.clerk) x
    pub missed : ℕ
    pub failed : ℕ
    pub ran : Ran ks cs es old new (done_place x.note.place x.note.outcome) (x.now ∷ []) (x.drawn ∷ []) missed failed
    pub failures : failures_of x.note ≡ missed + failed

  pub stepped : ReceiptsStay → DecidesByTheTime → (old new : Parts K C E) (b : List ℕ) (asks : Bool) (note : Note) (reply : List ℕ) → (a : IsFrontAnswer ks cs es old b (Replied note) reply new)
      → Stepped old (record { request = b; asks = asks; now = a.now; drawn = a.drawn; note = note; reply = reply }) new
  stepped stay law old new b asks note reply a =
      let x : Event = record { request = b; asks = asks; now = a.now; drawn = a.drawn; note = note; reply = reply } in
      let r = replied_by stay law (replier_by old.keys) (clerked ks old.clerk) (clerked ks new.clerk) x a.drawn (went_by old.clerk new.clerk _ a.goes) a.letter a.timely refl a.end_is in
      record {
        low = r.low;
        noted = r.noted;
        missed = missed_by a.drawn;
        failed = r.failed;
        ran = ran_by old new b (Replied note) reply (done_place note.place note.outcome) r.failed a r.moved;
        failures = r.failures;
      }

-- ---- a message that got no reply

-- the place of the change that a reply would have told
abbrev pub reply_made : ℕ → Outcome → Option ℕ
reply_made place Done = Some place
reply_made place Again = None
reply_made place (Refused fail) = None
reply_made place SystemFailure = None

made_is : (place : ℕ) (o : Outcome) → done_place place o ≡ lone_place (reply_made place o)
made_is place Done = refl
made_is place Again = refl
made_is place (Refused fail) = refl
made_is place SystemFailure = refl

placed : (k : Replier) (h : History) (place : ℕ) (reply : List ℕ) → IsReplyAt k h place reply → 1 ≤ place
unfolding receipt_at
placed k h zero reply r = absurd (none-some r.receipt r.stands)
placed k h (suc n) reply r = omega arith

-- a change of this message's own stands behind the history g
made_at : (k : Replier) (h g : History) (x : Lost) (place : ℕ) (w : List ℕ) (c : Change) → x.drawn ≡ Some w → place ≡ length (g ++ c ∷ []) → Begins (g ++ c ∷ []) h → IsOwn k x.request g x.now w c → IsMadeAt k h x place
made_at k h g x place w c drew there upto own =
    let one : place - 1 ≡ length g = omega (arith, there, long_after g c) in
    record {
      words = w;
      drawn = drew;
      change = c;
      stands = ap (slice_get h) one ∙ stands_at g h c upto;
      own = subst (λ (l : History). IsOwn k x.request l x.now w c) (sym (ap (λ (n : ℕ). take n h) one ∙ take_begun g h (before_after g h c upto))) own;
    }

-- the words that were drawn, where the outcome isn't that the service failed
worded_done : (d : Option (List ℕ)) (n : Note) → IsWorded d n → n.outcome ≡ Done → (w : List ℕ) × (d ≡ Some w) × (n.words ≡ w)
worded_done (Some w) n words is = (w, refl, words)
worded_done None n words is = absurd (let e : Done ≡ SystemFailure = sym is ∙ words.1 in cc)

module _ (law : DecidesByTheTime) (k : Replier) where
  -- the decision by the time of the note is that by the reading
  own_again : (b : List ℕ) (g : History) (now t : ℕ) (v w : List ℕ) (c : Change) → t ≡ event_time g now → v ≡ w → IsOwn k b g t v c → IsOwn k b g now w c
  own_again b g now t v w c time words own = λ l letter.
      ap (addressed l) (sym (law g l now w)) ∙ ap (λ (n : ℕ). addressed l (decision g l n w)) (sym time) ∙ ap (λ (x : List ℕ). addressed l (decision g l t x)) (sym words) ∙ own l letter

  noted_made : (h : History) (floor : ℕ) (e : Event) (x : Lost) (o : Outcome) → x.request ≡ e.request → x.now ≡ e.now → x.drawn ≡ e.drawn → e.note.outcome ≡ o → floor ≤ length_before e.note.place o → e.note.time ≡ event_time (take (length_before e.note.place o) h) e.now → IsWorded e.drawn e.note → IsNotedAs k h (take (length_before e.note.place o) h) e o
      → IfSome (reply_made e.note.place o) (λ place. (floor < place) × IsMadeAt k h x place)
  noted_made h floor e x Done b n d is low time words noted =
      let at = placed k h e.note.place e.reply noted.3 in
      let drew = worded_done e.drawn e.note words is in (
        omega (arith, low, at),
        record {
          words = drew.0;
          drawn = d ∙ drew.1;
          change = noted.0;
          stands = noted.1;
          own = subst (λ (q : List ℕ). IsOwn k q (take (e.note.place - 1) h) x.now drew.0 noted.0) (sym b)
              (subst (λ (m : ℕ). IsOwn k e.request (take (e.note.place - 1) h) m drew.0 noted.0) (sym n)
              (own_again e.request (take (e.note.place - 1) h) e.now e.note.time e.note.words drew.0 noted.0 time drew.2 noted.2));
        },
      )
  noted_made h floor e x Again b n d is low time words noted = tt
  noted_made h floor e x (Refused fail) b n d is low time words noted = tt
  noted_made h floor e x SystemFailure b n d is low time words noted = tt

  noted_lost : (h : History) (floor : ℕ) (e : Event) → floor ≤ known e.note → IsNoted k h e → IsLost k h floor (record { request = e.request; asks = e.asks; now = e.now; drawn = e.drawn; made = reply_made e.note.place e.note.outcome })
  noted_lost h floor e low n = record {
    letter = n.letter;
    timely = n.timely;
    made = noted_made h floor e (record { request = e.request; asks = e.asks; now = e.now; drawn = e.drawn; made = reply_made e.note.place e.note.outcome }) e.note.outcome refl refl refl refl low n.time n.words n.answered;
  }

module _ {K C E : Type 0} (ks : clerks.Ghosts K) (cs : clocks.Ghosts C) (es : entropies.Ghosts E) where
  abbrev pub lost_by : (asks : Bool) (b : List ℕ) (now : ℕ) (drawn : Option (List ℕ)) (made : Option ℕ) → Lost
  lost_by asks b now drawn made = record { request = b; asks = asks; now = now; drawn = drawn; made = made }

  -- An answer was lost, for want of memory.
  pub record Loses (old : Parts K C E) (x : Lost) (new : Parts K C E) : Type 0 where
    pub missed : ℕ
    pub failed : ℕ
    pub ran : Ran ks cs es old new (lone_place x.made) (x.now ∷ []) (x.drawn ∷ []) missed failed
    pub lost : (floor : ℕ) → floor ≤ length (ks.seen old.clerk) → IsLost (replier_by old.keys) (ks.seen new.clerk) floor x

  loses_reply : ReceiptsStay → DecidesByTheTime → (old new : Parts K C E) (b : List ℕ) (asks : Bool) (note : Note) (reply : List ℕ) → (a : IsFrontAnswer ks cs es old b (Replied note) reply new)
      → Loses old (lost_by asks b a.now a.drawn (reply_made note.place note.outcome)) new
  loses_reply stay law old new b asks note reply a =
      let s = stepped ks cs es stay law old new b asks note reply a in
      record {
        missed = s.missed;
        failed = s.failed;
        ran = subst (λ (places : List ℕ). Ran ks cs es old new places (a.now ∷ []) (a.drawn ∷ []) s.missed s.failed) (made_is note.place note.outcome) s.ran;
        lost = λ floor le. noted_lost law (replier_by old.keys) (ks.seen new.clerk) floor (record { request = b; asks = asks; now = a.now; drawn = a.drawn; note = note; reply = reply }) (omega (arith, le, s.low)) s.noted;
      }

  loses_idle : (old new : Parts K C E) (b : List ℕ) (asks : Bool) (end : Answered) (reply : List ℕ) → (a : IsFrontAnswer ks cs es old b end reply new) → IsIdle (clerked ks old.clerk) (clerked ks new.clerk)
      → Loses old (lost_by asks b a.now a.drawn None) new
  loses_idle old new b asks end reply a idle =
      let went = went_by ks cs es old.clerk new.clerk _ a.goes in
      record {
        missed = missed_by a.drawn;
        failed = 0;
        ran = ran_by ks cs es old new b end reply [] 0 a (moved_idle (clerked ks old.clerk) (clerked ks new.clerk) 0 went idle.mine idle.alone (rose_by_none (ks.faults old.clerk) (ks.faults new.clerk) went.later));
        lost = λ floor le. record { letter = a.letter; timely = a.timely; made = tt };
      }

  loses_made : (old new : Parts K C E) (b : List ℕ) (asks : Bool) (end : Answered) (reply : List ℕ) (w : List ℕ) → (a : IsFrontAnswer ks cs es old b end reply new) → a.drawn ≡ Some w → (u : IsUnanswered (replier_by old.keys) b (clerked ks old.clerk) (clerked ks new.clerk) a.now w)
      → Loses old (lost_by asks b a.now a.drawn (Some (length (u.made.before ++ u.made.change ∷ [])))) new
  loses_made old new b asks end reply w a drew u =
      let went = went_by ks cs es old.clerk new.clerk _ a.goes in
      let m = u.made in
      let place : ℕ = length (m.before ++ m.change ∷ []) in
      record {
        missed = missed_by a.drawn;
        failed = 0;
        ran = ran_by ks cs es old new b end reply (place ∷ []) 0 a (moved_with (clerked ks old.clerk) (clerked ks new.clerk) (place ∷ []) went u.mine
            (λ alone. places_after (ks.seen old.clerk) (ks.seen new.clerk) (Makes m.change) Done place refl
            ((u.alone alone).1 ∙ ap (λ (h : History). h ++ m.change ∷ []) (u.alone alone).0) (ap (λ (h : History). length (h ++ m.change ∷ [])) (u.alone alone).0)));
        lost = λ floor le. record {
          letter = a.letter;
          timely = a.timely;
          made = (
            omega (arith, le, begins_low (ks.seen old.clerk) m.before m.begun, long_after m.before m.change),
            made_at (replier_by old.keys) (ks.seen new.clerk) m.before (lost_by asks b a.now a.drawn (Some place)) place w m.change drew refl m.upto m.decided,
          );
        };
      }

  loses_spent : (old new : Parts K C E) (b : List ℕ) (asks : Bool) (end : Answered) (reply : List ℕ) (d : Option (List ℕ)) → (a : IsFrontAnswer ks cs es old b end reply new) → a.drawn ≡ d → IsSpent (replier_by old.keys) b (clerked ks old.clerk) (clerked ks new.clerk) a.now d
      → (made : Option ℕ) × Loses old (lost_by asks b a.now a.drawn made) new
  loses_spent old new b asks end reply None a drew idle = (None, loses_idle old new b asks end reply a idle)
  loses_spent old new b asks end reply (Some w) a drew (inl idle) = (None, loses_idle old new b asks end reply a idle)
  loses_spent old new b asks end reply (Some w) a drew (inr u) = (Some (length (u.made.before ++ u.made.change ∷ [])), loses_made old new b asks end reply w a drew u)

  pub loses : ReceiptsStay → DecidesByTheTime → (old new : Parts K C E) (b : List ℕ) (asks : Bool) (end : Answered) (reply : List ℕ) → end ≢ Failed → (a : IsFrontAnswer ks cs es old b end reply new)
      → (made : Option ℕ) × Loses old (lost_by asks b a.now a.drawn made) new
  loses stay law old new b asks (Replied note) reply not a = (reply_made note.place note.outcome, loses_reply stay law old new b asks note reply a)
  loses stay law old new b asks NoMemory reply not a = loses_spent old new b asks NoMemory reply a.drawn a refl a.end_is.1
  loses stay law old new b asks Failed reply not a = absurd (not refl)
