-- What holds of a session in a history holds in each later one, and from each shorter beginning.
use Rattle.std.proofs.Common.{◌≡◌, ℕ, ◌-◌, ◌<◌, ◌≤◌, List, [], ◌∷◌, ◌++◌, length, take, Option, Some, None, sym, ◌∙◌, ap, subst, length-append, le_refl, arith}
use Rattle.std.specs.Prelude.{IfSome}
use Rattle.std.proofs.lemmas.List.{take-append-le}
use Rattle.std.proofs.lemmas.Option.{slice_get_within}
use Rattle.cmp_ports.specs.declared.note.Outcome.{Outcome}
use Rattle.cmp_ports.specs.declared.note.Outcome.TheVariants.{Done, Again, Refused, SystemFailure}
use Rattle.cmp_links.specs.declared.end.SessionEnd.{SessionEnd}
use Rattle.deal_model.specs.Views.{History}
use Rattle.deal_table.specs.History.{Begins, event_time}
use Rattle.deal_table.specs.Laws.{ReceiptsStay}
use Rattle.reply_maker.specs.Replies.{Replier}
use Rattle.front.specs.Answers.{IsReplyAt, IsOwn}
use Rattle.sessions.specs.Events.{Event, Lost, length_before, known, before, IsNotedAs, IsNoted, AreNoted, last_place, IsMadeAt, IsLost}
use Rattle.sessions.specs.Sessions.{IsSession, SessionsStay, SessionsBeginSooner}
use Rattle.sessions.proofs.Histories.{begins_on, begins_low, slice_stays}

pub some_as : {X : Type 0} (o : Option X) (P Q : X → Type 0) → ((x : X) → P x → Q x) → IfSome o P → IfSome o Q
some_as None P Q to p = tt
some_as (Some x) P Q to p = to x p

-- ---- in later histories

pub known_low : (place : ℕ) (o : Outcome) → length_before place o ≤ place
known_low place Done = omega arith
known_low place Again = le_refl place
known_low place (Refused fail) = le_refl place
known_low place SystemFailure = le_refl place

pub reply_stays : ReceiptsStay → (k : Replier) (h more : History) (place : ℕ) (reply : List ℕ) → IsReplyAt k h place reply → IsReplyAt k (h ++ more) place reply
reply_stays stay k h more place reply r = record { receipt = r.receipt; stands = stay h more place r.receipt r.stands; sealed = r.sealed }

noted_as_stays : ReceiptsStay → (k : Replier) (h more g : History) (x : Event) (o : Outcome) → IsNotedAs k h g x o → IsNotedAs k (h ++ more) g x o
noted_as_stays stay k h more g x Done n = (n.0, slice_stays h more (x.note.place - 1) n.0 n.1, n.2, reply_stays stay k h more x.note.place x.reply n.3)
noted_as_stays stay k h more g x Again n = (n.0, n.1, reply_stays stay k h more n.0 x.reply n.2)
noted_as_stays stay k h more g x (Refused fail) n = n
noted_as_stays stay k h more g x SystemFailure n = n

noted_stays : ReceiptsStay → (k : Replier) (h more : History) (x : Event) → IsNoted k h x → IsNoted k (h ++ more) x
noted_stays stay k h more x n =
    let low : known x.note ≤ length h = omega (arith, n.within, known_low x.note.place x.note.outcome) in
    let same : before (h ++ more) x.note ≡ before h x.note = take-append-le (known x.note) h more low in
    record {
      letter = n.letter;
      timely = n.timely;
      within = omega (arith, n.within, length-append h more);
      time = n.time ∙ ap (λ (g : History). event_time g x.now) (sym same);
      words = n.words;
      answered = subst (λ (g : History). IsNotedAs k (h ++ more) g x x.note.outcome) (sym same) (noted_as_stays stay k h more (before h x.note) x x.note.outcome n.answered);
    }

are_noted_stays : ReceiptsStay → (k : Replier) (h more : History) (floor : ℕ) (xs : List Event) → AreNoted k h floor xs → AreNoted k (h ++ more) floor xs
are_noted_stays stay k h more floor [] n = omega (arith, n, length-append h more)
are_noted_stays stay k h more floor (x ∷ xs) n = (n.0, noted_stays stay k h more x n.1, are_noted_stays stay k h more x.note.place xs n.2)

pub noted_later : ReceiptsStay → (k : Replier) (h later : History) (x : Event) → Begins h later → IsNoted k h x → IsNoted k later x
noted_later stay k h later x (more, e) n = subst (λ (g : History). IsNoted k g x) (sym e) (noted_stays stay k h more x n)

pub are_noted_later : ReceiptsStay → (k : Replier) (h later : History) (floor : ℕ) (xs : List Event) → Begins h later → AreNoted k h floor xs → AreNoted k later floor xs
are_noted_later stay k h later floor xs (more, e) n = subst (λ (g : History). AreNoted k g floor xs) (sym e) (are_noted_stays stay k h more floor xs n)

made_stays : (k : Replier) (h more : History) (x : Lost) (place : ℕ) → IsMadeAt k h x place → IsMadeAt k (h ++ more) x place
made_stays k h more x place m =
    let within = slice_get_within h (place - 1) m.change m.stands in
    let same : take (place - 1) (h ++ more) ≡ take (place - 1) h = take-append-le (place - 1) h more (omega (arith, within)) in
    record {
      words = m.words;
      drawn = m.drawn;
      change = m.change;
      stands = slice_stays h more (place - 1) m.change m.stands;
      own = subst (λ (g : History). IsOwn k x.request g x.now m.words m.change) (sym same) m.own;
    }

lost_stays : (k : Replier) (h more : History) (floor : ℕ) (x : Lost) → IsLost k h floor x → IsLost k (h ++ more) floor x
lost_stays k h more floor x l = record {
  letter = l.letter;
  timely = l.timely;
  made = some_as x.made _ _ (λ place (m : (floor < place) × IsMadeAt k h x place). (m.0, made_stays k h more x place m.1)) l.made;
}

pub lost_later : (k : Replier) (h later : History) (floor : ℕ) (x : Lost) → Begins h later → IsLost k h floor x → IsLost k later floor x
lost_later k h later floor x (more, e) l = subst (λ (g : History). IsLost k g floor x) (sym e) (lost_stays k h more floor x l)

-- ---- from shorter beginnings

are_noted_sooner : (k : Replier) (h : History) (floor less : ℕ) (xs : List Event) → less ≤ floor → AreNoted k h floor xs → AreNoted k h less xs
are_noted_sooner k h floor less [] le n = omega (arith, le, n)
are_noted_sooner k h floor less (x ∷ xs) le n = (omega (arith, le, n.0), n.1, n.2)

last_sooner : (floor less : ℕ) (xs : List Event) → less ≤ floor → last_place less xs ≤ last_place floor xs
last_sooner floor less [] le = le
last_sooner floor less (x ∷ xs) le = le_refl (last_place x.note.place xs)

lost_sooner : (k : Replier) (h : History) (floor less : ℕ) (x : Lost) → less ≤ floor → IsLost k h floor x → IsLost k h less x
lost_sooner k h floor less x le l = record {
  letter = l.letter;
  timely = l.timely;
  made = some_as x.made _ _ (λ place (m : (floor < place) × IsMadeAt k h x place). (omega (arith, le, m.0), m.1)) l.made;
}

-- ---- sessions

module _ (k : Replier) (h0 h : History) (left before after : Option (List ℕ)) (faults now : ℕ) (readings : List ℕ) (draws : List (Option (List ℕ))) (end : SessionEnd) (events : List Event) (lost : Option Lost) where
  pub is_session_later : ReceiptsStay → (later : History) → Begins h later → IsSession k h0 h left before after faults now readings draws end events lost → IsSession k h0 later left before after faults now readings draws end events lost
  is_session_later stay later begins s = record {
    begun = begins_on h0 h later s.begun begins;
    notes = s.notes;
    noted = are_noted_later stay k h later (length h0) events begins s.noted;
    ends = s.ends;
    unanswered = some_as lost _ _ (λ x l. lost_later k h later (last_place (length h0) events) x begins l) s.unanswered;
    read = s.read;
    drew = s.drew;
    asked = s.asked;
    written = s.written;
  }

  pub is_session_sooner : (less : History) → Begins less h0 → IsSession k h0 h left before after faults now readings draws end events lost → IsSession k less h left before after faults now readings draws end events lost
  is_session_sooner less begins s =
      let low : length less ≤ length h0 = begins_low less h0 begins in
      record {
        begun = begins_on less h0 h begins s.begun;
        notes = s.notes;
        noted = are_noted_sooner k h (length h0) (length less) events low s.noted;
        ends = s.ends;
        unanswered = some_as lost _ _ (λ x l. lost_sooner k h (last_place (length h0) events) (last_place (length less) events) x (last_sooner (length h0) (length less) events low) l) s.unanswered;
        read = s.read;
        drew = s.drew;
        asked = s.asked;
        written = s.written;
      }

pub sessions_stay : ReceiptsStay → SessionsStay
sessions_stay stay k h0 h later left before after faults now readings draws end begins s = (s.0, s.1, is_session_later k h0 h left before after faults now readings draws end s.0 s.1 stay later begins s.2)

pub sessions_begin_sooner : SessionsBeginSooner
sessions_begin_sooner k h0 h less left before after faults now readings draws end begins s = (s.0, s.1, is_session_sooner k h0 h left before after faults now readings draws end s.0 s.1 less begins s.2)
