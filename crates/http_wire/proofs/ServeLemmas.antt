-- A session so far and its next step: a longer session, or a whole one.
use Rattle.std.specs.Prelude.{◌≡◌, ◌≢◌, ℕ, ◌+◌, ◌≤◌, suc, Bool, true, false, List, [], ◌∷◌, ◌++◌, length, map, take, ◌==◌, Option, Some, None, IfSome, is_some}
use Rattle.std.proofs.Common.{inl, inr, arith, refl, sym, ap, subst, ◌∙◌, append-nil}
use Rattle.std.proofs.lemmas.List.{map-append}
use Rattle.std.proofs.KnownBytes.{Appends-kept, Appends-nil, Appends-trans}
use Rattle.std.specs.Io.KnownBytes.{Appends, prepend_known}
use Rattle.cmp_ports.specs.Faults.{Rose}
use Rattle.cmp_ports.specs.declared.note.Note.{Note}
use Rattle.cmp_ports.specs.declared.note.Answered.{Answered}
use Rattle.cmp_links.specs.declared.end.EndCause.{EndCause}
use Rattle.cmp_links.specs.declared.end.EndCause.TheVariants.{Closed, Asked, Rejected, Limit, ReadFault, WriteFault, Unanswered, NoMemory}
use Rattle.cmp_links.specs.declared.end.SessionEnd.{SessionEnd}
use borrow.Author.Tests.{eq-eqb}
use Rattle.http_heads.specs.Requests.{Posted, IsRequest, IsRejected, ending_after, AreRequests, AreFirst}
use Rattle.http_wire.specs.Framing.{framed, refusal}
use Rattle.http_wire.specs.Sessions.{Exchange, posted_of, note_of, reply_text, texts, HasBegun, AreAsked, AppendsSome, TellsNone, IsWritten, AllAnswered, Breaks, IsServed}
use Rattle.http_wire.specs.Steps.{Moment, moment, Asks, Turns, Excuses, IsCutOff, IsExcused, Follows, EndsBy, IsStep}
use Rattle.http_wire.proofs.ListLemmas.{open_more, open_requests, open_first, answered_more, texts_more}
use Rattle.http_wire.proofs.Opens.{AreOpen, Fronts, IsOpen}

-- one more request in front of what comes
fronts_more : (all coming behind : Option (List ℕ)) (rs : List Posted) (r : Posted) → Fronts all coming rs → Asks coming behind r → ending_after (suc (length rs)) r.asks ≡ None
    → Fronts all behind (rs ++ r ∷ [])
fronts_more None coming behind rs r fronts asks on = tt
fronts_more (Some bytes) None behind rs r fronts asks on = absurd fronts
fronts_more (Some bytes) (Some rest) None rs r fronts asks on = absurd asks
fronts_more (Some bytes) (Some rest) (Some mid) rs r fronts asks on = open_more 0 (length rs) bytes rest mid rs r (omega arith) fronts asks on

-- what is said of what comes is said of all
fronts_whole : (all coming : Option (List ℕ)) (rs : List Posted) (P Q : List ℕ → Type 0) → Fronts all coming rs → IfSome coming P
    → ((bytes rest : List ℕ) → AreOpen 0 bytes rs rest → P rest → Q bytes) → IfSome all Q
fronts_whole None coming rs P Q fronts says then = tt
fronts_whole (Some bytes) None rs P Q fronts says then = absurd fronts
fronts_whole (Some bytes) (Some rest) rs P Q fronts says then = then bytes rest fronts says

-- the requests so far are the first ones
begun_none : (all coming : Option (List ℕ)) (xs : List Exchange) → Fronts all coming (map posted_of xs) → IfSome all (λ bytes. HasBegun bytes xs None)
begun_none None coming xs fronts = tt
begun_none (Some bytes) None xs fronts = absurd fronts
begun_none (Some bytes) (Some rest) xs fronts = (rest, open_first 0 (length (map posted_of xs)) bytes rest rest (map posted_of xs) [] (omega arith) fronts refl)

-- and so they are with one more
first_more : (bytes rest mid : List ℕ) (rs : List Posted) (r : Posted) → AreOpen 0 bytes rs rest → IsRequest rest r mid → AreFirst 0 bytes (rs ++ r ∷ []) mid
first_more bytes rest mid rs r opens is = open_first 0 (length rs) bytes rest mid rs (r ∷ []) (omega arith) opens (mid, is, λ none. absurd (none refl), refl)

begun_lost : (all coming behind : Option (List ℕ)) (xs : List Exchange) (r : Posted) → Fronts all coming (map posted_of xs) → Asks coming behind r
    → IfSome all (λ bytes. HasBegun bytes xs (Some r))
begun_lost None coming behind xs r fronts asks = tt
begun_lost (Some bytes) None behind xs r fronts asks = absurd fronts
begun_lost (Some bytes) (Some rest) None xs r fronts asks = absurd asks
begun_lost (Some bytes) (Some rest) (Some mid) xs r fronts asks = (mid, first_more bytes rest mid (map posted_of xs) r fronts asks)

-- the requests with the last one
posted_more : (xs : List Exchange) (x : Exchange) → map posted_of (xs ++ x ∷ []) ≡ map posted_of xs ++ posted_of x ∷ []
posted_more xs x = map-append posted_of xs (x ∷ [])

begun_more : (all coming behind : Option (List ℕ)) (xs : List Exchange) (x : Exchange) → Fronts all coming (map posted_of xs) → Asks coming behind (posted_of x)
    → IfSome all (λ bytes. HasBegun bytes (xs ++ x ∷ []) None)
begun_more None coming behind xs x fronts asks = tt
begun_more (Some bytes) None behind xs x fronts asks = absurd fronts
begun_more (Some bytes) (Some rest) None xs x fronts asks = absurd asks
begun_more (Some bytes) (Some rest) (Some mid) xs x fronts asks = (
  mid,
  subst (λ (l : List Posted). AreFirst 0 bytes l mid) (sym (posted_more xs x) ∙ sym (append-nil (map posted_of (xs ++ x ∷ []))))
      (first_more bytes rest mid (map posted_of xs) (posted_of x) fronts asks),
)

-- all requests, where the last one ends the session
requests_end : (all coming behind : Option (List ℕ)) (xs : List Exchange) (x : Exchange) (cause : EndCause) → Fronts all coming (map posted_of xs)
    → Asks coming behind (posted_of x) → ending_after (suc (length (map posted_of xs))) x.asks ≡ Some cause
    → IfSome all (λ bytes. AreRequests 0 bytes (map posted_of (xs ++ x ∷ [])) cause)
requests_end None coming behind xs x cause fronts asks end_is = tt
requests_end (Some bytes) None behind xs x cause fronts asks end_is = absurd fronts
requests_end (Some bytes) (Some rest) None xs x cause fronts asks end_is = absurd asks
requests_end (Some bytes) (Some rest) (Some mid) xs x cause fronts asks end_is =
    let k = length (map posted_of xs) in
    let last : AreRequests k rest (posted_of x ∷ []) cause = (mid, asks, rw end_is (refl, refl)) in
    subst (λ (l : List Posted). AreRequests 0 bytes l cause) (sym (posted_more xs x)) (open_requests 0 k bytes rest (map posted_of xs) (posted_of x ∷ []) cause (omega arith) fronts last)

-- all requests, where none follows
requests_closed : (all coming : Option (List ℕ)) (xs : List Exchange) → Fronts all coming (map posted_of xs) → IfSome coming (λ rest. rest ≡ [])
    → IfSome all (λ bytes. AreRequests 0 bytes (map posted_of xs) Closed)
requests_closed all coming xs fronts none =
    fronts_whole all coming (map posted_of xs) (λ (rest : List ℕ). rest ≡ []) (λ (bytes : List ℕ). AreRequests 0 bytes (map posted_of xs) Closed) fronts none
    (λ bytes rest opens e. subst (λ (l : List Posted). AreRequests 0 bytes l Closed) (append-nil (map posted_of xs))
    (open_requests 0 (length (map posted_of xs)) bytes rest (map posted_of xs) [] Closed (omega arith) opens e))

requests_rejected : (all coming : Option (List ℕ)) (xs : List Exchange) (status : ℕ) → Fronts all coming (map posted_of xs) → Turns coming status
    → IfSome all (λ bytes. AreRequests 0 bytes (map posted_of xs) (Rejected status))
requests_rejected all coming xs status fronts turns =
    fronts_whole all coming (map posted_of xs) (λ (rest : List ℕ). IsRejected rest status) (λ (bytes : List ℕ). AreRequests 0 bytes (map posted_of xs) (Rejected status)) fronts turns
    (λ bytes rest opens e. subst (λ (l : List Posted). AreRequests 0 bytes l (Rejected status)) (append-nil (map posted_of xs))
    (open_requests 0 (length (map posted_of xs)) bytes rest (map posted_of xs) [] (Rejected status) (omega arith) opens e))

-- the first requests, where what follows is turned away
first_rejected : (all coming : Option (List ℕ)) (xs : List Exchange) (status : ℕ) → Fronts all coming (map posted_of xs) → Turns coming status
    → IfSome all (λ bytes. (rest : List ℕ) × AreFirst 0 bytes (map posted_of xs) rest × IsRejected rest status)
first_rejected all coming xs status fronts turns =
    fronts_whole all coming (map posted_of xs) (λ (rest : List ℕ). IsRejected rest status)
    (λ (bytes : List ℕ). (rest : List ℕ) × AreFirst 0 bytes (map posted_of xs) rest × IsRejected rest status) fronts turns
    (λ bytes rest opens e. (
      rest,
      subst (λ (l : List Posted). AreFirst 0 bytes l rest) (append-nil (map posted_of xs))
          (open_first 0 (length (map posted_of xs)) bytes rest rest (map posted_of xs) [] (omega arith) opens refl),
      e,
    ))

-- how many requests there are
posted_count : (xs : List Exchange) → length (map posted_of xs) ≡ length xs
posted_count [] = refl
posted_count (x ∷ xs) = ap (λ (n : ℕ). suc n) (posted_count xs)

-- the notes with the last one
noted_more : (old new first : List Note) (xs : List Exchange) (x : Exchange) → old ≡ map note_of xs → new ≡ old ++ x.note ∷ [] → new ≡ map note_of (xs ++ x ∷ [])
noted_more old new first xs x is more = more ∙ ap (λ (l : List Note). l ++ x.note ∷ []) is ∙ sym (map-append note_of xs (x ∷ []))

-- the replies with the last one
replies_more : (a b c : Option (List ℕ)) (xs : List Exchange) (x : Exchange) → Appends a b (texts 0 xs) → Appends b c (reply_text (suc (length xs)) x)
    → Appends a c (texts 0 (xs ++ x ∷ []))
replies_more a b c xs x first more =
    subst (λ (l : List ℕ). Appends a c l) (sym (texts_more 0 (length xs) xs x (omega arith))) (Appends-trans a b c _ _ first more)

-- a count that stood, and then rose
rose_since : (f g h : ℕ) → g ≡ f → Rose g h → Rose f h
rose_since f g h same rose = subst (λ (n : ℕ). Rose n h) same rose

-- the peer is told behind the replies
tells_none : (a b c : Option (List ℕ)) (f g h : ℕ) (xs : List Exchange) → Appends a b (texts 0 xs) → g ≡ f → Excuses b c g h → TellsNone xs a c f h
tells_none a b c f g h xs first same told = elim told [
  | inl whole ↦ inl (Appends-trans a b c _ _ first whole)
  | inr some ↦ inr ((some.0.0, Appends-trans a b c _ _ first some.0.1), rose_since f g h same some.1)
]

module _ {A : Type 0} (answers : A → List ℕ → Answered → List ℕ → A → Type 0) where
  -- at first there is no request
  pub open_none : (state : A) (left written : Option (List ℕ)) (faults : ℕ) (notes : List Note) (buffer : List ℕ) → buffer ≡ [] → notes ≡ []
      → IsOpen answers 1 (moment state left written faults []) (moment state (prepend_known buffer left) written faults notes)
  open_none state left written faults notes buffer none no_note = record {
    exchanges = [];
    count = refl;
    noted = no_note;
    answered = refl;
    asked = rw none (fronts_none left);
    written = Appends-nil written;
    well = refl;
  }
    where
      fronts_none : (left : Option (List ℕ)) → Fronts left (prepend_known [] left) []
      fronts_none None = tt
      fronts_none (Some bytes) = refl

  -- one request more
  pub open_next : (number : ℕ) (first now new : Moment A) → IsOpen answers number first now → Follows answers number now new None → IsOpen answers (number + 1) first new
  open_next number first now new opens does =
      let x = does.0 in
      let xs = opens.exchanges in
      let count : number ≡ suc (length (map posted_of xs)) = opens.count ∙ ap (λ (n : ℕ). suc n) (sym (posted_count xs)) in
      let on : ending_after (suc (length (map posted_of xs))) x.asks ≡ None = subst (λ (n : ℕ). ending_after n x.asks ≡ None) count does.2 in
      let text : Appends now.written new.written (reply_text (suc (length xs)) x) =
      subst (λ (e : Option EndCause). Appends now.written new.written (framed 200 x.reply (is_some e)))
      (sym (subst (λ (n : ℕ). ending_after n x.asks ≡ None) opens.count does.2)) does.3.written in
      record {
        exchanges = xs ++ x ∷ [];
        count = omega (arith, opens.count, longer xs x);
        noted = noted_more now.notes new.notes [] xs x opens.noted does.3.replied.noted;
        answered = answered_more answers first.state now.state new.state xs (x ∷ []) opens.answered (new.state, does.3.replied.answered, refl);
        asked = subst (λ (l : List Posted). Fronts first.coming new.coming l) (sym (posted_more xs x))
            (fronts_more first.coming now.coming new.coming (map posted_of xs) (posted_of x) opens.asked does.1 on);
        written = replies_more first.written now.written new.written xs x opens.written text;
        well = does.3.well ∙ opens.well;
      }
    where
      longer : (xs : List Exchange) (x : Exchange) → suc (length xs) ≡ length (xs ++ x ∷ [])
      longer [] x = refl
      longer (y ∷ xs) x = ap (λ (n : ℕ). suc n) (longer xs x)

  -- a session, from its parts
  whole : (first new : Moment A) (cause : EndCause) (xs : List Exchange) (mid : A) (lost : Option Posted) → new.notes ≡ map note_of xs
      → AllAnswered answers first.state xs mid → Breaks answers mid lost cause new.state → IfSome first.coming (λ all. AreAsked all xs lost cause)
      → IsWritten first.coming xs cause first.written new.written first.faults new.faults
      → (end : SessionEnd) → end.cause ≡ cause → end.notes ≡ new.notes
      → IsServed answers first.state new.state first.coming first.written new.written first.faults new.faults end
  whole first new cause xs mid lost noted answered broken asked written end cause_is notes_are = record {
    exchanges = xs;
    notes = notes_are ∙ noted;
    mid = mid;
    answered = answered;
    lost = lost;
    broken = subst (λ (c : EndCause). Breaks answers mid lost c new.state) (sym cause_is) broken;
    asked = subst (λ (c : EndCause). IfSome first.coming (λ all. AreAsked all xs lost c)) (sym cause_is) asked;
    written = subst (λ (c : EndCause). IsWritten first.coming xs c first.written new.written first.faults new.faults) (sym cause_is) written;
  }

  -- the last request was answered, and ends the session
  ends_after : (number : ℕ) (first now new : Moment A) (cause : EndCause) → IsOpen answers number first now → Follows answers number now new (Some cause)
      → (xs : List Exchange) × AllAnswered answers first.state xs new.state × (new.notes ≡ map note_of xs)
      × IfSome first.coming (λ all. AreRequests 0 all (map posted_of xs) cause) × Appends first.written new.written (texts 0 xs)
  ends_after number first now new cause opens does =
      let x = does.0 in
      let xs = opens.exchanges in
      let count : number ≡ suc (length (map posted_of xs)) = opens.count ∙ ap (λ (n : ℕ). suc n) (sym (posted_count xs)) in
      let last : ending_after (suc (length (map posted_of xs))) x.asks ≡ Some cause = subst (λ (n : ℕ). ending_after n x.asks ≡ Some cause) count does.2 in
      let text : Appends now.written new.written (reply_text (suc (length xs)) x) =
      subst (λ (e : Option EndCause). Appends now.written new.written (framed 200 x.reply (is_some e)))
      (sym (subst (λ (n : ℕ). ending_after n x.asks ≡ Some cause) opens.count does.2)) does.3.written in (
        xs ++ x ∷ [],
        answered_more answers first.state now.state new.state xs (x ∷ []) opens.answered (new.state, does.3.replied.answered, refl),
        noted_more now.notes new.notes [] xs x opens.noted does.3.replied.noted,
        requests_end first.coming now.coming new.coming xs x cause opens.asked does.1 last,
        replies_more first.written now.written new.written xs x opens.written text,
      )

  -- there was no reply to one more
  unserved : (number : ℕ) (first now new : Moment A) (r : Posted) (end : SessionEnd) → IsOpen answers number first now → Asks now.coming new.coming r
      → IsExcused answers now new r.body NoMemory → end.cause ≡ NoMemory → end.notes ≡ new.notes
      → IsServed answers first.state new.state first.coming first.written new.written first.faults new.faults end
  unserved number first now new r end opens asks has cause_is notes_are =
      let told = tells_none first.written now.written new.written first.faults now.faults new.faults opens.exchanges opens.written opens.well has.told in
      elim has.unreplied [
        | inl rests ↦ whole first new NoMemory opens.exchanges now.state None (has.noted ∙ opens.noted) opens.answered (rests, λ e. cc e)
            (begun_none first.coming now.coming opens.exchanges opens.asked) told end cause_is notes_are
        | inr asked ↦ whole first new NoMemory opens.exchanges now.state (Some r) (has.noted ∙ opens.noted) opens.answered asked
            (begun_lost first.coming now.coming new.coming opens.exchanges r opens.asked asks) told end cause_is notes_are
      ]

  -- the write of the last reply failed
  cut_reply : (number : ℕ) (first now new : Moment A) (x : Exchange) (end : SessionEnd) → IsOpen answers number first now → Asks now.coming new.coming (posted_of x)
      → IsCutOff answers now new x.request (is_some (ending_after number x.asks)) x.note x.reply → end.cause ≡ WriteFault → end.notes ≡ new.notes
      → IsServed answers first.state new.state first.coming first.written new.written first.faults new.faults end
  cut_reply number first now new x end opens asks has cause_is notes_are =
      let xs = opens.exchanges in
      let some : AppendsSome first.written new.written (texts 0 xs) (reply_text number x) =
      (has.written.0, Appends-trans first.written now.written new.written _ _ opens.written has.written.1) in
      let at_last = subst (λ (n : ℕ). AppendsSome first.written new.written (texts 0 xs) (reply_text n x)) opens.count some in
      whole first new WriteFault (xs ++ x ∷ []) new.state None (noted_more now.notes new.notes [] xs x opens.noted has.replied.noted)
      (answered_more answers first.state now.state new.state xs (x ∷ []) opens.answered (new.state, has.replied.answered, refl)) (refl, λ e. cc e)
      (begun_more first.coming now.coming new.coming xs x opens.asked asks) (inl (xs, x, refl, at_last)) end cause_is notes_are

  -- so is the write of a refusal
  cut_refusal : (number : ℕ) (first now new : Moment A) (status : ℕ) (end : SessionEnd) → IsOpen answers number first now → Turns now.coming status
      → (new.state ≡ now.state) × (new.notes ≡ now.notes) → (n : ℕ) × Appends now.written new.written (take n (refusal status)) → end.cause ≡ WriteFault → end.notes ≡ new.notes
      → IsServed answers first.state new.state first.coming first.written new.written first.faults new.faults end
  cut_refusal number first now new status end opens turns rests has cause_is notes_are =
      let xs = opens.exchanges in
      whole first new WriteFault xs now.state None (rests.1 ∙ opens.noted) opens.answered (rests.0, λ e. cc e) (begun_none first.coming now.coming xs opens.asked)
      (inr (status, first_rejected first.coming now.coming xs status opens.asked turns, (has.0, Appends-trans first.written now.written new.written _ _ opens.written has.1)))
      end cause_is notes_are

  -- a session so far, and how it ends
  pub served : (number : ℕ) (first now new : Moment A) (cause : EndCause) (end : SessionEnd) → IsOpen answers number first now → EndsBy answers number now new cause
      → end.cause ≡ cause → end.notes ≡ new.notes → IsServed answers first.state new.state first.coming first.written new.written first.faults new.faults end
  served number first now new Closed end opens does cause_is notes_are =
      whole first new Closed opens.exchanges now.state None (does.1.1 ∙ opens.noted) opens.answered (does.1.0, λ e. cc e)
      (requests_closed first.coming now.coming opens.exchanges opens.asked does.0) (Appends-kept first.written now.written new.written _ opens.written does.2) end cause_is notes_are
  served number first now new Asked end opens does cause_is notes_are =
      let all = ends_after number first now new Asked opens does in
      whole first new Asked all.0 new.state None all.2 all.1 (refl, λ e. cc e) all.3 all.4 end cause_is notes_are
  served number first now new Limit end opens does cause_is notes_are =
      let all = ends_after number first now new Limit opens does in
      whole first new Limit all.0 new.state None all.2 all.1 (refl, λ e. cc e) all.3 all.4 end cause_is notes_are
  served number first now new (Rejected status) end opens does cause_is notes_are =
      whole first new (Rejected status) opens.exchanges now.state None (does.1.1 ∙ opens.noted) opens.answered (does.1.0, λ e. cc e)
      (requests_rejected first.coming now.coming opens.exchanges status opens.asked does.0)
      (Appends-trans first.written now.written new.written _ _ opens.written does.2) end cause_is notes_are
  served number first now new ReadFault end opens does cause_is notes_are =
      whole first new ReadFault opens.exchanges now.state None (does.0.1 ∙ opens.noted) opens.answered (does.0.0, λ e. cc e)
      (begun_none first.coming now.coming opens.exchanges opens.asked) (Appends-kept first.written now.written new.written _ opens.written does.1) end cause_is notes_are
  served number first now new WriteFault end opens does cause_is notes_are = elim does [
    | inl reply ↦ cut_reply number first now new reply.0 end opens reply.1 reply.2 cause_is notes_are
    | inr refused ↦ cut_refusal number first now new refused.0 end opens refused.1 refused.2 refused.3 cause_is notes_are
  ]
  served number first now new Unanswered end opens does cause_is notes_are =
      whole first new Unanswered opens.exchanges now.state (Some does.0) (does.2.noted ∙ opens.noted) opens.answered does.2.unreplied
      (begun_lost first.coming now.coming new.coming opens.exchanges does.0 opens.asked does.1)
      (tells_none first.written now.written new.written first.faults now.faults new.faults opens.exchanges opens.written opens.well does.2.told) end cause_is notes_are
  served number first now new NoMemory end opens does cause_is notes_are = elim does [
    | inl lost ↦ unserved number first now new lost.0 end opens lost.1 lost.2 cause_is notes_are
    | inr rests ↦ whole first new NoMemory opens.exchanges now.state None (rests.0.1 ∙ opens.noted) opens.answered (rests.0.0, λ e. cc e)
        (begun_none first.coming now.coming opens.exchanges opens.asked)
        (tells_none first.written now.written new.written first.faults now.faults new.faults opens.exchanges opens.written opens.well rests.1) end cause_is notes_are
  ]

  -- a step that doesn't end the session
  pub goes_on : (number : ℕ) (now new : Moment A) (r : Option EndCause) → IsStep answers number now new r → ((cause : EndCause) → r ≡ Some cause → ⊥)
      → Follows answers number now new None
  goes_on number now new None does other = does
  goes_on number now new (Some cause) does other = absurd (other cause refl)

  -- a session that goes on has another number to give
  pub below_limit : (number : ℕ) (now new : Moment A) → number ≤ 1000 → Follows answers number now new None → number + 1 ≤ 1000
  below_limit number now new most does = not_last number does.0.asks most does.2
    where
      not_last : (number : ℕ) (asks : Bool) → number ≤ 1000 → ending_after number asks ≡ None → number + 1 ≤ 1000
      not_last number true most is = absurd (cc is)
      not_last number false most is = by_case (number == 1000) refl
        where
          by_case : (t : Bool) → (number == 1000) ≡ t → number + 1 ≤ 1000
          by_case true test = absurd (let e : Some Limit ≡ None = rw test at is in cc e)
          by_case false test = let other : number ≢ 1000 = λ e. (let f : true ≡ false = sym (eq-eqb number 1000 e) ∙ test in cc f) in omega (arith, other, most)
