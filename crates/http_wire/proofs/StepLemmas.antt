-- One step of a session, from what was read and what was written.
use Rattle.std.specs.Prelude.{◌≡◌, ◌⊎◌, ℕ, Bool, true, false, List, ◌++◌, ◌==◌, Option, Some, None, is_some, Err}
use Rattle.std.proofs.Common.{inl, inr, refl, sym, ap, subst, ◌∙◌}
use Rattle.std.specs.Io.KnownBytes.{Appends, Keeps, prepend_known}
use Rattle.cmp_ports.specs.Faults.{Rose}
use Rattle.cmp_ports.specs.Whole.{AppendsPrefix}
use Rattle.cmp_ports.specs.declared.note.Note.{Note}
use Rattle.cmp_ports.specs.declared.note.Answered.{Answered}
use Rattle.cmp_links.specs.declared.end.EndCause.{EndCause}
use Rattle.cmp_links.specs.declared.end.EndCause.TheVariants.{Closed, Asked, Rejected, Limit, ReadFault, WriteFault, Unanswered, NoMemory}
use Rattle.http_heads.specs.Nexts.{posted}
use Rattle.http_heads.specs.Requests.{Posted, IsRequest, ending_after}
use Rattle.http_wire.specs.Framing.{framed, refusal}
use Rattle.http_wire.specs.Sessions.{Exchange}
use Rattle.http_wire.specs.Steps.{Moment, moment, Asks, Turns, Excuses, IsTurned, IsSent, IsCutOff, IsExchange, Follows, EndsBy, IsStep}

-- what was written stays, and then grows
kept_appends : (a b c : Option (List ℕ)) (bs : List ℕ) → Keeps a b → Appends b c bs → Appends a c bs
kept_appends None b c bs kept more = tt
kept_appends (Some x) None c bs kept more = absurd kept
kept_appends (Some x) (Some y) None bs kept more = absurd more
kept_appends (Some x) (Some y) (Some z) bs kept more = more ∙ ap (λ (l : List ℕ). l ++ bs) kept

kept_excuses : (a b c : Option (List ℕ)) (f g h : ℕ) → Keeps a b → g ≡ f → Excuses b c g h → Excuses a c f h
kept_excuses a b c f g h kept same told = elim told [
  | inl whole ↦ inl (kept_appends a b c _ kept whole)
  | inr some ↦ inr ((some.0.0, kept_appends a b c _ kept some.0.1), subst (λ (n : ℕ). Rose n h) same some.1)
]

-- the octets that come stay
asks_later : (coming : Option (List ℕ)) (buffer : List ℕ) (left new : Option (List ℕ)) (r : Posted) → Asks coming (prepend_known buffer left) r → Keeps left new
    → Asks coming (prepend_known buffer new) r
asks_later None buffer left new r asks kept = tt
asks_later (Some all) buffer None new r asks kept = absurd asks
asks_later (Some all) buffer (Some x) None r asks kept = absurd kept
asks_later (Some all) buffer (Some x) (Some y) r asks kept = subst (λ (l : List ℕ). IsRequest all r (buffer ++ l)) (sym kept) asks

-- a session ends after a request in one of two ways
two_ends : (number : ℕ) (asks : Bool) (cause : EndCause) → ending_after number asks ≡ Some cause → (cause ≡ Asked) ⊎ (cause ≡ Limit)
two_ends number true cause is = inl (cc is)
two_ends number false cause is = by_case (number == 1000) refl
  where
    by_case : (t : Bool) → (number == 1000) ≡ t → (cause ≡ Asked) ⊎ (cause ≡ Limit)
    by_case true test = let e : Some Limit ≡ Some cause = rw test at is in inr (cc e)
    by_case false test = absurd (let e : None ≡ Some cause = rw test at is in cc e)

module _ {A : Type 0} (answers : A → List ℕ → Answered → List ℕ → A → Type 0) where
  follows : (number : ℕ) (old new : Moment A) (asks : Bool) (ending : Option EndCause) → ending_after number asks ≡ ending → Follows answers number old new ending
      → IsStep answers number old new ending
  follows number old new asks None is does = does
  follows number old new asks (Some Asked) is does = does
  follows number old new asks (Some Limit) is does = does
  follows number old new asks (Some Closed) is does = elim (two_ends number asks Closed is) [ inl e ↦ absurd (cc e) | inr e ↦ absurd (cc e) ]
  follows number old new asks (Some (Rejected s)) is does = elim (two_ends number asks (Rejected s) is) [ inl e ↦ absurd (cc e) | inr e ↦ absurd (cc e) ]
  follows number old new asks (Some ReadFault) is does = elim (two_ends number asks ReadFault is) [ inl e ↦ absurd (cc e) | inr e ↦ absurd (cc e) ]
  follows number old new asks (Some WriteFault) is does = elim (two_ends number asks WriteFault is) [ inl e ↦ absurd (cc e) | inr e ↦ absurd (cc e) ]
  follows number old new asks (Some Unanswered) is does = elim (two_ends number asks Unanswered is) [ inl e ↦ absurd (cc e) | inr e ↦ absurd (cc e) ]
  follows number old new asks (Some NoMemory) is does = elim (two_ends number asks NoMemory is) [ inl e ↦ absurd (cc e) | inr e ↦ absurd (cc e) ]

  -- the next request was answered
  pub step_sent : (number : ℕ) (a b : A) (coming : Option (List ℕ)) (buffer : List ℕ) (left new : Option (List ℕ)) (w0 w1 w2 : Option (List ℕ)) (f0 f1 f2 : ℕ)
      (n0 n2 : List Note) (body : List ℕ) (asks last : Bool) (ending : Option EndCause)
      → Asks coming (prepend_known buffer left) (posted body asks) → Keeps left new → Keeps w0 w1 → f1 ≡ f0 → ending ≡ ending_after number asks → last ≡ is_some ending
      → (note : Note) × (reply : List ℕ) × IsSent answers (moment a left w1 f1 n0) (moment b new w2 f2 n2) body last note reply
      → IsStep answers number (moment a coming w0 f0 n0) (moment b (prepend_known buffer new) w2 f2 n2) ending
  step_sent number a b coming buffer left new w0 w1 w2 f0 f1 f2 n0 n2 body asks last ending asked kept same well end_is last_is has =
      let x : Exchange = record { request = body; asks = asks; note = has.0; reply = has.1 } in
      let text : Appends w0 w2 (framed 200 has.1 (is_some ending)) =
      subst (λ (l : Bool). Appends w0 w2 (framed 200 has.1 l)) last_is (kept_appends w0 w1 w2 _ same has.2.written) in
      let whole : IsSent answers (moment a coming w0 f0 n0) (moment b (prepend_known buffer new) w2 f2 n2) body (is_some ending) has.0 has.1 =
      record { replied = has.2.replied; written = text; well = has.2.well ∙ well } in
      follows number _ _ asks ending (sym end_is) (x, asks_later coming buffer left new (posted body asks) asked kept, sym end_is, whole)

  -- or got no whole reply
  step_unsent : (number : ℕ) (a b : A) (coming : Option (List ℕ)) (buffer : List ℕ) (left new : Option (List ℕ)) (w0 w1 w2 : Option (List ℕ)) (f0 f1 f2 : ℕ)
      (n0 n2 : List Note) (body : List ℕ) (asks last : Bool) (ending : Option EndCause) (cause : EndCause)
      → Asks coming (prepend_known buffer left) (posted body asks) → Keeps left new → Keeps w0 w1 → f1 ≡ f0 → ending ≡ ending_after number asks → last ≡ is_some ending
      → IsExchange answers (moment a left w1 f1 n0) (moment b new w2 f2 n2) body last (Err cause)
      → EndsBy answers number (moment a coming w0 f0 n0) (moment b (prepend_known buffer new) w2 f2 n2) cause
  step_unsent number a b coming buffer left new w0 w1 w2 f0 f1 f2 n0 n2 body asks last ending WriteFault asked kept same well end_is last_is has =
      let x : Exchange = record { request = body; asks = asks; note = has.0; reply = has.1 } in
      let last_now : last ≡ is_some (ending_after number asks) = last_is ∙ ap (λ (e : Option EndCause). is_some e) end_is in
      let some : AppendsPrefix w0 w2 (framed 200 has.1 (is_some (ending_after number asks))) =
      subst (λ (l : Bool). AppendsPrefix w0 w2 (framed 200 has.1 l)) last_now (has.2.written.0, kept_appends w0 w1 w2 _ same has.2.written.1) in
      let cut : IsCutOff answers (moment a coming w0 f0 n0) (moment b (prepend_known buffer new) w2 f2 n2) body (is_some (ending_after number asks)) has.0 has.1 =
      record { replied = has.2.replied; written = some; fault = subst (λ (n : ℕ). Rose n f2) well has.2.fault } in
      inl (x, asks_later coming buffer left new (posted body asks) asked kept, cut)
  step_unsent number a b coming buffer left new w0 w1 w2 f0 f1 f2 n0 n2 body asks last ending Unanswered asked kept same well end_is last_is has =
      (posted body asks, asks_later coming buffer left new (posted body asks) asked kept, record { unreplied = has.unreplied; noted = has.noted; told = kept_excuses w0 w1 w2 f0 f1 f2 same well has.told })
  step_unsent number a b coming buffer left new w0 w1 w2 f0 f1 f2 n0 n2 body asks last ending NoMemory asked kept same well end_is last_is has =
      inl (posted body asks, asks_later coming buffer left new (posted body asks) asked kept, record { unreplied = has.unreplied; noted = has.noted; told = kept_excuses w0 w1 w2 f0 f1 f2 same well has.told })
  step_unsent number a b coming buffer left new w0 w1 w2 f0 f1 f2 n0 n2 body asks last ending Closed asked kept same well end_is last_is has = absurd has
  step_unsent number a b coming buffer left new w0 w1 w2 f0 f1 f2 n0 n2 body asks last ending Asked asked kept same well end_is last_is has = absurd has
  step_unsent number a b coming buffer left new w0 w1 w2 f0 f1 f2 n0 n2 body asks last ending (Rejected status) asked kept same well end_is last_is has = absurd has
  step_unsent number a b coming buffer left new w0 w1 w2 f0 f1 f2 n0 n2 body asks last ending Limit asked kept same well end_is last_is has = absurd has
  step_unsent number a b coming buffer left new w0 w1 w2 f0 f1 f2 n0 n2 body asks last ending ReadFault asked kept same well end_is last_is has = absurd has

  -- the same of a request that is borrowed
  pub step_unsent_at : (number : ℕ) (a b : A) (coming : Option (List ℕ)) (buffer : List ℕ) (left new : Option (List ℕ)) (w0 w1 w2 : Option (List ℕ)) (f0 f1 f2 : ℕ)
      (n0 n2 : List Note) (body : List ℕ) (asks last : Bool) (ending : Option EndCause) (cause : EndCause) (request : List ℕ)
      → Asks coming (prepend_known buffer left) (posted body asks) → Keeps left new → Keeps w0 w1 → f1 ≡ f0 → ending ≡ ending_after number asks → last ≡ is_some ending
      → request ≡ body → IsExchange answers (moment a left w1 f1 n0) (moment b new w2 f2 n2) request last (Err cause)
      → EndsBy answers number (moment a coming w0 f0 n0) (moment b (prepend_known buffer new) w2 f2 n2) cause
  step_unsent_at number a b coming buffer left new w0 w1 w2 f0 f1 f2 n0 n2 body asks last ending cause request asked kept same well end_is last_is is has =
      step_unsent number a b coming buffer left new w0 w1 w2 f0 f1 f2 n0 n2 body asks last ending cause asked kept same well end_is last_is
      (subst (λ (l : List ℕ). IsExchange answers (moment a left w1 f1 n0) (moment b new w2 f2 n2) l last (Err cause)) is has)

  -- what comes was turned away
  pub step_turned : (number : ℕ) (a : A) (coming behind : Option (List ℕ)) (w0 w1 w2 : Option (List ℕ)) (f0 f1 f2 : ℕ) (n0 : List Note) (status : ℕ) (cause : EndCause)
      → Turns coming status → Keeps w0 w1 → f1 ≡ f0 → IsTurned status w1 w2 f1 f2 cause
      → EndsBy answers number (moment a coming w0 f0 n0) (moment a behind w2 f2 n0) cause
  step_turned number a coming behind w0 w1 w2 f0 f1 f2 n0 status (Rejected told) turns same well has = (
    subst (λ (s : ℕ). Turns coming s) (sym has.0) turns,
    (refl, refl),
    subst (λ (s : ℕ). Appends w0 w2 (refusal s)) (sym has.0) (kept_appends w0 w1 w2 _ same has.1),
    has.2 ∙ well,
  )
  step_turned number a coming behind w0 w1 w2 f0 f1 f2 n0 status WriteFault turns same well has =
      inr (status, turns, (refl, refl), (has.0.0, kept_appends w0 w1 w2 _ same has.0.1), subst (λ (n : ℕ). Rose n f2) well has.1)
  step_turned number a coming behind w0 w1 w2 f0 f1 f2 n0 status NoMemory turns same well has = inr ((refl, refl), kept_excuses w0 w1 w2 f0 f1 f2 same well has)
  step_turned number a coming behind w0 w1 w2 f0 f1 f2 n0 status Closed turns same well has = absurd has
  step_turned number a coming behind w0 w1 w2 f0 f1 f2 n0 status Asked turns same well has = absurd has
  step_turned number a coming behind w0 w1 w2 f0 f1 f2 n0 status Limit turns same well has = absurd has
  step_turned number a coming behind w0 w1 w2 f0 f1 f2 n0 status ReadFault turns same well has = absurd has
  step_turned number a coming behind w0 w1 w2 f0 f1 f2 n0 status Unanswered turns same well has = absurd has
