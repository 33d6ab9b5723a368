-- A journal's states, from one call to the next.
use Rattle.std.proofs.Common.{◌≡◌, ◌⊎◌, inl, inr, ℕ, ◌+◌, ◌<◌, ◌≤◌, ◌^◌, Bool, false, List, [], ◌∷◌, ◌++◌, length, sym, ◌∙◌, ap, subst, arith, append_assoc, length-append}
use Rattle.std.proofs.lemmas.Bool.{cases_eq, or_parts, ltb-false}
use Rattle.std.specs.Prelude.{nat_le, nat_lt}
use Rattle.cmp_ports.specs.Disk.{Every}
use Rattle.journal_core.specs.declared.journal.Doubt.{Doubt}
use Rattle.journal_core.specs.declared.journal.Doubt.TheVariants.{Clear, Before, Gate}
use Rattle.journal_core.specs.Log.{framed, log_of, ClosedAfter, AreSmall, IsBeforeOrAfter, IsWithout}
use Rattle.journal_core.specs.Staged.{StagedAfter}
use Rattle.journal_core.specs.Seal.{IsBodyFor}
use Rattle.journal_core.specs.Journal.{IsInState, IsKeptAs, is_in_doubt, is_at_gate, is_past_limit}
use Rattle.journal_core.proofs.Logs.{log_push, small_push, length-log_push}

-- with nothing in doubt, each image goes on with a closed gate
pub closed_of : (doubt : Doubt) (front body : List ℕ) (images : List ℕ → Type 0) → is_in_doubt doubt ≡ false → IsInState doubt front body images → Every images (ClosedAfter front)
closed_of Clear front body images clear state = state
closed_of Before front body images clear state = state
closed_of Gate front body images clear state = absurd (cc clear)

pub state_of : (doubt : Doubt) (front body : List ℕ) (images : List ℕ → Type 0) → is_in_doubt doubt ≡ false → Every images (ClosedAfter front) → IsInState doubt front body images
state_of Clear front body images clear closed = closed
state_of Before front body images clear closed = closed
state_of Gate front body images clear closed = absurd (cc clear)

pub body_for : (magic : List ℕ) (payloads : List (List ℕ)) (any payload octets : List ℕ) (last count : ℕ) (doubt : Doubt) (images : List ℕ → Type 0) → IsKeptAs magic payloads any last count doubt images → is_in_doubt doubt ≡ false → octets ≡ framed payload ++ 0 ∷ []
    → IsBodyFor (log_of magic payloads) (framed payload) octets last images
body_for magic payloads any payload octets last count doubt images kept clear spelled = record {
  at = sym kept.end;
  spelled = spelled;
  closed = closed_of doubt (log_of magic payloads) (framed any) images clear kept.state;
}

pub appended : (magic : List ℕ) (payloads : List (List ℕ)) (any payload : List ℕ) (last count more : ℕ) (doubt : Doubt) (images new : List ℕ → Type 0) → IsKeptAs magic payloads any last count doubt images → is_in_doubt doubt ≡ false
    → length payload ≤ 1073741824 → more ≡ length payload + 5 → Every new (ClosedAfter (log_of magic payloads ++ 1 ∷ framed payload))
    → IsKeptAs magic (payloads ++ payload ∷ []) [] (last + more) (count + 1) doubt new × (is_in_doubt doubt ≡ false)
appended magic payloads any payload last count more doubt images new kept clear fits grows closed =
    let there : Every new (ClosedAfter (log_of magic (payloads ++ payload ∷ []))) = subst (λ (l : List ℕ). Every new (ClosedAfter l)) (sym (log_push magic payloads payload)) closed in (
      record {
        small = small_push payloads payload kept.small (omega (arith, fits));
        fits = omega arith;
        end = omega (arith, kept.end, grows, length-log_push magic payloads payload);
        counted = omega (arith, kept.counted, length-append payloads (payload ∷ []));
        state = state_of doubt (log_of magic (payloads ++ payload ∷ [])) (framed []) new clear there;
      },
      clear,
    )

pub before_gate : (magic : List ℕ) (payloads : List (List ℕ)) (any payload : List ℕ) (last count : ℕ) (doubt : Doubt) (images new : List ℕ → Type 0) → IsKeptAs magic payloads any last count doubt images
    → length payload ≤ 1073741824 → Every new (ClosedAfter (log_of magic payloads)) → IsKeptAs magic payloads payload last count Before new
before_gate magic payloads any payload last count doubt images new kept fits closed = record { small = kept.small; fits = omega (arith, fits); end = kept.end; counted = kept.counted; state = closed }

pub at_gate : (magic : List ℕ) (payloads : List (List ℕ)) (any payload : List ℕ) (last count more : ℕ) (doubt : Doubt) (images new : List ℕ → Type 0) → IsKeptAs magic payloads any last count doubt images
    → length payload ≤ 1073741824 → last + more ≤ 1073741824 → Every new (StagedAfter (log_of magic payloads) (framed payload)) → IsKeptAs magic payloads payload last count Gate new
at_gate magic payloads any payload last count more doubt images new kept fits room staged = record { small = kept.small; fits = omega (arith, fits); end = kept.end; counted = kept.counted; state = (omega (arith, kept.end, room), staged) }

-- room is left where no limit is passed
pub below_limit : (count last more : ℕ) (b : Bool) → b ≡ is_past_limit count last more → b ≡ false → last + more ≤ 1073741824
below_limit count last more b is shut = ltb-false 1073741824 (last + more) (or_parts (nat_le 262144 count) (nat_lt 1073741824 (last + more)) (sym is ∙ shut)).1

-- an image that goes on with a closed gate has the payloads, and one where a body stands behind a gate has them with one more or not
pub closed_recovers : (magic : List ℕ) (payloads : List (List ℕ)) (payload c : List ℕ) → AreSmall payloads → ClosedAfter (log_of magic payloads) c → IsBeforeOrAfter magic payloads payload c
closed_recovers magic payloads payload c small closed = inl record { small = small; closed = closed }

pub staged_recovers : (magic : List ℕ) (payloads : List (List ℕ)) (payload c : List ℕ) → AreSmall payloads → length payload < 2 ^ 32 → StagedAfter (log_of magic payloads) (framed payload) c → IsBeforeOrAfter magic payloads payload c
staged_recovers magic payloads payload c small fits staged = elim (cases_eq staged.gate 1) [
  | inl is_open ↦
      let front = log_of magic payloads in
      let behind = staged.next ∷ staged.rest in
      let whole : c ≡ log_of magic (payloads ++ payload ∷ []) ++ behind = staged.parts ∙ ap (λ (g : ℕ). front ++ g ∷ (framed payload ++ behind)) is_open ∙ sym (append_assoc front (1 ∷ framed payload) behind) ∙ ap (λ (l : List ℕ). l ++ behind) (sym (log_push magic payloads payload)) in
      inr record { small = small_push payloads payload small fits; closed = record { gate = staged.next; rest = staged.rest; shut = staged.shut; parts = whole } }
  | inr shut ↦ inl record { small = small; closed = record { gate = staged.gate; rest = framed payload ++ staged.next ∷ staged.rest; shut = shut; parts = staged.parts } }
]

pub either_recovers : (magic : List ℕ) (payloads : List (List ℕ)) (payload c : List ℕ) → AreSmall payloads → length payload < 2 ^ 32 → ClosedAfter (log_of magic payloads) c ⊎ StagedAfter (log_of magic payloads) (framed payload) c → IsBeforeOrAfter magic payloads payload c
either_recovers magic payloads payload c small fits (inl closed) = closed_recovers magic payloads payload c small closed
either_recovers magic payloads payload c small fits (inr staged) = staged_recovers magic payloads payload c small fits staged

-- the gate behind the front tells the two apart
same_gate : (front rest more : List ℕ) (gate other : ℕ) → front ++ gate ∷ rest ≡ front ++ other ∷ more → gate ≡ other
same_gate [] rest more gate other same = cc same
same_gate (x ∷ front) rest more gate other same = same_gate front rest more gate other (cc same)

pub without : (magic : List ℕ) (payloads : List (List ℕ)) (payload c : List ℕ) → AreSmall payloads → ClosedAfter (log_of magic payloads) c → IsWithout magic payloads payload c
without magic payloads payload c small closed = (
  record { small = small; closed = closed },
  λ other.
      let front = log_of magic payloads in
      let behind = other.closed.gate ∷ other.closed.rest in
      let opened_is : c ≡ front ++ 1 ∷ (framed payload ++ behind) = other.closed.parts ∙ ap (λ (l : List ℕ). l ++ behind) (log_push magic payloads payload) ∙ append_assoc front (1 ∷ framed payload) behind in
      closed.shut (same_gate front closed.rest (framed payload ++ behind) closed.gate 1 (sym closed.parts ∙ opened_is)),
)

-- where the gate wasn't begun, each image goes on with a closed gate
pub closed_before : (doubt : Doubt) (front body : List ℕ) (images : List ℕ → Type 0) → is_at_gate doubt ≡ false → IsInState doubt front body images → Every images (ClosedAfter front)
closed_before Clear front body images unbegun state = state
closed_before Before front body images unbegun state = state
closed_before Gate front body images unbegun state = absurd (cc unbegun)

-- what an image is in each state
pub state_recovers : (doubt : Doubt) (magic : List ℕ) (payloads : List (List ℕ)) (payload c : List ℕ) (images : List ℕ → Type 0) → AreSmall payloads → length payload < 2 ^ 32 → IsInState doubt (log_of magic payloads) (framed payload) images → images c → IsBeforeOrAfter magic payloads payload c
state_recovers Clear magic payloads payload c images small fits state image = closed_recovers magic payloads payload c small (state c image)
state_recovers Before magic payloads payload c images small fits state image = closed_recovers magic payloads payload c small (state c image)
state_recovers Gate magic payloads payload c images small fits state image = staged_recovers magic payloads payload c small fits (state.1 c image)

-- the log's end lies in each image
pub end_within : (doubt : Doubt) (front body c : List ℕ) (images : List ℕ → Type 0) → IsInState doubt front body images → images c → length front < length c
end_within Clear front body c images state image = let s = state c image in omega (arith, ap length s.parts, length-append front (s.gate ∷ s.rest))
end_within Before front body c images state image = let s = state c image in omega (arith, ap length s.parts, length-append front (s.gate ∷ s.rest))
end_within Gate front body c images state image = let s = state.1 c image in omega (arith, ap length s.parts, length-append front (s.gate ∷ (body ++ s.next ∷ s.rest)))
