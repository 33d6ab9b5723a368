-- What settle's write of a closed gate makes of a journal whose gate is in doubt.
use Rattle.std.proofs.Common.{◌≡◌, ℕ, List, [], ◌∷◌, sym, subst, arith}
use Rattle.cmp_ports.specs.Disk.{Torn, Follows, Reached, Every, overwritten}
use Rattle.journal_core.specs.declared.journal.Doubt.{Doubt}
use Rattle.journal_core.specs.declared.journal.Doubt.TheVariants.{Clear, Gate}
use Rattle.journal_core.specs.Log.{framed, log_of, IsBeforeOrAfter}
use Rattle.journal_core.specs.Staged.{StagedAfter}
use Rattle.journal_core.specs.Journal.{IsInState, IsKeptAs}
use Rattle.journal_core.proofs.Steps.{all_gate, all_shut}
use Rattle.journal_core.proofs.States.{staged_recovers}

gate_state : (doubt : Doubt) (front body : List ℕ) (images : List ℕ → Type 0) → doubt ≡ Gate → IsInState doubt front body images → IsInState Gate front body images
gate_state doubt front body images is state = subst (λ (d : Doubt). IsInState d front body images) is state

module _ (magic : List ℕ) (payloads : List (List ℕ)) (payload : List ℕ) (last count : ℕ) (doubt : Doubt) (images : List ℕ → Type 0) (kept : IsKeptAs magic payloads payload last count doubt images) (is : doubt ≡ Gate) where
  at_end : IsInState Gate (log_of magic payloads) (framed payload) images
  at_end = gate_state doubt (log_of magic payloads) (framed payload) images is kept.state

  -- the gate is closed
  pub shut : (new : List ℕ → Type 0) → Follows (λ d c. c ≡ overwritten last (0 ∷ []) d) images new → IsKeptAs magic payloads [] last count Clear new
  shut new written = record {
    small = kept.small;
    fits = omega arith;
    end = kept.end;
    counted = kept.counted;
    state = all_shut images new last (log_of magic payloads) (framed payload) (sym kept.end) at_end.1 written;
  }

  all_staged_still : (new : List ℕ → Type 0) → Follows (Torn last 1) images new → Every new (StagedAfter (log_of magic payloads) (framed payload))
  all_staged_still new torn = all_gate images new last (log_of magic payloads) (framed payload) (sym kept.end) at_end.1 torn

  -- or it is still in doubt
  pub still_gate : (new : List ℕ → Type 0) → Follows (Torn last 1) images new → IsKeptAs magic payloads payload last count doubt new
  still_gate new torn =
      let there : IsInState Gate (log_of magic payloads) (framed payload) new = (at_end.0, all_staged_still new torn) in
      record {
        small = kept.small;
        fits = kept.fits;
        end = kept.end;
        counted = kept.counted;
        state = subst (λ (d : Doubt). IsInState d (log_of magic payloads) (framed payload) new) (sym is) there;
      }

  pub gate_recovers : (c : List ℕ) → Reached (Torn last 1) images c → IsBeforeOrAfter magic payloads payload c
  gate_recovers c reached = staged_recovers magic payloads payload c kept.small kept.fits (all_staged_still (Reached (Torn last 1) images) (λ d r. r) c reached)
