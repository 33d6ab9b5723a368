use Rattle.std.proofs.Common.{◌≡◌, ◌⊎◌, inl, inr, ℕ, ◌+◌, List, length, subst, arith}
use Rattle.cmp_ports.specs.Disk.{Torn, Follows, Reached, Every, overwritten}
use Rattle.cmp_ports.specs.Moments.{weaker, joins}
use Rattle.journal_core.specs.Log.{ClosedAfter}
use Rattle.journal_core.specs.Staged.{StagedAfter}
use Rattle.journal_core.specs.Seal.{IsBodyFor}
use Rattle.journal_core.proofs.Steps.{all_behind, all_staged, all_gate, all_opened}
use Rattle.journal_core.proofs.seal.seal.Goals as goal

-- after the first write the front is closed, and after its sync the body stands behind it
closed_still : (old new : List ℕ → Type 0) (front body octets : List ℕ) (gate : ℕ) → IsBodyFor front body octets gate old → Follows (Torn (gate + 1) (length octets)) old new → Every new (ClosedAfter front)
closed_still old new front body octets gate is follows = all_behind old new (gate + 1) front (length octets) (omega (arith, is.at)) is.closed follows

staged_now : (old new : List ℕ → Type 0) (front body octets : List ℕ) (gate : ℕ) → IsBodyFor front body octets gate old → Follows (λ d c. c ≡ overwritten (gate + 1) octets d) old new → Every new (StagedAfter front body)
staged_now old new front body octets gate is follows =
    all_staged old new (gate + 1) front body (omega (arith, is.at)) is.closed (subst (λ (o : List ℕ). Follows (λ d c. c ≡ overwritten (gate + 1) o d) old new) is.spelled follows)

pub returns-in-Err-clause-outcome : goal.returns-in-Err-clause-outcome
returns-in-Err-clause-outcome g c = λ front body is. closed_still _ _ front body c.args.octets.now c.args.gate is c.write_through.ensures.torn

pub returns-in-Err-clause-moments : goal.returns-in-Err-clause-moments
returns-in-Err-clause-moments g c = λ front body is.
    weaker g.D.Disk.moment g.D.Disk.left_since _ _ _ (λ (i : List ℕ). ClosedAfter front i ⊎ StagedAfter front body i) c.write_through.ensures.moments
    (λ i left. inl (closed_still _ (Reached (Torn (c.args.gate + 1) (length c.args.octets.now)) (g.D.Disk.images c.args.disk.now)) front body c.args.octets.now c.args.gate is (λ j r. r) i left))

pub returns-in-Err-clause-before : goal.returns-in-Err-clause-before
returns-in-Err-clause-before g c = λ front body is failed.
    weaker g.D.Disk.moment g.D.Disk.left_since _ _ _ (ClosedAfter front) c.write_through.ensures.moments
    (λ i left. closed_still _ (Reached (Torn (c.args.gate + 1) (length c.args.octets.now)) (g.D.Disk.images c.args.disk.now)) front body c.args.octets.now c.args.gate is (λ j r. r) i left)

pub returns-in-Ok-write_through-clause-outcome : goal.returns-in-Ok-write_through-clause-outcome
returns-in-Ok-write_through-clause-outcome g c = λ front body is.
    let staged = staged_now _ _ front body c.args.octets.now c.args.gate is c.in-Ok.ensures.written in
    all_opened _ _ c.args.gate front body is.at staged c.in-Ok-write_through.ensures.written

pub returns-in-Err-write_through-clause-outcome : goal.returns-in-Err-write_through-clause-outcome
returns-in-Err-write_through-clause-outcome g c = λ front body is.
    let staged = staged_now _ _ front body c.args.octets.now c.args.gate is c.in-Ok.ensures.written in
    all_gate _ _ c.args.gate front body is.at staged c.write_through-2.ensures.torn

pub returns-in-Ok-write_through-clause-moments : goal.returns-in-Ok-write_through-clause-moments
returns-in-Ok-write_through-clause-moments g c = λ front body is.
    let P : List ℕ → Type 0 = λ i. ClosedAfter front i ⊎ StagedAfter front body i in
    let staged = staged_now _ _ front body c.args.octets.now c.args.gate is c.in-Ok.ensures.written in
    let first = weaker g.D.Disk.moment g.D.Disk.left_since c.args.disk.now c.write_through.new.disk _ P c.write_through.ensures.moments
    (λ i left. inl (closed_still _ (Reached (Torn (c.args.gate + 1) (length c.args.octets.now)) (g.D.Disk.images c.args.disk.now)) front body c.args.octets.now c.args.gate is (λ j r. r) i left)) in
    let second = weaker g.D.Disk.moment g.D.Disk.left_since c.write_through.new.disk c.write_through-2.new.disk _ P c.write_through-2.ensures.moments
    (λ i left. inr (all_gate _ (Reached (Torn c.args.gate 1) (g.D.Disk.images c.write_through.new.disk)) c.args.gate front body is.at staged (λ j r. r) i left)) in
    joins g.D.Disk.moment g.D.Disk.left_since c.args.disk.now c.write_through.new.disk c.write_through-2.new.disk P first second

pub returns-in-Err-write_through-clause-moments : goal.returns-in-Err-write_through-clause-moments
returns-in-Err-write_through-clause-moments g c = λ front body is.
    let P : List ℕ → Type 0 = λ i. ClosedAfter front i ⊎ StagedAfter front body i in
    let staged = staged_now _ _ front body c.args.octets.now c.args.gate is c.in-Ok.ensures.written in
    let first = weaker g.D.Disk.moment g.D.Disk.left_since c.args.disk.now c.write_through.new.disk _ P c.write_through.ensures.moments
    (λ i left. inl (closed_still _ (Reached (Torn (c.args.gate + 1) (length c.args.octets.now)) (g.D.Disk.images c.args.disk.now)) front body c.args.octets.now c.args.gate is (λ j r. r) i left)) in
    let second = weaker g.D.Disk.moment g.D.Disk.left_since c.write_through.new.disk c.write_through-2.new.disk _ P c.write_through-2.ensures.moments
    (λ i left. inr (all_gate _ (Reached (Torn c.args.gate 1) (g.D.Disk.images c.write_through.new.disk)) c.args.gate front body is.at staged (λ j r. r) i left)) in
    joins g.D.Disk.moment g.D.Disk.left_since c.args.disk.now c.write_through.new.disk c.write_through-2.new.disk P first second
