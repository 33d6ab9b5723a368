use Rattle.std.proofs.Common.{◌≡◌, ◌≢◌, ℕ, ◌<◌, true, false, drop, get_or}
use Rattle.der_base.specs.Values.{BeginsPart, has_parts}
use Rattle.der_base.proofs.values.is_oid.Given as goal

abbrev pub invariant-loop-b : goal.invariant-loop-b
invariant-loop-b l = record {
  begins : l.begins ≡ true → BeginsPart l.content l.b-index;
  inside : l.begins ≡ false → BeginsPart l.content l.b-index → ⊥;
  parts : (k : ℕ) → k < l.b-index → BeginsPart l.content k → get_or l.content k 0 ≢ 128;
  goes_on : has_parts l.begins (drop l.b-index l.content) ≡ has_parts true l.content;
}
