-- One octet further, the parts before it have been looked at, and what is left decides.
use Rattle.std.proofs.Common.{◌≡◌, ◌≢◌, ℕ, ◌+◌, ◌<◌, ◌&&◌, Bool, List, true, false, eqb, ltb, get_or, length, drop, refl, sym, ◌∙◌, add-one, drop-cons, below_more, ltb-true, ltb-false, arith}
use Rattle.std.proofs.lemmas.Bool.{eqb-false}
use Rattle.std.proofs.lemmas.Bool.Decides.{nat_tests}
use Rattle.der_base.specs.Values.{BeginsPart, has_parts}
use Rattle.der_base.proofs.values.is_oid.Goals as goal
use Rattle.der_base.proofs.values.is_oid.Goals.{else-begins-via-then-begins+else-b, else-begins-via-else-begins}

begins_next : (content : List ℕ) (i : ℕ) → ltb (get_or content i 0) 128 ≡ true → BeginsPart content (i + 1)
begins_next content i h = rw add-one (ltb-true (get_or content i 0) 128 h)

inside_next : (content : List ℕ) (i : ℕ) → ltb (get_or content i 0) 128 ≡ false → BeginsPart content (i + 1) → ⊥
inside_next content i h b =
    let below : get_or content i 0 < 128 = rw add-one at b in
    let above = ltb-false (get_or content i 0) 128 h in
    omega arith

not_128 : (begins : Bool) (content : List ℕ) (i : ℕ) → begins && (eqb (get_or content i 0) 128) ≡ false → (begins ≡ false → BeginsPart content i → ⊥) → BeginsPart content i → get_or content i 0 ≢ 128
not_128 true content i fine inside b h = eqb-false (get_or content i 0) 128 fine h
not_128 false content i fine inside b h = inside refl b

goes_next : (begins : Bool) (content : List ℕ) (i : ℕ) → i < length content → begins && (eqb (get_or content i 0) 128) ≡ false → has_parts begins (drop i content) ≡ has_parts (ltb (get_or content i 0) 128) (drop (i + 1) content)
goes_next begins content i h fine = rw (add-one, drop-cons content i 0, fine) refl

pub loop-b-preserved : goal.loop-b-preserved
loop-b-preserved c =
    let content = c.args.content.now in
    let i = c.loop-b.b-index in
    let fine : c.loop-b.begins && (eqb (get_or content i 0) 128) ≡ false = elim c.else-begins.branch [ else-begins-via-then-begins+else-b w ↦ grind (arith, nat_tests) | else-begins-via-else-begins w ↦ grind (arith, nat_tests) ] in
    record {
      begins = begins_next content i;
      inside = inside_next content i;
      parts = below_more _ _ c.loop-b.invariant.parts (not_128 c.loop-b.begins content i fine c.loop-b.invariant.inside);
      goes_on = sym (goes_next c.loop-b.begins content i c.loop-b-test.true fine) ∙ c.loop-b.invariant.goes_on;
    }
