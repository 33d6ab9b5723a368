use Rattle.std.proofs.Common.{◌≡◌, ◌+◌, ◌*◌, ◌∷◌, ◌∙◌, sym, arith}
use Rattle.leaf_book.specs.Leaves.{key_payload}
use Rattle.leaf_book.proofs.MountLemmas.{other_leaf, other_of}
use Rattle.leaf_book.proofs.reading.read_book.Goals as goal

pub returns-in-Err-Other : goal.returns-in-Err-Other
returns-in-Err-Other c =
    let front : c.args.payloads.now ≡ c.in-Some.first.now ∷ c.in-Some.leaves.now = c.in-Some.ensures.cases.0 in
    let begins : c.in-Some.first.now ≡ key_payload c.in-Some-key_in.journal = sym c.as_slice.ensures ∙ c.in-Some-key_in.ensures.0 in
    let offset : c.gate_of.result ≡ 70 + 42 * c.in-Err-Other.leaf = omega (arith, c.gate_of.ensures, c.in-Err-Other.leaf-is) in
    other_leaf c.args.payloads.now c.in-Some.leaves.now c.in-Some.first.now c.in-Some-key_in.journal c.in-Err-Other.leaf c.gate_of.result front begins c.in-Some-key_in.ensures.1 (other_of c.in-Some.leaves.now c.in-Err-Other.field-0 c.in-Err-Other.leaf c.in-Err-Other.field-0-is c.in-Err-Other.ensures) offset
