-- The four parts are written one behind the other.
use Rattle.std.proofs.Common.{◌≡◌, ℕ, List, [], ◌+◌, ◌++◌, length, take, drop, replicate, ◌∙◌, ap, arith, append-nil}
use Rattle.std.proofs.lemmas.List.{drop_all}
use Rattle.lm_ots.proofs.Messages.{take-put}
use Rattle.lms_tree.proofs.public.public_octets.Goals as goal

pub returns : goal.returns
returns c =
    let first = ap (take 4) c.put.ensures ∙ take-put 0 4 (replicate 56 0) c.to_be_bytes.result _ (omega arith) (omega (arith, ap length c.to_be_bytes.ensures)) in
    let second = ap (take 8) c.put-2.ensures ∙ take-put 4 8 c.put.new.octets c.to_be_bytes-2.result _ (omega arith) (omega (arith, ap length c.to_be_bytes-2.ensures)) in
    let third = ap (take 24) c.put-3.ensures ∙ take-put 8 24 c.put-2.new.octets c.args.id.now _ (omega arith) (omega arith) in
    let none : drop (24 + length c.args.root.now) c.put-3.new.octets ≡ [] = drop_all (24 + length c.args.root.now) c.put-3.new.octets (omega arith) in
    c.put-4.ensures ∙ ap (λ (l : List ℕ). take 24 c.put-3.new.octets ++ c.args.root.now ++ l) none
    ∙ append-nil (take 24 c.put-3.new.octets ++ c.args.root.now)
    ∙ ap (λ (l : List ℕ). l ++ c.args.root.now) third
    ∙ rw (second, first, c.to_be_bytes.ensures, c.to_be_bytes-2.ensures)
