-- The four parts are written one behind the other.
use Rattle.std.proofs.Common.{length, take, drop, replicate, ◌∙◌, ap, arith}
use Rattle.lm_ots.specs.Chains.{prefix}
use Rattle.lm_ots.proofs.Messages.{take-put, take-put_before, drop-put}
use Rattle.lm_ots.proofs.message.step_message.Goals as goal

pub returns-clause-front : goal.returns-clause-front
unfolding prefix
returns-clause-front c =
    let first = ap (take 16) c.put.ensures ∙ take-put 0 16 (replicate 55 0) c.args.id.now _ (omega arith) (omega arith) in
    let second = ap (take 20) c.put-2.ensures ∙ take-put 16 20 c.put.new.message c.to_be_bytes.result _ (omega arith) (omega (arith, ap length c.to_be_bytes.ensures)) in
    let third = ap (take 22) c.put-3.ensures ∙ take-put 20 22 c.put-2.new.message c.to_be_bytes-2.result _ (omega arith) (omega (arith, ap length c.to_be_bytes-2.ensures)) in
    let fourth = ap (take 22) c.put-4.ensures ∙ take-put_before 23 22 c.put-3.new.message c.args.value.now _ (omega arith) (omega arith) in
    fourth ∙ third ∙ rw (second, first, c.to_be_bytes.ensures, c.to_be_bytes-2.ensures)

pub returns-clause-value : goal.returns-clause-value
returns-clause-value c = ap (drop 23) c.put-4.ensures ∙ drop-put 23 c.put-3.new.message c.args.value.now (omega arith)
