-- The padding is written behind the message.
use Rattle.std.proofs.Common.{◌≡◌, ◌+◌, ◌*◌, ◌/◌, length, arith}
use Rattle.lm_ots.proofs.PaddedLemmas.{padded_is}
use Rattle.lm_ots.proofs.four_keys.padded_ends.Goals as goal

pub returns : goal.returns
returns c = λ f are.
    let count : 64 * ((94 + 32 * length c.args.ends.now) / 64) ≡ 64 * ((22 + 32 * length c.args.ends.now + 72) / 64) = omega arith in
    padded_is _ _ _ _ _ (22 + 32 * length c.args.ends.now) _ (c.ends_message-message.ensures f are) (omega arith) count c.put.ensures
    (rw c.block_count.ensures at c.put-2.ensures) c.to_be_bytes.ensures
