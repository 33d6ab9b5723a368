-- The number and then the hash are written behind the beginning, which stays.
use Rattle.std.proofs.Common.{◌≡◌, length, drop, ◌∙◌, ap, arith}
use Rattle.std.specs.Prelude.{slice_set}
use Rattle.std.proofs.lemmas.List.{set_split, take-set-le}
use Rattle.std.proofs.Math.ListN.{length-set}
use Rattle.sha2.specs.Sha256.{sha256}
use Rattle.sha2.proofs.Facts256.{length-sha256}
use Rattle.lm_ots.proofs.Messages.{take-put_before, drop-put}
use Rattle.lm_ots.proofs.message.advance.Goals as goal

pub returns-clause-front : goal.returns-clause-front
returns-clause-front c =
    let size : length (slice_set c.args.message.now 22 c.args.j) ≡ 55 = length-set c.args.message.now 22 c.args.j ∙ c.told-message in
    rw c.put.ensures (take-put_before 23 22 _ _ _ (omega arith) (omega arith)
    ∙ take-set-le 22 c.args.message.now 22 c.args.j (omega arith))

pub returns-clause-value : goal.returns-clause-value
returns-clause-value c =
    let size : length (slice_set c.args.message.now 22 c.args.j) ≡ 55 = length-set c.args.message.now 22 c.args.j ∙ c.told-message in
    let digest_size = ap length c.digest-digest.ensures ∙ length-sha256 (slice_set c.args.message.now 22 c.args.j) in
    ap (drop 23) c.put.ensures ∙ drop-put 23 (slice_set c.args.message.now 22 c.args.j) c.digest-digest.result (omega arith)
    ∙ c.digest-digest.ensures ∙ ap sha256 (set_split c.args.message.now 22 c.args.j (omega arith))
