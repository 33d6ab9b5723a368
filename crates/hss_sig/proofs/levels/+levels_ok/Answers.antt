-- A level's signature is valid and the rest leads on, or the octets do not lead.
use Rattle.std.proofs.Common.{◌≡◌, sym, ◌∙◌, arith}
use Rattle.std.specs.Prelude.{Some}
use Rattle.hss_sig.specs.Hss.{signature_size}
use Rattle.hss_sig.proofs.LevelLemmas.{level_step, level_stop, not_true}
use Rattle.hss_sig.proofs.levels.+levels_ok.Goals as goal

pub returns-then-level_ok : goal.returns-then-level_ok
returns-then-level_ok t c =
    let known : signature_size c.args.key.now ≡ Some c.in-Some.size = sym c.signature_size.ensures ∙ c.in-Some.is in
    level_step c.args.upper c.in-Some.size c.args.text.now c.args.key.now c.args.octets.now _ _ _ _ c.levels_ok.result
    (omega arith) known (omega arith) c.split_at.ensures.front c.split_at.ensures.back c.split_at-2.ensures.front c.split_at-2.ensures.back
    (c.level_ok-2.ensures.0 c.if-level_ok.true) c.levels_ok.ensures

pub returns-else-level_ok : goal.returns-else-level_ok
returns-else-level_ok t c =
    let known : signature_size c.args.key.now ≡ Some c.in-Some.size = sym c.signature_size.ensures ∙ c.in-Some.is in
    level_stop c.args.upper c.in-Some.size c.args.text.now c.args.key.now c.args.octets.now _ _ _ c.level_ok-2.result
    (omega arith) known c.split_at.ensures.front c.split_at.ensures.back c.split_at-2.ensures.front
    c.level_ok-2.ensures (not_true _ c.if-level_ok.false)
