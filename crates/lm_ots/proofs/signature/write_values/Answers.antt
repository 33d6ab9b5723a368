-- The values are those of the signature.
use Rattle.std.proofs.Common.{ℕ, List, ◌++◌, ap, ◌∙◌}
use Rattle.std.proofs.lemmas.Result.{on_ok_weaker}
use Rattle.lm_ots.specs.Signatures.{signed_value}
use Rattle.lm_ots.proofs.FourLemmas.{joined_settled}
use Rattle.lm_ots.proofs.signature.write_values.Goals as goal

pub returns-clause-ok : goal.returns-clause-ok
returns-clause-ok g c =
    let f = signed_value (record { w = g.row.W; p = g.row.P; ls = g.row.LS }) c.args.key.now.seed c.args.key.now.id c.args.q c.args.octets.now in
    let values = c.signed_values_in.ensures in
    on_ok_weaker c.append_values.result
    (λ written. written ∙ ap (λ (l : List ℕ). c.args.out.now ++ l) (joined_settled f c.signed_values_in.result g.row.P values.size values.values))
    c.append_values.ensures.ok
