-- The typecode, C and the values stand one behind the other.
use Rattle.std.proofs.Common.{◌++◌, List, ℕ, ◌∙◌, ap, append_assoc}
use Rattle.std.proofs.lemmas.Result.{on_ok_weaker, on_err_weaker}
use Rattle.lm_ots.proofs.Parts.{take_kept, signature_written}
use Rattle.lm_ots.proofs.signature.write_signature.Goals as goal

pub returns-clause-ok : goal.returns-clause-ok
returns-clause-ok g c =
    on_ok_weaker c.write_values.result
    (λ written. signature_written (record { w = g.row.W; p = g.row.P; ls = g.row.LS }) c.args.key.now.ots c.args.key.now.seed c.args.key.now.id c.args.q
    c.args.text.now c.args.out.now c.to_be_bytes.result c.randomizer_of-c.result c.signed_octets_in-octets.result
    c.append.new.self c.append-2.new.self c.write_values.new.out
    c.in_ok-append.ensures.ok c.in_ok-append-2.ensures.ok written
    c.to_be_bytes.ensures c.randomizer_of-c.ensures c.signed_octets_in-octets.ensures)
    c.write_values.ensures.ok

pub returns-clause-err : goal.returns-clause-err
returns-clause-err g c =
    let both = c.in_ok-append-2.ensures.ok ∙ ap (λ (l : List ℕ). l ++ c.randomizer_of-c.result) c.in_ok-append.ensures.ok
    ∙ append_assoc c.args.out.now c.to_be_bytes.result c.randomizer_of-c.result in
    on_err_weaker c.write_values.result
    (take_kept c.args.out.now c.append-2.new.self c.write_values.new.out (c.to_be_bytes.result ++ c.randomizer_of-c.result) both)
    c.write_values.ensures.err
