-- The leaf's number, its signature, the typecode and the path stand one behind the other.
use Rattle.std.proofs.Common.{◌≡◌, ◌*◌, ◌^◌}
use Rattle.lms_params.specs.Parameters.{OtsRow}
use Rattle.lms_tree.specs.Nodes.{AreNodes}
use Rattle.lms_tree.specs.Keys.{Secret, keys_of, tree_signature}
use Rattle.lms_tree.proofs.KeyLemmas.{for_known, from_known, signature_in_parts}
use Rattle.lms_tree.proofs.sign.sign_in.Goals as goal

pub returns : goal.returns
returns g c =
    let s : Secret = record { seed = c.args.key.now.seed; id = c.args.key.now.id; tree = c.args.code; ots = c.args.key.now.ots } in
    let row : OtsRow = record { w = g.row.W; p = g.row.P; ls = g.row.LS } in
    let are = from_known s g.row.H row (λ h r. AreNodes (keys_of r s) s.id h 1 (2 * 2 ^ h) c.args.nodes.now) c.requires.height c.requires.row c.requires.grown in
    for_known s g.row.H row (λ h r. c.write_path.new.out ≡ tree_signature h r s c.args.q c.args.text.now) c.requires.height c.requires.row
    (signature_in_parts g.row.H row s c.args.q c.args.text.now c.empty-out.result c.to_be_bytes.result c.append.new.self c.sign_ots_in.new.out
    c.to_be_bytes-2.result c.append-2.new.self c.write_path.new.out
    c.empty-out.ensures c.to_be_bytes.ensures c.in_ok-append.ensures.ok c.in_ok-sign_ots_in.ensures.ok
    c.to_be_bytes-2.ensures c.in_ok-append-2.ensures.ok
    (c.in_ok-write_path.ensures (keys_of row s) s.id are))
