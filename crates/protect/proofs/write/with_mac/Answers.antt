use Rattle.std.proofs.Common.{◌≡◌, ℕ, List, Some, sym, ap, ◌∙◌, arith}
use Rattle.std.specs.Option.{option_copied}
use Rattle.pki_message.specs.Frame.{protected_part}
use Rattle.protect.specs.Algorithms.{mac_algorithm, algorithm_octets}
use Rattle.protect.specs.declared.key.Key.TheVariants as keys
use Rattle.protect.proofs.AlgorithmLemmas.{mac_fits, mac_short, mac_is}
use Rattle.protect.proofs.BackLemmas.{headed, mac_by, read_back}
use Rattle.protect.proofs.write.with_mac.Goals as goal

pub returns-clause-again : goal.returns-clause-again
returns-clause-again c = λ fits most b whole certs.
    let salt = c.args.salt.now in
    let header = c.as_slice-4.result.now in
    let part = protected_part header c.args.body.now in
    let same : c.as_slice-3.result.now ≡ part = c.as_slice-3.ensures ∙ c.in_ok-part.ensures ∙ ap (λ (h : List ℕ). protected_part h c.args.body.now) (c.as_slice.ensures ∙ sym c.as_slice-4.ensures) in
    read_back c.write_message.result c.args.plan.now (Some (mac_algorithm salt c.args.rounds)) header c.args.body.now (Some c.make_mac-mac.result) (option_copied c.args.extra) (Some (keys.Mac c.args.secret.now)) b c.write_message.ensures.message
    (headed c.args.plan.now (Some c.in_ok-alg.alg) (Some (algorithm_octets (mac_algorithm salt c.args.rounds))) c.in_ok-header.header header (ap (λ (x : List ℕ). Some x) c.in_ok-alg.ensures.spelled) c.as_slice-4.ensures c.in_ok-header.ensures.again)
    fits (mac_fits salt c.args.rounds c.told-salt, mac_short salt c.args.rounds c.told-salt) whole (omega (arith, c.make_mac-mac.type_inv)) certs (omega (arith, c.requires.counted))
    (record {
      params = record { salt = salt; rounds = c.args.rounds };
      form = mac_is salt c.args.rounds c.told-salt c.requires.rounds most;
      valid = mac_by c.make_mac-mac.result c.as_slice-2.result.now c.as_slice-3.result.now c.args.secret.now part c.mac_params-params.result (record { salt = salt; rounds = c.args.rounds }) c.make_mac-mac.ensures c.as_slice-2.ensures.value c.mac_params-params.ensures same;
    })
