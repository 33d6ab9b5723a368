-- by the two steps of signing
use Rattle.std.proofs.Common.{◌≡◌, ℕ, List, sym, ap, subst, ◌∙◌}
use Rattle.std.specs.Option.{option_copied}
use Rattle.hss_sig.specs.Hss.{HssOk}
use Rattle.pki_message.specs.Frame.{protected_part}
use Rattle.pki_header.specs.Plan.{plan_size}
use Rattle.protect.proofs.BackLemmas.{signed_made, signed_size}
use Rattle.protect.proofs.write.with_signature.Goals as goal

pub returns-clause-made : goal.returns-clause-made
returns-clause-made g c =
    let signature = g.L.LeafSigner.signature c.args.signer.now c.args.leaf in
    let text : c.as_slice.result.now ≡ protected_part c.in_ok-unsigned.unsigned.header c.args.body.now = c.as_slice.ensures ∙ c.in_ok-unsigned.ensures.part in
    let sig : c.as_slice-2.result.now ≡ signature c.as_slice.result.now = c.as_slice-2.ensures ∙ c.in_ok-sig.ensures.signed in
    let made : c.as_slice-2.result.now ≡ signature (protected_part c.in_ok-unsigned.unsigned.header c.args.body.now) = sig ∙ ap signature text in
    signed_made c.with_sig.result c.args.plan.now c.args.body.now c.as_slice-2.result.now c.in_ok-unsigned.unsigned.header (option_copied c.args.extra) signature
    c.with_sig.ensures.written c.in_ok-unsigned.ensures.planned made

pub returns-clause-size : goal.returns-clause-size
returns-clause-size g c = λ n bound.
    let signature = g.L.LeafSigner.signature c.args.signer.now c.args.leaf in
    signed_size c.with_sig.result c.args.body.now c.as_slice-2.result.now c.in_ok-unsigned.unsigned.header c.as_slice.result.now (option_copied c.args.extra) signature (plan_size c.args.plan.now) n
    c.with_sig.ensures.size c.in_ok-unsigned.ensures.size (c.as_slice-2.ensures ∙ c.in_ok-sig.ensures.signed) bound

pub returns-clause-again : goal.returns-clause-again
returns-clause-again g c = λ fits b whole certs.
    let key = g.L.LeafSigner.key c.args.signer.now in
    let text : c.as_slice.result.now ≡ protected_part c.in_ok-unsigned.unsigned.header c.args.body.now = c.as_slice.ensures ∙ c.in_ok-unsigned.ensures.part in
    c.with_sig.ensures.again c.args.plan.now key b c.in_ok-unsigned.ensures.planned fits whole certs
    (subst (λ (l : List ℕ). HssOk key l c.as_slice-2.result.now) text (subst (λ (l : List ℕ). HssOk key c.as_slice.result.now l) (sym c.as_slice-2.ensures) c.in_ok-sig.ensures.valid))
