-- The number of upper levels and the tree's signature, which is valid.
use Rattle.std.proofs.Common.{◌≡◌, List, ◌++◌, ℕ, sym, ◌∙◌, ap₂, subst}
use Rattle.lms_tree.specs.Keys.{tree_signature}
use Rattle.hss_sig.specs.Hss.{HssOk}
use Rattle.hss_sig.specs.OneLevel.{hss_key}
use Rattle.hss_sig.proofs.OneLevelLemmas.{signature_is, one_level_law, known_row}
use Rattle.hss_sig.proofs.one_level.signature_of.Goals as goal

pub returns-clause-signed : goal.returns-clause-signed
returns-clause-signed c =
    signature_is c.args.key.now c.args.leaf c.args.text.now c.in_ok-sig.sig c.append-2.new.self
    (c.in_ok-append-2.ensures.ok
    ∙ ap₂ (λ (a b : List ℕ). a ++ b) (c.in_ok-append.ensures.ok ∙ ap₂ (λ (a b : List ℕ). a ++ b) c.empty-out.ensures c.to_be_bytes.ensures) c.as_slice.ensures)
    c.in_ok-sig.ensures

pub returns-clause-valid : goal.returns-clause-valid
returns-clause-valid c =
    subst (λ (sig : List ℕ). HssOk (hss_key c.args.key.now) c.args.text.now sig) (sym (returns-clause-signed c))
    (one_level_law c.args.key.now c.args.leaf c.args.text.now c.requires.sized
    (known_row c.args.key.now (λ h row. c.in_ok-sig.sig ≡ tree_signature h row c.args.key.now c.args.leaf c.args.text.now) c.in_ok-sig.ensures) c.requires.below)
