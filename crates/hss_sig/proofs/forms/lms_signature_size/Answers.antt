-- The sizes of the parts are those of the typecodes.
use Rattle.std.proofs.Common.{◌≡◌, ℕ, ◌*◌, sym, ◌∙◌, ap, refl, arith}
use Rattle.std.specs.Prelude.{Some, option_map}
use Rattle.lms_params.specs.Parameters.{ots_row, ots_signature_size}
use Rattle.hss_sig.proofs.FormLemmas.{some_is, not_none, sig_room, signature_stands, found_ots, found_height, found_leaf}
use Rattle.hss_sig.proofs.forms.lms_signature_size.Goals as goal

pub returns-in_err-height-clause-found : goal.returns-in_err-height-clause-found
returns-in_err-height-clause-found c = λ sig rest is s.
    let ots_is = sym c.in_ok-ots.was ∙ c.ots_signature_size.ensures ∙ ap (λ (n : ℕ). option_map ots_signature_size (ots_row n)) c.u32_at.ensures in
    let known = found_height c.args.octets.now sig rest is s c.in_ok-ots.ots c.u32_at-code.result ots_is c.u32_at-code.ensures in
    absurd (not_none s.h (sym c.in_err-height.was ∙ c.tree_height.ensures ∙ known))

pub returns-then-octets-ots-2-clause-found : goal.returns-then-octets-ots-2-clause-found
returns-then-octets-ots-2-clause-found c = λ sig rest is s.
    let ots_is = sym c.in_ok-ots.was ∙ c.ots_signature_size.ensures ∙ ap (λ (n : ℕ). option_map ots_signature_size (ots_row n)) c.u32_at.ensures in
    let ots_found = found_ots c.args.octets.now sig rest is s c.in_ok-ots.ots c.u32_at-code.result ots_is c.u32_at-code.ensures in
    let known = found_height c.args.octets.now sig rest is s c.in_ok-ots.ots c.u32_at-code.result ots_is c.u32_at-code.ensures in
    let height_found : c.in_ok-height.height ≡ s.h = some_is _ _ (sym c.in_ok-height.was ∙ c.tree_height.ensures ∙ known) in
    absurd (omega (arith, s.size, ots_found, height_found, sig_room c.args.octets.now sig rest is s, c.if-octets-ots-2.true))

pub returns-then-u32_at-leaves_under-clause-found : goal.returns-then-u32_at-leaves_under-clause-found
returns-then-u32_at-leaves_under-clause-found c = λ sig rest is s.
    let ots_is = sym c.in_ok-ots.was ∙ c.ots_signature_size.ensures ∙ ap (λ (n : ℕ). option_map ots_signature_size (ots_row n)) c.u32_at.ensures in
    let leaf = found_leaf c.args.octets.now sig rest is s c.in_ok-ots.ots c.u32_at-code.result ots_is c.u32_at-code.ensures in
    absurd (omega (arith, leaf, c.u32_at-2.ensures, c.leaves_under.ensures, c.if-u32_at-leaves_under.true))

pub returns-clause-only : goal.returns-clause-only
returns-clause-only c =
    let ots_is = sym c.in_ok-ots.was ∙ c.ots_signature_size.ensures ∙ ap (λ (n : ℕ). option_map ots_signature_size (ots_row n)) c.u32_at.ensures in
    signature_stands c.args.octets.now c.in_ok-ots.ots c.u32_at-code.result (32 * c.in_ok-height.height) c.in_ok-height.height ots_is c.u32_at-code.ensures
    (sym c.tree_height.ensures ∙ c.in_ok-height.was) refl
    (omega (arith, c.if-octets-lt44.false, c.if-octets-ots.false, c.if-octets-ots-2.false))
    (omega (arith, c.u32_at-2.ensures, c.leaves_under.ensures, c.if-u32_at-leaves_under.false))

pub returns-clause-found : goal.returns-clause-found
returns-clause-found c = λ sig rest is s.
    let ots_is = sym c.in_ok-ots.was ∙ c.ots_signature_size.ensures ∙ ap (λ (n : ℕ). option_map ots_signature_size (ots_row n)) c.u32_at.ensures in
    let ots_found = found_ots c.args.octets.now sig rest is s c.in_ok-ots.ots c.u32_at-code.result ots_is c.u32_at-code.ensures in
    let known = found_height c.args.octets.now sig rest is s c.in_ok-ots.ots c.u32_at-code.result ots_is c.u32_at-code.ensures in
    let height_found : c.in_ok-height.height ≡ s.h = some_is _ _ (sym c.in_ok-height.was ∙ c.tree_height.ensures ∙ known) in
    ap Some (omega (arith, s.size, ots_found, height_found))
