-- A signature, the key that it signs, and the others.
use Rattle.std.proofs.Common.{ℕ, ◌≤◌, List, sym, ◌∙◌, ap, subst, arith}
use Rattle.std.specs.Prelude.{Some, IsSome}
use Rattle.hss_sig.specs.Hss.{signature_size}
use Rattle.hss_sig.proofs.FormLemmas.{some_is, not_none, known_some, some_not_none, next, next_size, key_room, key_known, next_keys, size_of_all, keys_front}
use Rattle.hss_sig.proofs.forms.+signed_keys_size.Goals as goal

pub returns-in_err-size-clause-found : goal.returns-in_err-size-clause-found
returns-in_err-size-clause-found t c = λ keys rest is are.
    let some : 1 ≤ c.args.count = omega (arith, c.if-count-eq0.false) in
    let first = next_size c.args.octets.now keys rest c.args.count is some are c.lms_signature_size.result c.lms_signature_size.ensures.found in
    absurd (not_none _ (sym c.in_err-size.was ∙ first))

pub returns-then-behind-lt56-clause-found : goal.returns-then-behind-lt56-clause-found
returns-then-behind-lt56-clause-found t c = λ keys rest is are.
    let some : 1 ≤ c.args.count = omega (arith, c.if-count-eq0.false) in
    let first = next_size c.args.octets.now keys rest c.args.count is some are c.lms_signature_size.result c.lms_signature_size.ensures.found in
    let size_is = some_is _ _ (sym c.in_ok-size.was ∙ first) in
    let room = key_room c.args.octets.now keys rest c.args.count is some are c.in_ok-size.size c.split_at.result.1.now size_is c.split_at.ensures.back in
    absurd (omega (arith, room, c.if-behind-lt56.true))

pub returns-in_err-signature_size-clause-found : goal.returns-in_err-signature_size-clause-found
returns-in_err-signature_size-clause-found t c = λ keys rest is are.
    let some : 1 ≤ c.args.count = omega (arith, c.if-count-eq0.false) in
    let first = next_size c.args.octets.now keys rest c.args.count is some are c.lms_signature_size.result c.lms_signature_size.ensures.found in
    let size_is = some_is _ _ (sym c.in_ok-size.was ∙ first) in
    let known = key_known c.args.octets.now keys rest c.args.count is some are c.in_ok-size.size c.split_at.result.1.now size_is c.split_at.ensures.back in
    let here = subst (λ (l : List ℕ). IsSome (signature_size l)) (sym c.split_at-2.ensures.front) known in
    absurd (some_not_none _ (sym c.signature_size.ensures ∙ c.in_err-signature_size.was) here)

pub returns-in_err-further-clause-found : goal.returns-in_err-further-clause-found
returns-in_err-further-clause-found t c = λ keys rest is are.
    let some : 1 ≤ c.args.count = omega (arith, c.if-count-eq0.false) in
    let first = next_size c.args.octets.now keys rest c.args.count is some are c.lms_signature_size.result c.lms_signature_size.ensures.found in
    let size_is = some_is _ _ (sym c.in_ok-size.was ∙ first) in
    let behind = c.split_at.result.1.now in
    let others = next c.args.octets.now keys rest c.args.count is some are in
    let there = c.split_at-2.ensures.back ∙ next_keys c.args.octets.now keys rest c.args.count is some are c.in_ok-size.size behind size_is c.split_at.ensures.back in
    let found = c.signed_keys_size.ensures.found others.behind rest there others.rest in
    absurd (not_none _ (sym c.in_err-further.was ∙ found))

pub returns-clause-only : goal.returns-clause-only
returns-clause-only t c =
    keys_front c.args.octets.now c.split_at.result.1.now c.split_at-2.result.0.now c.split_at-2.result.1.now c.args.count c.in_ok-size.size c.in_ok-further.further
    (omega (arith, c.if-count-eq0.false)) c.in_ok-size.ensures.only c.split_at.ensures.back (omega (arith, c.if-behind-lt56.false))
    c.split_at-2.ensures.front c.split_at-2.ensures.back (known_some _ c.in_ok-signature_size.field-0 (sym c.signature_size.ensures ∙ c.in_ok-signature_size.was))
    c.in_ok-further.ensures.only

pub returns-clause-found : goal.returns-clause-found
returns-clause-found t c = λ keys rest is are.
    let some : 1 ≤ c.args.count = omega (arith, c.if-count-eq0.false) in
    let first = next_size c.args.octets.now keys rest c.args.count is some are c.lms_signature_size.result c.lms_signature_size.ensures.found in
    let size_is = some_is _ _ (sym c.in_ok-size.was ∙ first) in
    let behind = c.split_at.result.1.now in
    let others = next c.args.octets.now keys rest c.args.count is some are in
    let there = c.split_at-2.ensures.back ∙ next_keys c.args.octets.now keys rest c.args.count is some are c.in_ok-size.size behind size_is c.split_at.ensures.back in
    let found = c.signed_keys_size.ensures.found others.behind rest there others.rest in
    let further_is = some_is _ _ (sym c.in_ok-further.was ∙ found) in
    ap Some (size_of_all c.args.octets.now keys rest c.args.count is some are c.in_ok-size.size behind size_is c.split_at.ensures.back c.in_ok-further.further further_is)
