-- The parts are found where they stand.
use Rattle.std.proofs.Common.{ℕ, List, [], sym, ◌∙◌, subst, arith, append-nil}
use Rattle.hss_sig.specs.Forms.{IsLmsSignature}
use Rattle.hss_sig.proofs.FormLemmas.{some_is, levels_found, parts_found, keys_found, upper_found, last_found}
use Rattle.hss_sig.proofs.forms.read_sig.Goals as goal

pub returns-in_default-lms_signature_size-clause-found : goal.returns-in_default-lms_signature_size-clause-found
returns-in_default-lms_signature_size-clause-found c = λ levels upper last s.
    let bytes = c.args.bytes.now in
    let parts = c.split_at.result.1.now in
    let count = c.u32_at-count.result in
    let parts_is = c.split_at.ensures.back in
    let count_is = c.u32_at-count.ensures in
    let above = c.in-Some.ensures.found upper last (parts_found bytes parts upper last count levels parts_is count_is s) (keys_found bytes parts upper last count levels parts_is count_is s) in
    let size_is = some_is _ _ above in
    let upper_is = c.split_at-2.ensures.front ∙ upper_found bytes parts upper last count levels parts_is count_is s c.in-Some.size size_is in
    let last_is = c.split_at-2.ensures.back ∙ last_found bytes parts upper last count levels parts_is count_is s c.in-Some.size size_is in
    let lowest = c.lms_signature_size.ensures.found c.split_at-2.result.1.now [] (sym (append-nil c.split_at-2.result.1.now))
    (subst (λ (l : List ℕ). IsLmsSignature l) (sym last_is) s.last_is) in
    c.in_default-lms_signature_size.not-Some _ lowest

pub returns-then-end-last-clause-found : goal.returns-then-end-last-clause-found
returns-then-end-last-clause-found c = λ levels upper last s.
    let bytes = c.args.bytes.now in
    let parts = c.split_at.result.1.now in
    let count = c.u32_at-count.result in
    let parts_is = c.split_at.ensures.back in
    let count_is = c.u32_at-count.ensures in
    let above = c.in-Some.ensures.found upper last (parts_found bytes parts upper last count levels parts_is count_is s) (keys_found bytes parts upper last count levels parts_is count_is s) in
    let size_is = some_is _ _ above in
    let upper_is = c.split_at-2.ensures.front ∙ upper_found bytes parts upper last count levels parts_is count_is s c.in-Some.size size_is in
    let last_is = c.split_at-2.ensures.back ∙ last_found bytes parts upper last count levels parts_is count_is s c.in-Some.size size_is in
    let lowest = c.lms_signature_size.ensures.found c.split_at-2.result.1.now [] (sym (append-nil c.split_at-2.result.1.now))
    (subst (λ (l : List ℕ). IsLmsSignature l) (sym last_is) s.last_is) in
    let end_is = some_is _ _ (sym c.in-Some-lms_signature_size.is ∙ lowest) in
    absurd (omega (arith, end_is, c.if-end-last.true))

pub returns-clause-found : goal.returns-clause-found
returns-clause-found c = λ levels upper last s.
    let bytes = c.args.bytes.now in
    let parts = c.split_at.result.1.now in
    let count = c.u32_at-count.result in
    let parts_is = c.split_at.ensures.back in
    let count_is = c.u32_at-count.ensures in
    let above = c.in-Some.ensures.found upper last (parts_found bytes parts upper last count levels parts_is count_is s) (keys_found bytes parts upper last count levels parts_is count_is s) in
    let size_is = some_is _ _ above in
    let upper_is = c.split_at-2.ensures.front ∙ upper_found bytes parts upper last count levels parts_is count_is s c.in-Some.size size_is in
    let last_is = c.split_at-2.ensures.back ∙ last_found bytes parts upper last count levels parts_is count_is s c.in-Some.size size_is in
    (levels_found bytes parts upper last count levels parts_is count_is s, upper_is, last_is)
