-- by the rows of transactions and of wishes, one behind the other
use Rattle.std.proofs.Common.{◌≡◌, refl, sym, ap, subst, ◌∙◌, List, ℕ, Some, None, false}
use Rattle.cmp_values.specs.declared.fail_info.FailInfo.{FailInfo}
use Rattle.deal_table.specs.Table.{new_rows, wish_rows}
use Rattle.intake.specs.Checking.{name_for}
use Rattle.intake.specs.Made.{FirstApplies}
use Rattle.intake.specs.Told.{enrolling_told}
use Rattle.intake.proofs.TaskLemmas.{second_of_two, both_pass, names_key}
use Rattle.intake.proofs.job.enrolment.Goals as goal

pub returns-in-Some-wish_fault-clause-err : goal.returns-in-Some-wish_fault-clause-err
returns-in-Some-wish_fault-clause-err c =
    let look = c.args.look.now in
    let o = c.args.sender.now.owner in
    let named = c.as_slice.ensures ∙ c.in-Ok.ensures in
    rw c.refusal-in-Some-wish_fault.ensures (λ hashes proven.
    let e = enrolling_told proven c.args.e.now in
    let second = subst (λ (name : List ℕ). FirstApplies (wish_rows name c.args.sender.now.owner (enrolling_told proven c.args.e.now)) (Some c.in-Some-wish_fault.fail)) named (c.in-Some-wish_fault.ensures proven) in
    (refl, refl, λ to next. second_of_two c.in-Some-wish_fault.fail to (new_rows look.tid_state) (wish_rows (name_for look) o e) next c.in_default.ensures second))

pub returns-clause-ok : goal.returns-clause-ok
returns-clause-ok c = λ hashes proven is.
    let look = c.args.look.now in
    let o = c.args.sender.now.owner in
    let e = enrolling_told proven c.args.e.now in
    let named = c.as_slice.ensures ∙ c.in-Ok.ensures in
    let rows = subst (λ (name : List ℕ). FirstApplies (wish_rows name c.args.sender.now.owner (enrolling_told proven c.args.e.now)) None) named (c.in_default-wish_fault.ensures proven) in
    record {
      job = λ k same minus. (rows, refl, sym c.in-Ok-wish.ensures.made, c.shows_possession.ensures proven is ∙ sym same);
      passes = λ to next. both_pass to (new_rows look.tid_state) (wish_rows (name_for look) o e) next c.in_default.ensures rows;
      told = λ digests. tt;
      compared = tt;
      left = tt;
      no_more = (refl, refl);
    }

pub returns-clause-fits : goal.returns-clause-fits
returns-clause-fits c = c.in-Ok-wish.ensures.fits (names_key c.as_slice.result.now c.args.sender.now.owner (enrolling_told false c.args.e.now) (c.in_default-wish_fault.ensures false))
