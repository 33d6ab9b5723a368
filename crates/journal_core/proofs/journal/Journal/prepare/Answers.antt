use Rattle.std.proofs.Common.{sym, ◌∙◌, ap, ◌≤◌, ◌<◌, arith, length, [], ◌∷◌, Some}
use Rattle.std.specs.Prelude.{option_map}
use Rattle.cmp_ports.specs.Disk.{overwritten}
use Rattle.journal_core.proofs.Founding.{closed_front, prepared_long, prepared_short}
use Rattle.journal_core.proofs.journal.Journal.prepare.Goals as goal

pub returns-else-open-clause-prepared : goal.returns-else-open-clause-prepared
returns-else-open-clause-prepared g c = λ i image.
    let told = c.in-Ok.ensures.told i (sym c.look.ensures.same ∙ c.in-Ok.ensures.settled i image) in
    let long : 9 ≤ length i = omega (arith, told.0, c.if-size-ge9.true) in
    closed_front i long (sym told.1 ∙ c.if-open.false)

pub returns-else-open-clause-gate : goal.returns-else-open-clause-gate
returns-else-open-clause-gate g c = λ f told.
    let seen = c.in-Ok.ensures.told f told in
    let long : 9 ≤ length f = omega (arith, seen.0, c.if-size-ge9.true) in
    c.look.ensures.same ∙ told ∙ ap Some (prepared_long f long)

pub returns-in-Ok-write_through-clause-gate : goal.returns-in-Ok-write_through-clause-gate
returns-in-Ok-write_through-clause-gate g c = λ f told.
    let seen = c.in-Ok.ensures.told f told in
    let short : length f < 9 = omega (arith, seen.0, c.if-size-ge9.false) in
    c.in-Ok-write_through.ensures.content ∙ ap (λ o. option_map (overwritten 0 (0 ∷ [])) o) (c.look.ensures.same ∙ told) ∙ ap Some (prepared_short f short)
