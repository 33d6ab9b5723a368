-- by the rows of a nested message's sender
use Rattle.std.proofs.Common.{◌≡◌, sym, ◌∙◌, Some}
use Rattle.pki_message.specs.Message.{message_of}
use Rattle.intake.specs.Letter.{facts_of}
use Rattle.intake.proofs.WrapLemmas.{back_around, may_not, not_one, may_one}
use Rattle.intake.proofs.checks.wrapper.Goals as goal

pub returns-in-Err-clause-err : goal.returns-in-Err-clause-err
returns-in-Err-clause-err c = λ hashes bytes k checked.
    back_around c.args.look.now (facts_of hashes bytes (Some (message_of c.args.m.now)) k) c.in-Err.unfit (c.in-Err.ensures.err hashes bytes k checked)

pub returns-then-not-may-clause-err : goal.returns-then-not-may-clause-err
returns-then-not-may-clause-err c = rw c.refused.ensures (λ hashes bytes k checked.
    may_not c.args.look.now (facts_of hashes bytes (Some (message_of c.args.m.now)) k) c.in-Ok.sender (c.in-Ok.ensures.ok hashes bytes k checked) (sym c.may.ensures ∙ c.if-not-may.true))

pub returns-then-not-nests_one-clause-err : goal.returns-then-not-nests_one-clause-err
returns-then-not-nests_one-clause-err c = rw c.refused-then-not-nests_one.ensures (λ hashes bytes k checked.
    not_one c.args.look.now (facts_of hashes bytes (Some (message_of c.args.m.now)) k) c.in-Ok.sender (c.in-Ok.ensures.ok hashes bytes k checked) (sym c.may.ensures ∙ c.if-not-may.false) (c.nests_one.ensures hashes k.is_proven checked.proven.0 ∙ c.if-not-nests_one.true))

pub returns-clause-ok : goal.returns-clause-ok
returns-clause-ok c = λ hashes bytes k checked.
    (c.in-Ok.ensures.ok hashes bytes k checked, may_one (facts_of hashes bytes (Some (message_of c.args.m.now)) k) c.in-Ok.sender.owner (sym c.may.ensures ∙ c.if-not-may.false) (c.nests_one.ensures hashes k.is_proven checked.proven.0 ∙ c.if-not-nests_one.false))
