-- by the rows of a sender, one behind the other
use Rattle.std.proofs.Common.{◌≡◌, sym, ◌∙◌, Some}
use Rattle.pki_message.specs.Message.{message_of}
use Rattle.deal_table.specs.Message.{Facts}
use Rattle.intake.specs.Letter.{facts_of}
use Rattle.intake.proofs.SenderLemmas.{back_protection, back_known, back_check, is_verified, verified_is}
use Rattle.intake.proofs.sender.proven.Goals as goal

pub returns-in-Err-clause-refused : goal.returns-in-Err-clause-refused
returns-in-Err-clause-refused c = rw c.bare.ensures (λ hashes bytes k checked.
    back_protection c.args.standing.now c.args.outer (facts_of hashes bytes (Some (message_of c.args.m.now)) k) c.in-Err.fail c.in-Err.ensures)

pub returns-in-Err-known-clause-refused : goal.returns-in-Err-known-clause-refused
returns-in-Err-known-clause-refused c = rw c.bare-in-Err-known.ensures (λ hashes bytes k checked.
    back_known c.args.standing.now c.args.outer (facts_of hashes bytes (Some (message_of c.args.m.now)) k) c.in-Ok.kind c.in-Ok.ensures.0 c.in-Ok.ensures.1 c.in-Err-known.fail c.in-Err-known.ensures)

pub returns-then-not-holds-clause-refused : goal.returns-then-not-holds-clause-refused
returns-then-not-holds-clause-refused c = rw c.bare-then-not-holds.ensures (λ hashes bytes k checked.
    let e = verified_is (message_of c.args.m.now) k c.in-Ok.kind c.in-Ok-known.owner.key c.in-Ok-verifies.holds checked c.in-Ok.ensures.1 c.in-Ok-verifies.ensures in
    back_check c.args.standing.now c.args.outer (facts_of hashes bytes (Some (message_of c.args.m.now)) k) c.in-Ok.kind c.in-Ok.ensures.0 c.in-Ok.ensures.1 c.in-Ok-known.owner c.in-Ok-known.ensures (e ∙ c.if-not-holds.true))

pub returns-clause-verified : goal.returns-clause-verified
returns-clause-verified c = λ hashes bytes k checked.
    let f : Facts = facts_of hashes bytes (Some (message_of c.args.m.now)) k in
    let e = verified_is (message_of c.args.m.now) k c.in-Ok.kind c.in-Ok-known.owner.key c.in-Ok-verifies.holds checked c.in-Ok.ensures.1 c.in-Ok-verifies.ensures in
    is_verified c.args.standing.now c.args.outer f c.in-Ok.kind c.in-Ok.ensures.0 c.in-Ok.ensures.1 c.in-Ok-known.owner c.in-Ok-known.ensures c.is_guarded.result
    (rw c.in-Ok.ensures.1 (c.is_guarded.ensures f.header.kid c.in-Ok-known.owner)) (e ∙ c.if-not-holds.false)
