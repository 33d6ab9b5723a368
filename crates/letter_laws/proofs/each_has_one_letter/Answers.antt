-- by what both readings find
use Rattle.std.proofs.Common.{subst}
use Rattle.std.specs.Prelude.{option_map}
use Rattle.pki_message.specs.Message.{message_of}
use Rattle.letter_laws.proofs.Letters.{ReadsAs, one_letter, some_letter}
use Rattle.letter_laws.proofs.each_has_one_letter.Goals as goal

pub returns-clause-some : goal.returns-clause-some
returns-clause-some c = some_letter c.params_are_spelled.ensures c.args.bytes.now (option_map message_of c.message_in-outer.result) (option_map message_of c.message_in-inner.result)
    (c.message_in-outer.ensures.found, c.message_in-outer.ensures.one)
    (subst (λ l. ReadsAs l (option_map message_of c.message_in-inner.result)) c.inside.ensures (c.message_in-inner.ensures.found, c.message_in-inner.ensures.one))

pub returns-clause-one : goal.returns-clause-one
returns-clause-one c = one_letter c.args.bytes.now (option_map message_of c.message_in-outer.result) (option_map message_of c.message_in-inner.result)
    (c.message_in-outer.ensures.found, c.message_in-outer.ensures.one)
    (subst (λ l. ReadsAs l (option_map message_of c.message_in-inner.result)) c.inside.ensures (c.message_in-inner.ensures.found, c.message_in-inner.ensures.one))
