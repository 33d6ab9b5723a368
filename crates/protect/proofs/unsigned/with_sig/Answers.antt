-- by the laws of what is written
use Rattle.std.proofs.Common.{ℕ, List, rules, refl}
use Rattle.std.specs.Option.{option_copied}
use Rattle.protect.proofs.BackLemmas.{signed_made, signed_again}
use Rattle.protect.proofs.unsigned.with_sig.Goals as goal

pub returns-clause-written : goal.returns-clause-written
returns-clause-written c = search rules

pub returns-clause-made : goal.returns-clause-made
returns-clause-made c = λ plan planned.
    signed_made c.write_message.result plan c.args.body.now c.args.sig.now c.args.unsigned.now.header (option_copied c.args.extra) (λ (part : List ℕ). c.args.sig.now) (returns-clause-written c) planned refl

pub returns-clause-again : goal.returns-clause-again
returns-clause-again c = λ plan key b planned fits whole certs ok.
    signed_again c.write_message.result plan c.args.body.now c.args.sig.now c.args.unsigned.now.header (option_copied c.args.extra) key b (returns-clause-written c) planned fits whole certs ok
