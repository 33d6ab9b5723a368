-- a text that is no time is that of no second
use Rattle.std.proofs.Common.{◌≡◌, ℕ, List, Option, ap}
use Rattle.std.specs.Option.{option_copied}
use Rattle.pki_header.proofs.TimeLemmas.{no_time}
use Rattle.pki_header.proofs.header.read_time.Goals as goal

pub returns-in-None-read_generalized-clause-only : goal.returns-in-None-read_generalized-clause-only
returns-in-None-read_generalized-clause-only c = λ t h. absurd (no_time (option_copied c.args.text) c.in-Some.text.now t (ap option_copied c.in-Some.is) c.in-None-read_generalized.ensures.only h)
