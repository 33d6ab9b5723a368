-- the time that the text spells is the one that was read
use Rattle.std.proofs.Common.{◌∙◌, ap, ℕ, Option}
use Rattle.std.specs.Option.{ok_or}
use Rattle.der_base.specs.declared.fault.DerFault.TheVariants.{BadLength}
use Rattle.asn_types.proofs.time.time_element.Goals as goal

pub returns-in-23-clause-only_utc : goal.returns-in-23-clause-only_utc
returns-in-23-clause-only_utc c = λ t e h. c.ok_or.ensures.value ∙ ap (λ (o : Option ℕ). ok_or o BadLength) (c.read_utc.ensures.only t h)

pub returns-in-24-clause-only_generalized : goal.returns-in-24-clause-only_generalized
returns-in-24-clause-only_generalized c = λ t e h. c.ok_or-in-24.ensures.value ∙ ap (λ (o : Option ℕ). ok_or o BadLength) (c.read_generalized.ensures.only t h)
