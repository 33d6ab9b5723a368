use Rattle.std.proofs.Common.{refl}
use Rattle.asn_types.specs.Algorithm.{algorithm_of}
use Rattle.protect.proofs.CheckLemmas.{none_for}
use Rattle.protect.proofs.check.params_of.Goals as goal

pub returns-in-Err-clause-none : goal.returns-in-Err-clause-none
returns-in-Err-clause-none c = (λ e. none_for (algorithm_of c.args.alg.now) c.params_are_spelled.ensures c.in-Err.ensures.exact, λ f. refl)
