use Rattle.std.proofs.Common.{codes}
use Rattle.registry.specs.Forms.{rights_of}
use Rattle.registry.proofs.ViewLemmas.{times_view, count_view}
use Rattle.registry.proofs.forms.rights_of.Goals as goal

pub returns-clause-value : goal.returns-clause-value
unfolding rights_of
returns-clause-value c =
    let vs = c.args.items.now in
    cc (times_view (codes "enrol") vs, times_view (codes "vouch") vs, times_view (codes "wrap") vs, times_view (codes "revoke") vs, count_view vs)
