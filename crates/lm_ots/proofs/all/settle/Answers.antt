-- The four chains' ends are written.
use Rattle.std.proofs.Common.{refl}
use Rattle.lm_ots.specs.Runs.{end_of}
use Rattle.lm_ots.proofs.all.settle.Goals as goal

pub returns : goal.returns
returns c = λ x waits.
    c.store.ensures (end_of c.args.run.id.now c.args.run.q c.args.run.from.now c.args.run.to.now c.args.run.starts.now) x (λ k low.
    rw (c.four_chains-four.ensures k low, c.places_of-from.ensures k low, c.places_of-to.ensures k low, c.values_of.ensures k low) refl) waits
