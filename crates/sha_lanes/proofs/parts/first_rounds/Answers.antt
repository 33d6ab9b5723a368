use Rattle.std.proofs.Common.{List, ℕ, ◌∙◌, ap}
use Rattle.sha2.specs.Sha256.{rounds}
use Rattle.sha_lanes.specs.Lanes.{lane}
use Rattle.sha_lanes.proofs.parts.first_rounds.Goals as goal

pub returns : goal.returns
returns c = λ i p low is. record {
  is_front = is;
  begun = c.first_five_steps.ensures i low ∙ ap (λ (h : List ℕ). rounds h (lane i c.args.front.now) 5) (c.initial_hash.ensures i low);
}
