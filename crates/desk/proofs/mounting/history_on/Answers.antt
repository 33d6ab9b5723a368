-- A legal history is one of times that a clock may say, and no longer than a history may be.
use Rattle.std.proofs.Common.{◌≡◌, sym, ◌∙◌}
use Rattle.desk.specs.Images.{spellings}
use Rattle.desk.proofs.Kept.{replayed_images}
use Rattle.desk.proofs.LawfulLemmas.{legal_timely, legal_bounded}
use Rattle.desk.proofs.mounting.history_on.Goals as goal

pub returns-clause-timely : goal.returns-clause-timely
returns-clause-timely g c = legal_timely c.in_ok-history.history.items c.in_ok-history.ensures.0

pub returns-clause-bounded : goal.returns-clause-bounded
returns-clause-bounded g c = legal_bounded c.in_ok-history.history.items c.in_ok-history.ensures.0

pub returns-clause-stands : goal.returns-clause-stands
returns-clause-stands g c =
    let spelled : c.in_ok-payloads.payloads ≡ spellings c.in_ok-history.history.items = sym c.as_slice.ensures ∙ c.in_ok-history.ensures.1 in
    replayed_images c.in_ok-history.history.items c.in_ok-payloads.payloads _ _ spelled c.in_ok-payloads.ensures.rest
