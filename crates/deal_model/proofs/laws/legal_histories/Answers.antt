use Rattle.std.proofs.Common.{[]}
use Rattle.deal_model.proofs.Histories.{never_falls}
use Rattle.deal_model.proofs.Leaves.{once, serials, grants}
use Rattle.deal_model.proofs.laws.legal_histories.Goals as goal

pub returns-clause-time : goal.returns-clause-time
returns-clause-time c = λ h legal p q x y le e f. never_falls [] h legal.1 p q x y le e f

pub returns-clause-leaves : goal.returns-clause-leaves
returns-clause-leaves c = once

-- the two words are one for each of these kinds
pub returns-clause-signed : goal.returns-clause-signed
returns-clause-signed c = λ change key leaf has. has

pub returns-clause-serials : goal.returns-clause-serials
returns-clause-serials c = serials

pub returns-clause-grants : goal.returns-clause-grants
returns-clause-grants c = grants
