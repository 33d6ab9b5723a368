use Rattle.deal_table.proofs.Looked.{look_refuses, look_sends}
use Rattle.deal_table.proofs.Owners.{look_owner, look_outer_owner}
use Rattle.deal_table.proofs.laws.what_a_look_tells.Goals as goal

pub returns-clause-refuses : goal.returns-clause-refuses
returns-clause-refuses c = look_refuses

pub returns-clause-sends : goal.returns-clause-sends
returns-clause-sends c = look_sends

pub returns-clause-owner : goal.returns-clause-owner
returns-clause-owner c = look_owner

pub returns-clause-outer : goal.returns-clause-outer
returns-clause-outer c = look_outer_owner
