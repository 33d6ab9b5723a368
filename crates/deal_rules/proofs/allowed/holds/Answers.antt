use Rattle.deal_rules.proofs.allowed.holds.Goals as goal

-- of each kind the rule asks what the call tells
pub returns-in-Grant : goal.returns-in-Grant
returns-in-Grant c = rw c.in-Grant.is c.may_grant.ensures

pub returns-in-Hold : goal.returns-in-Hold
returns-in-Hold c = rw c.in-Hold.is c.may_hold.ensures

pub returns-in-Settled : goal.returns-in-Settled
returns-in-Settled c = rw c.in-Settled.is c.may_settle.ensures

pub returns-in-Revoke : goal.returns-in-Revoke
returns-in-Revoke c = rw c.in-Revoke.is c.may_revoke.ensures
