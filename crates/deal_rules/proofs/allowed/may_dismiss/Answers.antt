use Rattle.deal_rules.proofs.allowed.may_dismiss.Goals as goal

-- of a listed credential the rule asks what the call tells
pub returns-in-Listed : goal.returns-in-Listed
returns-in-Listed c = rw c.in-Listed.is c.is_in_force.ensures
