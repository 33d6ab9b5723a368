use Rattle.protect.proofs.check.protection_ok.Goals as goal

pub returns-in-Mac-clause-ok : goal.returns-in-Mac-clause-ok
returns-in-Mac-clause-ok c = rw (c.in-Mac.is, c.in-Some.is) c.mac_holds.ensures.ok
