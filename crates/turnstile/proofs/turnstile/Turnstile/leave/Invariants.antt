use Rattle.turnstile.proofs.turnstile.Turnstile.leave.Given as goal

-- what is published is the history of the value that is put back
abbrev pub ghosts-publish : goal.ghosts-publish
ghosts-publish g a = record { log = g.T.Chronicle.history a.value.now }
