-- the octets are a message, so what it asks for is no longer
use Rattle.intake.proofs.wish_tests.update.Goals as goal

pub returns-in-Enrols : goal.returns-in-Enrols
returns-in-Enrols c = c.in-Enrols.ensures.fits _ c.in_ok-message.ensures.found
