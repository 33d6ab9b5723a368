-- what stands inside the body's tag is no longer than the message
use Rattle.intake.proofs.Limits.{body_within}
use Rattle.intake.proofs.about.about.Goals as goal

pub returns-clause-fits : goal.returns-clause-fits
returns-clause-fits c bytes is = c.body_about.ensures.fits is.fits.inside is.fits.form (body_within bytes _ is)
