-- by the limits of a message
use Rattle.intake.proofs.Fits.{letters_fit}
use Rattle.intake.proofs.laws.letters_fit.Goals as goal

pub returns : goal.returns
returns c = letters_fit
