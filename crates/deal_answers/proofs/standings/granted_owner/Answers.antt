use Rattle.std.proofs.Common.{◌≡◌, true}
use Rattle.deal_model.specs.Keys.{is_lms_key}
use Rattle.deal_answers.proofs.Lms.{lms_key_fits, false_true}
use Rattle.deal_answers.proofs.standings.granted_owner.Goals as goal

-- a key of 60 octets is short enough
pub returns-in-None : goal.returns-in-None
returns-in-None c =
    let passes : is_lms_key c.args.spki.now ≡ true = cc in
    absurd (false_true (c.in-None.ensures.fits.1 (rw c.key_of-key.ensures (lms_key_fits c.args.spki.now passes))))
