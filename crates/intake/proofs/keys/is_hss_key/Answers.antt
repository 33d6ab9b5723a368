-- by what is read as a key
use Rattle.std.proofs.Common.{◌∙◌}
use Rattle.intake.proofs.Found.{key_read}
use Rattle.intake.proofs.keys.is_hss_key.Goals as goal

pub returns : goal.returns
returns c = c.is_ok.ensures.value ∙ key_read c.args.key.now c.read_key.result c.read_key.ensures.read c.read_key.ensures.found
