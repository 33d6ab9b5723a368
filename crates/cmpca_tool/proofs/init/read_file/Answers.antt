-- What was read tells of the whole file.
use Rattle.std.proofs.Common.{◌∙◌, ap, sym}
use Rattle.registry.specs.Settings.{settings_in}
use Rattle.cmpca_tool.proofs.InitLemmas.{said}
use Rattle.cmpca_tool.proofs.init.read_file.Goals as goal

pub returns-in-Ok-read_settings-clause-read : goal.returns-in-Ok-read_settings-clause-read
returns-in-Ok-read_settings-clause-read g c =
    said _ _ _ c.in-Ok.ensures.octets (ap settings_in (sym c.as_slice.ensures.value) ∙ c.in-Ok-read_settings.ensures.read)

pub returns-clause-unread : goal.returns-clause-unread
returns-clause-unread g c = λ some.
    said _ _ _ c.in-Ok.ensures.octets (ap settings_in (sym c.as_slice.ensures.value) ∙ c.in-Err.ensures.refused some)
