-- What was read tells of the whole file.
use Rattle.std.proofs.Common.{◌∙◌, ap, sym}
use Rattle.registry.specs.Credentials.{credentials_in}
use Rattle.cmpca_tool.proofs.FileLemmas.{told_file}
use Rattle.cmpca_tool.proofs.enlist.read_list.Goals as goal

pub returns-in-Ok-read_credentials-clause-read : goal.returns-in-Ok-read_credentials-clause-read
returns-in-Ok-read_credentials-clause-read g c =
    told_file _ _ _ c.in-Ok.ensures.octets (ap credentials_in (sym c.as_slice.ensures.value) ∙ c.in-Ok-read_credentials.ensures.read)

pub returns-clause-unread : goal.returns-clause-unread
returns-clause-unread g c = λ some.
    told_file _ _ _ c.in-Ok.ensures.octets (ap credentials_in (sym c.as_slice.ensures.value) ∙ c.in-Err.ensures.refused some)
