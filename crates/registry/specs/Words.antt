-- The words of keys and causes, as they stand in the files and in what is printed of a fault.
use Rattle.std.specs.Prelude.{ℕ, List, codes}
use Rattle.registry.specs.declared.fault.SettingKey.{SettingKey}
use Rattle.registry.specs.declared.fault.SettingKey.TheVariants as settings
use Rattle.registry.specs.declared.fault.CredCause.{CredCause}
use Rattle.registry.specs.declared.fault.CredCause.TheVariants as causes

abbrev pub setting_word : SettingKey → List ℕ
setting_word settings.Name = codes "name"
setting_word settings.IssueTree = codes "issue_tree"
setting_word settings.ReplyTree = codes "reply_tree"
setting_word settings.IssueOts = codes "issue_ots"
setting_word settings.ReplyOts = codes "reply_ots"
setting_word settings.Wait = codes "wait"
setting_word settings.Skew = codes "skew"
setting_word settings.Rounds = codes "rounds"
setting_word settings.CheckAfter = codes "check_after"
setting_word settings.Days = codes "days"
setting_word settings.Unknown = codes "unknown"

abbrev pub cause_word : CredCause → List ℕ
cause_word causes.Unknown = codes "unknown"
cause_word causes.Kind = codes "kind"
cause_word causes.Reference = codes "reference"
cause_word causes.Secret = codes "secret"
cause_word causes.Key = codes "key"
cause_word causes.Rights = codes "rights"
cause_word causes.Hold = codes "hold"
cause_word causes.Duplicate = codes "duplicate"
