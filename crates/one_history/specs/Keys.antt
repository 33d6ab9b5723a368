-- The key file of an authority, and the settings and the history that it belongs to.
use Rattle.std.specs.Prelude.{ℕ, List}
use Rattle.hss_sig.specs.OneLevel.{hss_key}
use Rattle.deal_changes.specs.declared.change.Settings.{Settings}
use Rattle.deal_model.specs.Views.{History, settings_of}
use Rattle.reply_maker.specs.KeyFile.{IsKeyFile}
use Rattle.reply_maker.specs.Keys.{Agrees, issue_secret, reply_secret}

-- the settings with the public keys of the key file
abbrev pub with_keys : List ℕ → Settings → Settings
with_keys file s = record s { issue_key = hss_key (issue_secret file s); reply_key = hss_key (reply_secret file s) }

-- The file has its form, and is that of the history's settings.
pub record IsOwnFile (file : List ℕ) (h : History) : Type 0 where
  pub form : IsKeyFile file
  pub agrees : Agrees file (settings_of h)
