-- What a change is, at which a reply is made: one that these settings may have made.
use Rattle.std.specs.Prelude.{◌≡◌, ◌<◌, ◌≤◌, length, None, IfSome}
use Rattle.deal_changes.specs.declared.change.Settings.{Settings}
use Rattle.deal_changes.specs.Times.{stamp_of}
use Rattle.deal_model.specs.Keys.{leaves_of}
use Rattle.deal_table.specs.History.{Receipted}
use Rattle.cert_maker.specs.Certificates.{IsKept, leaf_of}

-- As each change of a legal history with these settings is: it fits a log, its leaves are among those that the two keys have, and
-- the secret of a reply's MAC is no longer than one that may be listed.
pub record IsInForce (s : Settings) (r : Receipted) : Type 0 where
  pub kept : IsKept r.change
  pub issued : leaf_of r.change < leaves_of s.issue_key
  pub signed : IfSome (stamp_of r.change) (λ t. IfSome t.leaf (λ l. l < leaves_of s.reply_key))
  pub secret : IfSome (stamp_of r.change) (λ t. t.leaf ≡ None → length r.key ≤ 64)
