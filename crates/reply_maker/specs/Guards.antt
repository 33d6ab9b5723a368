-- A guard is a secret of the table.
use Rattle.deal_table.specs.Table.{Secret}
use Rattle.reply_maker.specs.declared.refusals.Guard.{Guard}

abbrev pub secret_in : Guard → Secret
secret_in g = record { kid = g.kid; key = g.secret }
