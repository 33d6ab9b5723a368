use Rattle.protect.proofs.CheckLemmas.{messages_are_checked}
use Rattle.protect.proofs.laws.messages_are_checked.Goals as goal

pub returns : goal.returns
returns c = messages_are_checked
