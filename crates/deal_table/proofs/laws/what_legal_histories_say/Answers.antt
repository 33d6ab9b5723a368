use Rattle.deal_table.proofs.Deals.{unused_has, deal_has}
use Rattle.deal_table.proofs.Forms.{nobody, legal_founded}
use Rattle.deal_table.proofs.Allowed.{event_timely}
use Rattle.deal_table.proofs.Senders.{secret_is}
use Rattle.deal_table.proofs.laws.what_legal_histories_say.Goals as goal

pub returns-clause-unused : goal.returns-clause-unused
returns-clause-unused c = unused_has

pub returns-clause-deal : goal.returns-clause-deal
returns-clause-deal c = deal_has

pub returns-clause-nobody : goal.returns-clause-nobody
returns-clause-nobody c = nobody

pub returns-clause-secret : goal.returns-clause-secret
returns-clause-secret c = secret_is

pub returns-clause-founded : goal.returns-clause-founded
returns-clause-founded c = legal_founded

pub returns-clause-time : goal.returns-clause-time
returns-clause-time c = event_timely
