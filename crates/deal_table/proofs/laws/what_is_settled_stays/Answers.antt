use Rattle.deal_table.proofs.Stays.{settings_stay, owner_stays, first_stays, place_stays, receipt_stays, grant_stays}
use Rattle.deal_table.proofs.laws.what_is_settled_stays.Goals as goal

pub returns-clause-settings : goal.returns-clause-settings
returns-clause-settings c = settings_stay

pub returns-clause-owners : goal.returns-clause-owners
returns-clause-owners c = owner_stays

pub returns-clause-firsts : goal.returns-clause-firsts
returns-clause-firsts c = first_stays

pub returns-clause-places : goal.returns-clause-places
returns-clause-places c = place_stays

pub returns-clause-receipts : goal.returns-clause-receipts
returns-clause-receipts c = receipt_stays

pub returns-clause-grants : goal.returns-clause-grants
returns-clause-grants c = grant_stays
