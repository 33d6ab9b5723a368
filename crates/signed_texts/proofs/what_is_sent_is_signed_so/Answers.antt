use Rattle.signed_texts.proofs.Sent.{own_signed, granted_signed, replies_signed}
use Rattle.signed_texts.proofs.what_is_sent_is_signed_so.Goals as goal

pub returns-clause-own : goal.returns-clause-own
returns-clause-own c = own_signed

pub returns-clause-granted : goal.returns-clause-granted
returns-clause-granted c = granted_signed

pub returns-clause-replies : goal.returns-clause-replies
returns-clause-replies c = replies_signed
