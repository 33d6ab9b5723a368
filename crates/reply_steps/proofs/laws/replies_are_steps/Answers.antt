use Rattle.reply_steps.proofs.Replies.{sealed, written, stops}
use Rattle.reply_steps.proofs.laws.replies_are_steps.Goals as goal

pub returns-clause-sealed : goal.returns-clause-sealed
returns-clause-sealed c = sealed c.every_world_is_safe.ensures.safe c.each_leaf_has_one_text.ensures c.every_run_signs_one_text.ensures.texts c.what_is_sent_is_signed_so.ensures.replies

pub returns-clause-written : goal.returns-clause-written
returns-clause-written c = written

pub returns-clause-stop : goal.returns-clause-stop
returns-clause-stop c = stops
