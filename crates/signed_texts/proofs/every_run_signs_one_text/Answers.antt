use Rattle.signed_texts.proofs.Worlds.{every_text, every_once, every_stays, every_settings}
use Rattle.signed_texts.proofs.every_run_signs_one_text.Goals as goal

pub returns-clause-texts : goal.returns-clause-texts
returns-clause-texts c = every_text

pub returns-clause-once : goal.returns-clause-once
returns-clause-once c = every_once

pub returns-clause-stays : goal.returns-clause-stays
returns-clause-stays c = every_stays

pub returns-clause-settings : goal.returns-clause-settings
returns-clause-settings c = every_settings
