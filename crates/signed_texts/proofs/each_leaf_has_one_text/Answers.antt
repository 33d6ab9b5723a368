use Rattle.signed_texts.proofs.Texts.{one_text}
use Rattle.signed_texts.proofs.each_leaf_has_one_text.Goals as goal

pub returns : goal.returns
returns c = one_text
