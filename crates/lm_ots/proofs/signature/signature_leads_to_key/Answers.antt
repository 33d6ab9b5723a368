-- The signature has the form of its row, and its candidate is the public hash.
use Rattle.lm_ots.proofs.Law.{candidate_if-ots_signature}
use Rattle.lm_ots.proofs.signature.signature_leads_to_key.Goals as goal

pub returns : goal.returns
returns c = candidate_if-ots_signature
