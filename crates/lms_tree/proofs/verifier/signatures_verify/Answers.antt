-- A signature has its form and leads to the root.
use Rattle.lms_tree.proofs.Law.{lms_ok}
use Rattle.lms_tree.proofs.verifier.signatures_verify.Goals as goal

pub returns : goal.returns
returns c = λ h row secret q text known_h known_row size small_tree small_ots small lt.
    lms_ok h row secret q text known_h known_row size small_tree small_ots small lt
