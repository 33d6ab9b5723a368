-- The number of levels and the tree's public key.
use Rattle.std.proofs.Common.{ℕ, List, ◌∷◌, ◌∙◌, ap, append-nil}
use Rattle.hss_sig.proofs.OneLevelLemmas.{key_is}
use Rattle.hss_sig.proofs.one_level.public_of.Goals as goal

pub returns : goal.returns
returns c =
    key_is c.args.key.now c.public.result _
    (ap (λ (l : List ℕ). 0 ∷ 0 ∷ 0 ∷ 1 ∷ l) (append-nil c.copy_from_slice.new.self ∙ c.copy_from_slice.ensures.after)) c.public.ensures
