-- An array that is filled in two parts.
use Rattle.std.proofs.Common.{◌≡◌, ℕ, List, [], ◌∷◌, ◌++◌, length, rules}
use Rattle.std.proofs.lemmas.Grind.{common_steps}
use borrow.Rule.Slice.PartMut.{put_mid}

-- 34 zeros, of which the first 32 and then the last 2 are written
pub two_parts : (h b : List ℕ) → length h ≡ 32 → length b ≡ 2 → put_mid 32 2 (h ++ 0 ∷ 0 ∷ []) b ≡ h ++ b
two_parts h b len_h len_b = search (rules, common_steps)
