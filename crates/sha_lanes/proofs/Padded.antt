-- A block that is filled in two parts.
use Rattle.std.proofs.Common.{◌≡◌, ℕ, List, ◌++◌, length, append-nil, arith, refl}
use Rattle.std.proofs.lemmas.List.{take_at, drop_at, drop_all}
use borrow.Rule.Slice.PartMut.{put_mid}

pub two_parts : (n k : ℕ) (m z b : List ℕ) → length m ≡ n → length z ≡ k → put_mid n k (m ++ z) b ≡ m ++ b
two_parts n k m z b size_m size_z =
    rw (take_at m z n size_m, drop_at m z n size_m, drop_all k z (omega arith), append-nil b) refl
