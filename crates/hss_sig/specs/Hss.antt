-- When a signature of HSS is valid: each key signs the next, and the last one the text (RFC 8554, 6.3).
use Rattle.std.specs.Prelude.{ℕ, zero, suc, ◌≡◌, ◌+◌, ◌*◌, ◌≤◌, List, Option, length, take, drop, MatchOption, option_map, option_and_then}
use Rattle.lms_params.specs.Parameters.{ots_row, tree_height}
use Rattle.lms_tree.specs.Verifies.{u32_at, LmsOk}

-- the octets of a signature under an LMS key, by the key's typecodes (RFC 8554, 5.4)
abbrev pub signature_size : List ℕ → Option ℕ
signature_size key = option_and_then (λ h. option_map (λ row. 44 + 32 * row.p + 32 * h) (ots_row (u32_at key 4))) (tree_height (u32_at key 0))

-- an upper level: a signature of the next key, that key, and the rest
pub record Leads (k : ℕ) (Rest : List ℕ → List ℕ → Type 0) (key octets : List ℕ) : Type 0 where
  pub room : k + 56 ≤ length octets
  pub signed : LmsOk key (take 56 (drop k octets)) (take k octets)
  pub rest : Rest (take 56 (drop k octets)) (drop (k + 56) octets)

-- the octets lead from an LMS key over n upper levels to the text (RFC 8554, 6.3)
abbrev pub LevelsOk : ℕ → List ℕ → List ℕ → List ℕ → Type 0
LevelsOk zero text key octets = LmsOk key text octets
LevelsOk (suc n) text key octets = MatchOption (signature_size key) ⊥ (λ k. Leads k (LevelsOk n text) key octets)

-- the signature of the text is valid under the public key (RFC 8554, 6.1 and 6.3)
pub record HssOk (key text sig : List ℕ) : Type 0 where
  pub key_size : length key ≡ 60
  pub some : 1 ≤ u32_at key 0
  pub most : u32_at key 0 ≤ 8
  pub sig_size : 4 ≤ length sig
  pub same_levels : u32_at sig 0 + 1 ≡ u32_at key 0
  pub levels : LevelsOk (u32_at sig 0) text (drop 4 key) (drop 4 sig)
