-- One upper level of a signature.
use Rattle.std.proofs.Common.{◌≡◌, ℕ, suc, List, ◌+◌, ◌-◌, ◌≤◌, length, take, drop, sym, ◌∙◌, ap, subst, arith, false}
use Rattle.std.specs.Prelude.{Bool, Option, Some, MatchOption, IsTrue, ◌↔◌}
use Rattle.std.proofs.lemmas.List.{drop-drop}
use Rattle.lms_tree.specs.Verifies.{LmsOk}
use Rattle.hss_sig.specs.Hss.{signature_size, Leads, LevelsOk}

-- the levels below an upper one
below : (upper : ℕ) → 1 ≤ upper → upper ≡ suc (upper - 1)
below upper some = omega arith

-- the octets lead on if the level's signature is valid and the rest leads on
pub level_leads : (upper k : ℕ) (text key octets : List ℕ) → 1 ≤ upper → signature_size key ≡ Some k → k + 56 ≤ length octets
    → LmsOk key (take 56 (drop k octets)) (take k octets)
    → LevelsOk (upper - 1) text (take 56 (drop k octets)) (drop 56 (drop k octets)) → LevelsOk upper text key octets
level_leads upper k text key octets some known room signed rest =
    subst (λ (n : ℕ). LevelsOk n text key octets) (sym (below upper some))
    (subst (λ (o : Option ℕ). MatchOption o ⊥ (λ j. Leads j (LevelsOk (upper - 1) text) key octets)) (sym known)
    (record {
      room = room;
      signed = signed;
      rest = subst (λ (l : List ℕ). LevelsOk (upper - 1) text (take 56 (drop k octets)) l) (drop-drop 56 k octets) rest;
    }))

-- .. and only then
pub level_of : (upper k : ℕ) (text key octets : List ℕ) → 1 ≤ upper → signature_size key ≡ Some k → LevelsOk upper text key octets
    → Leads k (LevelsOk (upper - 1) text) key octets
level_of upper k text key octets some known ok =
    subst (λ (o : Option ℕ). MatchOption o ⊥ (λ j. Leads j (LevelsOk (upper - 1) text) key octets)) known
    (subst (λ (n : ℕ). LevelsOk n text key octets) (below upper some) ok)

pub rest_of : (upper k : ℕ) (text key octets : List ℕ) → Leads k (LevelsOk (upper - 1) text) key octets
    → LevelsOk (upper - 1) text (take 56 (drop k octets)) (drop 56 (drop k octets))
rest_of upper k text key octets leads =
    subst (λ (l : List ℕ). LevelsOk (upper - 1) text (take 56 (drop k octets)) l) (sym (drop-drop 56 k octets)) leads.rest

-- a level whose signature is valid
pub level_step : (upper k : ℕ) (text key octets sig behind next rest : List ℕ) (b : Bool) → 1 ≤ upper → signature_size key ≡ Some k
    → k + 56 ≤ length octets → sig ≡ take k octets → behind ≡ drop k octets → next ≡ take 56 behind → rest ≡ drop 56 behind
    → LmsOk key next sig → (IsTrue b ↔ LevelsOk (upper - 1) text next rest) → IsTrue b ↔ LevelsOk upper text key octets
level_step upper k text key octets sig behind next rest b some known room sig_is behind_is next_is rest_is signed below_ok =
    let next_at : next ≡ take 56 (drop k octets) = next_is ∙ ap (take 56) behind_is in
    let rest_at : rest ≡ drop 56 (drop k octets) = rest_is ∙ ap (drop 56) behind_is in
    let signed_at = subst (λ (n : List ℕ). LmsOk key n (take k octets)) next_at (subst (λ (s : List ℕ). LmsOk key next s) sig_is signed) in (
      λ t. level_leads upper k text key octets some known room signed_at
          (subst (λ (r : List ℕ). LevelsOk (upper - 1) text (take 56 (drop k octets)) r) rest_at
          (subst (λ (n : List ℕ). LevelsOk (upper - 1) text n rest) next_at (below_ok.0 t))),
      λ ok. below_ok.1
          (subst (λ (n : List ℕ). LevelsOk (upper - 1) text n rest) (sym next_at)
          (subst (λ (r : List ℕ). LevelsOk (upper - 1) text (take 56 (drop k octets)) r) (sym rest_at)
          (rest_of upper k text key octets (level_of upper k text key octets some known ok)))),
    )

-- .. and one whose signature is not
pub level_stop : (upper k : ℕ) (text key octets sig behind next : List ℕ) (b : Bool) → 1 ≤ upper → signature_size key ≡ Some k
    → sig ≡ take k octets → behind ≡ drop k octets → next ≡ take 56 behind
    → (IsTrue b ↔ LmsOk key next sig) → (IsTrue b → ⊥) → IsTrue b ↔ LevelsOk upper text key octets
level_stop upper k text key octets sig behind next b some known sig_is behind_is next_is valid not_valid =
    let next_at : next ≡ take 56 (drop k octets) = next_is ∙ ap (take 56) behind_is in (
      λ t. absurd (not_valid t),
      λ ok. valid.1
          (subst (λ (s : List ℕ). LmsOk key next s) (sym sig_is)
          (subst (λ (n : List ℕ). LmsOk key n (take k octets)) (sym next_at) (level_of upper k text key octets some known ok).signed)),
    )

-- what is false is not true
pub not_true : (b : Bool) → b ≡ false → IsTrue b → ⊥
not_true b f t = cc
