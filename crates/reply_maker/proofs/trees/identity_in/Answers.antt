-- The two halves are written one behind the other.
use Rattle.std.proofs.Common.{◌≡◌, ℕ, List, [], ◌+◌, ◌++◌, length, take, drop, replicate, refl, ◌∙◌, ap, arith, append-nil}
use Rattle.std.proofs.lemmas.List.{drop_all}
use Rattle.lm_ots.proofs.Messages.{take-put}
use Rattle.reply_maker.proofs.trees.identity_in.Goals as goal

pub returns : goal.returns
returns c =
    let half = c.split_at.result.1.now in
    let other = c.split_at-2.result.1.now in
    let first = ap (take 48) c.put.ensures ∙ take-put 0 48 (replicate 96 0) half _ (omega arith) (omega (arith, c.split_at.ensures.back_len)) in
    let none : drop (48 + length other) c.put.new.identity ≡ [] = drop_all (48 + length other) c.put.new.identity (omega (arith, c.split_at-2.ensures.back_len)) in
    c.put-2.ensures ∙ ap (λ (l : List ℕ). take 48 c.put.new.identity ++ other ++ l) none
    ∙ append-nil (take 48 c.put.new.identity ++ other)
    ∙ ap (λ (l : List ℕ). l ++ other) first
    ∙ rw (c.split_at.ensures.back, c.split_at-2.ensures.back) refl
