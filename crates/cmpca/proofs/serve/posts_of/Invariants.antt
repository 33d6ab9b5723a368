use Rattle.std.proofs.Common.{◌≡◌, length}
use Rattle.cmpca.proofs.serve.posts_of.Given as goal

-- as many posts as the loop counted
abbrev pub invariant-loop : goal.invariant-loop
invariant-loop l = length l.posts.items ≡ l.counter
