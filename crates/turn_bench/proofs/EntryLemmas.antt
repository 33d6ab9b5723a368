-- A turn is one entry more.
use Rattle.std.proofs.Common.{◌≡◌, ℕ, ◌+◌, sym, inl, inr, refl}
use Rattle.std.proofs.lemmas.List.{replicate-append-replicate}
use Rattle.turnstile.specs.Lists.{Extends}
use Rattle.turn_bench.specs.Entries.{entries}

pub one_more_turn : (n : ℕ) → Extends (entries n) (entries (n + 1))
one_more_turn n = inr (0, sym (replicate-append-replicate n 1 0))

pub no_turn : (n : ℕ) → Extends (entries n) (entries n)
no_turn n = inl refl
