-- The words that ask for serving, as lists of octets.
use Rattle.std.specs.Prelude.{◌≡◌, ℕ, ◌≤◌, List, [], ◌∷◌, codes}
use Rattle.std.specs.Fmt.{decimal}
use Rattle.cmpca_serve.specs.declared.words.ServePlan.{ServePlan}

-- the word spells this number, which is from 1 to the last one: in decimal digits, with no sign and no zero before them
abbrev pub IsNumber : ℕ → List ℕ → ℕ → Type 0
IsNumber last word n = (word ≡ decimal n) × (1 ≤ n) × (n ≤ last)

-- JOURNAL KEY `serve` PORT WORKERS CONNECTIONS ORDERS, where JOURNAL, KEY and ORDERS are any words
abbrev pub Serves : List (List ℕ) → ServePlan → Type 0
Serves (journal ∷ key ∷ verb ∷ port ∷ workers ∷ connections ∷ orders ∷ []) plan =
    (verb ≡ codes "serve") × IsNumber 65535 port plan.port × IsNumber 16 workers plan.workers × IsNumber 1000000 connections plan.connections
Serves _ plan = ⊥
