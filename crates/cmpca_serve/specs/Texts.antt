-- What serving writes.
use Rattle.std.specs.Prelude.{ℕ, List, ◌++◌, codes}
use Rattle.std.specs.Fmt.{decimal}
use Rattle.cmpca_tool.specs.Lines.{line}

-- how many orders were obeyed, and how many made no change
abbrev pub orders_line : ℕ → ℕ → List ℕ
orders_line done refused = line ((codes "orders " ++ decimal done) ++ ((codes " done " ++ decimal refused) ++ codes " refused"))

-- how many connections were served, how many changes the history has, and what became of the orders
abbrev pub summary : ℕ → ℕ → ℕ → ℕ → List ℕ
summary connections changes done refused = line (codes "connections " ++ decimal connections) ++ (line (codes "changes " ++ decimal changes) ++ orders_line done refused)
