-- What no round changes of a clerk, and what its clerk may say of its history.
use Rattle.std.specs.Prelude.{◌≡◌, ◌+◌, ◌≤◌, length, None, IfSome}
use Rattle.deal_model.specs.Rules.{Allowed, Legal}
use Rattle.deal_table.specs.History.{Begins}
use Rattle.desk.specs.declared.clerk.Clerk.{Ghosts}

-- the history is legal, and the change in doubt may come next
abbrev pub IsLawful : {K : Type 0} → Ghosts K → K → Type 0
IsLawful g k = ∥ Legal (g.seen k) × IfSome (g.doubt k) (Allowed (g.seen k)) ∥₁

-- What it has seen grew and stays legal; what was lent to it, its seat and its disk are held as before; its disk's faults didn't fall;
-- and where it has its history to itself, that grew by its own changes alone.
pub record Stays {K : Type 0} (g : Ghosts K) (old new : K) : Type 0 where
  pub grown : Begins (g.seen old) (g.seen new)
  pub lawful : IsLawful g old → IsLawful g new
  pub loan : g.loan new ≡ g.loan old
  pub disk : g.disk_loan new ≡ g.disk_loan old
  pub table : g.table new ≡ g.table old
  pub share : g.share new ≡ g.share old
  pub later : g.faults old ≤ g.faults new
  pub alone : g.table old ≡ None → length (g.seen new) + length (g.mine old) ≡ length (g.seen old) + length (g.mine new)
