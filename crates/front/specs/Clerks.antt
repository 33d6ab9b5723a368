-- What is told of a clerk, and how an answer leaves it.
use Rattle.std.specs.Prelude.{◌≡◌, ℕ, ◌≤◌, List, Option, None, IfSome}
use Rattle.atomic_table.specs.Seated.{TableId}
use Rattle.cmp_ports.specs.Disk.{LeavesOnly}
use Rattle.deal_changes.specs.declared.change.Change.{Change}
use Rattle.deal_model.specs.Rules.{Allowed, Legal}
use Rattle.deal_model.specs.Views.{History}
use Rattle.deal_table.specs.History.{Begins}
use Rattle.desk.specs.Images.{MayCome, DoubtOr, RecoversWith}
use Rattle.desk.specs.declared.clerk.Clerk.{Ghosts}

-- What no call of a clerk changes: by which loans what was lent to it and its disk are held; the turnstile at which it has its seat,
-- where it has one, and for how many seats that counts.
pub record Held : Type 0 where
  pub loan : ℕ
  pub disk : ℕ
  pub table : Option TableId
  pub share : ℕ

-- What is told of a clerk at a moment: the history that it has seen, the change in doubt, the places of its own changes, and how
-- often a disk failed under its calls.
pub record Clerked : Type 0 where
  pub seen : History
  pub doubt : Option Change
  pub mine : List ℕ
  pub faults : ℕ
  pub held : Held

abbrev pub clerked : {K : Type 0} → Ghosts K → K → Clerked
clerked g k = record { seen = g.seen k; doubt = g.doubt k; mine = g.mine k; faults = g.faults k; held = record { loan = g.loan k; disk = g.disk_loan k; table = g.table k; share = g.share k } }

-- it has no seat, so that it has its history to itself
abbrev pub IsAlone : Clerked → Type 0
IsAlone k = k.held.table ≡ None

-- the history is legal, and the change in doubt may come next
abbrev pub IsLawful : Clerked → Type 0
IsLawful k = ∥ Legal k.seen × IfSome k.doubt (Allowed k.seen) ∥₁

-- How an answer leaves a clerk: what it has seen grew to a legal history. Where it is alone, only the change that was in doubt before or
-- such a change that may come next may be in doubt afterwards, and a stop at any moment leaves what it had seen, with one of these behind
-- it or alone.
pub record Goes {K : Type 0} (g : Ghosts K) (old new : K) (Own : Change → Type 0) : Type 0 where
  pub grown : Begins (g.seen old) (g.seen new)
  pub lawful : IsLawful (clerked g new)
  pub held : (clerked g new).held ≡ (clerked g old).held
  pub later : g.faults old ≤ g.faults new
  pub doubt : IsAlone (clerked g old) → IfSome (g.doubt new) (DoubtOr (g.doubt old) (MayCome Own (g.seen old)))
  pub moments : IsAlone (clerked g old) → LeavesOnly g.moment g.left_since old new (RecoversWith (g.seen old) (DoubtOr (g.doubt old) (MayCome Own (g.seen old))))
