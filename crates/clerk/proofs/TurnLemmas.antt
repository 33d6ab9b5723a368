-- What a turn did to the history that a seat has seen, and to its marks.
use Rattle.std.proofs.Common.{◌≡◌, ℕ, List, ◌++◌, Option, Some, None, sym, ◌∙◌, ap, subst, append_assoc}
use Rattle.std.proofs.Math.Logic.{∥∥₁_map}
use Rattle.std.specs.Prelude.{MatchOption, IfSome}
use Rattle.deal_changes.specs.declared.change.Change.{Change}
use Rattle.deal_model.specs.Rules.{Allowed, Legal}
use Rattle.deal_model.specs.Views.{History}
use Rattle.deal_model.specs.declared.asking.Checked.{Checked}
use Rattle.deal_table.specs.History.{Begins}
use Rattle.deal_table.specs.Message.{Letter}
use Rattle.desk.specs.declared.verdict.Verdict.{Verdict}
use Rattle.desk.specs.declared.verdict.Verdict.TheVariants.{Done, Again, Refused, Stale, DiskFault, NoMemory}
use Rattle.desk.specs.Verdicts.{Decides}

pub begins_on : (xs ys zs : History) → Begins xs ys → Begins ys zs → Begins xs zs
begins_on xs ys zs first second = (first.0 ++ second.0, second.1 ∙ ap (λ (l : History). l ++ second.0) first.1 ∙ append_assoc xs first.0 second.0)

-- what a seat has seen is legal where it is a desk's history
pub seen_lawful : {P : Type 0} (seen h : History) → seen ≡ h → ∥ Legal h × P ∥₁ → ∥ Legal seen × IfSome None (Allowed seen) ∥₁
seen_lawful seen h is t = ∥∥₁_map t (λ l. (subst Legal (sym is) l.0, tt))

-- a history is as lawful, with what is in doubt behind it, under another name
pub still_lawful : (h g : History) (d e : Option Change) → h ≡ g → d ≡ e → ∥ Legal h × IfSome d (Allowed h) ∥₁ → ∥ Legal g × IfSome e (Allowed g) ∥₁
still_lawful h g d e same also = subst (λ (x : History). ∥ Legal h × IfSome d (Allowed h) ∥₁ → ∥ Legal x × IfSome e (Allowed x) ∥₁) same (subst (λ (y : Option Change). ∥ Legal h × IfSome d (Allowed h) ∥₁ → ∥ Legal h × IfSome y (Allowed h) ∥₁) also (λ t. t))

-- a mark that was handed in raised the count
pub marked : {M : Type 0} (mark : Option M) (Failed Still R : Type 0) (P : M → Type 0) → MatchOption mark (Failed → ⊥) P → MatchOption mark Still (λ m. R) → Failed → R
marked None Failed Still R P none rose failed = absurd (none failed)
marked (Some m) Failed Still R P some rose failed = rose

-- without a fault there is no mark, and the count stands
pub unmarked : {M : Type 0} (mark : Option M) (Failed Still R : Type 0) (P : M → Type 0) → MatchOption mark (Failed → ⊥) (λ m. Failed × P m) → MatchOption mark Still (λ m. R) → (Failed → ⊥) → Still
unmarked None Failed Still R P none still unfailed = still
unmarked (Some m) Failed Still R P some rose unfailed = absurd (unfailed some.0)

-- a message that is decided over a history is decided so by whoever has seen a beginning of it
pub decides_earlier : (l : Letter) (c : Checked) (seen old new : History) (now : ℕ) (w : List ℕ) (v : Verdict) → Begins seen old → Decides l c old new now w v → Decides l c seen new now w v
decides_earlier l c seen old new now w (Done r) begun d = record { before = d.before; begun = begins_on seen old d.before begun d.begun; decided = d.decided; made = d.made }
decides_earlier l c seen old new now w (Again r place time) begun d = d
decides_earlier l c seen old new now w (Refused fail place time is_guarded to_outer) begun d = d
decides_earlier l c seen old new now w (Stale place) begun d = d
decides_earlier l c seen old new now w DiskFault begun d = d
decides_earlier l c seen old new now w NoMemory begun d = d
