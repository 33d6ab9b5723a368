-- What a desk's calls do to the history, and to the places of a clerk over it.
use Rattle.std.proofs.Common.{◌≡◌, ℕ, zero, suc, ◌+◌, ◌≤◌, List, [], ◌∷◌, ◌++◌, length, Option, sym, ◌∙◌, ap, subst, append-nil, length-append, arith}
use Rattle.std.specs.Prelude.{◌-◌}
use Rattle.std.specs.List.{range_with_len}
use Rattle.cmp_ports.specs.declared.order.Order.{Order}
use Rattle.deal_changes.specs.declared.change.Change.{Change}
use Rattle.deal_changes.specs.declared.change.Change.TheVariants.{Lapse}
use Rattle.deal_model.specs.declared.asking.Checked.{Checked}
use Rattle.deal_model.specs.Views.{History}
use Rattle.deal_table.specs.History.{Begins}
use Rattle.desk.specs.declared.answers.Lapsed.{Lapsed}
use Rattle.desk.specs.declared.answers.Lapsed.TheVariants as lapsed
use Rattle.desk.specs.declared.answers.Ordered.{Ordered}
use Rattle.desk.specs.declared.answers.Ordered.TheVariants as ordered
use Rattle.desk.specs.declared.verdict.Verdict.{Verdict}
use Rattle.desk.specs.declared.verdict.Verdict.TheVariants.{Done, Again, Refused, Stale, DiskFault, NoMemory}
use Rattle.desk.specs.Calls.{IsLapsed, IsOrdered}
use Rattle.desk.specs.Verdicts.{IsLeft}
use Rattle.desk.specs.Clerks.{places_since, decided_place, lapsed_place, ordered_place, IsDecidedAlone}

-- ---- places

range_more : (a n : ℕ) → range_with_len a (suc n) ≡ range_with_len a n ++ (a + n) ∷ []
range_more a zero = ap (λ (m : ℕ). m ∷ []) (omega arith)
range_more a (suc n) = ap (λ (l : List ℕ). a ∷ l) (range_more (a + 1) n ∙ ap (λ (m : ℕ). range_with_len (a + 1) n ++ m ∷ []) (omega arith))

-- what a call did: it added a change whose place was told, or none
pub record Gains (opening : ℕ) (h g : History) (place : List ℕ) : Type 0 where
  pub begun : Begins h g
  pub mine : places_since opening g ≡ places_since opening h ++ place

pub gains_nothing : (opening : ℕ) (h g : History) → g ≡ h → Gains opening h g []
gains_nothing opening h g same = record { begun = ([], same ∙ sym (append-nil h)); mine = ap (places_since opening) same ∙ sym (append-nil (places_since opening h)) }

pub gains_one : (opening : ℕ) (h g : History) (c : Change) (place : ℕ) → opening ≤ length h → g ≡ h ++ c ∷ [] → place ≡ length g → Gains opening h g (place ∷ [])
gains_one opening h g c place le grown there =
    let long : length g ≡ suc (length h) = ap (λ (l : History). length l) grown ∙ omega (arith, length-append h (c ∷ [])) in
    let more : length g - opening ≡ suc (length h - opening) = omega (arith, long, le) in
    let last : opening + 1 + (length h - opening) ≡ place = omega (arith, long, le, there) in
    record {
      begun = (c ∷ [], grown);
      mine = ap (range_with_len (opening + 1)) more ∙ range_more (opening + 1) (length h - opening) ∙ ap (λ (m : ℕ). range_with_len (opening + 1) (length h - opening) ++ m ∷ []) last;
    }

pub begins_longer : (opening : ℕ) (h g : History) → opening ≤ length h → Begins h g → opening ≤ length g
begins_longer opening h g le b = let long : length g ≡ length h + length b.0 = ap (λ (l : History). length l) b.1 ∙ length-append h b.0 in omega (arith, le, long)

-- ---- decisions

pub left_gains : (opening : ℕ) (k : Checked) (now : ℕ) (w : List ℕ) (h : History) (d : Option Change) (v : Verdict) (g : History) (e : Option Change) → opening ≤ length h → IsLeft k now w h d v g e → Gains opening h g (decided_place v)
left_gains opening k now w h d (Done r) g e le f = gains_one opening h g r.change r.place le f.1.grown f.1.place
left_gains opening k now w h d (Again r place time) g e le f = gains_nothing opening h g f.3.0
left_gains opening k now w h d (Refused fail place time is_guarded to_outer) g e le f = gains_nothing opening h g f.2.0
left_gains opening k now w h d (Stale place) g e le f = gains_nothing opening h g f.1.0
left_gains opening k now w h d DiskFault g e le f = gains_nothing opening h g f.0
left_gains opening k now w h d NoMemory g e le f = gains_nothing opening h g f.0

pub left_alone : (k : Checked) (now : ℕ) (w : List ℕ) (h : History) (d : Option Change) (v : Verdict) (g : History) (e : Option Change) → IsLeft k now w h d v g e → IsDecidedAlone h g v
left_alone k now w h d (Done r) g e f = f.1.grown
left_alone k now w h d (Again r place time) g e f = f.3.0
left_alone k now w h d (Refused fail place time is_guarded to_outer) g e f = f.2.0
left_alone k now w h d (Stale place) g e f = f.1.0
left_alone k now w h d DiskFault g e f = f.0
left_alone k now w h d NoMemory g e f = f.0

pub left_memory : (k : Checked) (now : ℕ) (w : List ℕ) (h : History) (d : Option Change) (v : Verdict) (g : History) (e : Option Change) → IsLeft k now w h d v g e → v ≡ NoMemory → e ≡ d
left_memory k now w h d v g e f is = (subst (λ (x : Verdict). IsLeft k now w h d x g e) is f).1

-- ---- lapses

pub lapsed_gains : (opening : ℕ) (h : History) (d : Option Change) (time : ℕ) (v : Lapsed) (g : History) (e : Option Change) → opening ≤ length h → IsLapsed h d time v g e → Gains opening h g (lapsed_place v)
lapsed_gains opening h d time (lapsed.Done place tid) g e le f = gains_one opening h g (Lapse time tid) place le f.1.1 f.2
lapsed_gains opening h d time lapsed.Nothing g e le f = gains_nothing opening h g f.1.0
lapsed_gains opening h d time lapsed.Full g e le f = gains_nothing opening h g f.2.1
lapsed_gains opening h d time lapsed.DiskFault g e le f = gains_nothing opening h g f.2.0
lapsed_gains opening h d time lapsed.NoMemory g e le f = gains_nothing opening h g f.0

pub lapsed_memory : (h : History) (d : Option Change) (time : ℕ) (v : Lapsed) (g : History) (e : Option Change) → IsLapsed h d time v g e → v ≡ lapsed.NoMemory → e ≡ d
lapsed_memory h d time v g e f is = (subst (λ (x : Lapsed). IsLapsed h d time x g e) is f).1

-- ---- orders

pub ordered_gains : (opening : ℕ) (h : History) (d : Option Change) (order : Order) (time : ℕ) (v : Ordered) (g : History) (e : Option Change) → opening ≤ length h → IsOrdered h d order time v g e → Gains opening h g (ordered_place v)
ordered_gains opening h d order time (ordered.Done place) g e le f = gains_one opening h g f.0.1.0 place le f.0.1.2.1 f.1
ordered_gains opening h d order time ordered.NotHeld g e le f = gains_nothing opening h g f.1.0
ordered_gains opening h d order time ordered.Full g e le f = gains_nothing opening h g f.1.2.1
ordered_gains opening h d order time ordered.DiskFault g e le f = gains_nothing opening h g f.1.2.0
ordered_gains opening h d order time ordered.NoMemory g e le f = gains_nothing opening h g f.0

pub ordered_memory : (h : History) (d : Option Change) (order : Order) (time : ℕ) (v : Ordered) (g : History) (e : Option Change) → IsOrdered h d order time v g e → v ≡ ordered.NoMemory → e ≡ d
ordered_memory h d order time v g e f is = (subst (λ (x : Ordered). IsOrdered h d order time x g e) is f).1
