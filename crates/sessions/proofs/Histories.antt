-- One history begins another.
use Rattle.std.proofs.Common.{◌≡◌, ℕ, zero, suc, ◌+◌, ◌-◌, ◌≤◌, [], ◌∷◌, ◌++◌, length, take, Some, refl, sym, ◌∙◌, ap, append_assoc, append-nil, length-append, arith}
use Rattle.std.specs.Prelude.{slice_get}
use Rattle.std.specs.List.{range_with_len}
use Rattle.std.proofs.lemmas.List.{take_at}
use Rattle.std.proofs.lemmas.Option.{none-some}
use Rattle.deal_changes.specs.declared.change.Change.{Change}
use Rattle.deal_model.specs.Views.{History}
use Rattle.deal_table.specs.History.{Begins}
use Rattle.desk.specs.Clerks.{places_since}

pub begins_itself : (h : History) → Begins h h
begins_itself h = ([], sym (append-nil h))

pub begins_on : (a b c : History) → Begins a b → Begins b c → Begins a c
begins_on a b c (m, e) (n, f) = (m ++ n, f ∙ ap (λ (x : History). x ++ n) e ∙ append_assoc a m n)

pub begins_low : (g h : History) → Begins g h → length g ≤ length h
begins_low g h (more, e) = let long : length h ≡ length g + length more = ap (λ (l : History). length l) e ∙ length-append g more in omega (arith, long)

-- ---- changes

pub take_begun : (g h : History) → Begins g h → take (length g) h ≡ g
take_begun g h (more, e) = ap (take (length g)) e ∙ take_at g more (length g) refl

pub slice_stays : (h more : History) (n : ℕ) (c : Change) → slice_get h n ≡ Some c → slice_get (h ++ more) n ≡ Some c
slice_stays [] more n c e = absurd (none-some c e)
slice_stays (x ∷ h) more zero c e = e
slice_stays (x ∷ h) more (suc n) c e = slice_stays h more n c e

slice_at : (g more : History) (c : Change) → slice_get (g ++ c ∷ more) (length g) ≡ Some c
slice_at [] more c = refl
slice_at (x ∷ g) more c = slice_at g more c

-- the change behind a history, where another begins with both
pub stands_at : (g h : History) (c : Change) → Begins (g ++ c ∷ []) h → slice_get h (length g) ≡ Some c
stands_at g h c (more, e) = ap (λ (l : History). slice_get l (length g)) (e ∙ append_assoc g (c ∷ []) more) ∙ slice_at g more c

pub before_after : (g h : History) (c : Change) → Begins (g ++ c ∷ []) h → Begins g h
before_after g h c (more, e) = (c ∷ more, e ∙ append_assoc g (c ∷ []) more)

pub long_after : (g : History) (c : Change) → length (g ++ c ∷ []) ≡ suc (length g)
long_after g c = omega (arith, length-append g (c ∷ []))

-- ---- places

no_length : (n : ℕ) → n - n ≡ 0
no_length n = omega arith

pub since_itself : (h : History) → places_since (length h) h ≡ []
since_itself h = ap (range_with_len (length h + 1)) (no_length (length h))

pub since_same : (opening : ℕ) (h new : History) → new ≡ h → places_since opening new ≡ places_since opening h ++ []
since_same opening h new same = ap (places_since opening) same ∙ sym (append-nil (places_since opening h))
