-- The answers of a mount exclude each other.
use Rattle.std.proofs.Common.{◌≡◌, inl, inr, ℕ, Bool, true, false, List, [], length, Result, Ok, Err, refl, sym, ◌∙◌, ap, subst}
use Rattle.journal_core.specs.declared.fault.MountFault.{MountFault}
use Rattle.journal_core.specs.declared.fault.MountFault.TheVariants.{NotFounded, Damaged, DiskFault, NoMemory}
use Rattle.journal_core.specs.Log as log
use Rattle.journal_core.specs.Log.{IsDamaged, is_founded}
use Rattle.deal_model.specs.Views.{History}
use Rattle.deal_model.specs.Rules.{Legal, log_size}
use Rattle.desk.specs.Images.{magic, spellings}
use Rattle.desk.specs.Mounts.{Stands, IsBad, IsUnlawful}
use Rattle.desk_laws.specs.Answers.{Holds}
use Rattle.desk_laws.proofs.Lawful.{one_history, one_stop, stuck_nowhere}

-- the laws of the journal
abbrev pub OneLog : Type 0
OneLog = (magic image : List ℕ) (payloads others : List (List ℕ)) → log.Recovers magic image payloads → log.Recovers magic image others → payloads ≡ others

abbrev pub Undamaged : Type 0
Undamaged = (magic image : List ℕ) (payloads : List (List ℕ)) (at : ℕ) → length magic ≡ 7 → log.Recovers magic image payloads → IsDamaged magic image at → ⊥

abbrev pub OneDamage : Type 0
OneDamage = (magic image : List ℕ) (at other : ℕ) → length magic ≡ 7 → IsDamaged magic image at → IsDamaged magic image other → at ≡ other

neither : (b : Bool) → b ≡ true → b ≡ false → ⊥
neither b holds fails = cc

same_unlawful : (payloads : List (List ℕ)) (at other : ℕ) → IsUnlawful payloads at → IsUnlawful payloads other → at ≡ other
same_unlawful payloads at other u v =
    let same : u.history ≡ v.history = one_stop [] u.history v.history u.rest v.rest u.allowed v.allowed u.stuck v.stuck (sym u.parts ∙ v.parts) in
    u.offset ∙ ap log_size same ∙ sym v.offset

legal_or_not : (h : History) (at : ℕ) → Legal h → IsUnlawful (spellings h) at → ⊥
legal_or_not h at legal u = legal.0 (stuck_nowhere [] h u.history u.rest legal.1 u.allowed u.stuck u.parts)

one_standing : OneLog → (image : List ℕ) (h g : History) → Stands image h → Stands image g → h ≡ g
one_standing one image h g s t = one_history [] h g s.2.1 t.2.1 (one magic image (spellings h) (spellings g) s.1 t.1)

standing_or_bad : OneLog → Undamaged → (image : List ℕ) (h : History) (at : ℕ) → Stands image h → IsBad image at → ⊥
standing_or_bad one clean image h at s (inl damaged) = clean magic image (spellings h) at refl s.1 damaged
standing_or_bad one clean image h at s (inr found) =
    let same : found.0 ≡ spellings h = one magic image found.0 (spellings h) found.1 s.1 in
    legal_or_not h at s.2 (subst (λ (p : List (List ℕ)). IsUnlawful p at) same found.2)

one_bad : OneLog → Undamaged → OneDamage → (image : List ℕ) (at other : ℕ) → IsBad image at → IsBad image other → at ≡ other
one_bad one clean damage image at other (inl damaged) (inl also) = damage magic image at other refl damaged also
one_bad one clean damage image at other (inl damaged) (inr found) = absurd (clean magic image found.0 at refl found.1 damaged)
one_bad one clean damage image at other (inr found) (inl damaged) = absurd (clean magic image found.0 other refl found.1 damaged)
one_bad one clean damage image at other (inr found) (inr again) =
    let same : found.0 ≡ again.0 = one magic image found.0 again.0 found.1 again.1 in
    same_unlawful again.0 at other (subst (λ (p : List (List ℕ)). IsUnlawful p at) same found.2) again.2

pub one_answer : OneLog → Undamaged → OneDamage → (image : List ℕ) (x y : Result History MountFault) → Holds image x → Holds image y → x ≡ y
one_answer one clean damage image (Ok h) (Ok g) s t = ap (λ (l : History). Ok l) (one_standing one image h g s t)
one_answer one clean damage image (Ok h) (Err NotFounded) s t = absurd (neither (is_founded image) s.0 t)
one_answer one clean damage image (Ok h) (Err (Damaged at)) s t = absurd (standing_or_bad one clean image h at s t.1)
one_answer one clean damage image (Err NotFounded) (Ok h) s t = absurd (neither (is_founded image) t.0 s)
one_answer one clean damage image (Err NotFounded) (Err NotFounded) s t = refl
one_answer one clean damage image (Err NotFounded) (Err (Damaged at)) s t = absurd (neither (is_founded image) t.0 s)
one_answer one clean damage image (Err (Damaged at)) (Ok h) s t = absurd (standing_or_bad one clean image h at t s.1)
one_answer one clean damage image (Err (Damaged at)) (Err NotFounded) s t = absurd (neither (is_founded image) s.0 t)
one_answer one clean damage image (Err (Damaged at)) (Err (Damaged other)) s t = ap (λ (n : ℕ). Err (Damaged n)) (one_bad one clean damage image at other s.1 t.1)
one_answer one clean damage image (Ok h) (Err DiskFault) s t = absurd t
one_answer one clean damage image (Ok h) (Err NoMemory) s t = absurd t
one_answer one clean damage image (Err NotFounded) (Err DiskFault) s t = absurd t
one_answer one clean damage image (Err NotFounded) (Err NoMemory) s t = absurd t
one_answer one clean damage image (Err (Damaged at)) (Err DiskFault) s t = absurd t
one_answer one clean damage image (Err (Damaged at)) (Err NoMemory) s t = absurd t
one_answer one clean damage image (Err DiskFault) y s t = absurd s
one_answer one clean damage image (Err NoMemory) y s t = absurd s
