-- Laws of the replay, which the ghost members of a disk in memory cite. No clause names them, so a reader can skip them.
use Rattle.std.specs.Prelude.{◌≡◌, ◌⊎◌, ℕ, ◌+◌, ◌-◌, ◌≤◌, ◌==◌, max, nat_le, List, [], ◌∷◌, ◌++◌, length, take, drop, replicate}
use Rattle.std.proofs.Common.{inl, inr, refl, sym, ◌∙◌, ap, subst, arith, append_assoc, length-append, length-take-le, length-drop}
use Rattle.std.proofs.lemmas.List.{take_at, drop_at, take_all, take-append-le, length-replicate}
use Rattle.std.proofs.lemmas.Bool.{cases_lt, cond_both, leb-true}
use Rattle.cmp_ports.specs.declared.mem_disk.call.Call.{Call}
use Rattle.cmp_ports.specs.declared.mem_disk.call.Call.TheVariants.{Still, Wrote, Synced}
use Rattle.cmp_ports.specs.Disk.{overwritten, Torn, Elapses}
use Rattle.cmp_ports.specs.Replay.{put_over, content_step, content_after, image_step, image_after, IsImage, WasImage, filling, left_step, left_after}

-- a write that a crash cut off at once
pub torn_same : (at n : ℕ) (c : List ℕ) → Torn at n c c
torn_same at n c = record { before = refl; after = refl; no_shorter = omega arith; no_longer = omega arith }

length-overwritten : (at : ℕ) (octets c : List ℕ) → at ≤ length c → length (overwritten at octets c) ≡ max (length c) (at + length octets)
length-overwritten at octets c inside =
    omega (arith, length-append (take at c ++ octets) (drop (at + length octets) c), length-append (take at c) octets, length-take-le at c inside, length-drop (at + length octets) c)

-- a write that a crash left whole
pub torn_done : (at : ℕ) (octets c : List ℕ) → at ≤ length c → Torn at (length octets) c (overwritten at octets c)
torn_done at octets c inside =
    let front : length (take at c) ≡ at = length-take-le at c inside in
    let both : length (take at c ++ octets) ≡ at + length octets = omega (arith, length-append (take at c) octets, front) in
    record {
      before = ap (λ (l : List ℕ). take at l) (append_assoc (take at c) octets (drop (at + length octets) c)) ∙ take_at (take at c) (octets ++ drop (at + length octets) c) at front;
      after = drop_at (take at c ++ octets) (drop (at + length octets) c) (at + length octets) both;
      no_shorter = omega (arith, length-overwritten at octets c inside);
      no_longer = omega (arith, length-overwritten at octets c inside);
    }

-- the same of a range that holds other octets, as many
pub torn_put : (at n : ℕ) (octets c : List ℕ) → length octets ≡ n → Torn at n c (put_over at octets c)
torn_put at n octets c count =
    cond_both (nat_le at (length c)) (overwritten at octets c) c (λ (x : List ℕ). Torn at n c x)
    (λ e. subst (λ (k : ℕ). Torn at k c (overwritten at octets c)) count (torn_done at octets c (leb-true at (length c) e)))
    (λ e. torn_same at n c)

-- one call more at the end
pub content_push : (file : List ℕ) (calls : List Call) (call : Call) → content_after file (calls ++ call ∷ []) ≡ content_step (content_after file calls) call
content_push file [] call = refl
content_push file (c ∷ calls) call = content_push (content_step file c) calls call

pub image_push : (file : List ℕ) (images : List ℕ → Type 0) (calls : List Call) (call : Call) (c : List ℕ) → image_after file images (calls ++ call ∷ []) c ≡ image_step (content_after file calls) (image_after file images calls) call c
image_push file images [] call c = refl
image_push file images (k ∷ calls) call c = image_push (content_step file k) (image_step file images k) calls call c

length-filling : (choice : ℕ) (octets : List ℕ) → length (filling choice octets) ≡ length octets
length-filling choice octets = cond_both (choice == 1) octets (replicate (length octets) (choice - 2)) (λ (x : List ℕ). length x ≡ length octets) (λ e. refl) (λ e. length-replicate (length octets) (choice - 2))

-- a stop after one call leaves an image of that moment
left_step_image : (choice : ℕ) (file image : List ℕ) (images : List ℕ → Type 0) (call : Call) → images image → image_step file images call (left_step choice file image call)
left_step_image choice file image images Still here = here
left_step_image choice file image images (Wrote at octets done) here = (
  image,
  here,
  cond_both (choice == 0) image (put_over at (filling choice octets) image) (λ (x : List ℕ). Torn at (length octets) image x)
      (λ e. torn_same at (length octets) image)
      (λ e. torn_put at (length octets) (filling choice octets) image (length-filling choice octets)),
)
left_step_image choice file image images Synced here = refl

-- a stop leaves an image
pub left_image : (choice : ℕ) (file image : List ℕ) (images : List ℕ → Type 0) (calls : List Call) → images image → image_after file images calls (left_after choice file image calls)
left_image choice file image images [] here = here
left_image choice file image images (call ∷ calls) here =
    left_image choice (content_step file call) (left_step choice file image call) (image_step file images call) calls (left_step_image choice file image images call here)

-- what reads give is an image, after one call and after all
step_image : (file : List ℕ) (images : List ℕ → Type 0) (call : Call) → images file → image_step file images call (content_step file call)
step_image file images Still here = here
step_image file images (Wrote at octets done) here = (
  file,
  here,
  cond_both done (put_over at octets file) file (λ (x : List ℕ). Torn at (length octets) file x)
      (λ e. torn_put at (length octets) octets file refl)
      (λ e. torn_same at (length octets) file),
)
step_image file images Synced here = refl

honest_image : (file : List ℕ) (images : List ℕ → Type 0) (calls : List Call) → images file → image_after file images calls (content_after file calls)
honest_image file images [] here = here
honest_image file images (call ∷ calls) here = honest_image (content_step file call) (image_step file images call) calls (step_image file images call here)

pub content_is_image : (first : List ℕ) (calls : List Call) → IsImage first calls (content_after first calls)
content_is_image first calls = honest_image first (λ d. d ≡ first) calls refl

-- what a crash may leave now is among what it may have left since
pub image_was : (first : List ℕ) (calls : List Call) (from : ℕ) (c : List ℕ) → from ≤ length calls → IsImage first calls c → WasImage first calls from c
image_was first calls from c le image = record {
  after = length calls;
  later = le;
  made = omega arith;
  image = subst (λ (l : List Call). IsImage first l c) (sym (take_all (length calls) calls (omega arith))) image;
}

-- and the last of it
pub image_is : (first : List ℕ) (calls : List Call) (c : List ℕ) → WasImage first calls (length calls) c → IsImage first calls c
image_is first calls c was = subst (λ (l : List Call). IsImage first l c) (take_all was.after calls was.later) was.image

pub elapses_same : (first : List ℕ) (calls : List Call) → Elapses (length calls) (length calls) (WasImage first calls) (WasImage first calls) (IsImage first calls)
elapses_same first calls = record { later = omega arith; nothing_else = λ t c le was. inl was; keeps = λ t c le was. was }

longer : (first : List ℕ) (calls : List Call) (call : Call) (t : ℕ) (c : List ℕ) → WasImage first calls t c → WasImage first (calls ++ call ∷ []) t c
longer first calls call t c was = record {
  after = was.after;
  later = was.later;
  made = omega (arith, was.made, length-append calls (call ∷ []));
  image = subst (λ (l : List Call). IsImage first l c) (sym (take-append-le was.after calls (call ∷ []) was.made)) was.image;
}

shorter : (first : List ℕ) (calls : List Call) (call : Call) (t : ℕ) (c : List ℕ) → WasImage first (calls ++ call ∷ []) t c → WasImage first calls t c ⊎ IsImage first (calls ++ call ∷ []) c
shorter first calls call t c was = elim (cases_lt (length calls) was.after) [
  | inl past ↦ inr (subst (λ (l : List Call). IsImage first l c) (take_all was.after (calls ++ call ∷ []) (omega (arith, past, length-append calls (call ∷ [])))) was.image)
  | inr within ↦ inl record {
    after = was.after;
    later = was.later;
    made = within;
    image = subst (λ (l : List Call). IsImage first l c) (take-append-le was.after calls (call ∷ []) within) was.image;
  }
]

pub elapses_push : (first : List ℕ) (calls : List Call) (call : Call) → Elapses (length calls) (length (calls ++ call ∷ [])) (WasImage first calls) (WasImage first (calls ++ call ∷ [])) (IsImage first (calls ++ call ∷ []))
elapses_push first calls call = record {
  later = omega (arith, length-append calls (call ∷ []));
  nothing_else = λ t c le was. shorter first calls call t c was;
  keeps = λ t c le was. longer first calls call t c was;
}
