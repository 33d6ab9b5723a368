-- Whether a signature of HSS is valid is decided.
use Rattle.std.proofs.Common.{◌≡◌, ℕ, zero, suc, ◌+◌, ◌*◌, ◌^◌, ◌<◌, ◌≤◌, Bool, false, ◌&&◌, eqb, leb, List, length, take, drop, Option, Some, None}
use Rattle.std.specs.Prelude.{MatchOption, ltb}
use Rattle.std.specs.Bool.{Decides}
use Rattle.std.specs.Str.{bytes_eq}
use Rattle.std.proofs.lemmas.Bool.{eqb-true, eq-eqb, leb-true, le-leb}
use Rattle.std.proofs.lemmas.Bool.Decides.{Decides-like, Decides-and, Decides-ltb}
use Rattle.std.proofs.lemmas.Slice.Eq.{bytes_eq-Decides}
use Rattle.lms_params.specs.Parameters.{OtsRow, ots_row, tree_height}
use Rattle.lms_tree.specs.Verifies.{u32_at, root_of, HasForm, LmsOkIn, LmsOkFor, LmsOk}
use Rattle.hss_sig.specs.Hss.{signature_size, Leads, LevelsOk, HssOk}

-- a test says whether it holds
abbrev pub Decided : Type 0 → Type 0
Decided P = (b : Bool) × Decides b P

pub never : {P : Type 0} → (P → ⊥) → Decided P
never against = (false, (λ e. absurd (cc e), λ p. absurd (against p)))

pub like : {P Q : Type 0} → (P → Q) → (Q → P) → Decided P → Decided Q
like f g d = (d.0, Decides-like d.0 f g d.1)

pub both : {P Q : Type 0} → Decided P → Decided Q → Decided (P × Q)
both d e = (d.0 && e.0, Decides-and d.0 e.0 d.1 e.1)

same_numbers : (a b : ℕ) → Decided (a ≡ b)
same_numbers a b = (eqb a b, (eqb-true a b, eq-eqb a b))

no_more : (a b : ℕ) → Decided (a ≤ b)
no_more a b = (leb a b, (leb-true a b, le-leb a b))

less : (a b : ℕ) → Decided (a < b)
less a b = (ltb a b, Decides-ltb a b)

pub same_octets : (a b : List ℕ) → Decided (a ≡ b)
same_octets a b = (bytes_eq a b, bytes_eq-Decides a b)

pub matched : {X : Type 0} (P : X → Type 0) (o : Option X) → ((x : X) → Decided (P x)) → Decided (MatchOption o ⊥ P)
matched P None each = never (λ x. x)
matched P (Some x) each = each x

-- ---- signatures

has_form : (h : ℕ) (row : OtsRow) (key sig : List ℕ) → Decided (HasForm h row key sig)
has_form h row key sig =
    like {P = (length sig ≡ 44 + 32 * row.p + 32 * h) × ((u32_at sig 4 ≡ u32_at key 4) × ((u32_at sig (40 + 32 * row.p) ≡ u32_at key 0) × (u32_at sig 0 < 2 ^ h)))}
    (λ p. record { size = p.0; ots_code = p.1.0; tree_code = p.1.1.0; leaf = p.1.1.1 })
    (λ f. (f.size, (f.ots_code, (f.tree_code, f.leaf))))
    (both (same_numbers (length sig) (44 + 32 * row.p + 32 * h)) (both (same_numbers (u32_at sig 4) (u32_at key 4)) (both (same_numbers (u32_at sig (40 + 32 * row.p)) (u32_at key 0)) (less (u32_at sig 0) (2 ^ h)))))

lms : (key text sig : List ℕ) → Decided (LmsOk key text sig)
lms key text sig = matched (λ h. LmsOkFor h key text sig) (tree_height (u32_at key 0))
    (λ h. matched (λ row. LmsOkIn h row key text sig) (ots_row (u32_at key 4))
    (λ row. both (has_form h row key sig) (same_octets (root_of h row (take 16 (drop 8 key)) text sig) (drop 24 key))))

levels : (n : ℕ) (text key octets : List ℕ) → Decided (LevelsOk n text key octets)
levels zero text key octets = lms key text octets
levels (suc n) text key octets = matched (λ k. Leads k (LevelsOk n text) key octets) (signature_size key)
    (λ k. like {P = (k + 56 ≤ length octets) × (LmsOk key (take 56 (drop k octets)) (take k octets) × LevelsOk n text (take 56 (drop k octets)) (drop (k + 56) octets))}
    (λ p. record { room = p.0; signed = p.1.0; rest = p.1.1 })
    (λ l. (l.room, (l.signed, l.rest)))
    (both (no_more (k + 56) (length octets)) (both (lms key (take 56 (drop k octets)) (take k octets)) (levels n text (take 56 (drop k octets)) (drop (k + 56) octets)))))

pub hss : (key text sig : List ℕ) → Decided (HssOk key text sig)
hss key text sig =
    like {P = (length key ≡ 60) × ((1 ≤ u32_at key 0) × ((u32_at key 0 ≤ 8) × ((4 ≤ length sig) × ((u32_at sig 0 + 1 ≡ u32_at key 0) × LevelsOk (u32_at sig 0) text (drop 4 key) (drop 4 sig)))))}
    (λ p. record { key_size = p.0; some = p.1.0; most = p.1.1.0; sig_size = p.1.1.1.0; same_levels = p.1.1.1.1.0; levels = p.1.1.1.1.1 })
    (λ h. (h.key_size, (h.some, (h.most, (h.sig_size, (h.same_levels, h.levels))))))
    (both (same_numbers (length key) 60) (both (no_more 1 (u32_at key 0)) (both (no_more (u32_at key 0) 8) (both (no_more 4 (length sig)) (both (same_numbers (u32_at sig 0 + 1) (u32_at key 0)) (levels (u32_at sig 0) text (drop 4 key) (drop 4 sig)))))))
