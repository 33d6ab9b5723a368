-- What a legal history shows at a look.
use Rattle.std.proofs.Common.{◌≡◌, ◌∙◌, ℕ, ◌≤◌, Bool, true, false, List, [], ◌∷◌, length, Option, Some, None, refl, sym, subst, arith}
use Rattle.std.specs.Prelude.{◌&&◌, nat_le, IfSome, if◌then◌else◌}
use Rattle.std.specs.Str.{bytes_eq, is_utf8}
use Rattle.std.proofs.Math.Logic.{∥∥₁_elim}
use Rattle.std.proofs.Props.{props}
use Rattle.std.proofs.lemmas.Bool.{and_parts, leb-true}
use Rattle.deal_changes.specs.declared.change.Change.{Change}
use Rattle.deal_changes.specs.declared.change.Change.TheVariants.{Found, Enlist, Dismiss, Grant, Hold, Release, Deny, Turned, Polled, Settled, Revoke, Lapse}
use Rattle.deal_changes.specs.Bind.{◌>>=◌}
use Rattle.deal_changes.specs.Spki.{only_at, content_at, common_name_oid, is_name_text, common_name}
use Rattle.deal_model.specs.Views.{History, is_found}
use Rattle.deal_model.specs.Rules.{Legal}
use Rattle.deal_table.specs.History.{IsFounded}
use Rattle.desk.proofs.Kept.{bool_prop}
use Rattle.desk.proofs.LawfulLemmas.{legal_bounded}

-- ---- the name

abbrev Fits : List ℕ → Type 0
Fits text = length text ≤ 64

all_of : {A : Type 0} (found : Option A) (f : A → Option (List ℕ)) → ((x : A) → IfSome (f x) Fits) → IfSome (found >>= f) Fits
all_of None f each = tt
all_of (Some x) f each = each x

tested : (test : Bool) (text : List ℕ) → (test ≡ true → length text ≤ 64) → IfSome (if test then Some text else None) Fits
tested true text fits = fits refl
tested false text fits = tt

text_fits : (oid text : List ℕ) → (bytes_eq oid common_name_oid && is_name_text text) ≡ true → length text ≤ 64
unfolding is_name_text
text_fits oid text e =
    let parts = and_parts (nat_le 1 (length text) && nat_le (length text) 58) (is_utf8 text) (and_parts (bytes_eq oid common_name_oid) (is_name_text text) e).1 in
    let short : length text ≤ 58 = leb-true _ _ (and_parts (nat_le 1 (length text)) (nat_le (length text) 58) parts.0).1 in
    omega (arith, short)

names_fit : (name : List ℕ) → IfSome (common_name name) Fits
unfolding common_name
names_fit name = all_of (only_at 0x30 name) _ (λ sets. all_of (only_at 0x31 sets) _ (λ set. all_of (only_at 0x30 set) _ (λ attribute. all_of (content_at 6 attribute) _ (λ oid. all_of (only_at 12 oid.1) _
    (λ text. tested (bytes_eq oid.0 common_name_oid && is_name_text text) text (text_fits oid.0 text))))))

pub name_fits : (name text : List ℕ) → common_name name ≡ Some text → length text ≤ 64
name_fits name text e = subst (λ (found : Option (List ℕ)). IfSome found Fits) e (names_fit name)

-- ---- the founding

bottom : IsProp ⊥
bottom = Prim.hlevel props

never : {P : Type 0} (c : Change) (h : History) → is_found c ≡ false → ∥ Legal (c ∷ h) × P ∥₁ → ⊥
never c h e t = ∥∥₁_elim t bottom (λ l. let f : true ≡ false = sym l.0.1.0.opening ∙ e in cc)

founded_by : {P : Type 0} (c : Change) (h : History) → ∥ Legal (c ∷ h) × P ∥₁ → IsFounded (c ∷ h)
founded_by (Found s) h t = (s, refl, ∥∥₁_elim t (bool_prop _ _) (λ l. l.0.1.0.form.is_ca_name))
founded_by (Enlist time list) h t = absurd (never (Enlist time list) h refl t)
founded_by (Dismiss time w) h t = absurd (never (Dismiss time w) h refl t)
founded_by (Grant s b w serial leaf) h t = absurd (never (Grant s b w serial leaf) h refl t)
founded_by (Hold s b w) h t = absurd (never (Hold s b w) h refl t)
founded_by (Release time tid) h t = absurd (never (Release time tid) h refl t)
founded_by (Deny time tid) h t = absurd (never (Deny time tid) h refl t)
founded_by (Turned s) h t = absurd (never (Turned s) h refl t)
founded_by (Polled s) h t = absurd (never (Polled s) h refl t)
founded_by (Settled s accepted) h t = absurd (never (Settled s accepted) h refl t)
founded_by (Revoke s serial reason) h t = absurd (never (Revoke s serial reason) h refl t)
founded_by (Lapse time tid) h t = absurd (never (Lapse time tid) h refl t)

pub founded_out : {P : Type 0} (h : History) → ∥ Legal h × P ∥₁ → IsFounded h
founded_out [] t = absurd (∥∥₁_elim t bottom (λ l. l.0.0 refl))
founded_out (c ∷ h) t = founded_by c h t

within_prop : (m n : ℕ) → IsProp (m ≤ n)
within_prop m n = Prim.hlevel props

pub bounded_out : {P : Type 0} (h : History) → ∥ Legal h × P ∥₁ → length h ≤ 262144
bounded_out h t = ∥∥₁_elim t (within_prop (length h) 262144) (λ l. legal_bounded h l.0)
