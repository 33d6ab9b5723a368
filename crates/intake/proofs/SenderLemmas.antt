-- Who sent a message, as the table asks.
use Rattle.std.proofs.Common.{◌≡◌, ℕ, Bool, true, false, List, [], ◌∷◌, length, Option, Some, None, IsTrue, is_some, refl, sym, ap, subst, ◌∙◌}
use Rattle.std.specs.Prelude.{◌↔◌, Ok, Err}
use Rattle.asn_types.specs.Algorithm.{Algorithm}
use Rattle.pki_message.specs.Frame.{protected_part}
use Rattle.pki_message.specs.Message.{MessageForm}
use Rattle.deal_changes.specs.declared.change.Kind.{Kind}
use Rattle.deal_model.specs.declared.states.Owner.{Owner}
use Rattle.deal_model.specs.declared.states.Standing.{Standing}
use Rattle.deal_model.specs.declared.states.Standing.TheVariants.{Good}
use Rattle.cmp_values.specs.declared.fail_info.FailInfo.{FailInfo}
use Rattle.cmp_values.specs.declared.fail_info.FailInfo.TheVariants.{BadMessageCheck, BadTime}
use Rattle.protect.specs.Holds.{HasOther, HoldsOver, ProtectionHolds}
use Rattle.protect.specs.declared.key.Key as protection
use Rattle.protect.specs.declared.key.Key.TheVariants as keys
use Rattle.deal_table.specs.Message.{Facts}
use Rattle.deal_table.specs.Table.{To, Decision, Refuses, unless, pass, bare, guard_by, guarded, known, protection_rows, check_rows, time_rows, is_apart, proven_by, trusted_by}
use Rattle.deal_table.proofs.Rows.{unless_passed}
use Rattle.intake.specs.Proven.{IsTo, IsBack, IsVerified}
use Rattle.intake.specs.Checking.{IsProtection, IsKnown, IsTrusted}
use Rattle.intake.specs.Headers.{kind_of}
use Rattle.intake.specs.Holds.{key_by, VerifiesAs}
use Rattle.intake.specs.Letter.{Checks, AreChecked}
use Rattle.intake.specs.declared.sender.Sender.{Sender}
use Rattle.intake.specs.declared.unfit.Unfit.{Unfit}
use Rattle.intake.specs.declared.unfit.Unfit.TheVariants.{Refused, NoMemory}

-- two tests of one fact are equal
pub same_test : (P : Type 0) (a b : Bool) → (IsTrue a ↔ P) → (IsTrue b ↔ P) → a ≡ b
same_test P true true a b = refl
same_test P true false a b = sym (b.1 (a.0 refl))
same_test P false true a b = a.1 (b.0 refl)
same_test P false false a b = refl

-- a test of what never holds
pub never_holds : (P : Type 0) → (P → ⊥) → IsTrue false ↔ P
never_holds P never = (λ e. absurd (let h : false ≡ true = e in cc), λ p. absurd (never p))

other_by : (k : protection.Key) (a : Option Algorithm) (o : Option (List ℕ)) (part : List ℕ) → HasOther k a → HoldsOver k a o part → ⊥
other_by k None o part other holds = holds
other_by k (Some a) None part other holds = holds
other_by (keys.Mac secret) (Some a) (Some o) part other holds = other (record { params = holds.params; form = holds.form })
other_by (keys.Lms key) (Some a) (Some o) part other holds = other holds.form

-- a protection by another algorithm doesn't hold
pub other_never : (k : protection.Key) (m : MessageForm) → HasOther k m.head.alg → ProtectionHolds k m → ⊥
other_never k m other holds = other_by k m.head.alg m.protection (protected_part m.header_bytes m.body_bytes) other holds

short_by : (key : List ℕ) (a : Option Algorithm) (o : Option (List ℕ)) (part : List ℕ) → (length key ≡ 60 → ⊥) → HoldsOver (keys.Lms key) a o part → ⊥
short_by key None o part short holds = holds
short_by key (Some a) None part short holds = holds
short_by key (Some a) (Some o) part short holds = short holds.valid.key_size

-- nor does a signature under what is no public key
pub short_never : (key : List ℕ) (m : MessageForm) → (length key ≡ 60 → ⊥) → ProtectionHolds (keys.Lms key) m → ⊥
short_never key m short holds = short_by key m.head.alg m.protection (protected_part m.header_bytes m.body_bytes) short holds

-- what was computed is what the facts say
pub verified_is : (m : MessageForm) (c : Checks) (kind : Kind) (key : List ℕ) (b : Bool) → AreChecked m c → kind_of m.head.alg ≡ Some kind → (IsTrue b ↔ ProtectionHolds (key_by kind key) m) → c.verifies key ≡ b
verified_is m c kind key b checked e holds =
    same_test (ProtectionHolds (key_by kind key) m) (c.verifies key) b
    (subst (λ (k : Option Kind). IsTrue (c.verifies key) ↔ VerifiesAs k m key) e (checked.verified key)) holds

module _ (standing : Standing) (outer : Bool) (f : Facts) where
  -- nothing protects these refusals
  pub back_protection : (fail : FailInfo) → IsProtection f.is_protected f.header.kind (Err fail) → IsBack (Owner → Decision) (proven_by standing outer f) (Refused fail false outer)
  back_protection fail first = (bare outer, record { outer = refl; guard = refl }, λ next. first (bare outer) _)

  module _ (kind : Kind) (protected : f.is_protected ≡ true) (is : f.header.kind ≡ Some kind) where
    protection_passes : pass (protection_rows f) ≡ true
    protection_passes = rw (protected, is) refl

    behind_protection : (next : Owner → Decision) → proven_by standing outer f next ≡ known (bare outer) standing (λ o. unless (bare outer) (check_rows f o) (next o))
    behind_protection next = unless_passed (bare outer) (protection_rows f) _ protection_passes

    pub back_known : (fail : FailInfo) → IsKnown standing (Err fail) → IsBack (Owner → Decision) (proven_by standing outer f) (Refused fail false outer)
    back_known fail first = (bare outer, record { outer = refl; guard = refl }, λ next. behind_protection next ∙ first (bare outer) _)

    module _ (o : Owner) (good : standing ≡ Good o.who o.key o.rights) where
      behind_known : (next : Owner → Decision) → proven_by standing outer f next ≡ unless (bare outer) (check_rows f o) (next o)
      behind_known next = behind_protection next ∙ ap (λ (s : Standing). known (bare outer) s (λ x. unless (bare outer) (check_rows f x) (next x))) good

      pub back_check : f.verifies o.key ≡ false → IsBack (Owner → Decision) (proven_by standing outer f) (Refused BadMessageCheck false outer)
      back_check e = (bare outer, record { outer = refl; guard = refl }, λ next. behind_known next ∙ rw e refl)

      pub is_verified : (sure : Bool) → is_some (guard_by f.header.kind f.header.kid o) ≡ sure → f.verifies o.key ≡ true → IsVerified standing outer f (record { owner = o; guarded = sure })
      is_verified sure guard verified = record {
        good = good;
        protected = protected;
        kind = rw is refl;
        verified = verified;
        guard = guard;
        passes = λ next. behind_known next ∙ unless_passed (bare outer) (check_rows f o) (next o) (rw verified refl);
      }

  -- and then the time
  module _ (skew event : ℕ) where
    pub back_proven : (u : Unfit) → IsBack (Owner → Decision) (proven_by standing outer f) u → IsBack (Owner → Decision) (trusted_by standing skew event outer f) u
    back_proven NoMemory back = tt
    back_proven (Refused fail sure to_outer) back = (back.0, back.1, λ next. back.2 (λ o. unless (guarded outer f o) (time_rows f skew event) (next o)))

    module _ (s : Sender) (v : IsVerified standing outer f s) where
      behind_check : (next : Owner → Decision) → trusted_by standing skew event outer f next ≡ unless (guarded outer f s.owner) (time_rows f skew event) (next s.owner)
      behind_check next = v.passes (λ o. unless (guarded outer f o) (time_rows f skew event) (next o))

      pub back_time : is_apart skew event f.header.time ≡ true → IsBack (Owner → Decision) (trusted_by standing skew event outer f) (Refused BadTime s.guarded outer)
      back_time e = (guarded outer f s.owner, record { outer = refl; guard = v.guard }, λ next. behind_check next ∙ rw e refl)

      pub is_trusted : is_apart skew event f.header.time ≡ false → IsTrusted standing skew event outer f s
      is_trusted e = record {
        good = v.good;
        protected = v.protected;
        kind = v.kind;
        verified = v.verified;
        guard = v.guard;
        passes = λ next. behind_check next ∙ unless_passed (guarded outer f s.owner) (time_rows f skew event) (next s.owner) (rw e refl);
      }
