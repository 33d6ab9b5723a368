-- Who may wrap a message, as the rows of a nested one ask.
use Rattle.std.proofs.Common.{◌≡◌, ℕ, Bool, true, false, List, length, Option, Some, None, is_some, refl, sym, ap, subst, ◌∙◌}
use Rattle.std.specs.Prelude.{◌==◌}
use Rattle.pki_message.specs.Message.{MessageForm}
use Rattle.deal_model.specs.declared.states.Owner.{Owner}
use Rattle.cmp_values.specs.declared.fail_info.FailInfo.{FailInfo}
use Rattle.cmp_values.specs.declared.fail_info.FailInfo.TheVariants.{BadRequest, NotAuthorized, BadDataFormat}
use Rattle.deal_table.specs.declared.look.Look.{Look}
use Rattle.deal_table.specs.Message.{Facts}
use Rattle.deal_table.specs.Table.{Decision, unless, pass, guarded, header_rows, wrap_rows, may_wrap, nested_count, trusted_by}
use Rattle.intake.specs.Checking.{IsBack, IsBackAround, IsBadInner, IsTrusted}
use Rattle.intake.specs.Letter.{IsReading}
use Rattle.intake.specs.Made.{FirstApplies, heading_of}
use Rattle.deal_table.specs.History.{Receipted}
use Rattle.intake.specs.Told.{about_told}
use Rattle.intake.specs.declared.bodies.About.{About}
use Rattle.intake.specs.declared.bodies.About.TheVariants as about
use Rattle.intake.specs.declared.sender.Sender.{Sender}
use Rattle.intake.specs.declared.unfit.Unfit.{Unfit}
use Rattle.intake.specs.declared.unfit.Unfit.TheVariants.{Refused}
use Rattle.intake.proofs.WholeLemmas.{back_same}

-- the sender
pub back_around : (look : Look) (f : Facts) (u : Unfit) → IsBack (Owner → Decision) (trusted_by look.outer look.settings.skew look.time true f) u → IsBackAround look f u
back_around look f u back =
    back_same (Owner → Decision) (Owner → Decision) (λ (next : Owner → Decision). trusted_by look.outer look.settings.skew look.time true f (λ o. unless (guarded true f o) (wrap_rows f o) (next o)))
    (trusted_by look.outer look.settings.skew look.time true f) (λ next o. unless (guarded true f o) (wrap_rows f o) (next o)) u (λ next. refl) back

module _ (look : Look) (f : Facts) (s : Sender) (t : IsTrusted look.outer look.settings.skew look.time true f s) where
  behind : (next : Owner → Decision) → trusted_by look.outer look.settings.skew look.time true f (λ o. unless (guarded true f o) (wrap_rows f o) (next o)) ≡ unless (guarded true f s.owner) (wrap_rows f s.owner) (next s.owner)
  behind next = t.passes (λ o. unless (guarded true f o) (wrap_rows f o) (next o))

  pub may_not : may_wrap s.owner ≡ false → IsBackAround look f (Refused NotAuthorized s.guarded true)
  may_not e = (guarded true f s.owner, record { outer = refl; guard = t.guard }, λ next. behind next ∙ rw e refl)

  pub not_one : may_wrap s.owner ≡ true → (nested_count f.body == 1) ≡ false → IsBackAround look f (Refused BadRequest s.guarded true)
  not_one e n = (guarded true f s.owner, record { outer = refl; guard = t.guard }, λ next. behind next ∙ rw (e, n) refl)

-- both rows pass
pub may_one : (f : Facts) (o : Owner) → may_wrap o ≡ true → (nested_count f.body == 1) ≡ true → pass (wrap_rows f o) ≡ true
may_one f o e n = rw (e, n) refl

-- no message stands inside
pub none_inside : (inside : List ℕ) (sure : Bool) → ((o : Option MessageForm) → IsReading inside o → o ≡ None) → (o : Option MessageForm) → IsReading inside o → IsBadInner sure o (Refused BadDataFormat sure true)
none_inside inside sure only o reading = subst (λ (x : Option MessageForm). IsBadInner sure x (Refused BadDataFormat sure true)) (sym (only o reading)) (refl, refl, refl)

-- its header isn't in form
pub formless_inside : (inside : List ℕ) (sure : Bool) (m : MessageForm) (fail : FailInfo) → ((o : Option MessageForm) → IsReading inside o → o ≡ Some m) → FirstApplies (header_rows (heading_of (Some m))) (Some fail)
    → (o : Option MessageForm) → IsReading inside o → IsBadInner sure o (Refused fail false false)
formless_inside inside sure m fail only first o reading = subst (λ (x : Option MessageForm). IsBadInner sure x (Refused fail false false)) (sym (only o reading)) (first, refl, refl)

-- what is no nested message counts none
pub counts_none : (hashes : Receipted → List ℕ) (proven : Bool) (a : About) → ((n : ℕ) → a ≡ about.Nests n → ⊥) → (nested_count (about_told hashes proven a) == 1) ≡ false
counts_none hashes proven (about.Enrols e) never = refl
counts_none hashes proven (about.Confirms c) never = refl
counts_none hashes proven (about.Polls p) never = refl
counts_none hashes proven (about.Withdraws w) never = refl
counts_none hashes proven (about.Nests n) never = absurd (never n refl)
counts_none hashes proven about.Other never = refl
