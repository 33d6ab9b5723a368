-- A sender that is good is the owner of its credential.
use Rattle.std.proofs.Common.{◌≡◌, ℕ, Bool, true, false, cond, List, Option, Some, None, refl, sym, ap, ◌∙◌}
use Rattle.std.proofs.lemmas.Option.{same_Some}
use Rattle.deal_changes.specs.declared.change.Kind.{Kind}
use Rattle.deal_model.specs.declared.asking.Ask.{Ask}
use Rattle.deal_model.specs.declared.states.Owner.{Owner}
use Rattle.deal_model.specs.declared.states.Standing.{Standing}
use Rattle.deal_model.specs.declared.states.Standing.TheVariants.{Unknown, OtherKind, Barred, Good}
use Rattle.deal_model.specs.Views.{History, owner_of, is_barred, standing_with, standing_of}
use Rattle.deal_table.specs.History.{event_time, owner_for, standing_for, outer_standing, look_of}

good_in : Standing → Option Owner
good_in (Good who key rights) = Some (record { who = who; key = key; rights = rights })
good_in Unknown = None
good_in OtherKind = None
good_in Barred = None

-- a good sender is its credential's owner, and isn't barred
given_good : (h : History) (t : ℕ) (found : Option Owner) (stranger : Bool) (u : Owner) → standing_with h t found stranger ≡ Good u.who u.key u.rights → (found ≡ Some u) × (is_barred h t u.who ≡ false)
unfolding good_in
given_good h t None true u g = absurd (let e : OtherKind ≡ Good u.who u.key u.rights = g in cc)
given_good h t None false u g = absurd (let e : Unknown ≡ Good u.who u.key u.rights = g in cc)
given_good h t (Some p) stranger u g = elim (is_barred h t p.who) as (λ b. is_barred h t p.who ≡ b → cond b Barred (Good p.who p.key p.rights) ≡ Good u.who u.key u.rights → (Some p ≡ Some u) × (is_barred h t u.who ≡ false)) [
  | true ↦ λ is k. absurd (let e : Barred ≡ Good u.who u.key u.rights = k in cc)
  | false ↦ λ is k. let same : p ≡ u = same_Some p u (ap good_in k) in (ap (λ (x : Owner). Some x) same, ap (λ (x : Owner). is_barred h t x.who) (sym same) ∙ is)
] refl g

pub owner_good : (h : History) (t : ℕ) (kind : Option Kind) (kid : List ℕ) (u : Owner) → standing_for h kind kid t ≡ Good u.who u.key u.rights → (owner_for h kind kid ≡ Some u) × (is_barred h t u.who ≡ false)
unfolding standing_of
owner_good h t (Some kind) kid u g = given_good h t (owner_of h kind kid) _ u g
owner_good h t None kid u g = absurd (let e : Unknown ≡ Good u.who u.key u.rights = g in cc)

pub look_owner : (h : History) (ask : Ask) (now : ℕ) (o : Owner) → (look_of h ask now).cred ≡ Good o.who o.key o.rights → owner_for h ask.kind ask.kid ≡ Some o
look_owner h ask now o g = (owner_good h (event_time h now) ask.kind ask.kid o g).0

outer_owner : (h : History) (t : ℕ) (outer : Option (Kind × List ℕ)) (p : Kind × List ℕ) (o : Owner) → outer ≡ Some p → outer_standing h outer t ≡ Good o.who o.key o.rights → owner_for h (Some p.0) p.1 ≡ Some o
outer_owner h t outer p o e g = (owner_good h t (Some p.0) p.1 o (ap (λ (x : Option (Kind × List ℕ)). outer_standing h x t) (sym e) ∙ g)).0

pub look_outer_owner : (h : History) (ask : Ask) (now : ℕ) (p : Kind × List ℕ) (o : Owner) → ask.outer ≡ Some p → (look_of h ask now).outer ≡ Good o.who o.key o.rights → owner_for h (Some p.0) p.1 ≡ Some o
look_outer_owner h ask now p o e g = outer_owner h (event_time h now) ask.outer p o e g
