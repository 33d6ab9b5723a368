-- What becomes of a message whose protection holds.
use Rattle.std.proofs.Common.{◌≡◌, ℕ, Bool, true, false, not, cond, List, Option, Some, None, is_none, refl, ap, ◌∙◌}
use Rattle.std.proofs.lemmas.Option.{none-some}
use Rattle.deal_changes.specs.declared.change.Kind.{Kind}
use Rattle.deal_model.specs.declared.states.Owner.{Owner}
use Rattle.deal_model.specs.declared.states.Standing.TheVariants.{Barred, Good}
use Rattle.deal_model.specs.Views.{History, owner_of, is_barred, standing_of}
use Rattle.cmp_values.specs.declared.fail_info.FailInfo.TheVariants.{BadAlg, BadMessageCheck, NotAuthorized}
use Rattle.deal_table.specs.History.{skew_of, owner_for, standing_for}
use Rattle.deal_table.specs.Message.{Facts}
use Rattle.deal_table.specs.Table.{To, Decision, Refuses, unless, bare, guarded, known, check_rows, time_rows, trusted}
use Rattle.deal_table.specs.Carry.{IsProtected}

-- a sender that is known is barred or good
known_at : (h : History) (t : ℕ) (kind : Kind) (kid : List ℕ) (o : Owner) (to : To) (next : Owner → Decision) → owner_of h kind kid ≡ Some o → known to (standing_of h kind kid t) next ≡ cond (is_barred h t o.who) (Refuses NotAuthorized to) (next o)
unfolding standing_of
known_at h t kind kid o to next e = rw e (elim (is_barred h t o.who) as (λ v. known to (cond v Barred (Good o.who o.key o.rights)) next ≡ cond v (Refuses NotAuthorized to) (next o)) [ true ↦ refl | false ↦ refl ])

known_for : (h : History) (t : ℕ) (kind : Option Kind) (kid : List ℕ) (o : Owner) (to : To) (next : Owner → Decision) → owner_for h kind kid ≡ Some o → cond (is_none kind) (Refuses BadAlg to) (known to (standing_for h kind kid t) next) ≡ cond (is_barred h t o.who) (Refuses NotAuthorized to) (next o)
known_for h t (Some kind) kid o to next e = known_at h t kind kid o to next e
known_for h t None kid o to next e = absurd (none-some o e)

pub trusted_at : (h : History) (t : ℕ) (outer : Bool) (m : Facts) (o : Owner) (next : Owner → Decision) → IsProtected h m o → trusted h t outer m next ≡ cond (is_barred h t o.who) (Refuses NotAuthorized (bare outer)) (unless (guarded outer m o) (time_rows m (skew_of h) t) (next o))
trusted_at h t outer m o next p =
    let then_next : Owner → Decision = λ q. unless (bare outer) (check_rows m q) (unless (guarded outer m q) (time_rows m (skew_of h) t) (next q)) in
    let protected : trusted h t outer m next ≡ cond (is_none m.header.kind) (Refuses BadAlg (bare outer)) (known (bare outer) (standing_for h m.header.kind m.header.kid t) then_next) =
    ap (λ b. cond (not b) (Refuses BadMessageCheck (bare outer)) (cond (is_none m.header.kind) (Refuses BadAlg (bare outer)) (known (bare outer) (standing_for h m.header.kind m.header.kid t) then_next))) p.protected in
    let verified : then_next o ≡ unless (guarded outer m o) (time_rows m (skew_of h) t) (next o) =
    ap (λ b. cond (not b) (Refuses BadMessageCheck (bare outer)) (unless (guarded outer m o) (time_rows m (skew_of h) t) (next o))) p.verified in
    protected ∙ known_for h t m.header.kind m.header.kid o (bare outer) then_next p.stands ∙ ap (λ d. cond (is_barred h t o.who) (Refuses NotAuthorized (bare outer)) d) verified
