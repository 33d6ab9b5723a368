-- Where the steps of a call lead.
use Rattle.std.proofs.Common.{◌≡◌, List, [], ◌∷◌, ◌++◌, length, Option, Some, None, refl, sym, ap, subst, ◌∙◌, append_assoc, inl}
use Rattle.std.specs.Prelude.{IfSome}
use Rattle.std.proofs.lemmas.List.{append-nil}
use Rattle.deal_changes.specs.declared.change.Change.{Change}
use Rattle.deal_model.specs.Views.{History}
use Rattle.deal_model.specs.Rules.{Allowed, AllowedFrom, Legal}
use Rattle.world_core.specs.declared.world.World.{World}
use Rattle.world_core.specs.declared.world.Step.{Step}
use Rattle.world_core.specs.declared.world.Step.TheVariants.{Propose, Sync, SyncFail, Settle}
use Rattle.world_core.specs.Steps.{after, Run}
use Rattle.desk_steps.specs.Steps.{settling, adding, failing, Lead}

-- ---- runs behind one another

pub run_both : (w : World) (xs ys : List Step) (u v : World) → Run w xs u → Run u ys v → Run w (xs ++ ys) v
run_both w [] ys u v r q = subst (λ (x : World). Run x ys v) r q
run_both w (s ∷ xs) ys u v r q = (r.0, r.1, run_both r.0 xs ys u v r.2 q)

pub both : (h g k : History) (d e f : Option Change) (xs ys : List Step) → Lead h d xs g e → Lead g e ys k f → Lead h d (xs ++ ys) k f
both h g k d e f xs ys first second w stands =
    let one = first w stands in
    let two = second one.0 one.2 in (
      two.0,
      run_both w xs ys one.0 two.0 one.1 two.1,
      two.2,
      record { signed = two.3.signed ∙ one.3.signed; sent = two.3.sent ∙ one.3.sent },
    )

pub stays : (h : History) (d : Option Change) → Lead h d [] h d
stays h d w stands = (w, refl, stands, record { signed = refl; sent = refl })

-- ---- one step

pub settled : (h : History) (d : Option Change) → Lead h d (settling d) h None
settled h None = stays h None
settled h (Some c) = λ w stands. (
  after w Settle,
  (after w Settle, inl ((stands.up, (c, stands.doubt)), refl), refl),
  record { up = stands.up; durable = stands.durable; pending = stands.pending; doubt = refl; acked = stands.acked },
  record { signed = refl; sent = refl },
)

-- the change is written
proposed : World → Change → World
proposed w c = after w (Propose c)

pub made : (h : History) (c : Change) → Allowed h c → Lead h None (Propose c ∷ Sync ∷ []) (h ++ c ∷ []) None
unfolding proposed
made h c may w stands =
    let u : World = proposed w c in
    let v : World = after u Sync in
    let grown : v.durable ≡ h ++ c ∷ [] = ap (λ (x : History). x ++ c ∷ []) stands.durable in (
      v,
      (u, inl ((stands.up, stands.pending, stands.doubt, subst (λ (x : History). Allowed x c) (sym stands.durable) may), refl), (v, inl ((stands.up, (c, refl)), refl), refl)),
      record { up = stands.up; durable = grown; pending = refl; doubt = stands.doubt; acked = ap length grown },
      record { signed = refl; sent = refl },
    )

pub doubted : (h : History) (c : Change) → Allowed h c → Lead h None (Propose c ∷ SyncFail ∷ []) h (Some c)
unfolding proposed
doubted h c may w stands =
    let u : World = proposed w c in
    let v : World = after u SyncFail in (
      v,
      (u, inl ((stands.up, stands.pending, stands.doubt, subst (λ (x : History). Allowed x c) (sym stands.durable) may), refl), (v, inl ((stands.up, (c, refl)), refl), refl)),
      record { up = stands.up; durable = stands.durable; pending = refl; doubt = refl; acked = stands.acked },
      record { signed = refl; sent = refl },
    )

pub added : (h : History) (d : Option Change) (c : Change) → Allowed h c → Lead h d (adding d c) (h ++ c ∷ []) None
added h d c may = both h h (h ++ c ∷ []) d None None (settling d) (Propose c ∷ Sync ∷ []) (settled h d) (made h c may)

pub failed : (h : History) (d : Option Change) (c : Change) → Allowed h c → Lead h d (failing d c) h (Some c)
failed h d c may = both h h h d None (Some c) (settling d) (Propose c ∷ SyncFail ∷ []) (settled h d) (doubted h c may)

-- ---- what may come next

from_last : (before h : List Change) (c : Change) → AllowedFrom before (h ++ c ∷ []) → Allowed (before ++ h) c
from_last before [] c a = subst (λ (b : History). Allowed b c) (sym (append-nil before)) a.0
from_last before (x ∷ h) c a = subst (λ (b : History). Allowed b c) (append_assoc before (x ∷ []) h) (from_last (before ++ x ∷ []) h c a.1)

-- the last change of a legal history may come next behind the others
pub last_allowed : (h g : History) (c : Change) → Legal g → g ≡ h ++ c ∷ [] → Allowed h c
last_allowed h g c legal e = from_last [] h c (subst (AllowedFrom []) e legal.1)

-- what is in doubt may come next
pub doubt_allowed : (h g : History) (e : Option Change) (c : Change) → IfSome e (Allowed g) → g ≡ h → e ≡ Some c → Allowed h c
doubt_allowed h g e c may same is = subst (λ (x : History). Allowed x c) same (subst (λ (x : Option Change). IfSome x (Allowed g)) is may)
