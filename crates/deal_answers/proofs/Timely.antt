-- The test of a history's times, and what it tells.
use Rattle.std.proofs.Common.{Bool, true, false, ◌&&◌, [], ◌∷◌, refl}
use Rattle.std.specs.Prelude.{IsTrue, ◌↔◌}
use Rattle.std.specs.List.{list_all}
use Rattle.std.proofs.lemmas.Bool.{leb-true, le-leb}
use Rattle.deal_model.specs.Views.{History, AreTimely}
use Rattle.deal_answers.specs.Times.{is_timely}

both : (a b : Bool) → IsTrue (a && b) → IsTrue a × IsTrue b
both true b h = (refl, h)
both false b h = cc

and_both : (a b : Bool) → IsTrue a → IsTrue b → IsTrue (a && b)
and_both true b h k = k
and_both false b h k = h

pub times_test : (h : History) → IsTrue (list_all is_timely h) ↔ AreTimely h
times_test [] = (λ t. tt, λ t. refl)
times_test (c ∷ h) = (
  λ t. let parts = both (is_timely c) (list_all is_timely h) t in (leb-true _ _ parts.0, (times_test h).0 parts.1),
  λ t. and_both (is_timely c) (list_all is_timely h) (le-leb _ _ t.0) ((times_test h).1 t.1),
)
