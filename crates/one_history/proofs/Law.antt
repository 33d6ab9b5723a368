-- The headline, by its parts.
use Rattle.std.proofs.Common.{◌≡◌, ℕ, List, [], ◌∷◌, ◌++◌, refl, sym, subst}
use Rattle.cmp_ports.specs.declared.disk.Disk.{Ghosts}
use Rattle.deal_model.specs.Views.{History}
use Rattle.deal_model.specs.Rules.{Legal}
use Rattle.deal_model.specs.Laws.{GrowsLegally, OneGrantEach}
use Rattle.reply_maker.specs.Replies.{Replier}
use Rattle.signed_texts.specs.Laws.{EachLeafOneText, RepliesAreSigned, authority}
use Rattle.grant_laws.specs.Grants.{GrantsOnlyOnProof}
use Rattle.one_history.specs.Visits.{Finding, Holding, Visit, GoesOn, IsVisitBy, IsVisit}
use Rattle.one_history.specs.Worlds.{StoodAfter}
use Rattle.one_history.specs.Causes.{Asked}
use Rattle.one_history.specs.Headline.{MayCause, AllRunsHaveOneHistory}
use Rattle.one_history.proofs.Images.{AtMostOne}
use Rattle.one_history.proofs.Stepping.{IsDisk}
use Rattle.one_history.proofs.Chain.{are_one, visit_at}
use Rattle.one_history.proofs.Answers.{some_more, answer_later}
use Rattle.one_history.proofs.Grants.{earned_by}
use Rattle.one_history.proofs.Texts.{one_text, handed}

goes_on : {D : Type 0} (g : Ghosts D) (v : Visit D Asked) (k : History) → IsVisit g (MayCause v.asked) v → v.finding ≡ Holding k → GoesOn g (MayCause v.asked) k v
goes_on g v k is found = subst (λ (f : Finding). IsVisitBy g (MayCause v.asked) v f) found is.by

pub law : AtMostOne → GrowsLegally → ((h : History) → Legal h → OneGrantEach h) → ((k : Replier) (h : History) → Legal h → EachLeafOneText k h) → ((file : List ℕ) (h : History) → RepliesAreSigned file h) → GrantsOnlyOnProof → {D : Type 0} (g : Ghosts D) → IsDisk g → AllRunsHaveOneHistory g
law one grows single texts sent proof g disk d last vs v h empty runs right worked =
    let all = are_one one grows g disk MayCause d last vs v h empty runs worked in
    record {
      one = all;
      answers = λ u k a among works stands.
          let goes = goes_on g u k (visit_at g MayCause d last (vs ++ v ∷ []) runs among.0 u among.1) works.1 in
          answer_later k (k ++ u.made) (h ++ v.made) a (some_more k u.made goes.legal.0)
          (all.keeps among.0 u (k ++ u.made) among.1 works.0 (subst (λ (f : Finding). StoodAfter u f (k ++ u.made)) (sym works.1) refl))
          (right u among k a works.1 stands);
      single = single (h ++ v.made) all.legal;
      earned = λ n c x is deal. earned_by proof (vs ++ v ∷ []) _ c x (all.made n c is) deal;
      signs = λ u w a b e f _ _ _ _ first second file key leaf. one_text (h ++ v.made) a b e f (texts (authority a.key (h ++ v.made)) (h ++ v.made) all.legal) first second file key leaf;
      hands = λ a place r s leaf stands stamped has sealed. handed (h ++ v.made) a place r stands sealed (sent a.key (h ++ v.made) place r s leaf stands stamped has);
    }
