use Rattle.std.proofs.Common.{◌≡◌, ◌⊎◌, ℕ, ◌+◌, List, [], ◌∷◌, ◌++◌, length, refl, sym, ◌∙◌, ap}
use Rattle.cmp_ports.specs.Moments.{weaker}
use Rattle.journal_core.specs.Log.{framed, ClosedAfter, Recovers}
use Rattle.journal_core.proofs.Founding.{first_body, founded, begun}
use Rattle.journal_core.proofs.journal.Journal.found.Goals as goal

pub returns-in-Ok-seal-clause-founded : goal.returns-in-Ok-seal-clause-founded
returns-in-Ok-seal-clause-founded g c =
    let body = first_body c.args.magic.now c.args.first.now c.deref.result.now (g.D.Disk.images c.args.disk.now) c.requires.prepared (c.deref.ensures.value ∙ c.in-Ok.ensures.spelled) in
    let size : c.len.result ≡ length c.args.first.now + 13 = c.len.ensures ∙ sym c.deref.ensures.len ∙ ap length c.deref.ensures.value ∙ c.in-Ok.ensures.size in
    (founded c.args.magic.now c.args.first.now c.len.result (g.D.Disk.images c.seal.new.disk) c.requires.small c.beginning.ensures.magic size (c.in-Ok-seal.ensures.outcome [] (c.args.magic.now ++ 1 ∷ framed c.args.first.now) body), refl)

pub returns-in-Ok-seal-clause-sound : goal.returns-in-Ok-seal-clause-sound
returns-in-Ok-seal-clause-sound g c =
    let body = first_body c.args.magic.now c.args.first.now c.deref.result.now (g.D.Disk.images c.args.disk.now) c.requires.prepared (c.deref.ensures.value ∙ c.in-Ok.ensures.spelled) in
    let size : c.len.result ≡ length c.args.first.now + 13 = c.len.ensures ∙ sym c.deref.ensures.len ∙ ap length c.deref.ensures.value ∙ c.in-Ok.ensures.size in
    (c.args.magic.now, c.args.first.now ∷ [], [], founded c.args.magic.now c.args.first.now c.len.result (g.D.Disk.images c.seal.new.disk) c.requires.small c.beginning.ensures.magic size (c.in-Ok-seal.ensures.outcome [] (c.args.magic.now ++ 1 ∷ framed c.args.first.now) body))

pub returns-in-Ok-seal-clause-moments : goal.returns-in-Ok-seal-clause-moments
returns-in-Ok-seal-clause-moments g c =
    let body = first_body c.args.magic.now c.args.first.now c.deref.result.now (g.D.Disk.images c.args.disk.now) c.requires.prepared (c.deref.ensures.value ∙ c.in-Ok.ensures.spelled) in
    weaker g.D.Disk.moment g.D.Disk.left_since _ _ _ (λ (i : List ℕ). ClosedAfter [] i ⊎ Recovers c.args.magic.now i (c.args.first.now ∷ [])) (c.seal.ensures.moments [] (c.args.magic.now ++ 1 ∷ framed c.args.first.now) body)
    (λ i left. begun c.args.magic.now c.args.first.now i c.requires.small left)

pub returns-clause-moments : goal.returns-clause-moments
returns-clause-moments g c =
    let body = first_body c.args.magic.now c.args.first.now c.deref.result.now (g.D.Disk.images c.args.disk.now) c.requires.prepared (c.deref.ensures.value ∙ c.in-Ok.ensures.spelled) in
    weaker g.D.Disk.moment g.D.Disk.left_since _ _ _ (λ (i : List ℕ). ClosedAfter [] i ⊎ Recovers c.args.magic.now i (c.args.first.now ∷ [])) (c.seal.ensures.moments [] (c.args.magic.now ++ 1 ∷ framed c.args.first.now) body)
    (λ i left. begun c.args.magic.now c.args.first.now i c.requires.small left)
