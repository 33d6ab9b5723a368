use Rattle.std.proofs.Common.{rules, MutBor, inl, inr, refl}
use Rattle.cmpca_tool.proofs.ChangeLemmas.{gave_back}
use Rattle.cmpca_tool.proofs.RunLemmas.{some_input}
use Rattle.cmpca_serve.proofs.ServingLemmas.{running, keyless, no_words, some_workers, untouched}
use Rattle.cmpca_serve.proofs.serving.work.Goals as goal

pub returns-in_default-clause-told : goal.returns-in_default-clause-told
returns-in_default-clause-told g c =
    let k = some_input (g.K.Source.left c.args.key.now) in
    let same = untouched g.D.Disk.content g.D.Disk.images g.D.Disk.moment g.D.Disk.left_since (g.met.D.Disk g.world.𝓛 g.world.𝓜 g.world.𝓡 (λ s ok. ok, λ p. p, λ s. s, λ k. k)).only_now c.args.disk.now in
    (k.0, k.1, inl (no_words _ c.read_serve.result _ _ (search rules) c.read_serve.ensures.only (search rules) (search rules), same, refl, (refl, refl, refl, refl)))

pub returns-in-Err-clause-told : goal.returns-in-Err-clause-told
returns-in-Err-clause-told g c =
    let k = some_input (g.K.Source.left c.args.key.now) in
    let u = gave_back (λ (r : MutBor g.row.D.Denot). r.now) g.D.Disk.content g.D.Disk.images g.D.Disk.moment g.D.Disk.left_since (g.met.D.Disk g.world.𝓛 g.world.𝓜 g.world.𝓡 (λ s ok. ok, λ p. p, λ s. s, λ k. k)).honest c.at_most_one_answer.ensures
    _ c.in-Err.failed.0 _ c.in-Err.failed.1 _ _
    (search (rules, c.in-Err.ensures.loan)) c.in-Err.ensures.told c.in-Err.ensures.same c.in-Err.ensures.crash c.in-Err.ensures.moments c.unmounted.ensures.reply in
    (k.0, k.1, inr (c.in-Some.plan, c.in-Some.ensures.found, inl (u.0, u.1, refl, (refl, refl, refl, refl))))

pub serve_desk-requires-clause-some : goal.serve_desk-requires-clause-some
serve_desk-requires-clause-some g c κs within = (some_workers _ c.in-Some.plan c.in-Some.ensures.found).0

pub serve_desk-requires-clause-few : goal.serve_desk-requires-clause-few
serve_desk-requires-clause-few g c κs within = (some_workers _ c.in-Some.plan c.in-Some.ensures.found).1

pub returns-in-Ok-load-clause-told : goal.returns-in-Ok-load-clause-told
returns-in-Ok-load-clause-told g c =
    let load = c.in-Ok-load.ensures.loaded in
    let served = running c.at_most_one_answer.ensures _ load.file c.settings_at.result.now c.in-Ok.desk.history.items c.serve_desk.ensures.serving.0 c.in-Ok-load.keys _ _ _
    c.in-Ok.ensures.told c.settings_at.ensures.same load.gives c.serve_desk.ensures.serving.1 in
    (load.file, load.read, inr (c.in-Some.plan, c.in-Some.ensures.found, inr (inr served)))

pub returns-in-Ok-load-clause-read_fault : goal.returns-in-Ok-load-clause-read_fault
returns-in-Ok-load-clause-read_fault g c = λ e. inr (c.serve_desk.ensures.read_fault e)

pub returns-in-Ok-load-clause-disk_fault : goal.returns-in-Ok-load-clause-disk_fault
returns-in-Ok-load-clause-disk_fault g c = λ e. inr (c.serve_desk.ensures.disk_fault e)

pub returns-in-Err-load-clause-told : goal.returns-in-Err-load-clause-told
returns-in-Err-load-clause-told g c =
    let load = c.in-Err-load.ensures.loaded in
    let none = keyless (λ (r : MutBor g.row.D.Denot). r.now) g.D.Disk.content g.D.Disk.images g.D.Disk.moment g.D.Disk.left_since (g.met.D.Disk g.world.𝓛 g.world.𝓜 g.world.𝓡 (λ s ok. ok, λ p. p, λ s. s, λ k. k)).honest c.at_most_one_answer.ensures
    _ c.in-Ok.desk.disk _ _ load.file c.settings_at.result.now c.in-Ok.desk.history.items c.in-Ok.desk.doubt c.in-Err-load.fault _ _
    (search rules) c.in-Ok.ensures.told c.in-Ok.ensures.same c.in-Ok.ensures.crash c.in-Ok.ensures.moments c.in-Ok.ensures.clear c.stands_for_its_disk.ensures.images
    c.settings_at.ensures.same (search (rules, c.in-Err-load.ensures.fault)) load.gives c.keyless_reply.ensures.reply in
    (load.file, load.read, inr (c.in-Some.plan, c.in-Some.ensures.found, inr (inl (none, (refl, refl, refl, refl)))))
