use Rattle.std.proofs.Common.{refl, ap, ◌∙◌}
use Rattle.deal_model.specs.declared.asking.Ask.{Ask}
use Rattle.deal_table.specs.History.{look_of}
use Rattle.front.specs.Answers.{IsOwn}
use Rattle.front.specs.Clerks.{clerked}
use Rattle.front.specs.Fronts.{replier_by}
use Rattle.front.proofs.Joins.{has_on, settings_by, asked_goes}
use Rattle.front.proofs.Letters.{request_short}
use Rattle.front.proofs.Reasons.{unfit_reason, verdict_reason}
use Rattle.front.proofs.Replies.{filled_by, sealable, finished_all, turned_all}
use Rattle.front.proofs.Rulings.{served_goes, carried_by}
use Rattle.front.proofs.serving.served.Goals as goal

pub turned-requires-clause-senders : goal.turned-requires-clause-senders
turned-requires-clause-senders g c = request_short c.args.r.now.bytes.now c.args.r.now c.requires.request

pub turned-requires-clause-reason : goal.turned-requires-clause-reason
turned-requires-clause-reason g c = unfit_reason (replier_by c.args.keys.now) c.args.r.now.bytes.now c.args.r.now.ask c.look_at-look.result (g.K.Clerk.seen c.look_at-look.new.clerk) c.args.now c.in-Err.unfit c.look_at-look.ensures.founded (c.look_at-look.ensures.look ∙ ap (λ (a : Ask). look_of (g.K.Clerk.seen c.look_at-look.new.clerk) a c.args.now) c.ask.ensures) c.in-Err.ensures.unfit

pub returns-in-Err-clause-goes : goal.returns-in-Err-clause-goes
returns-in-Err-clause-goes g c = asked_goes g.K.Clerk c.args.clerk.now c.look_at-look.new.clerk (IsOwn (replier_by c.args.keys.now) c.args.r.now.bytes.now (g.K.Clerk.seen c.args.clerk.now) c.args.now c.args.words.now) c.look_at-look.ensures.asked

pub returns-in-Err-clause-response : goal.returns-in-Err-clause-response
returns-in-Err-clause-response g c = turned_all g.K.Clerk (replier_by c.args.keys.now) c.args.r.now.bytes.now c.args.clerk.now c.look_at-look.new.clerk c.args.now c.args.words.now c.look_at-look.ensures.asked c.args.r.now c.look_at-look.result c.in-Err.unfit c.requires.request c.look_at-look.ensures.founded (c.look_at-look.ensures.look ∙ ap (λ (a : Ask). look_of (g.K.Clerk.seen c.look_at-look.new.clerk) a c.args.now) c.ask.ensures) c.in-Err.ensures.unfit c.turned.result c.turned.ensures

pub decide-verdict-requires-clause-settings : goal.decide-verdict-requires-clause-settings
decide-verdict-requires-clause-settings g c = has_on (g.K.Clerk.seen c.args.clerk.now) (g.K.Clerk.seen c.look_at-look.new.clerk) c.args.keys.now.settings c.requires.settings c.look_at-look.ensures.asked.grown

pub finish-requires-clause-made : goal.finish-requires-clause-made
finish-requires-clause-made g c = let rules = c.decide-verdict.ensures.ruled c.args.r.now.bytes.now (carried_by (replier_by c.args.keys.now) c.args.r.now.bytes.now c.args.r.now.ask c.look_at-look.result (g.K.Clerk.seen c.look_at-look.new.clerk) c.args.now c.in-Ok.checked c.look_at-look.ensures.founded (c.look_at-look.ensures.look ∙ ap (λ (a : Ask). look_of (g.K.Clerk.seen c.look_at-look.new.clerk) a c.args.now) c.ask.ensures) c.in-Ok.ensures.carries c.in-Ok.ensures.hash c.in-Ok.ensures.compares c.in-Ok.ensures.fits) in
    filled_by (clerked g.K.Clerk c.decide-verdict.new.clerk) c.args.keys.now.settings rules.goes.lawful (has_on (g.K.Clerk.seen c.look_at-look.new.clerk) (g.K.Clerk.seen c.decide-verdict.new.clerk) c.args.keys.now.settings (has_on (g.K.Clerk.seen c.args.clerk.now) (g.K.Clerk.seen c.look_at-look.new.clerk) c.args.keys.now.settings c.requires.settings c.look_at-look.ensures.asked.grown) rules.goes.grown)

pub finish-requires-clause-sealable : goal.finish-requires-clause-sealable
finish-requires-clause-sealable g c = let rules = c.decide-verdict.ensures.ruled c.args.r.now.bytes.now (carried_by (replier_by c.args.keys.now) c.args.r.now.bytes.now c.args.r.now.ask c.look_at-look.result (g.K.Clerk.seen c.look_at-look.new.clerk) c.args.now c.in-Ok.checked c.look_at-look.ensures.founded (c.look_at-look.ensures.look ∙ ap (λ (a : Ask). look_of (g.K.Clerk.seen c.look_at-look.new.clerk) a c.args.now) c.ask.ensures) c.in-Ok.ensures.carries c.in-Ok.ensures.hash c.in-Ok.ensures.compares c.in-Ok.ensures.fits) in
    sealable (replier_by c.args.keys.now) c.args.r.now.bytes.now c.decide-verdict.new.checked (g.K.Clerk.seen c.look_at-look.new.clerk) (g.K.Clerk.seen c.decide-verdict.new.clerk) c.args.now c.args.words.now c.args.keys.now.settings (clerked g.K.Clerk c.decide-verdict.new.clerk) c.decide-verdict.result refl rules.goes.lawful (settings_by (g.K.Clerk.seen c.decide-verdict.new.clerk) c.args.keys.now.settings (has_on (g.K.Clerk.seen c.look_at-look.new.clerk) (g.K.Clerk.seen c.decide-verdict.new.clerk) c.args.keys.now.settings (has_on (g.K.Clerk.seen c.args.clerk.now) (g.K.Clerk.seen c.look_at-look.new.clerk) c.args.keys.now.settings c.requires.settings c.look_at-look.ensures.asked.grown) rules.goes.grown)) rules.decides

pub finish-requires-clause-timely : goal.finish-requires-clause-timely
finish-requires-clause-timely g c = let rules = c.decide-verdict.ensures.ruled c.args.r.now.bytes.now (carried_by (replier_by c.args.keys.now) c.args.r.now.bytes.now c.args.r.now.ask c.look_at-look.result (g.K.Clerk.seen c.look_at-look.new.clerk) c.args.now c.in-Ok.checked c.look_at-look.ensures.founded (c.look_at-look.ensures.look ∙ ap (λ (a : Ask). look_of (g.K.Clerk.seen c.look_at-look.new.clerk) a c.args.now) c.ask.ensures) c.in-Ok.ensures.carries c.in-Ok.ensures.hash c.in-Ok.ensures.compares c.in-Ok.ensures.fits) in
    rules.timely

pub finish-requires-clause-senders : goal.finish-requires-clause-senders
finish-requires-clause-senders g c = request_short c.args.r.now.bytes.now c.args.r.now c.requires.request

pub finish-requires-clause-settled : goal.finish-requires-clause-settled
finish-requires-clause-settled g c = c.decide-verdict.ensures.told c.args.r.now.bytes.now (carried_by (replier_by c.args.keys.now) c.args.r.now.bytes.now c.args.r.now.ask c.look_at-look.result (g.K.Clerk.seen c.look_at-look.new.clerk) c.args.now c.in-Ok.checked c.look_at-look.ensures.founded (c.look_at-look.ensures.look ∙ ap (λ (a : Ask). look_of (g.K.Clerk.seen c.look_at-look.new.clerk) a c.args.now) c.ask.ensures) c.in-Ok.ensures.carries c.in-Ok.ensures.hash c.in-Ok.ensures.compares c.in-Ok.ensures.fits)

pub finish-requires-clause-reason : goal.finish-requires-clause-reason
finish-requires-clause-reason g c = let rules = c.decide-verdict.ensures.ruled c.args.r.now.bytes.now (carried_by (replier_by c.args.keys.now) c.args.r.now.bytes.now c.args.r.now.ask c.look_at-look.result (g.K.Clerk.seen c.look_at-look.new.clerk) c.args.now c.in-Ok.checked c.look_at-look.ensures.founded (c.look_at-look.ensures.look ∙ ap (λ (a : Ask). look_of (g.K.Clerk.seen c.look_at-look.new.clerk) a c.args.now) c.ask.ensures) c.in-Ok.ensures.carries c.in-Ok.ensures.hash c.in-Ok.ensures.compares c.in-Ok.ensures.fits) in
    verdict_reason (replier_by c.args.keys.now) c.args.r.now.bytes.now c.decide-verdict.new.checked (g.K.Clerk.seen c.look_at-look.new.clerk) (g.K.Clerk.seen c.decide-verdict.new.clerk) c.args.now c.args.words.now c.decide-verdict.result rules.decides

pub returns-clause-goes : goal.returns-clause-goes
returns-clause-goes g c = let rules = c.decide-verdict.ensures.ruled c.args.r.now.bytes.now (carried_by (replier_by c.args.keys.now) c.args.r.now.bytes.now c.args.r.now.ask c.look_at-look.result (g.K.Clerk.seen c.look_at-look.new.clerk) c.args.now c.in-Ok.checked c.look_at-look.ensures.founded (c.look_at-look.ensures.look ∙ ap (λ (a : Ask). look_of (g.K.Clerk.seen c.look_at-look.new.clerk) a c.args.now) c.ask.ensures) c.in-Ok.ensures.carries c.in-Ok.ensures.hash c.in-Ok.ensures.compares c.in-Ok.ensures.fits) in
    served_goes g.K.Clerk (replier_by c.args.keys.now) c.args.r.now.bytes.now c.args.clerk.now c.look_at-look.new.clerk c.decide-verdict.new.clerk c.args.now c.args.words.now c.decide-verdict.new.checked c.decide-verdict.result c.look_at-look.ensures.asked rules

pub returns-clause-response : goal.returns-clause-response
returns-clause-response g c = let rules = c.decide-verdict.ensures.ruled c.args.r.now.bytes.now (carried_by (replier_by c.args.keys.now) c.args.r.now.bytes.now c.args.r.now.ask c.look_at-look.result (g.K.Clerk.seen c.look_at-look.new.clerk) c.args.now c.in-Ok.checked c.look_at-look.ensures.founded (c.look_at-look.ensures.look ∙ ap (λ (a : Ask). look_of (g.K.Clerk.seen c.look_at-look.new.clerk) a c.args.now) c.ask.ensures) c.in-Ok.ensures.carries c.in-Ok.ensures.hash c.in-Ok.ensures.compares c.in-Ok.ensures.fits) in
    finished_all g.K.Clerk (replier_by c.args.keys.now) c.args.r.now.bytes.now c.args.clerk.now c.look_at-look.new.clerk c.decide-verdict.new.clerk c.args.now c.args.words.now c.args.r.now c.requires.request c.look_at-look.result (c.look_at-look.ensures.look ∙ ap (λ (a : Ask). look_of (g.K.Clerk.seen c.look_at-look.new.clerk) a c.args.now) c.ask.ensures) c.look_at-look.ensures.asked c.decide-verdict.new.checked c.decide-verdict.result rules c.finish.result c.finish.ensures
