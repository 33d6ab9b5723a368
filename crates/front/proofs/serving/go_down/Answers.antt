use Rattle.std.proofs.Common.{◌≤◌, length, sym, ap, subst, ◌∙◌}
use Rattle.deal_model.specs.declared.asking.Echo.{Echo}
use Rattle.deal_table.specs.Message.{echoed}
use Rattle.reply_maker.specs.Replies.{certificate_hash}
use Rattle.front.specs.Fronts.{replier_by}
use Rattle.front.proofs.Joins.{asked_goes}
use Rattle.front.proofs.Letters.{stop_short, request_short}
use Rattle.front.proofs.Replies.{down_all}
use Rattle.front.proofs.serving.go_down.Goals as goal

pub failure-requires-clause-sender : goal.failure-requires-clause-sender
failure-requires-clause-sender g c = stop_short c.args.request.now c.in-Stop.fail c.in-Stop.echo c.in-Stop.ensures

pub failure-requires-in-Go-clause-sender : goal.failure-requires-in-Go-clause-sender
failure-requires-in-Go-clause-sender g c = subst (λ (e : Echo). length e.sender.now ≤ 131072) (sym c.echo.ensures) (request_short c.args.request.now c.in-Go.r c.in-Go.ensures).outer

pub returns-in-Stop-clause-response : goal.returns-in-Stop-clause-response
returns-in-Stop-clause-response g c = down_all g.K.Clerk (replier_by c.args.keys.now) c.args.request.now c.args.clerk.now c.look_at-look.new.clerk c.args.now c.nothing.result c.look_at-look.result c.in-Stop.echo c.look_at-look.ensures.asked c.look_at-look.ensures.look (λ l letter. c.in-Stop.ensures.repeated (certificate_hash (replier_by c.args.keys.now)) l letter) c.failure.result c.failure.ensures

pub returns-in-Go-clause-goes : goal.returns-in-Go-clause-goes
returns-in-Go-clause-goes g c = asked_goes g.K.Clerk c.args.clerk.now c.look_at-look.new.clerk (λ x. ⊥) c.look_at-look.ensures.asked

pub returns-in-Go-clause-response : goal.returns-in-Go-clause-response
returns-in-Go-clause-response g c = down_all g.K.Clerk (replier_by c.args.keys.now) c.args.request.now c.args.clerk.now c.look_at-look.new.clerk c.args.now c.nothing.result c.look_at-look.result c.echo.result.now c.look_at-look.ensures.asked c.look_at-look.ensures.look (λ l letter. ap echoed c.echo.ensures ∙ c.in-Go.ensures.outer (certificate_hash (replier_by c.args.keys.now)) l letter) c.failure-in-Go.result c.failure-in-Go.ensures
