use Rattle.front.specs.Fronts.{replier_by}
use Rattle.front.proofs.Letters.{stop_short}
use Rattle.front.proofs.Reasons.{stop_reason}
use Rattle.front.proofs.Replies.{stopped_all}
use Rattle.front.proofs.serving.respond.Goals as goal

pub refused-requires-clause-sender : goal.refused-requires-clause-sender
refused-requires-clause-sender g c = stop_short c.args.request.now c.in-Stop.fail c.in-Stop.echo c.in-Stop.ensures

pub refused-requires-clause-down : goal.refused-requires-clause-down
refused-requires-clause-down g c = λ _. stop_reason c.args.request.now c.in-Stop.fail c.in-Stop.echo c.in-Stop.ensures

pub returns-in-Stop-clause-response : goal.returns-in-Stop-clause-response
returns-in-Stop-clause-response g c = stopped_all g.K.Clerk (replier_by c.args.keys.now) c.args.request.now c.args.clerk.now c.look_at-look.new.clerk c.args.now c.args.words.now c.look_at-look.ensures.asked c.nothing.result c.look_at-look.result c.in-Stop.fail c.in-Stop.echo c.note-note.result c.look_at-look.ensures.look c.in-Stop.ensures c.note-note.ensures c.refused.result c.refused.ensures.note c.refused.ensures.octets
