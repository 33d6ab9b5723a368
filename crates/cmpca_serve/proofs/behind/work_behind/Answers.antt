use Rattle.std.proofs.Common.{rules, ap}
use Rattle.front.specs.Fronts.{replier_by}
use denote.Exit.{no}
use denote.Param.{param}
use denote.Param.Send.{sendable, param_sync, arg_sync}
use Rattle.cmpca_serve.proofs.Sent.{workers_sync, keeping_sync}
use Rattle.cmpca_serve.proofs.BehindLemmas.{served_behind, all_ok}
use Rattle.cmpca_serve.proofs.behind.work_behind.Goals as goal

-- what workers share may be shared
pub attend_and_keep_up-upkeep-requires-sync-W : goal.attend_and_keep_up-upkeep-requires-sync-W
attend_and_keep_up-upkeep-requires-sync-W g c κs within = param_sync 3 _ (arg_sync _ no _ (workers_sync _ (param 0 g.row.D) (param 6 g.row.R) g.D.Disk (search (sendable, c.type_bounds.send-D) depth 6) (search (sendable, c.type_bounds.sync-R) depth 6)))

-- and what is known beside them
pub attend_and_keep_up-upkeep-requires-sync-K : goal.attend_and_keep_up-upkeep-requires-sync-K
attend_and_keep_up-upkeep-requires-sync-K g c κs within = param_sync 8 _ (arg_sync _ no _ (keeping_sync _ (param 0 g.row.D) (param 6 g.row.R) g.D.Disk (search (sendable, c.type_bounds.send-D) depth 6) (search (sendable, c.type_bounds.sync-R) depth 6)))

pub returns-clause-served : goal.returns-clause-served
returns-clause-served g c =
    all_ok _ _ c.close_work.result
    (λ x closing. served_behind g.S.Joined.Link g.S.Door g.C.Clock g.E.Entropy c.what_is_made_is_allowed.ensures.stamped _ _ _ _ _ _ c.args.seat.me.0 _ _ _ _ _ _ _ _ _ _ _ _ _ _
    c.requires.unused (search (rules, c.split-own.ensures.given, c.into_badge-own.ensures)) (search (rules, c.split-own.ensures.kept, c.into_badge-badge.ensures)) (ap replier_by c.new-workers.ensures.keys) c.new-workers.ensures.count
    c.attend_and_keep_up-upkeep.ensures.accounts c.attend_and_keep_up-upkeep.ensures.keeps.0 closing)
    c.close_work.ensures.closing
