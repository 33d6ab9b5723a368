-- No head, whatever follows, or none yet.
use Rattle.std.proofs.Common.{◌≡◌, ◌<◌, length, arith, rules}
use Rattle.http_heads.proofs.HeadLemmas.{none_empty, none_overflows, none_too_long, none_within, rejected}
use Rattle.http_heads.proofs.look.front_of.Goals as goal

pub returns-then-is_empty : goal.returns-then-is_empty
returns-then-is_empty c =
    let none : length c.args.buffer.now ≡ 0 = search rules in
    (none_empty _ none, omega (arith, none))

pub returns-then-head-gt-HEAD_LIMIT : goal.returns-then-head-gt-HEAD_LIMIT
returns-then-head-gt-HEAD_LIMIT c = λ more.
    let some : 0 < length c.args.buffer.now = search rules in
    let found = rw c.in-Ok-Complete.field-0-is at c.in-Ok-Complete.ensures.complete in
    rejected _ more some (none_too_long _ more _ _ found.0 found.1 c.if-head-gt-HEAD_LIMIT.true)

pub returns-else-buffer-lt-HEAD_LIMIT : goal.returns-else-buffer-lt-HEAD_LIMIT
returns-else-buffer-lt-HEAD_LIMIT c = λ more.
    let some : 0 < length c.args.buffer.now = search rules in
    let none = rw c.in-Ok-Partial.field-0-is at c.in-Ok-Partial.ensures.partial in
    rejected _ more some (none_within _ more none c.if-buffer-lt-HEAD_LIMIT.false)

pub returns-in-Err : goal.returns-in-Err
returns-in-Err c = λ more.
    let some : 0 < length c.args.buffer.now = search rules in
    rejected _ more some (none_overflows _ more c.in-Err.ensures.no_room)
