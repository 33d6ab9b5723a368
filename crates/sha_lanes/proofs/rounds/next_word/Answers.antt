use Rattle.std.proofs.Common.{◌≡◌, ◌+◌, ◌%◌, arith, refl}
use Rattle.sha_lanes.proofs.Lanes.{lane_read}
use Rattle.sha_lanes.proofs.rounds.next_word.Goals as goal

pub returns-clause-value : goal.returns-clause-value
returns-clause-value c i h =
    let at : c.args.place % 16 ≡ c.args.place = omega arith in
    let w = c.args.window.now in
    rw (
      c.add-word.ensures i h,
      c.add.ensures i h,
      c.add-new.ensures i h,
      c.small_sigma1.ensures i h,
      c.small_sigma0-old.ensures i h,
      at,
      lane_read i ((c.args.place + 14) % 16) w,
      lane_read i ((c.args.place + 9) % 16) w,
      lane_read i ((c.args.place + 1) % 16) w,
      lane_read i c.args.place w,
    ) refl
