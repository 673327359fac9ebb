-- A stretch more has the given number alone.
use Rattle.std.proofs.Common.{◌≡◌, ◌+◌, ◌-◌, ◌≤◌, length, take, drop, ap, arith}
use Rattle.fz_plio.proofs.RunParts.{copies_more}
use Rattle.fz_plio.proofs.run.whole_len.Goals as goal

pub loop-at-preserved : goal.loop-at-preserved
loop-at-preserved c =
    let at = c.loop-at.at in
    let numbers = c.args.numbers.now in
    let room : at + 16 ≤ length numbers = omega arith in
    let size : at + 16 - at ≡ 16 = omega arith in
    (room, copies_more at 16 numbers _ _ room (ap (λ k. take k (drop at numbers)) size) (c.all_are.ensures c.if-all_are.true) c.loop-at.invariant.1)
