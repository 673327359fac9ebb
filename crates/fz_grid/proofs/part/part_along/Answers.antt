use Rattle.std.proofs.Common.{◌≡◌, ◌+◌, ◌-◌, ◌*◌, ◌≤◌, ◌<◌, ap, arith}
use Rattle.fz_grid.specs.Sieve.{picks_before}
use Rattle.fz_grid.proofs.PartAxes.{count_steps, first_pick, last_pick}
use Rattle.fz_grid.proofs.part.part_along.Goals as goal

pub returns : goal.returns
returns c =
    let o = c.args.lo in
    let h = c.args.hi in
    let s = c.args.step in
    let corner = c.args.corner in
    let first = c.picks_ahead-first.result in
    let behind = c.picks_ahead-behind.result in
    let is_first : first ≡ picks_before o h s corner = c.picks_ahead-first.ensures in
    let is_behind : behind ≡ picks_before o h s (corner + c.args.len) = c.picks_ahead-behind.ensures in
    let some = c.requires.some in
    let from = first_pick o h s corner (corner + c.args.len) c.requires.step some in
    let to = last_pick o h s corner (corner + c.args.len) c.requires.step some in
    let at_first : first * s ≡ picks_before o h s corner * s = ap (λ x. x * s) is_first in
    let at_last : (behind - 1) * s ≡ (picks_before o h s (corner + c.args.len) - 1) * s = ap (λ x. (x - 1) * s) is_behind in
    let more : 1 ≤ behind - first = omega (arith, some, is_first, is_behind) in
    let steps = count_steps first (behind - first) behind s (omega (arith, more)) more in
    let start = c.pick_along-start.ensures.pick in
    let stop = c.pick_along-stop.ensures.pick in
    let low : corner ≤ c.pick_along-start.result = omega (arith, start, at_first, from.1) in
    let high : c.pick_along-stop.result < corner + c.args.len = omega (arith, stop, at_last, to.1) in
    record {
      first = is_first;
      count = omega (arith, is_first, is_behind);
      some = more;
      fits = omega (arith, more, is_behind, to.0);
      from = omega (arith, low, start);
      to = omega (arith, low, start, stop, steps);
      inside = omega (arith, high, low, start, stop, steps);
    }
