use Rattle.std.proofs.Common.{◌-◌, ◌^◌, take, drop, get_or, arith}
use Rattle.fz_grid.specs.Arrays.{product}
use Rattle.fz_grid.proofs.Lists.{product_more, stopped_step}
use Rattle.fz_grid.proofs.sizes.volume.Goals as goal

pub loop-i-preserved : goal.loop-i-preserved
loop-i-preserved c =
    let axes = c.args.axes.now in
    let i = c.loop-i.i in
    let step = product_more axes.len axes.n (i - 1) i (omega arith) (omega arith) (omega arith) in
    let stopped = stopped_step (product (drop i (take axes.n axes.len))) (get_or axes.len (i - 1) 0) (2 ^ 64 - 1) (omega arith) in
    grind (arith, step, stopped)
