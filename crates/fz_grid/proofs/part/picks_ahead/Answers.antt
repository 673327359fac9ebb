use Rattle.std.proofs.Common.{arith}
use Rattle.fz_grid.proofs.PartAxes.{some_before}
use Rattle.fz_grid.proofs.part.picks_ahead.Goals as goal

pub returns : goal.returns
returns c =
    let some = some_before c.args.lo c.args.hi c.args.step c.args.at (omega arith) (omega arith) in
    omega (arith, some)
