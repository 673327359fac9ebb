use Rattle.fz_grid.proofs.PickAxes.{pick_le}
use Rattle.fz_grid.proofs.sieve.pick_along.Goals as goal

pub returns-clause-most : goal.returns-clause-most
returns-clause-most c = pick_le c.args.lo c.args.hi c.args.step c.args.k c.requires.ordered c.requires.inside
