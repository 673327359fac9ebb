use Rattle.std.proofs.Common.{◌≡◌, ◌-◌, ◌^◌, min, take, drop}
use Rattle.fz_grid.specs.Arrays.{product}
use Rattle.fz_grid.proofs.sizes.volume.Given as goal

abbrev pub invariant-loop-i : goal.invariant-loop-i
invariant-loop-i l = l.places ≡ min (product (drop l.i (take l.axes.n l.axes.len))) (2 ^ 64 - 1)
