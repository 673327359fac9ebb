use Rattle.std.proofs.Common.{◌≡◌, take, drop}
use Rattle.fz_grid.specs.Arrays.{place_of}
use Rattle.fz_grid.proofs.pixel.index.Given as goal

abbrev pub invariant-loop-i : goal.invariant-loop-i
invariant-loop-i l = l.place ≡ place_of (drop l.i (take l.shape.n l.shape.len)) (drop l.i (take l.shape.n l.at))
