use Rattle.std.proofs.Common.{◌≡◌, ◌+◌, ◌*◌, drop}
use Rattle.fz_grid.specs.Arrays.{product}
use Rattle.fz_grid.specs.Nth.{nth_place}
use Rattle.fz_grid.specs.Region.{lengths_of, region_corner, region_lengths}
use Rattle.fz_grid.proofs.places.nth.Given as goal

abbrev pub invariant-loop-i : goal.invariant-loop-i
invariant-loop-i l =
    (l.place + l.stride * nth_place (drop l.i (lengths_of l.shape)) (drop l.i (region_corner l.region)) (drop l.i (region_lengths l.region)) l.digits ≡ nth_place (lengths_of l.shape) (region_corner l.region) (region_lengths l.region) l.k)
    × (l.stride * product (drop l.i (lengths_of l.shape)) ≡ product (lengths_of l.shape))
