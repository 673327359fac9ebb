use Rattle.std.proofs.Common.{◌≡◌, ◌++◌, length, take, drop}
use Rattle.fz_grid.specs.Overlap.{common_corner, common_lengths, has_pixel}
use Rattle.fz_grid.specs.Region.{IsZeroFrom, region_corner, region_lengths}
use Rattle.fz_grid.proofs.Filling.{LiesWithin}
use Rattle.fz_grid.proofs.grid.Grid.overlap.Given as goal

abbrev pub invariant-loop-i : goal.invariant-loop-i
invariant-loop-i l =
    (l.common.n ≡ l.self.shape.n)
    × (take l.i l.common.lo ++ common_corner (drop l.i (region_corner l.region)) (drop l.i (region_corner l.tile)) ≡ common_corner (region_corner l.region) (region_corner l.tile))
    × (take l.i l.common.len ++ common_lengths (drop l.i (region_corner l.region)) (drop l.i (region_lengths l.region)) (drop l.i (region_corner l.tile)) (drop l.i (region_lengths l.tile)) ≡ common_lengths (region_corner l.region) (region_lengths l.region) (region_corner l.tile) (region_lengths l.tile))
    × (has_pixel (common_lengths (drop l.i (region_corner l.region)) (drop l.i (region_lengths l.region)) (drop l.i (region_corner l.tile)) (drop l.i (region_lengths l.tile))) ≡ has_pixel (common_lengths (region_corner l.region) (region_lengths l.region) (region_corner l.tile) (region_lengths l.tile)))
    × IsZeroFrom l.i l.common.lo
    × IsZeroFrom l.i l.common.len
    × (length l.common.lo ≡ 9)
    × (length l.common.len ≡ 9)
    × LiesWithin l.self.shape.len l.common.lo l.common.len l.i
