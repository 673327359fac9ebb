use Rattle.std.proofs.Common.{◌≡◌, ◌++◌, ◌<◌, ℕ, length, get_or, take, drop}
use Rattle.fz_grid.specs.Arrays.{coordinates_of}
use Rattle.fz_grid.specs.Region.{IsZeroFrom, lengths_of}
use Rattle.fz_grid.proofs.pixel.coordinates.Given as goal

abbrev pub invariant-loop-i : goal.invariant-loop-i
invariant-loop-i l =
    (take l.i l.at ++ coordinates_of (drop l.i (lengths_of l.shape)) l.higher ≡ coordinates_of (lengths_of l.shape) l.place)
    × IsZeroFrom l.i l.at
    × (length l.at ≡ 9)
    × ((k : ℕ) → k < l.i → get_or l.at k 0 < get_or l.shape.len k 0)
