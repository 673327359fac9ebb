use Rattle.std.proofs.Common.{◌<◌, IsTrue}
use Rattle.std.specs.List.{AllByRecursion}
use Rattle.fz_grid.specs.Grid.{tile_count}
use Rattle.fz_grid.specs.Overlap.{has_pixel}
use Rattle.fz_grid.specs.Region.{lengths_of}
use Rattle.fz_grid.specs.SieveWalks.{sieve_tiles_left}
use Rattle.fz_grid.specs.Cutout.{part_lengths}
use Rattle.fz_cases_rows.proofs.parts.has_part.Given as goal

abbrev pub invariant-loop-tile : goal.invariant-loop-tile
invariant-loop-tile l =
    (goal.iterator-loop-tile).can_next l.tile-iterator
    × (goal.iterator-loop-tile).is_finite l.tile-iterator
    × AllByRecursion (λ t. IsTrue (has_pixel (part_lengths (lengths_of l.grid.shape) (lengths_of l.grid.tile) l.sieve t))) (sieve_tiles_left l.tile-iterator)
    × AllByRecursion (λ t. t < tile_count (lengths_of l.grid.shape) (lengths_of l.grid.tile)) (sieve_tiles_left l.tile-iterator)
