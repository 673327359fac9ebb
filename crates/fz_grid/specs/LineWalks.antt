-- What the iterator over lines still has to give.
use Rattle.std.specs.Prelude.{ℕ, ◌-◌, List, map, slice_index}
use Rattle.std.specs.List.{range_with_len}
use Rattle.fz_block.specs.declared.axes.Axes.{Axes}
use Rattle.fz_grid.specs.declared.part.Part.{Part}
use Rattle.fz_grid.specs.Arrays.{coordinates_of, place_of}
use Rattle.fz_grid.specs.Grid.{moved}
use Rattle.fz_grid.specs.Region.{lengths_of, region_corner}
use Rattle.fz_grid.specs.Sieve.{sieve_lo, sieve_step, stepped}
use Rattle.fz_grid.specs.declared.line.Line.{Line}
use Rattle.fz_grid.specs.declared.line_walk.Lines.{Lines}

-- the k-th line of a part of a tile of these lengths in a cutout of these; `rows` has as many places as there are lines
abbrev pub nth_line : Axes → Axes → Part → Axes → ℕ → Line
nth_line tile cutout part rows k =
    record {
      in_tile =
          place_of
          (lengths_of tile)
          (stepped (sieve_lo part.inside) (sieve_step part.inside) (coordinates_of (lengths_of rows) k));
      step = slice_index part.inside.step 0;
      in_cutout = place_of (lengths_of cutout) (moved (region_corner part.at) (coordinates_of (lengths_of rows) k));
      count = slice_index part.at.len 0;
    }

-- the lines that are left
abbrev pub lines_left : Lines → List Line
lines_left lines =
    map (nth_line lines.tile lines.cutout lines.part lines.rows) (range_with_len lines.next (lines.end - lines.next))
