-- Lines of picks: along axis 1, in a tile and in what is cut out (FITS 4.0, sections 3.3.2 and 10.1).
use Rattle.std.specs.Prelude.{◌≡◌, ℕ, ◌+◌, ◌-◌, ◌*◌, ◌<◌, ◌≤◌, List, map, slice_index}
use Rattle.std.specs.List.{flat_map, range_with_len}
use Rattle.fz_block.specs.declared.axes.Axes.{Axes}
use Rattle.fz_grid.specs.declared.part.Part.{Part}
use Rattle.fz_grid.specs.Region.{IsShape, IsWithin}
use Rattle.fz_grid.specs.Sieve.{IsSieveOf, pick_count}
use Rattle.fz_grid.specs.declared.line.Line.{Line}

-- the places of a line's picks in the tile
abbrev pub line_in_tile : Line → List ℕ
line_in_tile line = map (λ k. line.in_tile + k * line.step) (range_with_len 0 line.count)

-- and in the cutout
abbrev pub line_in_cutout : Line → List ℕ
line_in_cutout line = range_with_len line.in_cutout line.count

-- the places of the picks of lines, one line after the other
abbrev pub lines_in_tile : List Line → List ℕ
lines_in_tile lines = flat_map line_in_tile lines

abbrev pub lines_in_cutout : List Line → List ℕ
lines_in_cutout lines = flat_map line_in_cutout lines

-- the line has a pick, and ends within so many places of the tile and of the cutout
pub record IsLineWithin (in_tile in_cutout : ℕ) (line : Line) : Type 0 where
  pub some : 1 ≤ line.count
  pub step : 1 ≤ line.step
  pub tile : line.in_tile + (line.count - 1) * line.step < in_tile
  pub cutout : line.in_cutout + line.count ≤ in_cutout

-- the part's picks lie in a tile of these lengths, and its box in a cutout of these; both have the same lengths
pub record IsPartBetween (tile cutout : Axes) (part : Part) : Type 0 where
  pub tile_is : IsShape tile
  pub cutout_is : IsShape cutout
  pub same_axes : cutout.n ≡ tile.n
  pub inside : IsSieveOf tile part.inside
  pub at : IsWithin cutout part.at
  pub counts :
      (i : ℕ)
      → i < tile.n
      → slice_index part.at.len i ≡ pick_count (slice_index part.inside.lo i) (slice_index part.inside.hi i) (slice_index part.inside.step i)
