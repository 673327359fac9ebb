-- With the pixels of the lines that are left it is nearer to the whole than it was at first.
use Rattle.std.proofs.Common.{◌≡◌, ℕ, ℤ, List, length}
use Rattle.std.specs.List.{AllByRecursion}
use Rattle.fz_grid.specs.Line.{IsLineWithin, lines_in_cutout, lines_in_tile}
use Rattle.fz_grid.specs.LineWalks.{lines_left}
use Rattle.fz_flat.specs.Placed.{HasPixelsOf, IsNearer}
use Rattle.fz_flat.proofs.placing.place_lines.Given as goal

abbrev pub invariant-loop-line : goal.invariant-loop-line
invariant-loop-line l = record {
  size : length l.out ≡ length l.fn.out;
  within : (pixels cutout : ℕ) → AllByRecursion (IsLineWithin pixels cutout) (lines_left l.fn.lines) → AllByRecursion (IsLineWithin pixels cutout) (lines_left l.line-iterator);
  nearer : (whole : List ℤ) → HasPixelsOf l.width whole (lines_in_cutout (lines_left l.fn.lines)) l.numbers (lines_in_tile (lines_left l.fn.lines))
      → HasPixelsOf l.width whole (lines_in_cutout (lines_left l.line-iterator)) l.numbers (lines_in_tile (lines_left l.line-iterator))
      × ((now : List ℤ) → IsNearer l.width whole l.out now (lines_in_cutout (lines_left l.line-iterator)) → IsNearer l.width whole l.fn.out now (lines_in_cutout (lines_left l.fn.lines)));
}
