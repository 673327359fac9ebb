-- What is left to be placed makes the buffer that is wanted.
use Rattle.std.proofs.Common.{◌≡◌, ℕ, ◌/◌, ℤ, List, length, Some, unsigned_abs}
use Rattle.std.specs.List.{AllByRecursion}
use Rattle.fz_grid.specs.Line.{lines_in_cutout, lines_in_tile}
use Rattle.fz_grid.specs.LineWalks.{lines_left}
use Rattle.fz_tile.specs.Pixels.{HoldPixels}
use Rattle.fz_tile.specs.Plain.{plain_bytes}
use Rattle.fz_pixels.specs.Parts.{IsLineBetween, pixels_from}
use Rattle.fz_pixels.specs.Pieces.{pieces_written}
use Rattle.fz_pixels.proofs.placing.place_lines.Given as goal

abbrev pub invariant-loop-line : goal.invariant-loop-line
invariant-loop-line l = record {
  size : length l.out ≡ length l.fn.out;
  within : (i j cutout : ℕ) → AllByRecursion (IsLineBetween i j cutout) (lines_left l.fn.lines) → AllByRecursion (IsLineBetween i j cutout) (lines_left l.line-iterator);
  rest : (xs : List ℤ) → HoldPixels (unsigned_abs l.bitpix) l.numbers xs
      → pieces_written (unsigned_abs l.bitpix / 8) 0 (lines_in_cutout (lines_left l.line-iterator)) (plain_bytes (unsigned_abs l.bitpix) (pixels_from l.first xs (lines_in_tile (lines_left l.line-iterator)))) (Some l.out)
      ≡ pieces_written (unsigned_abs l.bitpix / 8) 0 (lines_in_cutout (lines_left l.fn.lines)) (plain_bytes (unsigned_abs l.bitpix) (pixels_from l.first xs (lines_in_tile (lines_left l.fn.lines)))) (Some l.fn.out);
}
