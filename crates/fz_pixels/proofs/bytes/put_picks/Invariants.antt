-- The bytes of the picks of the first lines stand at the front; those of the lines that are left are the rest.
use Rattle.std.proofs.Common.{◌≡◌, ℕ, ◌+◌, ◌*◌, ◌/◌, ℤ, List, ◌++◌, length, take, drop, unsigned_abs}
use Rattle.std.specs.List.{AllByRecursion}
use Rattle.fz_grid.specs.Cutout.{numbers_at}
use Rattle.fz_grid.specs.Line.{IsLineWithin, lines_in_tile}
use Rattle.fz_grid.specs.LineWalks.{lines_left}
use Rattle.fz_tile.specs.Pixels.{HoldPixels}
use Rattle.fz_tile.specs.Plain.{plain_bytes}
use Rattle.fz_pixels.proofs.bytes.put_picks.Given as goal

abbrev pub invariant-loop-line : goal.invariant-loop-line
invariant-loop-line l = record {
  size : length l.code ≡ length l.fn.code;
  within : (n cutout : ℕ) → AllByRecursion (IsLineWithin n cutout) (lines_left l.fn.lines) → AllByRecursion (IsLineWithin n cutout) (lines_left l.line-iterator);
  room : l.done + unsigned_abs l.bitpix / 8 * length (lines_in_tile (lines_left l.line-iterator)) ≡ unsigned_abs l.bitpix / 8 * length (lines_in_tile (lines_left l.fn.lines));
  so_far : (xs : List ℤ) → HoldPixels (unsigned_abs l.bitpix) l.numbers xs
      → l.code ≡ take l.done (plain_bytes (unsigned_abs l.bitpix) (numbers_at xs (lines_in_tile (lines_left l.fn.lines)))) ++ drop l.done l.fn.code;
  rest : (xs : List ℤ) → HoldPixels (unsigned_abs l.bitpix) l.numbers xs
      → plain_bytes (unsigned_abs l.bitpix) (numbers_at xs (lines_in_tile (lines_left l.line-iterator)))
      ≡ drop l.done (plain_bytes (unsigned_abs l.bitpix) (numbers_at xs (lines_in_tile (lines_left l.fn.lines))));
}
