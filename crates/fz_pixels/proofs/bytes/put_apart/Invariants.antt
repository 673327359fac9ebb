-- The bytes of the first picks are after the place.
use Rattle.std.proofs.Common.{◌≡◌, ◌+◌, ◌*◌, ◌/◌, ℤ, List, ◌++◌, length, take, drop, unsigned_abs}
use Rattle.fz_grid.specs.Cutout.{numbers_at}
use Rattle.fz_grid.specs.Line.{line_in_tile}
use Rattle.fz_tile.specs.Pixels.{HoldPixels}
use Rattle.fz_tile.specs.Plain.{plain_bytes}
use Rattle.fz_pixels.proofs.PixelBytes.{behind}
use Rattle.fz_pixels.proofs.bytes.put_apart.Given as goal

abbrev pub invariant-loop-k : goal.invariant-loop-k
invariant-loop-k l = record {
  size : length l.code ≡ length l.fn.code;
  so_far : (xs : List ℤ) → HoldPixels (unsigned_abs l.bitpix) l.numbers xs
      → l.code ≡ take (l.at + unsigned_abs l.bitpix / 8 * l.k) (behind l.at l.fn.code (plain_bytes (unsigned_abs l.bitpix) (numbers_at xs (line_in_tile l.line))))
      ++ drop (l.at + unsigned_abs l.bitpix / 8 * l.k) l.fn.code;
}
