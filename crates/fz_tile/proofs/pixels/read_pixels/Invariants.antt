-- The numbers so far are those that the bytes store, and fit 16 bits.
use Rattle.std.proofs.Common.{◌≡◌, ℕ, ◌*◌, ◌<◌, ℤ, pos, get_or, take, drop}
use Rattle.std.specs.Prelude.{FitsSigned}
use Rattle.std.specs.Int.{w16}
use Rattle.fz_tile.specs.Plain.{pixel_of}
use Rattle.fz_tile.proofs.pixels.read_pixels.Given as goal

abbrev pub invariant-loop-i : goal.invariant-loop-i
invariant-loop-i l = record {
  pixels : (k : ℕ) → k < l.i → get_or l.numbers k (pos 0) ≡ pixel_of 16 (take 2 (drop (2 * k) l.bytes));
  fit : (k : ℕ) (d : ℤ) → k < l.i → FitsSigned w16 (get_or l.numbers k d);
}
