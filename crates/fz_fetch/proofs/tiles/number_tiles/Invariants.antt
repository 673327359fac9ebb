-- The tiles so far are numbered.
use Rattle.std.proofs.Common.{ℕ, ◌≡◌, ◌+◌, ◌<◌, length, slice_index}
use Rattle.fz_fetch.proofs.tiles.number_tiles.Given as goal

abbrev pub invariant-loop-i : goal.invariant-loop-i
invariant-loop-i l = record {
  size : length l.tiles ≡ length l.fn.tiles;
  numbers : (k : ℕ) → k < l.i → slice_index l.tiles k ≡ l.first + k;
}
