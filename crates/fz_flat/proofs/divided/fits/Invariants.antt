-- A tile fits along the axes so far.
use Rattle.std.proofs.Common.{ℕ, ◌<◌, ◌≤◌, slice_index}
use Rattle.fz_flat.proofs.divided.fits.Given as goal

abbrev pub invariant-loop-i : goal.invariant-loop-i
invariant-loop-i l = (k : ℕ) → k < l.i → (1 ≤ slice_index l.tile.len k) × (slice_index l.tile.len k ≤ slice_index l.shape.len k)
