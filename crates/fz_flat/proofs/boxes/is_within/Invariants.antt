-- Along the axes so far there is a pick, and none after the array.
use Rattle.std.proofs.Common.{ℕ, ◌<◌, ◌≤◌, slice_index}
use Rattle.fz_flat.proofs.boxes.is_within.Given as goal

abbrev pub invariant-loop-i : goal.invariant-loop-i
invariant-loop-i l = (k : ℕ) → k < l.i
    → (slice_index l.sieve.lo k ≤ slice_index l.sieve.hi k) × (slice_index l.sieve.hi k < slice_index l.shape.len k) × (1 ≤ slice_index l.sieve.step k)
