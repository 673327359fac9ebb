-- The pixels so far are at their places, and the others are as they were.
use Rattle.std.proofs.Common.{◌≡◌, ◌⊎◌, ℕ, ◌+◌, ◌*◌, ◌<◌, ◌≤◌, length}
use Rattle.fz_flat.specs.Placed.{pixel_in}
use Rattle.fz_flat.proofs.placing.place_apart.Given as goal

abbrev pub invariant-loop-k : goal.invariant-loop-k
invariant-loop-k l = record {
  inside : (j : ℕ) → j < l.k → pixel_in l.width l.out (l.to + j) ≡ pixel_in l.width l.numbers (l.from + j * l.step);
  outside : (i : ℕ) → (i < l.to) ⊎ (l.to + l.k ≤ i) → pixel_in l.width l.out i ≡ pixel_in l.width l.fn.out i;
  size : length l.out ≡ length l.fn.out;
}
