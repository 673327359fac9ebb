-- No length so far is refused, and the lengths so far are written.
use Rattle.std.proofs.Common.{◌≡◌, ℕ, ◌<◌, ◌≤◌, ◌-◌, [], ◌∷◌, ◌++◌, None, map, replicate, get_or}
use Rattle.std.specs.List.{flat_map, range_with_len}
use Rattle.fz_base.specs.Refusal.{first_refusal}
use Rattle.fz_block.specs.Hdus.{cards_of}
use Rattle.fz_head.specs.PackedChecks.{tile_check}
use Rattle.fz_head.specs.PackedPlan.{tile_along}
use Rattle.fz_checks.proofs.packed_shape.tile_lengths.Given as goal

abbrev pub invariant-loop-i : goal.invariant-loop-i
invariant-loop-i l = record {
  passed : first_refusal (flat_map (λ k. tile_check l.header.hdu (cards_of l.buf) k ∷ []) (range_with_len 1 l.i)) ≡ None;
  written : l.lengths ≡ map (tile_along (cards_of l.buf)) (range_with_len 1 l.i) ++ replicate (9 - l.i) 0;
  some : (k : ℕ) → k < l.i → (1 ≤ get_or l.lengths k 0) × (get_or l.lengths k 0 ≤ get_or l.shape.len k 0);
}
