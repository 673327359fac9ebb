-- No axis so far is refused, and the lengths so far are written.
use Rattle.std.proofs.Common.{◌≡◌, ℕ, ◌<◌, ◌≤◌, ◌-◌, ◌++◌, None, map, replicate, get_or, codes}
use Rattle.std.specs.List.{flat_map, range_with_len}
use Rattle.fz_base.specs.Refusal.{first_refusal}
use Rattle.fz_block.specs.Hdus.{cards_of}
use Rattle.fz_head.specs.PackedChecks.{axis_checks}
use Rattle.fz_head.specs.PackedPlan.{numbered_in, size_of}
use Rattle.fz_checks.proofs.packed_shape.axis_lengths.Given as goal

abbrev pub invariant-loop-i : goal.invariant-loop-i
invariant-loop-i l = record {
  passed : first_refusal (flat_map (axis_checks l.header.hdu (cards_of l.buf)) (range_with_len 1 l.i)) ≡ None;
  written : l.lengths ≡ map (λ k. size_of (numbered_in (codes "ZNAXIS") k (cards_of l.buf))) (range_with_len 1 l.i) ++ replicate (9 - l.i) 0;
  some : (k : ℕ) → k < l.i → 1 ≤ get_or l.lengths k 0;
}
