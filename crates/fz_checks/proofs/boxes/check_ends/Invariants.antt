use Rattle.std.proofs.Common.{◌≡◌, ℕ, ◌+◌, ◌<◌, ◌≤◌, [], ◌∷◌, None, get_or}
use Rattle.std.specs.List.{flat_map, range_with_len}
use Rattle.fz_base.specs.Refusal.{first_refusal}
use Rattle.fz_block.specs.Hdus.{cards_of}
use Rattle.fz_checks.specs.JobChecks.{axis_inside}
use Rattle.fz_checks.proofs.boxes.check_ends.Given as goal

-- the box ends within each axis so far
abbrev pub invariant-loop-i : goal.invariant-loop-i
invariant-loop-i l = record {
  passed : first_refusal (flat_map (λ k. axis_inside l.header.hdu (cards_of l.buf) l.region k ∷ []) (range_with_len 0 l.i)) ≡ None;
  inside : (k : ℕ) → k < l.i → get_or l.region.lo k 0 + get_or l.region.len k 0 ≤ get_or l.shape.len k 0;
}
