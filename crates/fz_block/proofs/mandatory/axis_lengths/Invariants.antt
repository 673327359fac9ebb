-- No axis so far is refused, and the lengths so far are written.
use Rattle.std.proofs.Common.{◌≡◌, ◌-◌, ◌++◌, None, map, replicate}
use Rattle.std.specs.List.{flat_map, range_with_len}
use Rattle.fz_base.specs.Refusal.{first_refusal}
use Rattle.fz_block.specs.Hdus.{size_at}
use Rattle.fz_block.specs.Mandatory.{axis_checks}
use Rattle.fz_block.proofs.mandatory.axis_lengths.Given as goal

abbrev pub invariant-loop-i : goal.invariant-loop-i
invariant-loop-i l = record {
  passed : first_refusal (flat_map (axis_checks l.hdu l.buf) (range_with_len 1 l.i)) ≡ None;
  written : l.lengths ≡ map (size_at l.buf) (range_with_len 3 l.i) ++ replicate (9 - l.i) 0;
}
