use Rattle.std.proofs.Common.{◌≡◌, ℕ, ◌<◌, length, get_or}
use Rattle.fz_rice.specs.Writing.{IsField}
use Rattle.fz_rice.proofs.full_block.Fields.of.Given as goal

abbrev pub invariant-loop-i : goal.invariant-loop-i
invariant-loop-i l = record {
  in_bits : length l.bits ≡ 32;
  in_widths : length l.widths ≡ 32;
  so_far : (j : ℕ) → j < l.i → IsField l.k (get_or l.values j 0) (get_or l.bits j 0) (get_or l.widths j 0);
}
