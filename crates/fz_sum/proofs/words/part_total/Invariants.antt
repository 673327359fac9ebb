use Rattle.std.proofs.Common.{◌≡◌, ◌*◌, ◌≤◌, ◌^◌, take}
use Rattle.fz_sum.specs.Pieces.{total_at}
use Rattle.fz_sum.proofs.words.part_total.Given as goal

abbrev pub invariant-loop-i : goal.invariant-loop-i
invariant-loop-i l = record { total : l.total ≡ total_at l.at (take l.i l.part); within : l.total ≤ 2 ^ 32 * l.i }
