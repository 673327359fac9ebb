use Rattle.std.proofs.Common.{◌-◌, ◌^◌, ◌<◌, ◌≤◌, length}
use Rattle.std.specs.List.{flat_map}
use Rattle.fz_rice.specs.Code.{differences, pieces}
use Rattle.fz_rice.specs.Producer.{chosen_block}
use Rattle.fz_rice.proofs.BlocksLemmas.{BlocksWritten}
use Rattle.fz_rice.proofs.encode.write_blocks.Given as goal

abbrev pub invariant-loop-at : goal.invariant-loop-at
invariant-loop-at g l = record {
  half : BlocksWritten g.row.W l.block l.numbers (flat_map (chosen_block g.row.W) (pieces l.block (differences g.row.W l.start l.numbers))) l.at l.last l.fn.writer l.writer;
  within : l.at ≤ length l.numbers;
  below : l.last < 2 ^ g.row.W;
}

abbrev pub decreases-loop-at : goal.decreases-loop-at
decreases-loop-at g l = length l.numbers - l.at
