use Rattle.std.proofs.Common.{◌≡◌, ◌-◌, ◌^◌, ◌<◌, ◌≤◌, length, take}
use Rattle.fz_bits.specs.Reader.{left}
use Rattle.fz_rice.specs.Reading.{blocks_at, bit_count}
use Rattle.fz_rice.proofs.HalfwayLemmas.{HalfwayBlocks}
use Rattle.fz_rice.proofs.decode.read_blocks.Given as goal

abbrev pub invariant-loop-at : goal.invariant-loop-at
invariant-loop-at g l = record {
  half : HalfwayBlocks g.row.W l.fn.start l.block (blocks_at g.row.W l.block (length l.fn.numbers) (length l.fn.numbers) (left l.fn.reader)) (length l.numbers - l.at) (left l.reader) (take l.at l.numbers) l.last;
  within : l.at ≤ length l.numbers;
  below : l.last < 2 ^ g.row.W;
  count : bit_count l.reader ≡ bit_count l.fn.reader;
}

abbrev pub decreases-loop-at : goal.decreases-loop-at
decreases-loop-at g l = length l.numbers - l.at
