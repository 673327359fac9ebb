use Rattle.std.proofs.Common.{◌≡◌, ◌-◌, ◌^◌, ◌<◌, ◌≤◌, length, take}
use Rattle.fz_bits.specs.Reader.{left}
use Rattle.fz_rice.specs.Reading.{split_at, many_at, bit_count}
use Rattle.fz_rice.proofs.HalfwayLemmas.{Halfway}
use Rattle.fz_rice.proofs.decode.read_unary.Given as goal

abbrev pub invariant-loop-i : goal.invariant-loop-i
invariant-loop-i g l = record {
  half : Halfway g.row.W l.fn.start (many_at (split_at g.row.W 0) (length l.fn.numbers) (left l.fn.reader)) (many_at (split_at g.row.W 0) (length l.numbers - l.i) (left l.ahead)) (take l.i l.numbers) l.last;
  within : l.i ≤ length l.numbers;
  below : l.last < 2 ^ g.row.W;
  count : bit_count l.ahead ≡ bit_count l.fn.reader;
}

abbrev pub decreases-loop-i : goal.decreases-loop-i
decreases-loop-i g l = length l.numbers - l.i
