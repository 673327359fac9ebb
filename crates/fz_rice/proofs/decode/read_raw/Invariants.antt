use Rattle.std.proofs.Common.{◌≡◌, ◌-◌, ◌^◌, ◌<◌, length, take}
use Rattle.fz_bits.specs.Reader.{left}
use Rattle.fz_rice.specs.Reading.{number_at, many_at, bit_count}
use Rattle.fz_rice.proofs.HalfwayLemmas.{Halfway}
use Rattle.fz_rice.proofs.decode.read_raw.Given as goal

abbrev pub invariant-loop-i : goal.invariant-loop-i
invariant-loop-i g l = record {
  half : Halfway g.row.W l.fn.start (many_at (number_at g.row.W) (length l.fn.numbers) (left l.fn.reader)) (many_at (number_at g.row.W) (length l.numbers - l.i) (left l.reader)) (take l.i l.numbers) l.last;
  below : l.last < 2 ^ g.row.W;
  count : bit_count l.reader ≡ bit_count l.fn.reader;
}
