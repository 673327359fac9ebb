-- The bytes so far store the numbers so far.
use Rattle.std.proofs.Common.{◌≡◌, ◌*◌, take}
use Rattle.fz_tile.specs.Plain.{plain_bytes}
use Rattle.fz_tile.proofs.pixels.write_pixels.Given as goal

abbrev pub invariant-loop-i : goal.invariant-loop-i
invariant-loop-i l = take (2 * l.i) l.bytes ≡ plain_bytes 16 (take l.i l.numbers)
