-- The bytes so far store the numbers so far.
use Rattle.std.proofs.Common.{◌≡◌, take}
use Rattle.fz_tile.specs.Plain.{plain_bytes}
use Rattle.fz_tile.proofs.plain.write_bytes.Given as goal

abbrev pub invariant-loop-i : goal.invariant-loop-i
invariant-loop-i l = take l.i l.out ≡ plain_bytes 8 (take l.i l.numbers)
