-- The bytes so far are those of the picks so far.
use Rattle.std.proofs.Common.{◌≡◌, take}
use Rattle.fz_tile.specs.Plain.{plain_bytes}
use Rattle.fz_pixels.proofs.Gathering.{apart}
use Rattle.fz_pixels.proofs.gather.gather_bytes.Given as goal

abbrev pub invariant-loop-k : goal.invariant-loop-k
invariant-loop-k l = take l.k l.out ≡ plain_bytes 8 (apart l.numbers l.from l.step l.k)
