-- Where all numbers so far were in range, they are.
use Rattle.std.proofs.Common.{◌≡◌, true, take}
use Rattle.std.specs.Prelude.{All}
use Rattle.fz_plio.specs.Producer.{InRange}
use Rattle.fz_plio.proofs.encoder.all_inside.Given as goal

abbrev pub invariant-loop-i : goal.invariant-loop-i
invariant-loop-i l = l.fine ≡ true → All InRange (take l.i l.numbers)
