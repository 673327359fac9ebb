-- No number so far is outside.
use Rattle.std.proofs.Common.{take}
use Rattle.std.specs.Prelude.{All}
use Rattle.fz_plio.specs.Producer.{InRange}
use Rattle.fz_plio.proofs.encoder.first_outside.Given as goal

abbrev pub invariant-loop-index : goal.invariant-loop-index
invariant-loop-index l = All InRange (take l.index l.numbers)
