-- One more number is in range.
use Rattle.std.proofs.Common.{subst, arith, ℤ, pos, List}
use Rattle.std.specs.Prelude.{All}
use Rattle.std.proofs.lemmas.List.{take_all}
use Rattle.std.proofs.lemmas.List.Elements.{All-more}
use Rattle.std.proofs.lemmas.Int.{ints, to_z-of_z}
use Rattle.fz_plio.specs.Producer.{InRange}
use Rattle.fz_plio.proofs.encoder.first_outside.Goals as goal

pub loop-index-preserved : goal.loop-index-preserved
loop-index-preserved c = All-more InRange c.args.numbers.now c.loop-index.index (pos 0) (omega arith) c.loop-index.invariant (grind (arith, ints, to_z-of_z), grind (arith, ints, to_z-of_z))

pub returns : goal.returns
returns c = subst (λ (l : List ℤ). All InRange l) (take_all c.loop-index.index c.args.numbers.now (omega arith)) c.loop-index.invariant
