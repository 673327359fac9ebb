-- One more number is in range, if all so far are.
use Rattle.std.proofs.Common.{subst, arith, ℤ, pos, List}
use Rattle.std.specs.Prelude.{All}
use Rattle.std.proofs.lemmas.List.{take_all}
use Rattle.std.proofs.lemmas.List.Elements.{All-more}
use Rattle.std.proofs.lemmas.Int.{ints, to_z-of_z}
use Rattle.fz_plio.specs.Producer.{InRange}
use Rattle.fz_plio.proofs.RunParts.{first_of, second_of}
use Rattle.fz_plio.proofs.encoder.all_inside.Goals as goal

pub loop-i-preserved : goal.loop-i-preserved
loop-i-preserved c = λ both.
    let inside = c.is_inside-fine.ensures (second_of c.loop-i.fine c.is_inside-fine.result both) in
    All-more InRange c.args.numbers.now c.loop-i.i (pos 0) (omega arith) (c.loop-i.invariant (first_of c.loop-i.fine c.is_inside-fine.result both)) (grind (arith, ints, to_z-of_z, inside), grind (arith, ints, to_z-of_z, inside))

pub returns : goal.returns
returns c = λ fine. subst (λ (l : List ℤ). All InRange l) (take_all c.loop-i.i c.args.numbers.now (omega arith)) (c.loop-i.invariant fine)
