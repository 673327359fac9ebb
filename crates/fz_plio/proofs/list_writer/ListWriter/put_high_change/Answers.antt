-- Nothing is put where the high value is there.
use Rattle.std.proofs.Common.{◌≡◌, true, eqb, arith}
use Rattle.std.proofs.lemmas.Bool.Decides.{nat_tests}
use Rattle.fz_plio.specs.Producer.{high_change}
use Rattle.fz_plio.proofs.WritingLemmas.{puts_nothing}
use Rattle.fz_plio.proofs.list_writer.ListWriter.put_high_change.Goals as goal

pub returns-then-high-value-clause-puts : goal.returns-then-high-value-clause-puts
unfolding high_change
returns-then-high-value-clause-puts c =
    let there : eqb c.args.high c.args.value ≡ true = grind (arith, nat_tests) in
    rw there (puts_nothing c.args.self.now.out.now c.args.self.now.at tt c.args.self.now.within)
