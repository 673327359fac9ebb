use Rattle.std.proofs.Common.{◌≡◌, ◌∙◌, rules, to_z, of_z}
use Rattle.std.specs.Int.{w32}
use Rattle.std.specs.Prelude.{FitsSigned}
use Rattle.std.proofs.lemmas.Int.{to_z-of_z}
use Rattle.fz_rice.specs.Reading.{number}
use Rattle.fz_rice.proofs.SeveralLemmas.{two_set, two_numbers}
use Rattle.fz_rice.proofs.several.put_two.Goals as goal

pub returns-clause-numbers : goal.returns-clause-numbers
returns-clause-numbers g c =
    let w = g.row.W in
    let fits_a : FitsSigned w32 c.number.result = search rules in
    let fits_b : FitsSigned w32 c.number-2.result = search rules in
    let a : to_z w32 (of_z w32 c.number.result) ≡ number w c.next_residue-a.result = to_z-of_z w32 c.number.result fits_a ∙ c.number.ensures in
    let b : to_z w32 (of_z w32 c.number-2.result) ≡ number w c.next_residue-b.result = to_z-of_z w32 c.number-2.result fits_b ∙ c.number-2.ensures in
    two_set c.args.numbers.now _ _ c.requires.len ∙ two_numbers w c.args.start c.args.two.a c.args.two.b c.next_residue-a.result c.next_residue-b.result _ _ a b c.next_residue-a.ensures c.next_residue-b.ensures
