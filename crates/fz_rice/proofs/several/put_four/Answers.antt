use Rattle.std.proofs.Common.{◌≡◌, ◌∙◌, rules, to_z, of_z}
use Rattle.std.specs.Int.{w32}
use Rattle.std.specs.Prelude.{FitsSigned}
use Rattle.std.proofs.lemmas.Int.{to_z-of_z}
use Rattle.fz_rice.specs.Reading.{number}
use Rattle.fz_rice.proofs.SeveralLemmas.{four_set, four_numbers}
use Rattle.fz_rice.proofs.several.put_four.Goals as goal

pub returns-clause-numbers : goal.returns-clause-numbers
returns-clause-numbers g c =
    let w = g.row.W in
    let fits_a : FitsSigned w32 c.number.result = search rules in
    let fits_b : FitsSigned w32 c.number-2.result = search rules in
    let fits_c : FitsSigned w32 c.number-3.result = search rules in
    let fits_d : FitsSigned w32 c.number-4.result = search rules in
    let a : to_z w32 (of_z w32 c.number.result) ≡ number w c.next_residue-a.result = to_z-of_z w32 c.number.result fits_a ∙ c.number.ensures in
    let b : to_z w32 (of_z w32 c.number-2.result) ≡ number w c.next_residue-b.result = to_z-of_z w32 c.number-2.result fits_b ∙ c.number-2.ensures in
    let d : to_z w32 (of_z w32 c.number-3.result) ≡ number w c.next_residue-c.result = to_z-of_z w32 c.number-3.result fits_c ∙ c.number-3.ensures in
    let e : to_z w32 (of_z w32 c.number-4.result) ≡ number w c.next_residue-d.result = to_z-of_z w32 c.number-4.result fits_d ∙ c.number-4.ensures in
    four_set c.args.numbers.now _ _ _ _ c.requires.len ∙ four_numbers w c.args.start c.args.four.a c.args.four.b c.args.four.c c.args.four.d c.next_residue-a.result c.next_residue-b.result c.next_residue-c.result c.next_residue-d.result _ _ _ _ a b d e c.next_residue-a.ensures c.next_residue-b.ensures c.next_residue-c.ensures c.next_residue-d.ensures
