-- One place is written.
use Rattle.std.proofs.Common.{◌^◌, ◌<◌, ℤ, w32, FitsSigned, ◌∙◌, arith, rules}
use Rattle.std.proofs.lemmas.Int.{to_z-of_z}
use Rattle.fz_look.proofs.Marking.{word_beside, word_put}
use Rattle.fz_look.proofs.marked.put_word.Goals as goal

pub returns-clause-word : goal.returns-clause-word
returns-clause-word c =
    let z : ℤ = c.cast_signed.result in
    let fits : FitsSigned w32 z = search rules in
    let small : c.args.value < 2 ^ 32 = omega (arith, c.ranges.value) in
    word_put c.args.table.now c.args.k c.args.value _ c.requires.within small (to_z-of_z w32 z fits ∙ c.cast_signed.ensures)

pub returns-clause-others : goal.returns-clause-others
returns-clause-others c = λ j other. word_beside c.args.table.now c.args.k j _ other
