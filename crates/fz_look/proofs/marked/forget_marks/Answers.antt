-- The buffer that was lent comes back without marks.
use Rattle.std.proofs.Common.{◌≡◌, ℤ, List, length, refl, sym, ap, ◌∙◌, subst}
use Rattle.fz_look.specs.Marked.{HasNoMarks}
use Rattle.fz_look.proofs.ReadAgain.{given_back}
use Rattle.fz_look.proofs.marked.forget_marks.Goals as goal

pub returns-clause-none : goal.returns-clause-none
returns-clause-none c =
    let old : List ℤ = c.args.space.now.numbers in
    let new : List ℤ = c.clear_table.new.numbers in
    let long : length new ≡ length old = c.clear_table.ensures.len ∙ ap length c.as_mut_slice.ensures.value in
    subst HasNoMarks (sym (given_back old new long)) c.clear_table.ensures.none

pub returns-clause-space : goal.returns-clause-space
returns-clause-space c =
    let old : List ℤ = c.args.space.now.numbers in
    let new : List ℤ = c.clear_table.new.numbers in
    let long : length new ≡ length old = c.clear_table.ensures.len ∙ ap length c.as_mut_slice.ensures.value in
    record { block = refl; header = refl; translated = refl; numbers = ap length (given_back old new long) ∙ long; code = refl; band = refl }
