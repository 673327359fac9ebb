-- A place of 32 bits, read as unsigned.
use Rattle.std.proofs.Common.{ℤ, pos, get_or, w32, FitsSigned, sym, ap, ◌∙◌, rules}
use Rattle.std.proofs.lemmas.Int.{to_z-of_z}
use Rattle.std.specs.Int.{cast_unsigned}
use Rattle.fz_look.proofs.marked.word.Goals as goal

pub returns : goal.returns
returns c =
    let z : ℤ = get_or c.args.table.now c.args.k (pos 0) in
    let fits : FitsSigned w32 z = search rules in
    record { word = sym (c.cast_unsigned.ensures ∙ ap (cast_unsigned w32) (to_z-of_z w32 z fits)) }
