use Rattle.std.proofs.Common.{◌∙◌, ap, ◌%◌, ◌^◌}
use Rattle.std.specs.Int.{w32, cast_unsigned}
use Rattle.std.proofs.lemmas.Int.{to_z-of_z}
use Rattle.fz_rice.proofs.MachineLemmas.{width_le, masked, residue-cast}
use Rattle.fz_rice.proofs.numbers.residue.Goals as goal

pub returns : goal.returns
returns g c =
    masked g.row.W c.greatest.result c.cast_unsigned.result c.greatest.ensures ∙ ap (λ u. u % 2 ^ g.row.W) (c.cast_unsigned.ensures ∙ ap (cast_unsigned w32) (to_z-of_z w32 c.args.number c.ranges.number)) ∙ residue-cast g.row.W c.args.number (width_le g.row.W c.requires) c.ranges.number
