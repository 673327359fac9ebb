-- Image by image.
use Rattle.fz_strict.proofs.Agree.{strict_images_agree}
use Rattle.fz_strict.proofs.Allowed.{found_are_allowed}
use Rattle.fz_strict.proofs.Images.{TableLaws}
use Rattle.fz_strict.proofs.OptionsFound.{StrictLaws, found_options_do}
use Rattle.fz_strict.specs.Taken.{WalkLaws}
use Rattle.fz_strict.proofs.laws.options_law.Goals as goal

pub returns : goal.returns
returns c =
    let walks : WalkLaws = c.walk_laws.ensures in
    let allowed = found_are_allowed walks c.shape_law.ensures.tiles c.packed_image_law.ensures.unpack in
    let tables : TableLaws = record { accepted = c.table_law.ensures.accepted; sums = c.packed_hdus_law.ensures.sums } in
    let laws : StrictLaws = record { walks = walks; tables = tables; allowed = allowed; become = c.packed_hdus_law.ensures.each } in
    record { allowed = allowed; found = found_options_do laws; agree = strict_images_agree laws }
