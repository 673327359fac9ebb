-- HDU by HDU.
use Rattle.fz_strict.proofs.Each.{EachLaws}
use Rattle.fz_strict.proofs.Allowed.{found_are_allowed}
use Rattle.fz_strict.proofs.Fill.{FillLaws}
use Rattle.fz_strict.proofs.Images.{TableLaws}
use Rattle.fz_strict.proofs.Joined.{found_for_each, hdu_by_hdu}
use Rattle.fz_strict.proofs.OneHdu.{HeaderLaws}
use Rattle.fz_strict.proofs.OptionsFound.{StrictLaws}
use Rattle.fz_strict.specs.Taken.{WalkLaws}
use Rattle.fz_strict.proofs.laws.same_hdus_law.Goals as goal

pub returns : goal.returns
returns c =
    let walks : WalkLaws = c.walk_laws.ensures in
    let allowed = found_are_allowed walks c.shape_law.ensures.tiles c.packed_image_law.ensures.unpack in
    let tables : TableLaws = record { accepted = c.table_law.ensures.accepted; sums = c.packed_hdus_law.ensures.sums } in
    let strict : StrictLaws = record { walks = walks; tables = tables; allowed = allowed; become = c.packed_hdus_law.ensures.each } in
    let headers : HeaderLaws = record { read = c.whole_cards_law.ensures.read; plain = c.whole_cards_law.ensures.plain; made = c.cards_law.ensures.header } in
    let fill : FillLaws = record { headers = headers; len = c.plain_law.ensures.len } in
    let laws : EachLaws =
    record {
      strict = strict;
      images = c.packed_image_law.ensures.unpack;
      fill = fill;
      stands = c.table_law.ensures.stands;
      tables = c.packed_hdu_law.ensures.table;
      walk = c.passing_law.ensures.walk;
      parts = c.passing_law.ensures.parts;
      moved = c.passing_law.ensures.moved;
    } in
    record { each = hdu_by_hdu laws; found = found_for_each laws }
