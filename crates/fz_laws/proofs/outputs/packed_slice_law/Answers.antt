-- Card by card, and pixel by pixel.
use Rattle.fz_laws.proofs.PackedSlices.{SliceLaws, cutouts_are_alike, cutouts_are_parts, parts_are_cutouts, whole_cutouts}
use Rattle.fz_laws.proofs.outputs.packed_slice_law.Goals as goal

pub returns : goal.returns
returns c =
    let laws : SliceLaws =
    record {
      cuts = c.cuts_laws.ensures;
      outs = c.out_laws.ensures;
      blocks = c.found_law.ensures.blocks;
      picks = c.one_picked_file_law.ensures;
      again = c.plain_law.ensures.bytes;
      slices = c.slice_law.ensures.pixels;
      primary = c.table_law.ensures.primary;
      order = c.place_law.ensures.order;
      numbers = c.place_law.ensures.numbers;
      some = c.cutout_file_law.ensures.some;
    } in
    record { part = cutouts_are_parts laws; made = parts_are_cutouts laws; whole = whole_cutouts laws; options = cutouts_are_alike laws }
