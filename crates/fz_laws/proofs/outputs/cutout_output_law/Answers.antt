-- Card by card.
use Rattle.fz_laws.specs.OutputsTaken.{OutLaws, WalkLaws}
use Rattle.fz_laws.proofs.CutFile.{CutLaws, cutout_is_found, cutout_is_plain}
use Rattle.fz_laws.proofs.outputs.cutout_output_law.Goals as goal

pub returns : goal.returns
returns c =
    let laws : OutLaws = c.out_laws.ensures in
    let walks : WalkLaws = c.walk_laws.ensures in
    let cuts : CutLaws =
    record {
      shift = c.shifted_card_law.ensures;
      count = c.cutout_law.ensures.count;
      last = c.found_hdus_law.ensures.last;
      images = c.packed_image_law.ensures.cut;
      fits = c.sizes_law.ensures.cutout;
      whole = c.whole_cards_law.ensures.cutout;
    } in
    record { found = cutout_is_found laws walks cuts; plain = cutout_is_plain laws walks cuts }
