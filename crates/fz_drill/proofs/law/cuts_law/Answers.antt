use Rattle.fz_drill.proofs.CutFile.{CutLaws, cuts}
use Rattle.fz_drill.proofs.law.cuts_law.Goals as goal

pub returns : goal.returns
returns c =
    let all : CutLaws =
    record {
      packed = c.packed_laws.ensures;
      stands = c.table_law.ensures.stands;
      one = c.one_cutout_law.ensures;
      slices = c.slice_law.ensures.bytes;
      back = c.there_and_back_law.ensures.sums;
    } in
    λ rows codec is bytes held. cuts all rows is.some is.most codec bytes held
