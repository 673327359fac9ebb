use Rattle.fz_files.proofs.PackedHdus.{hdus_are_packed, primaries_stand_first, tables_are_hdus}
use Rattle.fz_files.proofs.law.packed_hdu_law.Goals as goal

pub returns : goal.returns
returns c = record {
  packed = hdus_are_packed c.plan_to_pack_law.ensures.packable c.plan_to_pack_law.ensures.plan;
  before = primaries_stand_first c.primary_law.ensures.facts c.primary_law.ensures.planned;
  table = tables_are_hdus;
}
