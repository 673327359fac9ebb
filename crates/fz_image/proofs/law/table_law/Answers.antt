use Rattle.fz_image.proofs.TableLaws.{next_tiles, tables_small, tiles_join}
use Rattle.fz_image.proofs.law.table_law.Goals as goal

pub returns : goal.returns
returns c = record { next = next_tiles; joined = tiles_join c.sum_law.ensures.joined; small = tables_small }
