-- By the code that the row describes.
use Rattle.fz_laws.proofs.NewRowStands.{new_rows_stand}
use Rattle.fz_laws.proofs.patched.new_row_law.Goals as goal

pub returns : goal.returns
returns c = new_rows_stand c.row_laws.ensures c.tile_laws.ensures c.descriptor_law.ensures c.new_numbers_law.ensures.target c.amended_header_law.ensures
