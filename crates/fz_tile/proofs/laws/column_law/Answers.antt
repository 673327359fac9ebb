-- The law, over the definitions alone.
use Rattle.fz_tile.proofs.ColumnLemmas.{fills_column}
use Rattle.fz_tile.proofs.laws.column_law.Goals as goal

pub returns : goal.returns
returns c = fills_column c.can_hold_law.ensures c.line_list_law.ensures c.producer_law.ensures.some
