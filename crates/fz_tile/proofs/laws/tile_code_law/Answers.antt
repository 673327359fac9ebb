-- The law, over the definitions alone.
use Rattle.fz_tile.proofs.LawLemmas.{tile_code_holds, tile_code_alone}
use Rattle.fz_tile.proofs.laws.tile_code_law.Goals as goal

pub returns-clause-holds : goal.returns-clause-holds
returns-clause-holds c = tile_code_holds c.can_hold_law.ensures c.line_list_law.ensures c.producer_law.ensures.code c.producer_law.ensures.bits

pub returns-clause-no_other : goal.returns-clause-no_other
returns-clause-no_other c = tile_code_alone c.can_hold_law.ensures c.line_list_law.ensures c.producer_law.ensures.code c.producer_law.ensures.bits c.reading_law.ensures.one
