-- No strips are there at first.
use Rattle.fz_pack.proofs.turns.move_tiles.Goals as goal

pub load_round-requires-clause-strips : goal.load_round-requires-clause-strips
load_round-requires-clause-strips g c = c.none-strips.ensures.strips _ _
