-- Nothing is read after a difference.
use Rattle.fz_compare.proofs.tiles.compare_next.Goals as goal

pub returns-in-None-clause-read : goal.returns-in-None-clause-read
returns-in-None-clause-read g c = c.log_law.ensures.none 0 c.args.coming.end (g.S.Source.ranges c.args.source.now)
