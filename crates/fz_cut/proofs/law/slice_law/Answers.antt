-- By the only cutout of the image.
use Rattle.fz_cut.proofs.Slices.{sinks_hold, slices}
use Rattle.fz_cut.proofs.law.slice_law.Goals as goal

pub returns : goal.returns
returns c = record {
  files = slices c.walk_law.ensures.headers c.found_hdus_law.ensures.last c.one_cutout_law.ensures c.args.sieve.now c.tables_law.ensures.lo c.tables_law.ensures.hi c.tables_law.ensures.step c.requires;
  sink = sinks_hold c.walk_law.ensures.headers c.found_hdus_law.ensures.last c.one_cutout_law.ensures c.args.sieve.now c.tables_law.ensures.lo c.tables_law.ensures.hi c.tables_law.ensures.step c.requires;
}
