-- The first i slots have their tiles; the source and the lengths of the buffers are as before.
use Rattle.std.proofs.Common.{◌≡◌, length}
use Rattle.fz_base.specs.Told.{StaysTold}
use Rattle.fz_pool.specs.Window.{slot_sizes}
use Rattle.fz_image.specs.Layout.{ReadsPixels}
use Rattle.fz_image.specs.Strips.{HasStrips}
use Rattle.fz_image.specs.Tiles.{AreLoaded}
use Rattle.fz_image.proofs.loading.load_round.Given as goal

abbrev pub invariant-loop-i : goal.invariant-loop-i
invariant-loop-i g l = record {
  held : g.S.Source.held l.source ≡ g.S.Source.held l.fn.source;
  attached : g.S.Source.attached l.source ≡ g.S.Source.attached l.fn.source;
  told_ranges : StaysTold (g.S.Source.ranges l.fn.source) (g.S.Source.ranges l.source);
  log : ReadsPixels l.layout (g.S.Source.ranges l.fn.source) (g.S.Source.ranges l.source);
  reads : g.S.Source.tally l.source ≡ g.S.Source.tally l.fn.source;
  sizes : slot_sizes l.window.slots ≡ slot_sizes l.fn.window.slots;
  strips : HasStrips (g.S.Source.held l.fn.source) l.strips l.ahead;
  ahead : length l.ahead ≡ length l.fn.ahead;
  workers : l.window.workers ≡ l.fn.window.workers;
  loaded : AreLoaded l.layout (g.S.Source.held l.fn.source) l.first l.i l.window;
}
