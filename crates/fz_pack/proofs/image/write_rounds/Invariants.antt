-- The tiles so far are written, once what is held back is; the ends are as at the start.
use Rattle.std.proofs.Common.{◌≡◌, ◌-◌, ◌≤◌, length}
use Rattle.fz_base.specs.FirstByte.{StaysShut}
use Rattle.fz_base.specs.Told.{StaysTold}
use Rattle.fz_pool.specs.Window.{slot_sizes}
use Rattle.fz_image.specs.Held.{AreLast, heap_caught_up}
use Rattle.fz_image.specs.Layout.{ReadsPixels}
use Rattle.fz_image.specs.Progress.{IsWritten}
use Rattle.fz_image.specs.Strips.{HasStrips}
use Rattle.fz_pack.proofs.image.write_rounds.Given as goal

abbrev pub invariant-loop-underway : goal.invariant-loop-underway
invariant-loop-underway g l = record {
  held : g.S.Source.held l.source ≡ g.S.Source.held l.fn.source;
  attached : g.S.Source.attached l.source ≡ g.S.Source.attached l.fn.source;
  reads : g.S.Source.tally l.source ≡ g.S.Source.tally l.fn.source;
  created : g.K.Sink.created l.sink ≡ g.K.Sink.created l.fn.sink;
  writes : g.K.Sink.tally l.sink ≡ g.K.Sink.tally l.fn.sink;
  shut : StaysShut (g.K.Sink.contents l.fn.sink) (g.K.Sink.contents l.sink);
  log : ReadsPixels l.writing.layout (g.S.Source.ranges l.fn.source) (g.S.Source.ranges l.source);
  told_ranges : StaysTold (g.S.Source.ranges l.fn.source) (g.S.Source.ranges l.source);
  told_contents : StaysTold (g.K.Sink.contents l.fn.sink) (g.K.Sink.contents l.sink);
  sizes : slot_sizes l.window.slots ≡ slot_sizes l.fn.window.slots;
  workers : l.window.workers ≡ l.fn.window.workers;
  strips : HasStrips (g.S.Source.held l.fn.source) l.strips l.ahead;
  ahead : length l.ahead ≡ length l.fn.ahead;
  rows : length l.rows ≡ length l.fn.rows;
  room : length l.held ≡ length l.fn.held;
  last : AreLast l.underway.held_back l.held l.underway.progress;
  within : l.underway.progress.tiles ≤ l.writing.layout.tiles;
  written : IsWritten l.writing.layout (g.S.Source.held l.fn.source) (g.K.Sink.contents l.fn.sink) (heap_caught_up l.writing.layout l.underway.progress l.underway.held_back l.held (g.K.Sink.contents l.sink)) l.underway.progress;
}

abbrev pub decreases-loop-underway : goal.decreases-loop-underway
decreases-loop-underway g l = l.writing.layout.tiles - l.underway.progress.tiles
