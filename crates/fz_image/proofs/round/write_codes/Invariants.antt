-- The bytes of the first i tiles are after the heap, once those that are held back do.
use Rattle.std.proofs.Common.{◌≡◌, ◌+◌, length}
use Rattle.fz_base.specs.FirstByte.{StaysShut}
use Rattle.fz_base.specs.Sink.{written}
use Rattle.fz_base.specs.Told.{StaysTold}
use Rattle.fz_files.specs.Packed.{heap_of}
use Rattle.fz_pool.specs.Round.{coded_tiles}
use Rattle.fz_image.specs.Held.{AreLast, heap_caught_up}
use Rattle.fz_image.specs.Layout.{heap_at_of}
use Rattle.fz_image.specs.Progress.{with_heap}
use Rattle.fz_image.proofs.round.write_codes.Given as goal

abbrev pub invariant-loop-i : goal.invariant-loop-i
invariant-loop-i g l = record {
  created : g.K.Sink.created l.sink ≡ g.K.Sink.created l.fn.sink;
  writes : g.K.Sink.tally l.sink ≡ g.K.Sink.tally l.fn.sink;
  shut : StaysShut (g.K.Sink.contents l.fn.sink) (g.K.Sink.contents l.sink);
  told_contents : StaysTold (g.K.Sink.contents l.fn.sink) (g.K.Sink.contents l.sink);
  progress : l.underway.progress ≡ with_heap l.layout l.fn.underway.progress (coded_tiles l.i l.window.slots);
  contents : heap_caught_up l.layout l.underway.progress l.underway.held_back l.held (g.K.Sink.contents l.sink)
      ≡ written (heap_at_of l.layout + l.fn.underway.progress.heap) (heap_of (coded_tiles l.i l.window.slots)) (heap_caught_up l.layout l.fn.underway.progress l.fn.underway.held_back l.fn.held (g.K.Sink.contents l.fn.sink));
  last : AreLast l.underway.held_back l.held l.underway.progress;
  room : length l.held ≡ length l.fn.held;
}
