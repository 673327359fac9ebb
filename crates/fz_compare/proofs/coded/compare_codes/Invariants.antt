-- The codes of the first i tiles are the next bytes of the heap; the source and its counts are as at the start.
use Rattle.std.proofs.Common.{◌≡◌, length}
use Rattle.fz_base.specs.Source.{LogsWithin}
use Rattle.fz_base.specs.Told.{StaysTold}
use Rattle.fz_pool.specs.Round.{coded_tiles}
use Rattle.fz_image.specs.Progress.{with_heap}
use Rattle.fz_compare.proofs.HeapsCompared.{HeapSoFar}
use Rattle.fz_compare.proofs.coded.compare_codes.Given as goal

abbrev pub invariant-loop-i : goal.invariant-loop-i
invariant-loop-i g l = record {
  held : g.S.Source.held l.source ≡ g.S.Source.held l.fn.source;
  attached : g.S.Source.attached l.source ≡ g.S.Source.attached l.fn.source;
  reads : g.S.Source.tally l.source ≡ g.S.Source.tally l.fn.source;
  told : StaysTold (g.S.Source.ranges l.fn.source) (g.S.Source.ranges l.source);
  read : LogsWithin 0 l.fn.coming.end (g.S.Source.ranges l.fn.source) (g.S.Source.ranges l.source);
  piece : length l.piece ≡ length l.fn.piece;
  written : l.written ≡ with_heap l.layout l.fn.progress (coded_tiles l.i l.window.slots);
  heap : HeapSoFar (g.S.Source.held l.fn.source) l.fn.coming.end l.layout l.fn.progress l.i l.window.slots;
}
