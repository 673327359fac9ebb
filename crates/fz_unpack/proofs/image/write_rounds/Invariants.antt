-- The tiles so far are written, once what is held back is; the source, the buffers and the counts are as at the start.
use Rattle.std.proofs.Common.{◌≡◌, ◌-◌, ◌≤◌, length, IfSome}
use Rattle.std.specs.List.{range_with_len}
use Rattle.fz_base.specs.FirstByte.{StaysShut}
use Rattle.fz_base.specs.Ranges.{LogsIn}
use Rattle.fz_base.specs.Told.{StaysTold}
use Rattle.fz_files.specs.Touched.{image_ranges}
use Rattle.fz_fetch.specs.Ahead.{IsAhead}
use Rattle.fz_job.specs.Held.{IsHeld, settled}
use Rattle.fz_pool.specs.Window.{WindowStays}
use Rattle.fz_unpack.specs.Images.{AreWrittenTiles}
use Rattle.fz_unpack.proofs.image.write_rounds.Given as goal

abbrev pub invariant-loop-first : goal.invariant-loop-first
invariant-loop-first g l = record {
  held : g.S.Source.held l.source ≡ g.S.Source.held l.fn.source;
  attached : g.S.Source.attached l.source ≡ g.S.Source.attached l.fn.source;
  reads : g.S.Source.tally l.source ≡ g.S.Source.tally l.fn.source;
  writes : g.K.Sink.tally l.sink ≡ g.K.Sink.tally l.fn.sink;
  created : g.K.Sink.created l.sink ≡ g.K.Sink.created l.fn.sink;
  shut : StaysShut (g.K.Sink.contents l.fn.sink) (g.K.Sink.contents l.sink);
  told_ranges : StaysTold (g.S.Source.ranges l.fn.source) (g.S.Source.ranges l.source);
  told_contents : StaysTold (g.K.Sink.contents l.fn.sink) (g.K.Sink.contents l.sink);
  read : IfSome (g.S.Source.held l.fn.source) (λ file. LogsIn (image_ranges file l.asked.header) (g.S.Source.ranges l.fn.source) (g.S.Source.ranges l.source));
  window : WindowStays l.fn.window l.window;
  buffer : length l.buf ≡ length l.fn.buf;
  room : length l.held ≡ length l.fn.held;
  kept : IsHeld l.back l.held;
  ahead : IsAhead (g.S.Source.held l.fn.source) l.asked.image.table l.buf l.ahead;
  within : l.first ≤ l.asked.tiles;
  written : IfSome (g.S.Source.held l.fn.source) (λ file. AreWrittenTiles file l.asked.header l.asked.image.plan l.asked.data_at (range_with_len 0 l.first)
      (settled l.fn.back l.fn.held (g.K.Sink.contents l.fn.sink)) (settled l.back l.held (g.K.Sink.contents l.sink)));
}

abbrev pub decreases-loop-first : goal.decreases-loop-first
decreases-loop-first g l = l.asked.tiles - l.first
