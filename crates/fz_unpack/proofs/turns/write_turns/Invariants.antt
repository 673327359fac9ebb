-- The tiles so far are written, and the next ones are decoded; the source, the buffers and the counts are as at the start.
use Rattle.std.proofs.Common.{◌≡◌, ℕ, ◌+◌, ◌*◌, ◌-◌, length, IfSome}
use Rattle.std.specs.List.{range_with_len}
use Rattle.fz_base.specs.FirstByte.{StaysShut}
use Rattle.fz_base.specs.Ranges.{LogsIn}
use Rattle.fz_base.specs.Told.{StaysTold}
use Rattle.fz_files.specs.Touched.{image_ranges}
use Rattle.fz_unpack.specs.Images.{AreWrittenTiles}
use Rattle.fz_unpack.specs.Turns.{AreAlike, HaveRooms, StandFetched}
use Rattle.fz_unpack.proofs.turns.write_turns.Given as goal

abbrev pub invariant-loop-turn : goal.invariant-loop-turn
invariant-loop-turn g l = record {
  held : g.S.Source.held l.source ≡ g.S.Source.held l.fn.source;
  attached : g.S.Source.attached l.source ≡ g.S.Source.attached l.fn.source;
  reads : g.S.Source.tally l.source ≡ g.S.Source.tally l.fn.source;
  writes : g.K.Sink.tally l.sink ≡ g.K.Sink.tally l.fn.sink;
  created : g.K.Sink.created l.sink ≡ g.K.Sink.created l.fn.sink;
  shut : StaysShut (g.K.Sink.contents l.fn.sink) (g.K.Sink.contents l.sink);
  told_ranges : StaysTold (g.S.Source.ranges l.fn.source) (g.S.Source.ranges l.source);
  told_contents : StaysTold (g.K.Sink.contents l.fn.sink) (g.K.Sink.contents l.sink);
  read : IfSome (g.S.Source.held l.fn.source) (λ file. LogsIn (image_ranges file l.asked.header) (g.S.Source.ranges l.fn.source) (g.S.Source.ranges l.source));
  rooms : HaveRooms l.asked.image l.first l.second;
  windows : (size : ℕ × ℕ) → AreAlike size l.fn.first → AreAlike size l.fn.second → AreAlike size l.first × AreAlike size l.second;
  workers : l.first.workers + l.second.workers ≡ l.fn.first.workers + l.fn.second.workers;
  rows : length l.rows ≡ length l.fn.rows;
  stand : StandFetched (g.S.Source.held l.fn.source) l.asked.header l.asked.image.plan l.turn.written l.turn.decoded l.asked.tiles l.second;
  written : IfSome (g.S.Source.held l.fn.source) (λ file. AreWrittenTiles file l.asked.header l.asked.image.plan l.asked.data_at (range_with_len 0 l.turn.written) (g.K.Sink.contents l.fn.sink) (g.K.Sink.contents l.sink));
}

abbrev pub decreases-loop-turn : goal.decreases-loop-turn
decreases-loop-turn g l = 2 * l.asked.tiles - (2 * l.turn.written + l.turn.decoded)
