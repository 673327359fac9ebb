-- The tiles so far are written, once what is held back is, and the next ones stand in the halves; the ends are as at the start.
use Rattle.std.proofs.Common.{◌≡◌, ℕ, ◌+◌, ◌*◌, ◌-◌, length}
use Rattle.fz_base.specs.FirstByte.{StaysShut}
use Rattle.fz_base.specs.Told.{StaysTold}
use Rattle.fz_image.specs.Held.{AreLast, heap_caught_up}
use Rattle.fz_image.specs.Layout.{ReadsPixels}
use Rattle.fz_image.specs.Progress.{IsWritten}
use Rattle.fz_pack.specs.Turns.{AreAlike, HaveRooms, StandReady}
use Rattle.fz_pack.proofs.turns.write_turns.Given as goal

abbrev pub invariant-loop-underway : goal.invariant-loop-underway
invariant-loop-underway g l = record {
  held : g.S.Source.held l.source ≡ g.S.Source.held l.fn.source;
  attached : g.S.Source.attached l.source ≡ g.S.Source.attached l.fn.source;
  reads : g.S.Source.tally l.source ≡ g.S.Source.tally l.fn.source;
  created : g.K.Sink.created l.sink ≡ g.K.Sink.created l.fn.sink;
  writes : g.K.Sink.tally l.sink ≡ g.K.Sink.tally l.fn.sink;
  shut : StaysShut (g.K.Sink.contents l.fn.sink) (g.K.Sink.contents l.sink);
  log : ReadsPixels l.writing.layout (g.S.Source.ranges l.fn.source) (g.S.Source.ranges l.source);
  told_ranges : StaysTold (g.S.Source.ranges l.fn.source) (g.S.Source.ranges l.source);
  told_contents : StaysTold (g.K.Sink.contents l.fn.sink) (g.K.Sink.contents l.sink);
  rooms : HaveRooms l.writing.layout l.first l.second;
  windows : (size : ℕ × ℕ) → AreAlike size l.fn.first → AreAlike size l.fn.second → AreAlike size l.first × AreAlike size l.second;
  workers : l.first.workers + l.second.workers ≡ l.fn.first.workers + l.fn.second.workers;
  rows : length l.rows ≡ length l.fn.rows;
  room : length l.held ≡ length l.fn.held;
  last : AreLast l.underway.held_back l.held l.underway.progress;
  ready : StandReady l.writing.layout (g.S.Source.held l.fn.source) l.underway.progress l.turn.coded l.turn.loaded l.first l.second;
  written : IsWritten l.writing.layout (g.S.Source.held l.fn.source) (g.K.Sink.contents l.fn.sink) (heap_caught_up l.writing.layout l.underway.progress l.underway.held_back l.held (g.K.Sink.contents l.sink)) l.underway.progress;
}

abbrev pub decreases-loop-underway : goal.decreases-loop-underway
decreases-loop-underway g l = 3 * l.writing.layout.tiles - (3 * l.underway.progress.tiles + 2 * l.turn.coded + l.turn.loaded)
