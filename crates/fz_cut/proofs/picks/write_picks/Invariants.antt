-- The first tiles with a pick are written, some are pending, and the others are left; the source, the buffers and the counts are as at the
-- start.
use Rattle.std.proofs.Common.{◌≡◌, ◌≤◌, length, take, IfSome}
use Rattle.std.specs.List.{AllByRecursion}
use Rattle.fz_base.specs.FirstByte.{StaysShut}
use Rattle.fz_base.specs.Ranges.{LogsIn}
use Rattle.fz_base.specs.Told.{StaysTold}
use Rattle.fz_grid.specs.SieveWalks.{sieve_tiles_left}
use Rattle.fz_files.specs.FirstFault.{picked_tiles_of}
use Rattle.fz_cut.specs.Picks.{picked_ranges}
use Rattle.fz_cut.proofs.Rounds.{AreDone, IsTileWithPick}
use Rattle.fz_pool.specs.Window.{WindowStays}
use Rattle.fz_cut.proofs.picks.write_picks.Given as goal

abbrev pub invariant-loop-tile : goal.invariant-loop-tile
invariant-loop-tile g l = record {
  held : g.S.Source.held l.source ≡ g.S.Source.held l.fn.source;
  attached : g.S.Source.attached l.source ≡ g.S.Source.attached l.fn.source;
  reads : g.S.Source.tally l.source ≡ g.S.Source.tally l.fn.source;
  writes : g.K.Sink.tally l.sink ≡ g.K.Sink.tally l.fn.sink;
  created : g.K.Sink.created l.sink ≡ g.K.Sink.created l.fn.sink;
  shut : StaysShut (g.K.Sink.contents l.fn.sink) (g.K.Sink.contents l.sink);
  told_ranges : StaysTold (g.S.Source.ranges l.fn.source) (g.S.Source.ranges l.source);
  told_contents : StaysTold (g.K.Sink.contents l.fn.sink) (g.K.Sink.contents l.sink);
  window : WindowStays l.fn.window l.window;
  rows : length l.rows ≡ length l.fn.rows;
  table : length l.tiles ≡ 128;
  few : l.count ≤ l.most;
  picked : AllByRecursion (IsTileWithPick l.picking.image.plan l.picking.sieve) (picked_tiles_of l.picking.image.plan l.picking.sieve);
  logs : IfSome (g.S.Source.held l.fn.source) (λ file. LogsIn (picked_ranges file l.picking.header l.picking.sieve) (g.S.Source.ranges l.fn.source) (g.S.Source.ranges l.source));
  done : AreDone (g.S.Source.held l.fn.source) l.picking.header l.picking.image.plan l.picking.sieve l.picking.data_at (take l.count l.tiles) (sieve_tiles_left l.tile-iterator) (g.K.Sink.contents l.fn.sink) (g.K.Sink.contents l.sink);
}
