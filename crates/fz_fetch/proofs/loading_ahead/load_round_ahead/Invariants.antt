-- The first i slots have the records of their tiles, and no row so far was refused; only bytes of rows and records of the image were read, and
-- those that are kept are still there.
use Rattle.std.proofs.Common.{◌≡◌, length, IfSome}
use Rattle.fz_base.specs.Ranges.{LogsIn}
use Rattle.fz_base.specs.Told.{StaysTold}
use Rattle.fz_pool.specs.Calls.{AreSameFrom}
use Rattle.fz_pool.specs.Window.{slot_sizes}
use Rattle.fz_fetch.specs.Ahead.{IsAhead, all_ranges}
use Rattle.fz_fetch.specs.Loaded.{AreLoaded}
use Rattle.fz_fetch.proofs.loading_ahead.load_round_ahead.Given as goal

abbrev pub invariant-loop-i : goal.invariant-loop-i
invariant-loop-i g l = record {
  held : g.S.Source.held l.source ≡ g.S.Source.held l.fn.source;
  attached : g.S.Source.attached l.source ≡ g.S.Source.attached l.fn.source;
  counts : g.S.Source.tally l.source ≡ g.S.Source.tally l.fn.source;
  sizes : slot_sizes l.window.slots ≡ slot_sizes l.fn.window.slots;
  workers : l.window.workers ≡ l.fn.window.workers;
  others : AreSameFrom l.i l.fn.window.slots l.window.slots;
  told_ranges : StaysTold (g.S.Source.ranges l.fn.source) (g.S.Source.ranges l.source);
  read : IfSome (g.S.Source.held l.fn.source) (λ file. LogsIn (all_ranges file l.hdu l.image) (g.S.Source.ranges l.fn.source) (g.S.Source.ranges l.source));
  len : length l.buf ≡ length l.fn.buf;
  ahead : IsAhead (g.S.Source.held l.fn.source) l.image.table l.buf l.ahead;
  loaded : AreLoaded (g.S.Source.held l.fn.source) l.hdu l.image l.tiles l.i l.window.slots;
}
