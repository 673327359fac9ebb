-- The rows before the next tile are counted; the store and the buffer are as at the start.
use Rattle.std.proofs.Common.{◌≡◌, length}
use Rattle.fz_base.specs.Told.{StaysTold}
use Rattle.fz_grid.specs.SieveWalks.{sieve_tiles_left}
use Rattle.fz_patch.proofs.OtherRows.{OthersCounted}
use Rattle.fz_patch.proofs.column.with_other_rows.Given as goal

abbrev pub invariant-loop-tile : goal.invariant-loop-tile
invariant-loop-tile g l = record {
  held : g.D.Source.held l.store ≡ g.D.Source.held l.fn.store;
  attached : g.D.Source.attached l.store ≡ g.D.Source.attached l.fn.store;
  told : StaysTold (g.D.Source.ranges l.fn.store) (g.D.Source.ranges l.store);
  reads : g.D.Source.tally l.store ≡ g.D.Source.tally l.fn.store;
  copy : length l.copy ≡ length l.fn.copy;
  others : OthersCounted l.target.image.plan l.target.sieve l.target.image.table (g.D.Source.held l.fn.store) l.found l.greatest l.first (sieve_tiles_left l.tile-iterator);
}
