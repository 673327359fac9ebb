-- The codes of the first tiles are measured, and their rows are sound; both files and the buffers are as at the start.
use Rattle.std.proofs.Common.{◌≡◌, IfSome, length}
use Rattle.std.specs.List.{AllByRecursion}
use Rattle.fz_base.specs.Ranges.{LogsIn}
use Rattle.fz_base.specs.Source.{LogsWithin}
use Rattle.fz_base.specs.Told.{StaysTold}
use Rattle.fz_files.specs.FirstFault.{picked_tiles_of}
use Rattle.fz_grid.specs.SieveWalks.{sieve_tiles_left}
use Rattle.fz_job.specs.Images.{fetched_ranges}
use Rattle.fz_target.specs.Reads.{pixels_end}
use Rattle.fz_target.specs.Tiles.{IsBoxTile}
use Rattle.fz_target.proofs.Measuring.{MeasureState}
use Rattle.fz_pool.specs.Window.{WindowStays}
use Rattle.fz_target.proofs.measure.measure_codes.Given as goal

abbrev pub invariant-loop-tile : goal.invariant-loop-tile
invariant-loop-tile g l = record {
  held : g.D.Source.held l.store ≡ g.D.Source.held l.fn.store;
  attached : g.D.Source.attached l.store ≡ g.D.Source.attached l.fn.store;
  told : StaysTold (g.D.Source.ranges l.fn.store) (g.D.Source.ranges l.store);
  tally : g.D.Source.tally l.store ≡ g.D.Source.tally l.fn.store;
  given : g.S.Source.held l.patch ≡ g.S.Source.held l.fn.patch;
  given_len : g.S.Source.attached l.patch ≡ g.S.Source.attached l.fn.patch;
  given_told : StaysTold (g.S.Source.ranges l.fn.patch) (g.S.Source.ranges l.patch);
  given_tally : g.S.Source.tally l.patch ≡ g.S.Source.tally l.fn.patch;
  window : WindowStays l.fn.window l.window;
  copy : length l.copy ≡ length l.fn.copy;
  boxes : AllByRecursion (IsBoxTile l.target) (sieve_tiles_left l.tile-iterator);
  read : IfSome (g.D.Source.held l.fn.store) (λ f. LogsIn (fetched_ranges f l.target.header (picked_tiles_of l.target.image.plan l.target.sieve)) (g.D.Source.ranges l.fn.store) (g.D.Source.ranges l.store));
  pixels_read : LogsWithin l.target.pixels_at (pixels_end l.target) (g.S.Source.ranges l.fn.patch) (g.S.Source.ranges l.patch);
  state : MeasureState l.target (g.S.Source.held l.fn.patch) (g.D.Source.held l.fn.store) (sieve_tiles_left l.tile-iterator) l.found;
}
