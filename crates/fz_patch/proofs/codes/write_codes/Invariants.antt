-- The codes of the first tiles are written, and nothing else; PATCH and the buffers are as at the start.
use Rattle.std.proofs.Common.{◌≡◌, ◌<◌, ◌≤◌, length}
use Rattle.std.specs.List.{AllByRecursion}
use Rattle.fz_base.specs.Source.{LogsWithin}
use Rattle.fz_base.specs.Store.{HasAtLeast, StoreKept}
use Rattle.fz_base.specs.Told.{StaysTold}
use Rattle.fz_grid.specs.SieveWalks.{sieve_tiles_left}
use Rattle.fz_target.specs.Ends.{SameCounts}
use Rattle.fz_target.specs.Reads.{pixels_end}
use Rattle.fz_target.specs.Steps.{KeepsReach}
use Rattle.fz_target.specs.Tiles.{IsBoxTile}
use Rattle.fz_patch.proofs.Beside.{Keeps}
use Rattle.fz_patch.proofs.NewCodes.{CodesState, heap_end_of}
use Rattle.fz_pool.specs.Window.{WindowStays}
use Rattle.fz_patch.proofs.codes.write_codes.Given as goal

abbrev pub invariant-loop-tile : goal.invariant-loop-tile
invariant-loop-tile g l = record {
  given : g.S.Source.held l.patch ≡ g.S.Source.held l.fn.patch;
  given_len : g.S.Source.attached l.patch ≡ g.S.Source.attached l.fn.patch;
  given_told : StaysTold (g.S.Source.ranges l.fn.patch) (g.S.Source.ranges l.patch);
  given_tally : g.S.Source.tally l.patch ≡ g.S.Source.tally l.fn.patch;
  window : WindowStays l.fn.window l.window;
  copy : length l.copy ≡ length l.fn.copy;
  low : heap_end_of l.target ≤ l.at;
  high : l.at ≤ l.end;
  reach : HasAtLeast (g.D.Source.attached l.store) l.at;
  grows : KeepsReach (g.D.Source.attached l.fn.store) (g.D.Source.attached l.store);
  told : StaysTold (g.D.Source.held l.fn.store) (g.D.Source.held l.store);
  kept : StoreKept (g.D.Source.tally l.fn.store) (g.D.Source.tally l.store);
  counts : SameCounts (g.D.Source.tally l.fn.store) (g.D.Source.tally l.store);
  boxes : AllByRecursion (IsBoxTile l.target) (sieve_tiles_left l.tile-iterator);
  pixels_read : LogsWithin l.target.pixels_at (pixels_end l.target) (g.S.Source.ranges l.fn.patch) (g.S.Source.ranges l.patch);
  bytes_kept : Keeps (λ i. i < heap_end_of l.target) (g.D.Source.held l.fn.store) (g.D.Source.held l.store) (g.D.Source.tally l.fn.store).amended.writes (g.D.Source.tally l.store).amended.writes;
  state : CodesState l.target (g.S.Source.held l.fn.patch) (g.D.Source.held l.fn.store) (g.D.Source.held l.store) (g.D.Source.tally l.fn.store).amended.writes (g.D.Source.tally l.store).amended.writes
      (sieve_tiles_left l.tile-iterator) l.at;
}
