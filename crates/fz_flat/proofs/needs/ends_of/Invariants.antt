-- The ends of the tiles that are gone.
use Rattle.std.proofs.Common.{◌<◌, ◌^◌, length}
use Rattle.std.specs.List.{AllByRecursion}
use Rattle.fz_grid.specs.SieveWalks.{sieve_tiles_left}
use Rattle.fz_flat.specs.Boxes.{picked_in}
use Rattle.fz_flat.specs.Cutting.{HasPick}
use Rattle.fz_flat.specs.Tiles.{tiles_in}
use Rattle.fz_flat.proofs.BoxLemmas.{AreEnds}
use Rattle.fz_flat.proofs.needs.ends_of.Given as goal

abbrev pub invariant-loop-tile : goal.invariant-loop-tile
invariant-loop-tile l = record {
  known : (l.ends.first < tiles_in l.plan) × (l.ends.last < tiles_in l.plan);
  picked : AllByRecursion (HasPick l.plan l.sieve) (sieve_tiles_left l.tile-iterator);
  few : length (picked_in l.plan l.sieve) < 2 ^ 31;
  ends : AreEnds (picked_in l.plan l.sieve) (sieve_tiles_left l.tile-iterator) l.ends.first l.ends.last l.ends.count;
}
