-- The records of the tiles that are gone are at the front of the list.
use Rattle.std.proofs.Common.{◌≡◌, length}
use Rattle.std.specs.List.{AllByRecursion}
use Rattle.fz_grid.specs.SieveWalks.{sieve_tiles_left}
use Rattle.fz_flat.specs.Boxes.{picked_in}
use Rattle.fz_flat.specs.Cutting.{HasPick}
use Rattle.fz_flat.proofs.BoxLemmas.{IsListing}
use Rattle.fz_flat.proofs.reads.list_reads.Given as goal

abbrev pub invariant-loop-tile : goal.invariant-loop-tile
invariant-loop-tile l = record {
  picked : AllByRecursion (HasPick l.image.plan l.sieve) (sieve_tiles_left l.tile-iterator);
  size : length l.reads ≡ length l.fn.reads;
  listing : IsListing l.image l.from l.rows (picked_in l.image.plan l.sieve) l.fn.reads (sieve_tiles_left l.tile-iterator) l.count l.reads;
}
