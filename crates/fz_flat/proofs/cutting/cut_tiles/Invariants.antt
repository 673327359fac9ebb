-- The pixels of the tiles that are gone are at their places.
use Rattle.std.proofs.Common.{◌≡◌, length}
use Rattle.std.specs.List.{AllByRecursion}
use Rattle.fz_grid.specs.SieveWalks.{sieve_tiles_left}
use Rattle.fz_flat.specs.Boxes.{picked_in}
use Rattle.fz_flat.specs.Cutting.{HasPick}
use Rattle.fz_flat.proofs.CutLemmas.{AreGone}
use Rattle.fz_flat.proofs.cutting.cut_tiles.Given as goal

abbrev pub invariant-loop-tile : goal.invariant-loop-tile
invariant-loop-tile l = record {
  size : length l.out ≡ length l.fn.out;
  room : length l.numbers ≡ length l.fn.numbers;
  all : AllByRecursion (HasPick l.image.plan l.sieve) (picked_in l.image.plan l.sieve);
  picked : AllByRecursion (HasPick l.image.plan l.sieve) (sieve_tiles_left l.tile-iterator);
  gone : AreGone l.image l.sieve l.from l.rows l.at l.codes l.fn.out (sieve_tiles_left l.tile-iterator) l.out;
}
