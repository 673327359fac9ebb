-- One tile more.
use Rattle.std.proofs.Common.{◌≡◌, ◌∷◌, subst, arith}
use Rattle.std.specs.List.{AllByRecursion}
use Rattle.fz_grid.specs.SieveWalks.{sieve_tiles_left}
use Rattle.fz_flat.specs.Boxes.{picked_in}
use Rattle.fz_flat.specs.Cutting.{HasPick}
use Rattle.fz_flat.specs.Tiles.{tiles_in}
use Rattle.fz_flat.proofs.BoxLemmas.{known_if, more_ends}
use Rattle.fz_flat.proofs.needs.ends_of.Goals as goal

pub loop-tile-preserved : goal.loop-tile-preserved
loop-tile-preserved c =
    let p = c.args.plan.now in
    let sieve = c.args.sieve.now in
    let old = c.loop-tile.invariant in
    let ends = c.loop-tile.ends in
    let next : sieve_tiles_left c.loop-tile.tile-iterator ≡ c.in-Some.tile ∷ sieve_tiles_left c.next.new.self = c.in-Some.ensures.steps in
    let picked = subst (AllByRecursion (HasPick p sieve)) next old.picked in
    record {
      known = (known_if (tiles_in p) c.in-Some.tile ends.count ends.first c.with_next-ends.result.first picked.0.known old.known.0 c.with_next-ends.ensures.first, omega (arith, c.with_next-ends.ensures.last, picked.0.known));
      picked = picked.1;
      few = old.few;
      ends = more_ends (picked_in p sieve) (sieve_tiles_left c.loop-tile.tile-iterator) (sieve_tiles_left c.next.new.self) c.in-Some.tile ends.first ends.last ends.count
          c.with_next-ends.result.first c.with_next-ends.result.last c.with_next-ends.result.count old.ends next c.with_next-ends.ensures.first c.with_next-ends.ensures.last c.with_next-ends.ensures.count;
    }
