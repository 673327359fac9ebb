use Rattle.std.proofs.Common.{◌≡◌, true, ◌-◌, ◌^◌, ◌<◌, get_or, map, ap, subst, sym, ◌∙◌, arith}
use Rattle.std.specs.List.{AllByRecursion, range_with_len}
use Rattle.fz_grid.specs.Arrays.{product}
use Rattle.fz_grid.specs.Grid.{tile_count, tile_counts}
use Rattle.fz_grid.specs.Overlap.{has_pixel}
use Rattle.fz_grid.specs.Region.{IsShape, lengths_of}
use Rattle.fz_grid.specs.Sieve.{picked_tiles, sieve_hi, sieve_lo, sieve_step, tile_picks}
use Rattle.fz_grid.specs.Visits.{nth_visited}
use Rattle.fz_grid.proofs.PickAxes.{count_some}
use Rattle.fz_grid.proofs.Sifted.{picked_has, picked_inside, sieved_of, visited_by_number, visits_le, visits_list}
use Rattle.fz_grid.proofs.Tilings.{cut_of, shape_long, tiling_of}
use Rattle.fz_grid.proofs.grid.Grid.sieve_tiles.Goals as goal

pub invariant_of-result : goal.invariant_of-result
invariant_of-result c =
    let grid = c.args.self.now in
    let sieve = c.args.sieve.now in
    let counts = c.counts.result in
    let visits = c.visits-counts.result in
    let few : product (lengths_of c.counts.result) < 2 ^ 31 = rw c.counts.ensures.counts grid.divided.tiles in
    let visits_few = visits_le grid.shape grid.tile c.counts.result c.args.sieve.now c.visits-counts.result grid.divided c.requires c.counts.ensures.axes c.counts.ensures.counts c.visits-counts.ensures.axes (omega (arith, grid.divided.axes)) (omega (arith, grid.divided.axes)) c.visits-counts.ensures.counts in
    let grid_is : IsShape counts = record {
      some = omega (arith, c.counts.ensures.axes, grid.divided.some);
      axes = omega (arith, c.counts.ensures.axes, grid.divided.axes);
      positive = c.counts.ensures.positive;
      pixels = omega (arith, few);
    } in
    let visits_are : IsShape visits = record {
      some = omega (arith, c.visits-counts.ensures.axes, grid.divided.some);
      axes = omega (arith, c.visits-counts.ensures.axes, grid.divided.axes);
      positive =
          λ i h.
          let some = count_some (get_or sieve.lo i 0) (get_or sieve.hi i 0) (get_or sieve.step i 0) (get_or grid.tile.len i 0) in
          omega (arith, c.visits-counts.ensures.counts i (omega (arith, c.visits-counts.ensures.axes)), some);
      pixels = omega (arith, few, visits_few);
    } in
    record {
      visits =
          record {
            divided = grid.divided;
            within = c.requires;
            grid_is = grid_is;
            grid_axes = c.counts.ensures.axes;
            gridded = c.counts.ensures.counts;
            counts_are = visits_are;
            counts_axes = c.visits-counts.ensures.axes;
            counted = c.visits-counts.ensures.counts;
          };
      all = omega (arith, c.volume-end.ensures, few, visits_few);
      ordered = omega arith;
    }

-- what is left at first
are_those : (c : goal.After-result-4-1) → map (nth_visited (lengths_of c.counts.result) (sieve_lo c.args.sieve.now) (sieve_step c.args.sieve.now) (lengths_of c.args.self.now.tile) (lengths_of c.visits-counts.result)) (range_with_len 0 (c.volume-end.result - 0)) ≡ picked_tiles (lengths_of c.args.self.now.shape) (lengths_of c.args.self.now.tile) (sieve_lo c.args.sieve.now) (sieve_hi c.args.sieve.now) (sieve_step c.args.sieve.now)
are_those c =
    let grid = c.args.self.now in
    let sieve = c.args.sieve.now in
    let array = lengths_of grid.shape in
    let tile = lengths_of grid.tile in
    let visits = c.visits-counts.result in
    let in_axes = grid.divided.axes in
    let few : product (lengths_of c.counts.result) < 2 ^ 31 = rw c.counts.ensures.counts grid.divided.tiles in
    let visits_few = visits_le grid.shape grid.tile c.counts.result c.args.sieve.now c.visits-counts.result grid.divided c.requires c.counts.ensures.axes c.counts.ensures.counts c.visits-counts.ensures.axes (omega (arith, grid.divided.axes)) (omega (arith, grid.divided.axes)) c.visits-counts.ensures.counts in
    let list = visits_list grid.shape grid.tile sieve visits grid.divided c.requires c.visits-counts.ensures.axes (omega arith) (omega arith) (omega arith) (omega arith) c.visits-counts.ensures.counts in
    let whole : c.volume-end.result - 0 ≡ product (lengths_of visits) = omega (arith, c.volume-end.ensures, few, visits_few) in
    let cut = cut_of array tile (tiling_of grid.shape grid.tile grid.divided) in
    let sieved = sieved_of grid.shape sieve (shape_long grid.shape grid.tile grid.divided) (omega arith) (omega arith) (omega arith) c.requires in
    ap (λ n. map (nth_visited (lengths_of c.counts.result) (sieve_lo sieve) (sieve_step sieve) tile (lengths_of visits)) (range_with_len 0 n)) whole
    ∙ (ap (λ l. map (nth_visited l (sieve_lo sieve) (sieve_step sieve) tile (lengths_of visits)) (range_with_len 0 (product (lengths_of visits)))) c.counts.ensures.counts
    ∙ (ap (λ l. map (nth_visited (tile_counts array tile) (sieve_lo sieve) (sieve_step sieve) tile l) (range_with_len 0 (product l))) list
    ∙ sym (visited_by_number array tile (sieve_lo sieve) (sieve_hi sieve) (sieve_step sieve) cut sieved)))

pub returns-clause-tiles : goal.returns-clause-tiles
returns-clause-tiles c = are_those c

pub returns-clause-inside : goal.returns-clause-inside
returns-clause-inside c =
    let grid = c.args.self.now in
    let sieve = c.args.sieve.now in
    subst (AllByRecursion (λ t. t < tile_count (lengths_of grid.shape) (lengths_of grid.tile))) (sym (are_those c))
    (picked_inside (lengths_of grid.shape) (lengths_of grid.tile) (sieve_lo sieve) (sieve_hi sieve) (sieve_step sieve))

pub returns-clause-picked : goal.returns-clause-picked
returns-clause-picked c =
    let grid = c.args.self.now in
    let sieve = c.args.sieve.now in
    subst (AllByRecursion (λ t. has_pixel (tile_picks (lengths_of grid.shape) (lengths_of grid.tile) (sieve_lo sieve) (sieve_hi sieve) (sieve_step sieve) t) ≡ true)) (sym (are_those c))
    (picked_has (lengths_of grid.shape) (lengths_of grid.tile) (sieve_lo sieve) (sieve_hi sieve) (sieve_step sieve))
