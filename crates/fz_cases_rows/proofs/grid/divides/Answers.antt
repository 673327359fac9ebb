use Rattle.std.proofs.Common.{ℕ, ◌<◌, ◌≤◌, get_or, length-take, arith}
use Rattle.std.proofs.lemmas.List.{get_or-take}
use Rattle.fz_grid.specs.Region.{lengths_of}
use Rattle.fz_cases_rows.proofs.SmallLemmas.{IsCut, counts_le, long_enough, small_product}
use Rattle.fz_cases_rows.proofs.grid.divides.Goals as goal

-- the tables are an array and its tile
is_cut : (c : goal.After-loop-i) → IsCut (lengths_of c.args.shape.now) (lengths_of c.args.tile.now)
is_cut c =
    let shape = c.args.shape.now in
    let tile = c.args.tile.now in
    let positive : (i : ℕ) → i < shape.n → 1 ≤ get_or tile.len i 0 = λ i h. (c.loop-i.invariant i (omega arith)).0 in
    let long = long_enough shape.len shape.n c.requires.shape.positive in
    let tile_long = long_enough tile.len shape.n positive in
    let count = length-take shape.n shape.len in
    let tile_count = length-take tile.n tile.len in
    record {
      same = omega arith;
      some =
          λ i h.
          let inside : i < shape.n = omega arith in
          let here = get_or-take shape.n shape.len i 0 inside in
          omega (arith, here, c.requires.shape.positive i inside);
      positive =
          λ i h.
          let inside : i < tile.n = omega arith in
          let here = get_or-take tile.n tile.len i 0 inside in
          omega (arith, here, positive i (omega arith));
    }

pub returns : goal.returns
returns c =
    let shape = c.args.shape.now in
    let tile = c.args.tile.now in
    let few = c.requires.shape.axes in
    let in_array = small_product shape.len shape.n few c.requires.small in
    λ _.
    record {
      some = c.requires.shape.some;
      axes = few;
      same_axes = omega arith;
      positive = λ i h. (c.loop-i.invariant i (omega arith)).0;
      inside = λ i h. (c.loop-i.invariant i (omega arith)).1;
      pixels = c.requires.shape.pixels;
      tile_pixels = omega (arith, small_product tile.len tile.n (omega arith) (λ i h. omega (arith, (c.loop-i.invariant i (omega arith)).1, c.requires.small i (omega arith))));
      tiles = omega (arith, in_array, counts_le (lengths_of shape) (lengths_of tile) (is_cut c));
    }
