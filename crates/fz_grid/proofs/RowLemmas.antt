-- The lines of a part, by what its tables have.
use Rattle.std.proofs.Common.{◌≡◌, ℕ, ◌^◌, ◌<◌, ◌≤◌, List, ◌∷◌, length, get_or, take, set, map, refl, ap, subst, sym, ◌∙◌, arith, inl, inr, length-set, length-take}
use Rattle.std.specs.List.{AllByRecursion, range_with_len}
use Rattle.std.proofs.lemmas.Bool.{cases_lt}
use Rattle.std.proofs.lemmas.List.{get_or-take}
use Rattle.std.proofs.lemmas.List.Folds.{flat_map-map}
use Rattle.fz_block.specs.declared.axes.Axes.{Axes}
use Rattle.fz_grid.specs.declared.part.Part.{Part}
use Rattle.fz_grid.specs.declared.region.Region.{Region}
use Rattle.fz_grid.specs.Arrays.{AreCoordinatesOf, place_of, product}
use Rattle.fz_grid.specs.Grid.{box_coordinates, moved}
use Rattle.fz_grid.specs.Region.{IsShape, IsWithin, axes_of, lengths_of, places_of, region_corner, region_lengths}
use Rattle.fz_grid.specs.Sieve.{picked_places, sieve_hi, sieve_lengths, sieve_lo, sieve_step, stepped}
use Rattle.fz_grid.specs.Line.{IsLineWithin, IsPartBetween, line_in_cutout, line_in_tile, lines_in_cutout, lines_in_tile}
use Rattle.fz_grid.specs.LineWalks.{nth_line}
use Rattle.fz_grid.proofs.BoxLists.{PlaceLaws, moved_at, moved_length}
use Rattle.fz_grid.proofs.CutoutLemmas.{pick_inside}
use Rattle.fz_grid.proofs.SieveLemmas.{sifts_of}
use Rattle.fz_grid.proofs.TableLemmas.{counts_list, front_set, product_le, rest_of, set_first, set_later}
use Rattle.fz_grid.proofs.LineLemmas.{cutout_end, cutout_rows, each_of, tile_end, tile_rows}

-- a part with tables of 9 entries, and its rows
pub record AreRows (tile cutout : Axes) (part : Part) (rows : Axes) : Type 0 where
  pub tile_len : length tile.len ≡ 9
  pub cutout_len : length cutout.len ≡ 9
  pub lo : length part.inside.lo ≡ 9
  pub hi : length part.inside.hi ≡ 9
  pub step : length part.inside.step ≡ 9
  pub at_lo : length part.at.lo ≡ 9
  pub at_len : length part.at.len ≡ 9
  pub between : IsPartBetween tile cutout part
  pub rows_n : rows.n ≡ part.at.n
  pub rows_len : rows.len ≡ set part.at.len 0 1

-- with one pixel along axis 1 a region is an array that a call takes
pub rows_shape : (at : Region) (rows : Axes) → length at.len ≡ 9 → IsShape (axes_of at) → rows.n ≡ at.n → rows.len ≡ set at.len 0 1 → IsShape rows
rows_shape at rows long is same len =
    let few = is.axes in
    let each : (i : ℕ) → i < at.n → (1 ≤ get_or (set at.len 0 1) i 0) × (get_or (set at.len 0 1) i 0 ≤ get_or at.len i 0) =
    λ i h. elim (cases_lt 0 i) [ inl later ↦ kept i h later | inr first ↦ one i h first ] in
    record {
      some = omega (arith, same, is.some);
      axes = omega (arith, same, few);
      positive = λ i h. omega (arith, (each i (omega (arith, same))).0, ap (λ l. get_or l i 0) len);
      pixels =
          let most = product_le (set at.len 0 1) at.len at.n (omega (arith, few, long, length-set at.len 0 1)) (omega (arith, few, long)) (λ i h. (each i h).1) in
          let named : product (lengths_of rows) ≡ product (take at.n (set at.len 0 1)) = ap (λ n. product (take n rows.len)) same ∙ ap (λ l. product (take at.n l)) len in
          let whole : product (take at.n at.len) ≤ 2 ^ 40 = is.pixels in
          omega (arith, most, named, whole);
    }
  where
    kept : (i : ℕ) → i < at.n → 0 < i → (1 ≤ get_or (set at.len 0 1) i 0) × (get_or (set at.len 0 1) i 0 ≤ get_or at.len i 0)
    kept i h later = (omega (arith, set_later at.len i later, is.positive i h), omega (arith, set_later at.len i later))

    one : (i : ℕ) → i < at.n → i ≤ 0 → (1 ≤ get_or (set at.len 0 1) i 0) × (get_or (set at.len 0 1) i 0 ≤ get_or at.len i 0)
    one i h first =
        let zero_is : i ≡ 0 = omega arith in
        let here = ap (λ j. get_or (set at.len 0 1) j 0) zero_is ∙ set_first at.len (omega (arith, long)) in
        (omega (arith, here), omega (arith, here, is.positive i h))

axes_are : (tile cutout : Axes) (part : Part) (rows : Axes) → AreRows tile cutout part rows → (part.inside.n ≡ tile.n) × (part.at.n ≡ tile.n) × (1 ≤ tile.n) × (tile.n ≤ 9)
axes_are tile cutout part rows are =
    let b = are.between in
    (b.inside.same_axes, b.at.same_axes ∙ b.same_axes, b.tile_is.some, b.tile_is.axes)

-- a part has as many picks along each axis as its box has pixels
pub counts_are : (tile cutout : Axes) (part : Part) (rows : Axes) → AreRows tile cutout part rows → region_lengths part.at ≡ sieve_lengths part.inside
counts_are tile cutout part rows are =
    let n = axes_are tile cutout part rows are in
    let few = n.3 in
    let same : part.at.n ≡ part.inside.n = n.1 ∙ sym n.0 in
    ap (λ m. take m part.at.len) same
    ∙ counts_list part.at.len part.inside.lo part.inside.hi part.inside.step part.inside.n (omega (arith, are.at_len, few, n.0)) (omega (arith, are.lo, few, n.0)) (omega (arith, are.hi, few, n.0)) (omega (arith, are.step, few, n.0)) (λ i h. are.between.counts i (omega (arith, n.0)))

rows_are : (tile cutout : Axes) (part : Part) (rows : Axes) → AreRows tile cutout part rows → lengths_of rows ≡ 1 ∷ rest_of (region_lengths part.at)
rows_are tile cutout part rows are =
    let n = axes_are tile cutout part rows are in
    ap (λ m. take m rows.len) are.rows_n
    ∙ (ap (take part.at.n) are.rows_len ∙ front_set part.at.len part.at.n (omega (arith, n.1, n.2)) (omega (arith, are.at_len)))

long_of : (xs : List ℕ) (n m : ℕ) → n ≡ m → 1 ≤ m → m ≤ 9 → length xs ≡ 9 → 0 < length (take n xs)
long_of xs n m same some few long = omega (arith, length-take n xs)

pub in_tile_are : PlaceLaws → (tile cutout : Axes) (part : Part) (rows : Axes) → AreRows tile cutout part rows → lines_in_tile (map (nth_line tile cutout part rows) (range_with_len 0 (product (lengths_of rows)))) ≡ picked_places (lengths_of tile) part.inside
in_tile_are laws tile cutout part rows are =
    let n = axes_are tile cutout part rows are in
    let some = n.2 in
    let few = n.3 in
    let cs = region_lengths part.at in
    let counts = counts_are tile cutout part rows are in
    let gap : get_or part.inside.step 0 0 ≡ get_or (sieve_step part.inside) 0 0 = sym (get_or-take part.inside.n part.inside.step 0 0 (omega (arith, n.0, some))) in
    let count : get_or part.at.len 0 0 ≡ get_or cs 0 0 = sym (get_or-take part.at.n part.at.len 0 0 (omega (arith, n.1, some))) in
    flat_map-map line_in_tile (nth_line tile cutout part rows) (range_with_len 0 (product (lengths_of rows)))
    ∙ (tile_rows laws (lengths_of tile) (sieve_lo part.inside) (sieve_step part.inside) cs (lengths_of rows) (get_or part.inside.step 0 0) (get_or part.at.len 0 0)
    (long_of tile.len tile.n tile.n refl some few are.tile_len)
    (long_of part.inside.lo part.inside.n tile.n n.0 some few are.lo)
    (long_of part.inside.step part.inside.n tile.n n.0 some few are.step)
    (long_of part.at.len part.at.n tile.n n.1 some few are.at_len)
    gap
    count
    (rows_are tile cutout part rows are)
    ∙ ap (λ l. map (λ k. place_of (lengths_of tile) (stepped (sieve_lo part.inside) (sieve_step part.inside) k)) (box_coordinates l)) counts)

pub in_cutout_are : PlaceLaws → (tile cutout : Axes) (part : Part) (rows : Axes) → AreRows tile cutout part rows → lines_in_cutout (map (nth_line tile cutout part rows) (range_with_len 0 (product (lengths_of rows)))) ≡ places_of (lengths_of cutout) (region_corner part.at) (region_lengths part.at)
in_cutout_are laws tile cutout part rows are =
    let n = axes_are tile cutout part rows are in
    let some = n.2 in
    let few = n.3 in
    let cs = region_lengths part.at in
    let of_cutout = are.between.same_axes in
    let count : get_or part.at.len 0 0 ≡ get_or cs 0 0 = sym (get_or-take part.at.n part.at.len 0 0 (omega (arith, n.1, some))) in
    flat_map-map line_in_cutout (nth_line tile cutout part rows) (range_with_len 0 (product (lengths_of rows)))
    ∙ cutout_rows laws (lengths_of cutout) (region_corner part.at) cs (lengths_of rows) (get_or part.at.len 0 0)
    (long_of cutout.len cutout.n tile.n of_cutout some few are.cutout_len)
    (long_of part.at.lo part.at.n tile.n n.1 some few are.at_lo)
    (long_of part.at.len part.at.n tile.n n.1 some few are.at_len)
    count
    (rows_are tile cutout part rows are)

-- a pixel of a region is a place of its array
region_inside : (shape : Axes) (region : Region) (ks : List ℕ) → shape.n ≤ length shape.len → shape.n ≤ length region.lo → shape.n ≤ length region.len → IsWithin shape region → AreCoordinatesOf (region_lengths region) ks → AreCoordinatesOf (lengths_of shape) (moved (region_corner region) ks)
region_inside shape region ks in_shape in_lo in_len within are =
    let same = within.same_axes in
    let of_shape : length (lengths_of shape) ≡ shape.n = length-take shape.n shape.len ∙ omega arith in
    let of_lo : length (region_corner region) ≡ shape.n = length-take region.n region.lo ∙ omega (arith, same) in
    let of_len : length (region_lengths region) ≡ shape.n = length-take region.n region.len ∙ omega (arith, same) in
    let of_ks : length ks ≡ length (region_corner region) = are.axes ∙ (of_len ∙ sym of_lo) in
    record {
      axes = moved_length (region_corner region) ks of_ks ∙ (of_lo ∙ sym of_shape);
      below =
          λ i h.
          let here : i < shape.n = omega (arith, of_shape) in
          let in_region : i < region.n = omega (arith, same) in
          let at_lo = get_or-take region.n region.lo i 0 in_region in
          let at_len = get_or-take region.n region.len i 0 in_region in
          let at_shape = get_or-take shape.n shape.len i 0 here in
          let at_moved = moved_at (region_corner region) ks i of_ks (omega (arith, of_lo)) in
          let below = are.below i (omega (arith, of_len)) in
          omega (arith, at_lo, at_len, at_shape, at_moved, below, within.inside i here);
    }

pub lines_within : PlaceLaws → (tile cutout : Axes) (part : Part) (rows : Axes) (count : ℕ) → AreRows tile cutout part rows → AllByRecursion (IsLineWithin (product (lengths_of tile)) (product (lengths_of cutout))) (map (nth_line tile cutout part rows) (range_with_len 0 count))
lines_within laws tile cutout part rows count are =
    let n = axes_are tile cutout part rows are in
    let some = n.2 in
    let few = n.3 in
    let cs = region_lengths part.at in
    let of_cutout = are.between.same_axes in
    let counts = counts_are tile cutout part rows are in
    let gap : get_or part.inside.step 0 0 ≡ get_or (sieve_step part.inside) 0 0 = sym (get_or-take part.inside.n part.inside.step 0 0 (omega (arith, n.0, some))) in
    let many : get_or part.at.len 0 0 ≡ get_or cs 0 0 = sym (get_or-take part.at.n part.at.len 0 0 (omega (arith, n.1, some))) in
    let sifts = sifts_of tile part.inside (omega (arith, are.tile_len, few)) (omega (arith, are.lo, few)) (omega (arith, are.hi, few)) (omega (arith, are.step, few)) are.between.inside in
    let positive : (i : ℕ) → i < length cs → 1 ≤ get_or cs i 0 = λ i h.
    let in_at : i < part.at.n = omega (arith, length-take part.at.n part.at.len) in
    omega (arith, get_or-take part.at.n part.at.len i 0 in_at, are.between.at.positive i (omega (arith, are.between.at.same_axes))) in
    each_of (IsLineWithin (product (lengths_of tile)) (product (lengths_of cutout))) (nth_line tile cutout part rows) (range_with_len 0 count) (λ k.
    record {
      some = are.between.at.positive 0 (omega (arith, of_cutout, some));
      step = are.between.inside.positive 0 (omega (arith, some));
      tile = tile_end laws (lengths_of tile) (sieve_lo part.inside) (sieve_step part.inside) cs (lengths_of rows) (get_or part.inside.step 0 0) (get_or part.at.len 0 0) k
          (long_of tile.len tile.n tile.n refl some few are.tile_len)
          (long_of part.inside.lo part.inside.n tile.n n.0 some few are.lo)
          (long_of part.inside.step part.inside.n tile.n n.0 some few are.step)
          (long_of part.at.len part.at.n tile.n n.1 some few are.at_len)
          gap
          many
          (rows_are tile cutout part rows are)
          positive
          (λ ks of_ks. pick_inside (lengths_of tile) (sieve_lo part.inside) (sieve_hi part.inside) (sieve_step part.inside) ks sifts (subst (λ l. AreCoordinatesOf l ks) counts of_ks));
      cutout = cutout_end laws (lengths_of cutout) (region_corner part.at) cs (lengths_of rows) (get_or part.at.len 0 0) k
          (long_of cutout.len cutout.n tile.n of_cutout some few are.cutout_len)
          (long_of part.at.lo part.at.n tile.n n.1 some few are.at_lo)
          (long_of part.at.len part.at.n tile.n n.1 some few are.at_len)
          many
          (rows_are tile cutout part rows are)
          positive
          (λ ks of_ks. region_inside cutout part.at ks (omega (arith, are.cutout_len, of_cutout, few)) (omega (arith, are.at_lo, of_cutout, few)) (omega (arith, are.at_len, of_cutout, few)) are.between.at of_ks);
    })
