-- Arrays with the lengths of their tiles, as lists.
use Rattle.std.proofs.Common.{◌≡◌, ℕ, suc, zero, ◌+◌, ◌-◌, ◌*◌, ◌/◌, ◌%◌, ◌<◌, ◌≤◌, min, List, [], ◌∷◌, length, get_or, refl, ap, sym, ◌∙◌, arith, length-take}
use Rattle.std.proofs.lemmas.List.{get_or-take}
use Rattle.std.proofs.lemmas.Nat.{mul-le}
use Rattle.std.proofs.Math.Nat.{zero-mod, zero-div}
use Rattle.fz_block.specs.declared.axes.Axes.{Axes}
use Rattle.fz_grid.specs.Arrays.{product}
use Rattle.fz_grid.specs.Grid.{tile_corner, tile_counts, tile_lengths}
use Rattle.fz_grid.specs.Region.{IsDivided, lengths_of}
use Rattle.fz_grid.proofs.BoxLemmas.{IsBox}
use Rattle.fz_grid.proofs.GridLemmas.{count_pos, digit_inside, tiles_on}
use Rattle.fz_grid.proofs.Lists.{AllPositive, long_enough}

-- an array and its tile have a place along each axis
pub record IsCut (array tile : List ℕ) : Type 0 where
  pub same : length tile ≡ length array
  pub some : (i : ℕ) → i < length array → 1 ≤ get_or array i 0
  pub positive : (i : ℕ) → i < length array → 1 ≤ get_or tile i 0

pub cut_tail : (n t : ℕ) (ns ts : List ℕ) → IsCut (n ∷ ns) (t ∷ ts) → IsCut ns ts
cut_tail n t ns ts cut =
    record {
      same = omega (arith, cut.same);
      some = λ i h. cut.some (suc i) (omega arith);
      positive = λ i h. cut.positive (suc i) (omega arith);
    }

-- a tile has a length above 0 along each axis, and is no longer than the array
pub record IsTiling (array tile : List ℕ) : Type 0 where
  pub same : length tile ≡ length array
  pub positive : (i : ℕ) → i < length array → 1 ≤ get_or tile i 0
  pub inside : (i : ℕ) → i < length array → get_or tile i 0 ≤ get_or array i 0

pub tiling_tail : (n t : ℕ) (ns ts : List ℕ) → IsTiling (n ∷ ns) (t ∷ ts) → IsTiling ns ts
tiling_tail n t ns ts tiling =
    record {
      same = omega (arith, tiling.same);
      positive = λ i h. tiling.positive (suc i) (omega arith);
      inside = λ i h. tiling.inside (suc i) (omega arith);
    }

pub cut_of : (ns ts : List ℕ) → IsTiling ns ts → IsCut ns ts
cut_of ns ts tiling =
    record {
      same = tiling.same;
      some = λ i h. omega (arith, tiling.positive i h, tiling.inside i h);
      positive = tiling.positive;
    }

pub tiling_of : (shape tile : Axes) → IsDivided shape tile → IsTiling (lengths_of shape) (lengths_of tile)
tiling_of shape tile divided =
    let tile_len = long_enough tile.len shape.n divided.positive in
    let shape_len = long_enough shape.len shape.n (λ i h. omega (arith, divided.positive i h, divided.inside i h)) in
    record {
      same = omega (arith, length-take shape.n shape.len, length-take tile.n tile.len, divided.same_axes, shape_len, tile_len);
      positive =
          λ i h.
          let in_shape : i < shape.n = omega (arith, length-take shape.n shape.len) in
          let in_tile : i < tile.n = omega (arith, divided.same_axes) in
          rw (get_or-take tile.n tile.len i 0 in_tile) (divided.positive i in_shape);
      inside =
          λ i h.
          let in_shape : i < shape.n = omega (arith, length-take shape.n shape.len) in
          let in_tile : i < tile.n = omega (arith, divided.same_axes) in
          rw (get_or-take tile.n tile.len i 0 in_tile, get_or-take shape.n shape.len i 0 in_shape) (divided.inside i in_shape);
    }

pub counts_length : (ns ts : List ℕ) → length ts ≡ length ns → length (tile_counts ns ts) ≡ length ns
counts_length [] ts same = refl
counts_length (n ∷ ns) [] same = absurd (omega arith)
counts_length (n ∷ ns) (t ∷ ts) same = ap suc (counts_length ns ts (omega arith))

pub counts_positive : (ns ts : List ℕ) → IsCut ns ts → AllPositive (tile_counts ns ts)
unfolding AllPositive
counts_positive [] ts cut i h = absurd (omega arith)
counts_positive (n ∷ ns) [] cut i h = absurd (omega arith)
counts_positive (n ∷ ns) (t ∷ ts) cut zero h = count_pos n t (cut.positive zero (omega arith)) (cut.some zero (omega arith))
counts_positive (n ∷ ns) (t ∷ ts) cut (suc i) h = counts_positive ns ts (cut_tail n t ns ts cut) i (omega arith)

pub lens_length : (ns ts : List ℕ) (d : ℕ) → length ts ≡ length ns → length (tile_lengths ns ts d) ≡ length ns
lens_length [] ts d same = refl
lens_length (n ∷ ns) [] d same = absurd (omega arith)
lens_length (n ∷ ns) (t ∷ ts) d same = ap suc (lens_length ns ts (d / tiles_on n t) (omega arith))

-- each tile has a place along each axis
pub lens_positive : (ns ts : List ℕ) (d : ℕ) → IsCut ns ts → AllPositive (tile_lengths ns ts d)
unfolding AllPositive
lens_positive [] ts d cut i h = absurd (omega arith)
lens_positive (n ∷ ns) [] d cut i h = absurd (omega arith)
lens_positive (n ∷ ns) (t ∷ ts) d cut zero h =
    let tile = cut.positive zero (omega arith) in
    let inside = digit_inside n t d (tiles_on n t) tile (cut.some zero (omega arith)) refl in
    omega (arith, tile, inside)
lens_positive (n ∷ ns) (t ∷ ts) d cut (suc i) h = lens_positive ns ts (d / tiles_on n t) (cut_tail n t ns ts cut) i (omega arith)

-- and is no longer than a whole tile
pub lens_le : (ns ts : List ℕ) (d : ℕ) → length ts ≡ length ns → (i : ℕ) → i < length ns → get_or (tile_lengths ns ts d) i 0 ≤ get_or ts i 0
lens_le [] ts d same i h = absurd (omega arith)
lens_le (n ∷ ns) [] d same i h = absurd (omega arith)
lens_le (n ∷ ns) (t ∷ ts) d same zero h = omega arith
lens_le (n ∷ ns) (t ∷ ts) d same (suc i) h = lens_le ns ts (d / tiles_on n t) (omega arith) i (omega arith)

-- tile 0 is not cut short
pub first_whole : (ns ts : List ℕ) → IsTiling ns ts → tile_lengths ns ts 0 ≡ ts
first_whole [] [] tiling = refl
first_whole [] (t ∷ ts) tiling = absurd (omega (arith, tiling.same))
first_whole (n ∷ ns) [] tiling = absurd (omega (arith, tiling.same))
first_whole (n ∷ ns) (t ∷ ts) tiling =
    let g = tiles_on n t in
    let digit : 0 % g ≡ 0 = zero-mod g in
    let rest : 0 / g ≡ 0 = zero-div g in
    let inside = tiling.inside zero (omega arith) in
    let whole : min t (n - 0 % g * t) ≡ t = rw digit (omega (arith, inside)) in
    ap (λ m. m ∷ tile_lengths ns ts (0 / g)) whole ∙ (ap (λ d. t ∷ tile_lengths ns ts d) rest ∙ ap (λ l. t ∷ l) (first_whole ns ts (tiling_tail n t ns ts tiling)))

pub corner_length : (ns ts : List ℕ) (d : ℕ) → length ts ≡ length ns → length (tile_corner ns ts d) ≡ length ns
corner_length [] ts d same = refl
corner_length (n ∷ ns) [] d same = absurd (omega arith)
corner_length (n ∷ ns) (t ∷ ts) d same = ap suc (corner_length ns ts (d / tiles_on n t) (omega arith))

-- each tile ends within the array
pub tile_inside : (ns ts : List ℕ) (d : ℕ) → IsCut ns ts → (i : ℕ) → i < length ns → get_or (tile_corner ns ts d) i 0 + get_or (tile_lengths ns ts d) i 0 ≤ get_or ns i 0
tile_inside [] ts d cut i h = absurd (omega arith)
tile_inside (n ∷ ns) [] d cut i h = absurd (omega (arith, cut.same))
tile_inside (n ∷ ns) (t ∷ ts) d cut zero h =
    let inside = digit_inside n t d (tiles_on n t) (cut.positive zero (omega arith)) (cut.some zero (omega arith)) refl in
    omega (arith, inside)
tile_inside (n ∷ ns) (t ∷ ts) d cut (suc i) h = tile_inside ns ts (d / tiles_on n t) (cut_tail n t ns ts cut) i (omega arith)

pub tile_is_box : (ns ts : List ℕ) (d : ℕ) → IsCut ns ts → IsBox ns (tile_corner ns ts d) (tile_lengths ns ts d)
unfolding AllPositive
tile_is_box ns ts d cut =
    record {
      same_corner = corner_length ns ts d cut.same;
      same_lengths = lens_length ns ts d cut.same;
      positive = λ i h. lens_positive ns ts d cut i (omega (arith, lens_length ns ts d cut.same));
      inside = tile_inside ns ts d cut;
    }

pub shape_long : (shape tile : Axes) → IsDivided shape tile → shape.n ≤ length shape.len
shape_long shape tile divided = long_enough shape.len shape.n (λ i h. omega (arith, divided.positive i h, divided.inside i h))

pub product_mono : (xs ys : List ℕ) → length xs ≡ length ys → ((i : ℕ) → i < length xs → get_or xs i 0 ≤ get_or ys i 0) → product xs ≤ product ys
product_mono [] [] same below = omega arith
product_mono [] (y ∷ ys) same below = absurd (omega arith)
product_mono (x ∷ xs) [] same below = absurd (omega arith)
product_mono (x ∷ xs) (y ∷ ys) same below =
    mul-le x (product xs) y (product ys) (below zero (omega arith)) (product_mono xs ys (omega arith) (λ i h. below (suc i) (omega arith)))

-- no tile has more pixels than tile 0
pub first_largest : (ns ts : List ℕ) (d : ℕ) → IsTiling ns ts → product (tile_lengths ns ts d) ≤ product (tile_lengths ns ts 0)
first_largest ns ts d tiling =
    let long = lens_length ns ts d tiling.same in
    let below = product_mono (tile_lengths ns ts d) ts (long ∙ sym tiling.same) (λ i h. lens_le ns ts d tiling.same i (omega (arith, long))) in
    omega (arith, ap product (first_whole ns ts tiling), below)
