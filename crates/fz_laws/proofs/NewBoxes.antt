-- The pixels of a box are the picks of its sieve.
use Rattle.std.specs.Prelude.{⊤}
use Rattle.std.proofs.Common.{◌≡◌, ◌⊎◌, ℕ, zero, suc, ◌+◌, ◌-◌, ◌*◌, ◌/◌, ◌<◌, ◌≤◌, ◌&&◌, nat_le, nat_lt, Bool, true, false, cond, IsTrue, ℤ, List, [], ◌∷◌, length, take, filter, replicate, Contains, slice_index, slice_index_or, inl, inr, refl, sym, ap, ◌∙◌, subst, arith, leb-true, ltb-true, zero-add}
use Rattle.std.specs.List.{range_with_len}
use Rattle.std.proofs.Math.Seq.{take-append_seam}
use Rattle.std.proofs.lemmas.List.FromFn.{get_or-map-range_with_len, length-map-range_with_len}
use Rattle.fz_grid.specs.Arrays.{at, coordinates_of, product}
use Rattle.fz_grid.specs.Division.{AreTileLengths}
use Rattle.fz_grid.specs.Grid.{moved, tile_coordinates, tile_corner, tile_count, tile_lengths}
use Rattle.fz_grid.specs.Overlap.{IsInBox, has_pixel}
use Rattle.fz_grid.specs.Region.{lengths_of}
use Rattle.fz_grid.specs.Sieve.{IsPick, IsPickOn, picked_tiles, sieve_hi, sieve_lo, sieve_step}
use Rattle.fz_grid.specs.Cutout.{Sifts, part_lengths}
use Rattle.fz_grid.specs.CutoutLaws.{PartsAreOfTilesWithAPick}
use Rattle.fz_laws.specs.Given.{Given, box_sieve, last_along, nine_numbers}
use Rattle.fz_laws.specs.PatchLaws.{OthersKeepNumbers}
use Rattle.fz_laws.specs.NewNumbers.{from_corner, is_in_box, new_at, new_number}
use Rattle.fz_laws.specs.PatchTaken.{PlaceLaws}
use Rattle.fz_laws.proofs.NewTiles.{Below, below_by_axes, pixel_inside, tile_order}
use Rattle.fz_laws.proofs.Passes.{and_left, and_right, same_or_more}

-- ---- the sieve

pub los : (g : Given) → sieve_lo (box_sieve g) ≡ g.corner
los g = take-append_seam g.corner (replicate (9 - length g.corner) 0)

pub last_length : (os ns : List ℕ) → length os ≤ length ns → length (last_along os ns) ≡ length os
last_length [] ns long = refl
last_length (o ∷ os) [] long = absurd (omega arith)
last_length (o ∷ os) (n ∷ ns) long = ap suc (last_length os ns (omega arith))

pub his : (g : Given) → length g.corner ≤ length g.array.lengths → sieve_hi (box_sieve g) ≡ last_along g.corner g.array.lengths
his g long =
    let lasts : List ℕ = last_along g.corner g.array.lengths in
    ap (λ k. take k (nine_numbers lasts)) (sym (last_length g.corner g.array.lengths long)) ∙ take-append_seam lasts (replicate (9 - length lasts) 0)

pub ones_length : (n : ℕ) → length {A = ℕ} (replicate n 1) ≡ n
ones_length zero = refl
ones_length (suc n) = ap suc (ones_length n)

pub steps : (g : Given) → sieve_step (box_sieve g) ≡ replicate (length g.corner) 1
steps g =
    let ones : List ℕ = replicate (length g.corner) 1 in
    ap (λ k. take k (nine_numbers ones)) (sym (ones_length (length g.corner))) ∙ take-append_seam ones (replicate (9 - length ones) 0)

pub one_at : (n i : ℕ) → i < n → slice_index (replicate {A = ℕ} n 1) i ≡ 1
one_at zero i less = absurd (omega arith)
one_at (suc n) zero less = refl
one_at (suc n) (suc i) less = one_at n i (omega arith)

pub last_at : (os ns : List ℕ) (i : ℕ) → i < length os → length os ≤ length ns → slice_index (last_along os ns) i ≡ slice_index os i + slice_index ns i - 1
last_at [] ns i less long = absurd (omega arith)
last_at (o ∷ os) [] i less long = absurd (omega arith)
last_at (o ∷ os) (n ∷ ns) zero less long = refl
last_at (o ∷ os) (n ∷ ns) (suc i) less long = last_at os ns i (omega arith) (omega arith)

-- ---- coordinates in the box

pub in_box_long : (os ns cs : List ℕ) → is_in_box os ns cs ≡ true → (length os ≤ length ns) × (length os ≤ length cs)
in_box_long [] ns cs e = (omega arith, omega arith)
in_box_long (o ∷ os) [] cs e = absurd cc
in_box_long (o ∷ os) (n ∷ ns) [] e = absurd cc
in_box_long (o ∷ os) (n ∷ ns) (c ∷ cs) e =
    let rest = in_box_long os ns cs (and_right (nat_lt c (o + n)) (is_in_box os ns cs) (and_right (nat_le o c) (nat_lt c (o + n) && is_in_box os ns cs) e)) in
    let one = rest.0 in
    let two = rest.1 in
    (omega arith, omega arith)

pub in_box_at : (os ns cs : List ℕ) → is_in_box os ns cs ≡ true → (i : ℕ) → i < length os → (slice_index os i ≤ slice_index cs i) × (slice_index cs i < slice_index os i + slice_index ns i)
in_box_at [] ns cs e i less = absurd (omega arith)
in_box_at (o ∷ os) [] cs e i less = absurd cc
in_box_at (o ∷ os) (n ∷ ns) [] e i less = absurd cc
in_box_at (o ∷ os) (n ∷ ns) (c ∷ cs) e zero less =
    let first : o ≤ c = leb-true o c (and_left (nat_le o c) (nat_lt c (o + n) && is_in_box os ns cs) e) in
    let next : c < o + n = ltb-true c (o + n) (and_left (nat_lt c (o + n)) (is_in_box os ns cs) (and_right (nat_le o c) (nat_lt c (o + n) && is_in_box os ns cs) e)) in
    (first, next)
in_box_at (o ∷ os) (n ∷ ns) (c ∷ cs) e (suc i) less =
    in_box_at os ns cs (and_right (nat_lt c (o + n)) (is_in_box os ns cs) (and_right (nat_le o c) (nat_lt c (o + n) && is_in_box os ns cs) e)) i (omega arith)

pick_by_one : (lo c hi step : ℕ) → step ≡ 1 → lo ≤ c → c ≤ hi → IsPickOn lo hi step c
pick_by_one lo c hi step one low high =
    let place : c ≡ lo + (c - lo) * 1 = omega arith in
    (c - lo, place ∙ ap (λ s. lo + (c - lo) * s) (sym one), high)

pub in_box_pick : (g : Given) (c : List ℕ) → length c ≡ length g.corner → is_in_box g.corner g.array.lengths c ≡ true → IsPick (sieve_lo (box_sieve g)) (sieve_hi (box_sieve g)) (sieve_step (box_sieve g)) c
in_box_pick g c same inside =
    let long = (in_box_long g.corner g.array.lengths c inside).0 in
    subst (λ l. IsPick l (sieve_hi (box_sieve g)) (sieve_step (box_sieve g)) c) (sym (los g))
    (subst (λ l. IsPick g.corner l (sieve_step (box_sieve g)) c) (sym (his g long))
    (subst (λ l. IsPick g.corner (last_along g.corner g.array.lengths) l c) (sym (steps g))
    (record { axes = same; on = one_axis long })))
  where
    one_axis : length g.corner ≤ length g.array.lengths → (i : ℕ) → i < length g.corner →
        IsPickOn (slice_index g.corner i) (slice_index (last_along g.corner g.array.lengths) i) (slice_index (replicate (length g.corner) 1) i) (slice_index c i)
    one_axis long i less =
        let both = in_box_at g.corner g.array.lengths c inside i less in
        let low = both.0 in
        let high = both.1 in
        let last = last_at g.corner g.array.lengths i less long in
        pick_by_one (slice_index g.corner i) (slice_index c i) (slice_index (last_along g.corner g.array.lengths) i) (slice_index (replicate (length g.corner) 1) i) (one_at (length g.corner) i less) low (omega arith)

-- ---- a pixel of a tile lies in the box of the tile

moved_length : (os cs : List ℕ) → length cs ≡ length os → length (moved os cs) ≡ length os
moved_length [] cs same = refl
moved_length (o ∷ os) [] same = absurd (omega arith)
moved_length (o ∷ os) (c ∷ cs) same = ap suc (moved_length os cs (omega arith))

moved_at : (os cs : List ℕ) (i : ℕ) → i < length os → length cs ≡ length os → slice_index (moved os cs) i ≡ slice_index os i + slice_index cs i
moved_at [] cs i less same = absurd (omega arith)
moved_at (o ∷ os) [] i less same = absurd (omega arith)
moved_at (o ∷ os) (c ∷ cs) zero less same = refl
moved_at (o ∷ os) (c ∷ cs) (suc i) less same = moved_at os cs i (omega arith) (omega arith)

-- ---- a tile that is picked

pub kept : (test : ℕ → Bool) (a n t : ℕ) → a ≤ t → t < a + n → test t ≡ true → Contains (filter test (range_with_len a n)) t
kept test a zero t low high passes = absurd (omega arith)
kept test a (suc n) t low high passes = by_place (λ more. kept test (a + 1) n t more (omega arith) passes) (same_or_more a t low)
  where
    here : a ≡ t → Contains (filter test (range_with_len a (suc n))) t
    here same =
        let yes : test a ≡ true = ap test same ∙ passes in
        subst (λ b. Contains (cond b (a ∷ filter test (range_with_len (a + 1) n)) (filter test (range_with_len (a + 1) n))) t) (sym yes) (0, omega arith, same)

    later : (b : Bool) (rest : List ℕ) → Contains rest t → Contains (cond b (a ∷ rest) rest) t
    later true rest is = let below = is.1 in (suc is.0, omega arith, is.2)
    later false rest is = is

    by_place : (a + 1 ≤ t → Contains (filter test (range_with_len (a + 1) n)) t) → (a ≡ t) ⊎ (a + 1 ≤ t) → Contains (filter test (range_with_len a (suc n))) t
    by_place rest (inl same) = here same
    by_place rest (inr more) = later (test a) (filter test (range_with_len (a + 1) n)) (rest more)

is_true : (b : Bool) → IsTrue b → b ≡ true
is_true b e = e

pub corner_length : (ns ts : List ℕ) (k : ℕ) → length ts ≡ length ns → length (tile_corner ns ts k) ≡ length ns
corner_length [] ts k same = refl
corner_length (n ∷ ns) [] k same = absurd (omega arith)
corner_length (n ∷ ns) (t ∷ ts) k same = ap suc (corner_length ns ts (k / ((n + (t - 1)) / t)) (omega arith))

below_length : (cs ns : List ℕ) → Below cs ns → length cs ≡ length ns
below_length [] [] are = refl
below_length [] (n ∷ ns) are = absurd are
below_length (c ∷ cs) [] are = absurd are
below_length (c ∷ cs) (n ∷ ns) are = ap suc (below_length cs ns are.1)

below_at : (cs ns : List ℕ) → Below cs ns → (i : ℕ) → i < length cs → slice_index cs i < slice_index ns i
below_at [] ns are i less = absurd (omega arith)
below_at (c ∷ cs) [] are i less = absurd are
below_at (c ∷ cs) (n ∷ ns) are zero less = are.0
below_at (c ∷ cs) (n ∷ ns) are (suc i) less = below_at cs ns are.1 i (omega arith)

pub tile_lengths_length : (ns ts : List ℕ) (k : ℕ) → length ts ≡ length ns → length (tile_lengths ns ts k) ≡ length ns
tile_lengths_length [] ts k same = refl
tile_lengths_length (n ∷ ns) [] k same = absurd (omega arith)
tile_lengths_length (n ∷ ns) (t ∷ ts) k same = ap suc (tile_lengths_length ns ts (k / ((n + (t - 1)) / t)) (omega arith))

in_tile_box : (corner lens cs : List ℕ) → length lens ≡ length corner → Below cs lens → IsInBox corner lens (moved corner cs)
in_tile_box corner lens cs same below =
    let long : length cs ≡ length corner = below_length cs lens below ∙ same in
    record { axes = moved_length corner cs long; from = low long; before = high long }
  where
    low : length cs ≡ length corner → (i : ℕ) → i < length corner → slice_index corner i ≤ slice_index (moved corner cs) i
    low long i less = let at = moved_at corner cs i less long in omega arith

    high : length cs ≡ length corner → (i : ℕ) → i < length corner → slice_index (moved corner cs) i < slice_index corner i + slice_index lens i
    high long i less =
        let at = moved_at corner cs i less long in
        let under = below_at cs lens below i (omega arith) in
        omega arith

new_at_same : (g : Given) (cs : List (List ℕ)) (xs : List ℤ) → length cs ≡ length xs → ((k : ℕ) → k < length cs → is_in_box g.corner g.array.lengths (slice_index_or cs k []) ≡ false) → new_at g cs xs ≡ xs
new_at_same g [] [] same out = refl
new_at_same g [] (x ∷ xs) same out = absurd (omega arith)
new_at_same g (c ∷ cs) [] same out = absurd (omega arith)
new_at_same g (c ∷ cs) (x ∷ xs) same out =
    let some : 0 < length (c ∷ cs) = omega arith in
    let here : new_number g c x ≡ x = ap (λ b. cond b (at g.array (from_corner g.corner c)) x) (out 0 some) in
    let rest : new_at g cs xs ≡ xs = new_at_same g cs xs (omega arith) (λ k less. out (suc k) (omega arith)) in
    λ j. here j ∷ rest j

module _ (laws : PlaceLaws) (parts : PartsAreOfTilesWithAPick) (array lengths : List ℕ) (g : Given) (t : ℕ) (are : AreTileLengths array lengths) (sifts : Sifts array (box_sieve g)) where
  corner_axes : length g.corner ≡ length array
  corner_axes = ap length (sym (los g)) ∙ sifts.los

  -- a tile with a pixel in the box is picked
  pub picked_if : (k : ℕ) → k < product (tile_lengths array lengths t) →
      is_in_box g.corner g.array.lengths (moved (tile_corner array lengths t) (coordinates_of (tile_lengths array lengths t) k)) ≡ true → t < tile_count array lengths →
      Contains (picked_tiles array lengths (sieve_lo (box_sieve g)) (sieve_hi (box_sieve g)) (sieve_step (box_sieve g))) t
  picked_if k less inside within =
      let c : List ℕ = moved (tile_corner array lengths t) (coordinates_of (tile_lengths array lengths t) k) in
      let lies : Below c array = pixel_inside laws array lengths t k are.axes less in
      let axes : length c ≡ length g.corner = below_length c array lies ∙ sym corner_axes in
      let own : Below (coordinates_of (tile_lengths array lengths t) k) (tile_lengths array lengths t) =
      below_by_axes (coordinates_of (tile_lengths array lengths t) k) (tile_lengths array lengths t) (laws.numbers (tile_lengths array lengths t) k less).0 in
      let sizes : length (tile_lengths array lengths t) ≡ length (tile_corner array lengths t) = tile_lengths_length array lengths t are.axes ∙ sym (corner_length array lengths t are.axes) in
      let shared : IsTrue (has_pixel (part_lengths array lengths (box_sieve g) t)) =
      (parts array lengths (box_sieve g) t are sifts).1
      (c, in_box_pick g c axes inside, in_tile_box (tile_corner array lengths t) (tile_lengths array lengths t) (coordinates_of (tile_lengths array lengths t) k) sizes own) in
      kept (λ s. has_pixel (part_lengths array lengths (box_sieve g) s)) 0 (tile_count array lengths) t (omega arith) (omega arith) (is_true (has_pixel (part_lengths array lengths (box_sieve g) t)) shared)

  -- and a pixel of another is not in the box
  pub out_if : t < tile_count array lengths → ¬ Contains (picked_tiles array lengths (sieve_lo (box_sieve g)) (sieve_hi (box_sieve g)) (sieve_step (box_sieve g))) t →
      (k : ℕ) → k < product (tile_lengths array lengths t) →
      is_in_box g.corner g.array.lengths (moved (tile_corner array lengths t) (coordinates_of (tile_lengths array lengths t) k)) ≡ false
  out_if within other k less = by_test (is_in_box g.corner g.array.lengths (moved (tile_corner array lengths t) (coordinates_of (tile_lengths array lengths t) k))) refl
    where
      by_test : (b : Bool) → is_in_box g.corner g.array.lengths (moved (tile_corner array lengths t) (coordinates_of (tile_lengths array lengths t) k)) ≡ b → b ≡ false
      by_test true e = absurd (other (picked_if k less e within))
      by_test false e = refl

pub coordinates_count : PlaceLaws → (array lengths : List ℕ) (t : ℕ) → length (tile_coordinates array lengths t) ≡ product (tile_lengths array lengths t)
coordinates_count laws array lengths t =
    ap length (tile_order laws.order array lengths t)
    ∙ length-map-range_with_len (λ k. moved (tile_corner array lengths t) (coordinates_of (tile_lengths array lengths t) k)) 0 (product (tile_lengths array lengths t))

pub nth_coordinates : PlaceLaws → (array lengths : List ℕ) (t k : ℕ) → k < product (tile_lengths array lengths t) →
    slice_index_or (tile_coordinates array lengths t) k [] ≡ moved (tile_corner array lengths t) (coordinates_of (tile_lengths array lengths t) k)
nth_coordinates laws array lengths t k less =
    ap (λ l. slice_index_or l k []) (tile_order laws.order array lengths t)
    ∙ get_or-map-range_with_len (λ n. moved (tile_corner array lengths t) (coordinates_of (tile_lengths array lengths t) n)) 0 (product (tile_lengths array lengths t)) k k [] less (zero-add k)

pub others_keep_numbers : PlaceLaws → PartsAreOfTilesWithAPick → OthersKeepNumbers
others_keep_numbers laws parts p g t xs are sifts within count other =
    let array : List ℕ = lengths_of p.shape in
    let lengths : List ℕ = lengths_of p.tile in
    let many : length (tile_coordinates array lengths t) ≡ product (tile_lengths array lengths t) = coordinates_count laws array lengths t in
    new_at_same g (tile_coordinates array lengths t) xs (many ∙ sym count)
    (λ k below.
    let less : k < product (tile_lengths array lengths t) = subst (λ n. k < n) many below in
    ap (is_in_box g.corner g.array.lengths) (nth_coordinates laws array lengths t k less) ∙ out_if laws parts array lengths g t are sifts within other k less)
