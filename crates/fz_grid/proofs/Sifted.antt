-- Sieves of arrays, and of arrays in tiles, as lists.
use Rattle.std.proofs.Common.{◌≡◌, ℕ, suc, zero, ◌+◌, ◌-◌, ◌*◌, ◌/◌, ◌%◌, ◌<◌, ◌≤◌, Bool, true, false, ◌&&◌, cond, ltb, List, [], ◌∷◌, length, get_or, map, take, refl, ap, sym, ◌∙◌, arith, length-take}
use Rattle.std.specs.List.{AllByRecursion, filter, flat_map, range_with_len}
use Rattle.std.proofs.lemmas.List.{get_or-take}
use Rattle.std.proofs.lemmas.List.Folds.{flat_map-map}
use Rattle.std.proofs.lemmas.Simd.{map-map}
use Rattle.std.proofs.Math.Nat.{div-le_self}
use Rattle.fz_block.specs.declared.axes.Axes.{Axes}
use Rattle.fz_grid.specs.declared.sieve.Sieve.{Sieve}
use Rattle.fz_grid.specs.Arrays.{coordinates_of, place_of, product}
use Rattle.fz_grid.specs.Grid.{box_coordinates, tile_count, tile_counts}
use Rattle.fz_grid.specs.Overlap.{has_pixel}
use Rattle.fz_grid.specs.Region.{IsDivided, lengths_of}
use Rattle.fz_grid.specs.Sieve.{IsSieveOf, pick_count, pick_counts, picked_tiles, sieve_hi, sieve_lengths, sieve_lo, sieve_step, stepped, tile_picks}
use Rattle.fz_grid.specs.Visits.{all_visited, nth_pick, nth_visited, visited, visited_count, visited_counts}
use Rattle.fz_grid.proofs.BoxLemmas.{box_digits}
use Rattle.fz_grid.proofs.Digits.{digits_below}
use Rattle.fz_grid.proofs.Filters.{filter_rows}
use Rattle.fz_grid.proofs.GridLemmas.{count_pos, tiles_on}
use Rattle.fz_grid.proofs.Lists.{AllPositive, long_enough}
use Rattle.fz_grid.proofs.PickAxes.{IsSifted, axis_visited, count_le, pick_le, picks_on}
use Rattle.fz_grid.proofs.PlaceLemmas.{AreBelow, place_lt}
use Rattle.fz_grid.proofs.Ranges.{flat_map_same, map_flat_map}
use Rattle.fz_grid.proofs.RunLemmas.{all_map}
use Rattle.fz_grid.proofs.SieveLists.{counts_list, visited_counts_list}
use Rattle.fz_grid.proofs.Tilings.{IsCut, cut_tail, product_mono}

-- a sieve of an array
pub record IsSieved (ns os hs ss : List ℕ) : Type 0 where
  pub same_lo : length os ≡ length ns
  pub same_hi : length hs ≡ length ns
  pub same_step : length ss ≡ length ns
  pub ordered : (i : ℕ) → i < length ns → get_or os i 0 ≤ get_or hs i 0
  pub inside : (i : ℕ) → i < length ns → get_or hs i 0 < get_or ns i 0
  pub positive : (i : ℕ) → i < length ns → 1 ≤ get_or ss i 0

pub sieved_tail : (n o h s : ℕ) (ns os hs ss : List ℕ) → IsSieved (n ∷ ns) (o ∷ os) (h ∷ hs) (s ∷ ss) → IsSieved ns os hs ss
sieved_tail n o h s ns os hs ss sieved =
    record {
      same_lo = omega (arith, sieved.same_lo);
      same_hi = omega (arith, sieved.same_hi);
      same_step = omega (arith, sieved.same_step);
      ordered = λ i b. sieved.ordered (suc i) (omega arith);
      inside = λ i b. sieved.inside (suc i) (omega arith);
      positive = λ i b. sieved.positive (suc i) (omega arith);
    }

pub sieved_of : (shape : Axes) (sieve : Sieve) → shape.n ≤ length shape.len → shape.n ≤ length sieve.lo → shape.n ≤ length sieve.hi → shape.n ≤ length sieve.step → IsSieveOf shape sieve → IsSieved (lengths_of shape) (sieve_lo sieve) (sieve_hi sieve) (sieve_step sieve)
sieved_of shape sieve in_shape in_lo in_hi in_step is =
    let same = is.same_axes in
    let front = length-take shape.n shape.len in
    record {
      same_lo = omega (arith, front, length-take sieve.n sieve.lo, same);
      same_hi = omega (arith, front, length-take sieve.n sieve.hi, same);
      same_step = omega (arith, front, length-take sieve.n sieve.step, same);
      ordered =
          λ i b.
          let here : i < sieve.n = omega (arith, front, same) in
          omega (arith, get_or-take sieve.n sieve.lo i 0 here, get_or-take sieve.n sieve.hi i 0 here, is.ordered i (omega (arith, same)));
      inside =
          λ i b.
          let here : i < sieve.n = omega (arith, front, same) in
          let there : i < shape.n = omega (arith, front) in
          omega (arith, get_or-take sieve.n sieve.hi i 0 here, get_or-take shape.n shape.len i 0 there, is.inside i there);
      positive =
          λ i b.
          let here : i < sieve.n = omega (arith, front, same) in
          omega (arith, get_or-take sieve.n sieve.step i 0 here, is.positive i (omega (arith, same)));
    }

-- a pick is a place of the array
pub stepped_below : (ns os hs ss ks : List ℕ) → IsSieved ns os hs ss → AreBelow (pick_counts os hs ss) ks → AreBelow ns (stepped os ss ks)
unfolding AreBelow
stepped_below [] os hs ss ks sieved below i h = absurd (omega arith)
stepped_below (n ∷ ns) [] hs ss ks sieved below i h = absurd (omega (arith, sieved.same_lo))
stepped_below (n ∷ ns) (o ∷ os) [] ss ks sieved below i h = absurd (omega (arith, sieved.same_hi))
stepped_below (n ∷ ns) (o ∷ os) (h' ∷ hs) [] ks sieved below i h = absurd (omega (arith, sieved.same_step))
stepped_below (n ∷ ns) (o ∷ os) (h' ∷ hs) (s ∷ ss) [] sieved below zero h = let inside = sieved.inside zero (omega arith) in omega (arith, inside)
stepped_below (n ∷ ns) (o ∷ os) (h' ∷ hs) (s ∷ ss) [] sieved below (suc i) h = let inside = sieved.inside (suc i) h in omega (arith, inside)
stepped_below (n ∷ ns) (o ∷ os) (h' ∷ hs) (s ∷ ss) (k ∷ ks) sieved below zero h =
    let most = pick_le o h' s k (sieved.ordered zero (omega arith)) (below zero (omega arith)) in
    omega (arith, most, sieved.inside zero (omega arith))
stepped_below (n ∷ ns) (o ∷ os) (h' ∷ hs) (s ∷ ss) (k ∷ ks) sieved below (suc i) h =
    stepped_below ns os hs ss ks (sieved_tail n o h' s ns os hs ss sieved) (λ j b. below (suc j) (omega arith)) i (omega arith)

pub pick_counts_positive : (os hs ss : List ℕ) → AllPositive (pick_counts os hs ss)
unfolding AllPositive
pick_counts_positive [] hs ss i h = absurd (omega arith)
pick_counts_positive (o ∷ os) [] ss i h = absurd (omega arith)
pick_counts_positive (o ∷ os) (h' ∷ hs) [] i h = absurd (omega arith)
pick_counts_positive (o ∷ os) (h' ∷ hs) (s ∷ ss) zero h = omega arith
pick_counts_positive (o ∷ os) (h' ∷ hs) (s ∷ ss) (suc i) h = pick_counts_positive os hs ss i (omega arith)

pub pick_lt : (ns os hs ss : List ℕ) (k : ℕ) → IsSieved ns os hs ss → nth_pick ns os ss (pick_counts os hs ss) k < product ns
pick_lt ns os hs ss k sieved =
    place_lt ns (stepped os ss (coordinates_of (pick_counts os hs ss) k)) (stepped_below ns os hs ss (coordinates_of (pick_counts os hs ss) k) sieved (digits_below (pick_counts os hs ss) k (pick_counts_positive os hs ss)))

-- the picks by their numbers
pub picks_by_number : (ns os ss counts : List ℕ) → map (λ k. place_of ns (stepped os ss k)) (box_coordinates counts) ≡ map (nth_pick ns os ss counts) (range_with_len 0 (product counts))
picks_by_number ns os ss counts =
    ap (map (λ k. place_of ns (stepped os ss k))) (box_digits counts)
    ∙ map-map (λ k. place_of ns (stepped os ss k)) (coordinates_of counts) (range_with_len 0 (product counts))

pub picks_inside : (ns os hs ss : List ℕ) (m : ℕ) → IsSieved ns os hs ss → AllByRecursion (λ p. p < product ns) (map (nth_pick ns os ss (pick_counts os hs ss)) (range_with_len 0 m))
picks_inside ns os hs ss m sieved =
    all_map (λ p. p < product ns) (nth_pick ns os ss (pick_counts os hs ss)) (range_with_len 0 m) (λ k. pick_lt ns os hs ss k sieved)

sifted_axis : (n t o h s : ℕ) (ns ts os hs ss : List ℕ) → IsCut (n ∷ ns) (t ∷ ts) → IsSieved (n ∷ ns) (o ∷ os) (h ∷ hs) (s ∷ ss) → IsSifted n t o h s
sifted_axis n t o h s ns ts os hs ss cut sieved =
    record { tile = cut.positive zero (omega arith); step = sieved.positive zero (omega arith); order = sieved.ordered zero (omega arith); inside = sieved.inside zero (omega arith) }

-- the tiles with a pick are those that are visited
pub tiles_are_visited : (ns ts os hs ss : List ℕ) → IsCut ns ts → IsSieved ns os hs ss → picked_tiles ns ts os hs ss ≡ map (λ ks. place_of (tile_counts ns ts) (all_visited os ss ts ks)) (box_coordinates (visited_counts os hs ss ts))
tiles_are_visited [] ts [] hs ss cut sieved = refl
tiles_are_visited [] ts (o ∷ os) hs ss cut sieved = absurd (omega (arith, sieved.same_lo))
tiles_are_visited (n ∷ ns) [] os hs ss cut sieved = absurd (omega (arith, cut.same))
tiles_are_visited (n ∷ ns) (t ∷ ts) [] hs ss cut sieved = absurd (omega (arith, sieved.same_lo))
tiles_are_visited (n ∷ ns) (t ∷ ts) (o ∷ os) [] ss cut sieved = absurd (omega (arith, sieved.same_hi))
tiles_are_visited (n ∷ ns) (t ∷ ts) (o ∷ os) (h ∷ hs) [] cut sieved = absurd (omega (arith, sieved.same_step))
tiles_are_visited (n ∷ ns) (t ∷ ts) (o ∷ os) (h ∷ hs) (s ∷ ss) cut sieved =
    let g = tiles_on n t in
    let m = visited_count o h s t in
    let rest = product (tile_counts ns ts) in
    let column : ℕ → Bool = λ d. ltb 0 (picks_on n t o h s d) in
    let row : ℕ → Bool = λ q. has_pixel (tile_picks ns ts os hs ss q) in
    let test : ℕ → Bool = λ k. column (k % g) && row (k / g) in
    let whole : g * rest ≡ rest * g = omega arith in
    let start : 0 ≡ 0 * g = omega arith in
    let by_rows = filter_rows column row g 0 rest (count_pos n t (cut.positive zero (omega arith)) (cut.some zero (omega arith))) in
    let in_axis = axis_visited n t o h s (sifted_axis n t o h s ns ts os hs ss cut sieved) in
    let higher = tiles_are_visited ns ts os hs ss (cut_tail n t ns ts cut) (sieved_tail n o h s ns os hs ss sieved) in
    let boxes = box_coordinates (visited_counts os hs ss ts) in
    let number : List ℕ → ℕ = λ ks. place_of (tile_counts ns ts) (all_visited os ss ts ks) in
    let all : List ℕ → ℕ = λ ks. place_of (tile_counts (n ∷ ns) (t ∷ ts)) (all_visited (o ∷ os) (s ∷ ss) (t ∷ ts) ks) in
    let line : ℕ → List ℕ = λ q. map (λ c. c + q * g) (map (visited o s t) (range_with_len 0 m)) in
    let cells : List ℕ → List (List ℕ) = λ ks. map (λ c. c ∷ ks) (range_with_len 0 m) in
    let turned : (ks : List ℕ) → line (number ks) ≡ map all (cells ks) =
    λ ks.
    map-map (λ c. c + number ks * g) (visited o s t) (range_with_len 0 m)
    ∙ (map_same (λ k. visited o s t k + number ks * g) (λ k. visited o s t k + g * number ks) (range_with_len 0 m) (λ k. omega arith)
    ∙ sym (map-map all (λ c. c ∷ ks) (range_with_len 0 m))) in
    ap (λ k. filter test (range_with_len 0 k)) whole
    ∙ (ap (λ a. filter test (range_with_len a (rest * g))) start
    ∙ (by_rows
    ∙ (ap (λ l. flat_map (λ q. map (λ c. c + q * g) l) (filter row (range_with_len 0 rest))) in_axis
    ∙ (ap (flat_map line) higher
    ∙ (flat_map-map line number boxes
    ∙ (flat_map_same (λ ks. line (number ks)) (λ ks. map all (cells ks)) boxes turned
    ∙ sym (map_flat_map all cells boxes)))))))
  where
    map_same : (f g : ℕ → ℕ) (xs : List ℕ) → ((x : ℕ) → f x ≡ g x) → map f xs ≡ map g xs
    map_same f g [] same = refl
    map_same f g (x ∷ xs) same = ap (λ y. y ∷ map f xs) (same x) ∙ ap (λ l. g x ∷ l) (map_same f g xs same)

pub visited_by_number : (ns ts os hs ss : List ℕ) → IsCut ns ts → IsSieved ns os hs ss → picked_tiles ns ts os hs ss ≡ map (nth_visited (tile_counts ns ts) os ss ts (visited_counts os hs ss ts)) (range_with_len 0 (product (visited_counts os hs ss ts)))
visited_by_number ns ts os hs ss cut sieved =
    let counts = visited_counts os hs ss ts in
    let number : List ℕ → ℕ = λ ks. place_of (tile_counts ns ts) (all_visited os ss ts ks) in
    tiles_are_visited ns ts os hs ss cut sieved
    ∙ (ap (map number) (box_digits counts) ∙ map-map number (coordinates_of counts) (range_with_len 0 (product counts)))

all_filter : (P : ℕ → Type 0) (p : ℕ → Bool) (xs : List ℕ) → AllByRecursion P xs → AllByRecursion P (filter p xs)
all_filter P p [] all = tt
all_filter P p (x ∷ xs) all = by (p x) (all_filter P p xs all.1)
  where
    by : (t : Bool) → AllByRecursion P (filter p xs) → AllByRecursion P (cond t (x ∷ filter p xs) (filter p xs))
    by true rest = (all.0, rest)
    by false rest = rest

all_range : (a n end : ℕ) → a + n ≤ end → AllByRecursion (λ x. x < end) (range_with_len a n)
all_range a zero end fits = tt
all_range a (suc n) end fits = (omega arith, all_range (a + 1) n end (omega arith))

pub picked_inside : (ns ts os hs ss : List ℕ) → AllByRecursion (λ t. t < tile_count ns ts) (picked_tiles ns ts os hs ss)
picked_inside ns ts os hs ss =
    all_filter (λ t. t < tile_count ns ts) (λ t. has_pixel (tile_picks ns ts os hs ss t)) (range_with_len 0 (tile_count ns ts)) (all_range 0 (tile_count ns ts) (tile_count ns ts) (omega arith))

-- the axes of a sieve of an array in tiles
pub sifted_at : (shape tile : Axes) (sieve : Sieve) (i : ℕ) → IsDivided shape tile → IsSieveOf shape sieve → i < shape.n → IsSifted (get_or shape.len i 0) (get_or tile.len i 0) (get_or sieve.lo i 0) (get_or sieve.hi i 0) (get_or sieve.step i 0)
sifted_at shape tile sieve i divided is inside =
    record { tile = divided.positive i inside; step = is.positive i inside; order = is.ordered i inside; inside = is.inside i inside }

counts_at : (ns ts : List ℕ) (i : ℕ) → length ts ≡ length ns → i < length ns → get_or (tile_counts ns ts) i 0 ≡ tiles_on (get_or ns i 0) (get_or ts i 0)
counts_at [] ts i same h = absurd (omega arith)
counts_at (n ∷ ns) [] i same h = absurd (omega arith)
counts_at (n ∷ ns) (t ∷ ts) zero same h = refl
counts_at (n ∷ ns) (t ∷ ts) (suc i) same h = counts_at ns ts i (omega arith) (omega arith)

-- how many tiles there are along an axis of a table
pub gridded_at : (shape tile grid : Axes) (i : ℕ) → IsDivided shape tile → grid.n ≡ shape.n → lengths_of grid ≡ tile_counts (lengths_of shape) (lengths_of tile) → i < shape.n → get_or grid.len i 0 ≡ tiles_on (get_or shape.len i 0) (get_or tile.len i 0)
gridded_at shape tile grid i divided same gridded inside =
    let shape_long = long_enough shape.len shape.n (λ k h. omega (arith, divided.positive k h, divided.inside k h)) in
    let tile_long = long_enough tile.len tile.n (λ k h. divided.positive k (omega (arith, divided.same_axes))) in
    let in_tile : i < tile.n = omega (arith, divided.same_axes) in
    let in_grid : i < grid.n = omega arith in
    let front = length-take shape.n shape.len in
    let equal : length (lengths_of tile) ≡ length (lengths_of shape) = omega (arith, front, length-take tile.n tile.len, divided.same_axes) in
    sym (get_or-take grid.n grid.len i 0 in_grid)
    ∙ (ap (λ l. get_or l i 0) gridded
    ∙ (counts_at (lengths_of shape) (lengths_of tile) i equal (omega (arith, front))
    ∙ (ap (λ n. tiles_on n (get_or (lengths_of tile) i 0)) (get_or-take shape.n shape.len i 0 inside) ∙ ap (tiles_on (get_or shape.len i 0)) (get_or-take tile.n tile.len i 0 in_tile))))

-- no more tiles are visited than there are
pub visits_le : (shape tile grid : Axes) (sieve : Sieve) (counts : Axes) → IsDivided shape tile → IsSieveOf shape sieve → grid.n ≡ shape.n → lengths_of grid ≡ tile_counts (lengths_of shape) (lengths_of tile) → counts.n ≡ shape.n → shape.n ≤ length grid.len → shape.n ≤ length counts.len → ((i : ℕ) → i < shape.n → get_or counts.len i 0 ≡ visited_count (get_or sieve.lo i 0) (get_or sieve.hi i 0) (get_or sieve.step i 0) (get_or tile.len i 0)) → product (lengths_of counts) ≤ product (lengths_of grid)
visits_le shape tile grid sieve counts divided is grid_axes gridded counts_axes grid_long counts_long counted =
    let of_counts = length-take counts.n counts.len in
    let of_grid = length-take grid.n grid.len in
    product_mono (lengths_of counts) (lengths_of grid) (omega (arith, of_counts, of_grid)) (λ i h.
    let inside : i < shape.n = omega (arith, of_counts) in
    let in_counts : i < counts.n = omega arith in
    let in_grid : i < grid.n = omega arith in
    let few = count_le (get_or shape.len i 0) (get_or tile.len i 0) (get_or sieve.lo i 0) (get_or sieve.hi i 0) (get_or sieve.step i 0) (sifted_at shape tile sieve i divided is inside) in
    omega (arith, get_or-take counts.n counts.len i 0 in_counts, get_or-take grid.n grid.len i 0 in_grid, counted i inside, gridded_at shape tile grid i divided grid_axes gridded inside, few))

pub visits_list : (shape tile : Axes) (sieve : Sieve) (counts : Axes) → IsDivided shape tile → IsSieveOf shape sieve → counts.n ≡ shape.n → shape.n ≤ length counts.len → shape.n ≤ length sieve.lo → shape.n ≤ length sieve.hi → shape.n ≤ length sieve.step → ((i : ℕ) → i < shape.n → get_or counts.len i 0 ≡ visited_count (get_or sieve.lo i 0) (get_or sieve.hi i 0) (get_or sieve.step i 0) (get_or tile.len i 0)) → lengths_of counts ≡ visited_counts (sieve_lo sieve) (sieve_hi sieve) (sieve_step sieve) (lengths_of tile)
visits_list shape tile sieve counts divided is same in_counts in_lo in_hi in_step counted =
    let n = shape.n in
    let tile_long = long_enough tile.len tile.n (λ i h. divided.positive i (omega (arith, divided.same_axes))) in
    let of_tile = divided.same_axes in
    let list = visited_counts_list counts.len sieve.lo sieve.hi sieve.step tile.len n in_counts in_lo in_hi in_step (omega arith) counted in
    let of_sieve : (xs : List ℕ) → take n xs ≡ take sieve.n xs = λ xs. ap (λ m. take m xs) (sym is.same_axes) in
    ap (λ m. take m counts.len) same
    ∙ (list
    ∙ (ap (λ l. visited_counts l (take n sieve.hi) (take n sieve.step) (take n tile.len)) (of_sieve sieve.lo)
    ∙ (ap (λ l. visited_counts (sieve_lo sieve) l (take n sieve.step) (take n tile.len)) (of_sieve sieve.hi)
    ∙ (ap (λ l. visited_counts (sieve_lo sieve) (sieve_hi sieve) l (take n tile.len)) (of_sieve sieve.step)
    ∙ ap (λ m. visited_counts (sieve_lo sieve) (sieve_hi sieve) (sieve_step sieve) (take m tile.len)) (sym of_tile)))))

-- no more picks than places
pub picks_le : (shape : Axes) (sieve : Sieve) (counts : Axes) → IsSieveOf shape sieve → counts.n ≡ shape.n → shape.n ≤ length shape.len → shape.n ≤ length counts.len → ((i : ℕ) → i < shape.n → get_or counts.len i 0 ≡ pick_count (get_or sieve.lo i 0) (get_or sieve.hi i 0) (get_or sieve.step i 0)) → product (lengths_of counts) ≤ product (lengths_of shape)
picks_le shape sieve counts is same in_shape in_counts counted =
    let of_counts = length-take counts.n counts.len in
    let of_shape = length-take shape.n shape.len in
    product_mono (lengths_of counts) (lengths_of shape) (omega (arith, of_counts, of_shape)) (λ i h.
    let inside : i < shape.n = omega (arith, of_counts) in
    let in_counts' : i < counts.n = omega arith in
    let few = div-le_self (get_or sieve.hi i 0 - get_or sieve.lo i 0) (get_or sieve.step i 0) in
    omega (arith, get_or-take counts.n counts.len i 0 in_counts', get_or-take shape.n shape.len i 0 inside, counted i inside, is.inside i inside, is.ordered i inside, few))

pub picks_list : (shape : Axes) (sieve : Sieve) (counts : Axes) → IsSieveOf shape sieve → counts.n ≡ shape.n → shape.n ≤ length counts.len → shape.n ≤ length sieve.lo → shape.n ≤ length sieve.hi → shape.n ≤ length sieve.step → ((i : ℕ) → i < shape.n → get_or counts.len i 0 ≡ pick_count (get_or sieve.lo i 0) (get_or sieve.hi i 0) (get_or sieve.step i 0)) → lengths_of counts ≡ sieve_lengths sieve
picks_list shape sieve counts is same in_counts in_lo in_hi in_step counted =
    let n = sieve.n in
    let of_shape = is.same_axes in
    ap (λ m. take m counts.len) (same ∙ sym of_shape)
    ∙ counts_list counts.len sieve.lo sieve.hi sieve.step n (omega arith) (omega arith) (omega arith) (omega arith) (λ i h. counted i (omega arith))

all_passed : (p : ℕ → Bool) (xs : List ℕ) → AllByRecursion (λ x. p x ≡ true) (filter p xs)
all_passed p [] = tt
all_passed p (x ∷ xs) = by (p x) refl (all_passed p xs)
  where
    by : (t : Bool) → p x ≡ t → AllByRecursion (λ x. p x ≡ true) (filter p xs) → AllByRecursion (λ x. p x ≡ true) (cond t (x ∷ filter p xs) (filter p xs))
    by true is rest = (is, rest)
    by false is rest = rest

pub picked_has : (ns ts os hs ss : List ℕ) → AllByRecursion (λ t. has_pixel (tile_picks ns ts os hs ss t) ≡ true) (picked_tiles ns ts os hs ss)
picked_has ns ts os hs ss = all_passed (λ t. has_pixel (tile_picks ns ts os hs ss t)) (range_with_len 0 (tile_count ns ts))
