-- Each place of an array lies in one tile, once.
use Rattle.std.proofs.Common.{◌≡◌, ℕ, suc, zero, ◌+◌, ◌-◌, ◌/◌, ◌<◌, List, [], ◌∷◌, length, get_or, map, refl, ap, sym, ◌∙◌, arith}
use Rattle.std.specs.List.{range_with_len}
use Rattle.std.proofs.lemmas.List.FromFn.{get_or-map-range_with_len, length-map-range_with_len}
use Rattle.std.proofs.lemmas.Nat.{div-add-mod', div-mul-add, mod-mul-add, mod_below}
use Rattle.std.proofs.lemmas.Simd.{map-map}
use Rattle.std.proofs.Math.Nat.{div-lt_iff_lt-mul}
use Rattle.fz_grid.specs.Arrays.{coordinates_of, place_of, product}
use Rattle.fz_grid.specs.Division.{IsInOneTile, IsPixel}
use Rattle.fz_grid.specs.Grid.{tile_coordinates, corner_of, lengths_from, moved, tile_corner, tile_counts, tile_lengths}
use Rattle.fz_grid.specs.Whole.{inside_tile, pixel_at, tile_at, tiles_along}
use Rattle.fz_grid.proofs.BoxLemmas.{box_digits}
use Rattle.fz_grid.proofs.Digits.{digits_below, digits_length, digits_of_place, place_of_digits}
use Rattle.fz_grid.proofs.GridLemmas.{tiles_on}
use Rattle.fz_grid.proofs.PlaceLemmas.{AreBelow, below_head, below_tail, place_lt}
use Rattle.fz_grid.proofs.Tilings.{IsCut, counts_length, counts_positive, cut_tail, lens_le, lens_length, lens_positive}

quotients_length : (ts cs : List ℕ) → length cs ≡ length ts → length (tiles_along ts cs) ≡ length ts
quotients_length [] cs same = refl
quotients_length (t ∷ ts) [] same = absurd (omega arith)
quotients_length (t ∷ ts) (c ∷ cs) same = ap suc (quotients_length ts cs (omega arith))

remainders_length : (ts cs : List ℕ) → length cs ≡ length ts → length (inside_tile ts cs) ≡ length ts
remainders_length [] cs same = refl
remainders_length (t ∷ ts) [] same = absurd (omega arith)
remainders_length (t ∷ ts) (c ∷ cs) same = ap suc (remainders_length ts cs (omega arith))

-- a coordinate below n lies in one of the axis's tiles
quotient_below : (n t c : ℕ) → 0 < t → c < n → c / t < tiles_on n t
quotient_below n t c tile below =
    let whole = div-add-mod' c t in
    let room = div-add-mod' (n + (t - 1)) t in
    let rest = mod_below (n + (t - 1)) t tile in
    let P = div-lt_iff_lt-mul {k = t} {x = c} {y = tiles_on n t} tile in
    P.1 (omega (arith, room, rest))

quotients_below : (ns ts cs : List ℕ) → IsCut ns ts → length cs ≡ length ns → AreBelow ns cs → AreBelow (tile_counts ns ts) (tiles_along ts cs)
unfolding AreBelow
quotients_below [] ts cs cut same below i h = absurd (omega arith)
quotients_below (n ∷ ns) [] cs cut same below i h = absurd (omega arith)
quotients_below (n ∷ ns) (t ∷ ts) [] cut same below i h = absurd (omega arith)
quotients_below (n ∷ ns) (t ∷ ts) (c ∷ cs) cut same below zero h = quotient_below n t c (cut.positive zero (omega arith)) (below zero (omega arith))
quotients_below (n ∷ ns) (t ∷ ts) (c ∷ cs) cut same below (suc i) h =
    quotients_below ns ts cs (cut_tail n t ns ts cut) (omega arith) (λ k b. below (suc k) (omega arith)) i (omega arith)

remainders_below : (ns ts cs : List ℕ) → IsCut ns ts → length cs ≡ length ns → AreBelow ns cs → AreBelow (lengths_from ns ts (corner_of (tiles_along ts cs) ts)) (inside_tile ts cs)
unfolding AreBelow
remainders_below [] ts cs cut same below i h = absurd (omega arith)
remainders_below (n ∷ ns) [] cs cut same below i h = absurd (omega arith)
remainders_below (n ∷ ns) (t ∷ ts) [] cut same below i h = absurd (omega arith)
remainders_below (n ∷ ns) (t ∷ ts) (c ∷ cs) cut same below zero h =
    omega (arith, div-add-mod' c t, mod_below c t (cut.positive zero (omega arith)), below zero (omega arith))
remainders_below (n ∷ ns) (t ∷ ts) (c ∷ cs) cut same below (suc i) h =
    remainders_below ns ts cs (cut_tail n t ns ts cut) (omega arith) (λ k b. below (suc k) (omega arith)) i (omega arith)

-- a tile's corner and the rest give the coordinates back
put_together : (ts cs : List ℕ) → length cs ≡ length ts → moved (corner_of (tiles_along ts cs) ts) (inside_tile ts cs) ≡ cs
put_together [] [] same = refl
put_together [] (c ∷ cs) same = absurd (omega arith)
put_together (t ∷ ts) [] same = absurd (omega arith)
put_together (t ∷ ts) (c ∷ cs) same =
    ap (λ x. x ∷ moved (corner_of (tiles_along ts cs) ts) (inside_tile ts cs)) (div-add-mod' c t) ∙ ap (λ l. c ∷ l) (put_together ts cs (omega arith))

-- and only they do
only_quotients : (ds es ts : List ℕ) → length ds ≡ length ts → length es ≡ length ts → AreBelow ts es → tiles_along ts (moved (corner_of ds ts) es) ≡ ds
only_quotients [] [] [] ds_same es_same below = refl
only_quotients (d ∷ ds) es [] ds_same es_same below = absurd (omega arith)
only_quotients [] (e ∷ es) [] ds_same es_same below = absurd (omega arith)
only_quotients [] es (t ∷ ts) ds_same es_same below = absurd (omega arith)
only_quotients (d ∷ ds) [] (t ∷ ts) ds_same es_same below = absurd (omega arith)
only_quotients (d ∷ ds) (e ∷ es) (t ∷ ts) ds_same es_same below =
    ap (λ x. x ∷ tiles_along ts (moved (corner_of ds ts) es)) (div-mul-add d t e (below_head t e ts es below)) ∙ ap (λ l. d ∷ l) (only_quotients ds es ts (omega arith) (omega arith) (below_tail t e ts es below))

only_remainders : (ds es ts : List ℕ) → length ds ≡ length ts → length es ≡ length ts → AreBelow ts es → inside_tile ts (moved (corner_of ds ts) es) ≡ es
only_remainders [] [] [] ds_same es_same below = refl
only_remainders (d ∷ ds) es [] ds_same es_same below = absurd (omega arith)
only_remainders [] (e ∷ es) [] ds_same es_same below = absurd (omega arith)
only_remainders [] es (t ∷ ts) ds_same es_same below = absurd (omega arith)
only_remainders (d ∷ ds) [] (t ∷ ts) ds_same es_same below = absurd (omega arith)
only_remainders (d ∷ ds) (e ∷ es) (t ∷ ts) ds_same es_same below =
    ap (λ x. x ∷ inside_tile ts (moved (corner_of ds ts) es)) (mod-mul-add d t e (below_head t e ts es below)) ∙ ap (λ l. e ∷ l) (only_remainders ds es ts (omega arith) (omega arith) (below_tail t e ts es below))

-- the pixels of a tile by their numbers
pub tile_pixels : (ns ts : List ℕ) (t : ℕ) → IsCut ns ts → tile_coordinates ns ts t ≡ map (λ k. moved (tile_corner ns ts t) (coordinates_of (tile_lengths ns ts t) k)) (range_with_len 0 (product (tile_lengths ns ts t)))
tile_pixels ns ts t cut =
    let lens = tile_lengths ns ts t in
    ap (map (moved (tile_corner ns ts t))) (box_digits lens) ∙ map-map (moved (tile_corner ns ts t)) (coordinates_of lens) (range_with_len 0 (product lens))

pub pixels_length : (ns ts : List ℕ) (t : ℕ) → IsCut ns ts → length (tile_coordinates ns ts t) ≡ product (tile_lengths ns ts t)
pixels_length ns ts t cut = ap length (tile_pixels ns ts t cut) ∙ length-map-range_with_len (λ k. moved (tile_corner ns ts t) (coordinates_of (tile_lengths ns ts t) k)) 0 (product (tile_lengths ns ts t))

pub pixel_is : (ns ts : List ℕ) (t k : ℕ) → IsCut ns ts → k < product (tile_lengths ns ts t) → get_or (tile_coordinates ns ts t) k [] ≡ moved (tile_corner ns ts t) (coordinates_of (tile_lengths ns ts t) k)
pixel_is ns ts t k cut below =
    ap (λ l. get_or l k []) (tile_pixels ns ts t cut) ∙ get_or-map-range_with_len (λ j. moved (tile_corner ns ts t) (coordinates_of (tile_lengths ns ts t) j)) 0 (product (tile_lengths ns ts t)) k k [] below (omega arith)

the_digits : (ns ts cs : List ℕ) → IsCut ns ts → length cs ≡ length ns → AreBelow ns cs → coordinates_of (tile_counts ns ts) (tile_at ns ts cs) ≡ tiles_along ts cs
unfolding tile_at
the_digits ns ts cs cut same below =
    digits_of_place (tile_counts ns ts) (tiles_along ts cs) (omega (arith, counts_length ns ts cut.same, quotients_length ts cs (omega (arith, cut.same)), cut.same)) (quotients_below ns ts cs cut same below)

the_lengths : (ns ts cs : List ℕ) → IsCut ns ts → length cs ≡ length ns → AreBelow ns cs → tile_lengths ns ts (tile_at ns ts cs) ≡ lengths_from ns ts (corner_of (tiles_along ts cs) ts)
the_lengths ns ts cs cut same below = ap (λ ds. lengths_from ns ts (corner_of ds ts)) (the_digits ns ts cs cut same below)

found_there : (ns ts cs : List ℕ) → IsCut ns ts → length cs ≡ length ns → AreBelow ns cs → IsPixel ns ts cs (tile_at ns ts cs) (pixel_at ns ts cs)
unfolding tile_at pixel_at
found_there ns ts cs cut same below =
    let t = place_of (tile_counts ns ts) (tiles_along ts cs) in
    let lens = lengths_from ns ts (corner_of (tiles_along ts cs) ts) in
    let k = place_of lens (inside_tile ts cs) in
    let digits = the_digits ns ts cs cut same below in
    let lengths = the_lengths ns ts cs cut same below in
    let few : length (inside_tile ts cs) ≡ length lens =
    remainders_length ts cs (omega (arith, cut.same)) ∙ (cut.same ∙ (sym (lens_length ns ts t cut.same) ∙ ap length lengths)) in
    let inside_lens : k < product lens = place_lt lens (inside_tile ts cs) (remainders_below ns ts cs cut same below) in
    let inside : k < product (tile_lengths ns ts t) = rw lengths inside_lens in
    record {
      tile_in = place_lt (tile_counts ns ts) (tiles_along ts cs) (quotients_below ns ts cs cut same below);
      pixel_in = omega (arith, pixels_length ns ts t cut, inside);
      here =
          pixel_is ns ts t k cut inside
          ∙ (ap (λ ds. moved (corner_of ds ts) (coordinates_of (lengths_from ns ts (corner_of ds ts)) k)) digits
          ∙ (ap (moved (corner_of (tiles_along ts cs) ts)) (digits_of_place lens (inside_tile ts cs) few (remainders_below ns ts cs cut same below))
          ∙ put_together ts cs (omega (arith, cut.same))));
    }

lens_above : (ns ts es : List ℕ) (t : ℕ) → length ts ≡ length ns → AreBelow (tile_lengths ns ts t) es → AreBelow ts es
unfolding AreBelow
lens_above ns ts es t same below i h =
    omega (arith, below i (omega (arith, lens_length ns ts t same)), lens_le ns ts t same i (omega arith))

pub only_there : (ns ts cs : List ℕ) → IsCut ns ts → (t k : ℕ) → IsPixel ns ts cs t k → (t ≡ tile_at ns ts cs) × (k ≡ pixel_at ns ts cs)
unfolding tile_at pixel_at
only_there ns ts cs cut t k pixel =
    let counts = tile_counts ns ts in
    let lens = tile_lengths ns ts t in
    let ds = coordinates_of counts t in
    let es = coordinates_of lens k in
    let inside : k < product lens = omega (arith, pixels_length ns ts t cut, pixel.pixel_in) in
    let are : moved (corner_of ds ts) es ≡ cs = sym (pixel_is ns ts t k cut inside) ∙ pixel.here in
    let lens_pos = lens_positive ns ts t cut in
    let ds_same : length ds ≡ length ts = digits_length counts t ∙ (counts_length ns ts cut.same ∙ sym cut.same) in
    let es_same : length es ≡ length ts = digits_length lens k ∙ (lens_length ns ts t cut.same ∙ sym cut.same) in
    let es_below = lens_above ns ts es t cut.same (digits_below lens k lens_pos) in
    let qs : tiles_along ts cs ≡ ds = ap (tiles_along ts) (sym are) ∙ only_quotients ds es ts ds_same es_same es_below in
    let rs : inside_tile ts cs ≡ es = ap (inside_tile ts) (sym are) ∙ only_remainders ds es ts ds_same es_same es_below in
    let tile_is : place_of counts (tiles_along ts cs) ≡ t = ap (place_of counts) qs ∙ place_of_digits counts t (counts_positive ns ts cut) pixel.tile_in in
    let same_pixel : place_of (lengths_from ns ts (corner_of (tiles_along ts cs) ts)) (inside_tile ts cs) ≡ k =
    ap (λ l. place_of (lengths_from ns ts (corner_of l ts)) (inside_tile ts cs)) qs ∙ (ap (place_of lens) rs ∙ place_of_digits lens k lens_pos inside) in
    (sym tile_is, sym same_pixel)

pub one_tile : (ns ts cs : List ℕ) → IsCut ns ts → length cs ≡ length ns → AreBelow ns cs → IsInOneTile ns ts cs
one_tile ns ts cs cut same below =
    record {
      tile_number = tile_at ns ts cs;
      pixel_number = pixel_at ns ts cs;
      found = found_there ns ts cs cut same below;
      only = only_there ns ts cs cut;
    }
