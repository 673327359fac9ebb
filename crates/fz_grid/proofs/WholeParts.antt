-- All pixels of a region, as a part of it.
use Rattle.std.proofs.Common.{◌≡◌, ℕ, suc, zero, ◌+◌, ◌-◌, ◌*◌, ◌/◌, ◌<◌, ◌≤◌, List, [], ◌∷◌, length, get_or, take, map, replicate, refl, ap, sym, ◌∙◌, arith, length-take}
use Rattle.std.specs.List.{range_with_len}
use Rattle.std.proofs.lemmas.Simd.{map-map}
use Rattle.std.proofs.Math.Nat.{div-one}
use Rattle.fz_grid.specs.declared.region.Region.{Region}
use Rattle.fz_grid.specs.declared.sieve.Sieve.{Sieve}
use Rattle.fz_grid.specs.Arrays.{coordinates_of, place_of, product}
use Rattle.fz_grid.specs.Grid.{box_coordinates}
use Rattle.fz_grid.specs.Region.{region_lengths}
use Rattle.fz_grid.specs.Sieve.{pick_count, pick_counts, picked_places, sieve_lengths, sieve_lo, sieve_step, stepped}
use Rattle.fz_grid.proofs.Neighbours.{range_moved}
use Rattle.fz_grid.proofs.BoxLists.{PlaceLaws, box_same}
use Rattle.fz_grid.proofs.TableLemmas.{counts_list}

pub all_zero : (n i : ℕ) → ◌≡◌ {A = ℕ} (get_or (replicate n 0) i 0) 0
all_zero zero i = refl
all_zero (suc n) zero = refl
all_zero (suc n) (suc i) = all_zero n i

pub all_one : (n i : ℕ) → i < n → ◌≡◌ {A = ℕ} (get_or (replicate n 1) i 0) 1
all_one zero i h = absurd (omega arith)
all_one (suc n) zero h = refl
all_one (suc n) (suc i) h = all_one n i (omega arith)

-- an axis has as many picks as pixels
pub whole_count : (lo hi step n : ℕ) → lo ≡ 0 → hi ≡ n - 1 → step ≡ 1 → 1 ≤ n → n ≡ pick_count lo hi step
whole_count lo hi step n lo_is hi_is step_is some =
    let steps : (hi - lo) / step ≡ hi - lo = ap (λ s. (hi - lo) / s) step_is ∙ div-one (hi - lo) in
    omega (arith, steps, lo_is, hi_is)

-- each pick is the pixel with its numbers
each_pixel : (n m : ℕ) (ks : List ℕ) → length ks ≡ n → n ≤ m → stepped (take n (replicate m 0)) (take n (replicate m 1)) ks ≡ ks
each_pixel zero m [] same few = refl
each_pixel zero m (k ∷ ks) same few = absurd (omega arith)
each_pixel (suc n) zero ks same few = absurd (omega arith)
each_pixel (suc n) (suc m) [] same few = absurd (omega arith)
each_pixel (suc n) (suc m) (k ∷ ks) same few =
    let here : 0 + k * 1 ≡ k = omega arith in
    ap (λ x. x ∷ stepped (take n (replicate m 0)) (take n (replicate m 1)) ks) here ∙ ap (λ l. k ∷ l) (each_pixel n m ks (omega arith) (omega arith))

-- the places of a box of an array with its lengths are all places
box_whole : PlaceLaws → (rs : List ℕ) → map (place_of rs) (box_coordinates rs) ≡ range_with_len 0 (product rs)
box_whole laws rs =
    ap (map (place_of rs)) (laws.order rs)
    ∙ (map-map (place_of rs) (coordinates_of rs) (range_with_len 0 (product rs))
    ∙ range_moved 0 0 (product rs) (λ p. place_of rs (coordinates_of rs p)) (λ i h. (laws.numbers rs (0 + i) (omega arith)).1))

pub whole_places : PlaceLaws → (region : Region) (inside : Sieve) → region.n ≤ 9 → length region.len ≡ 9 → inside.n ≡ region.n → inside.lo ≡ replicate 9 0 → inside.step ≡ replicate 9 1 → length inside.hi ≡ 9 → ((i : ℕ) → i < region.n → get_or region.len i 0 ≡ pick_count (get_or inside.lo i 0) (get_or inside.hi i 0) (get_or inside.step i 0)) → picked_places (region_lengths region) inside ≡ range_with_len 0 (product (region_lengths region))
whole_places laws region inside few long same lo step hi each =
    let n = region.n in
    let rs = region_lengths region in
    let of_lo : length inside.lo ≡ 9 = ap length lo in
    let of_step : length inside.step ≡ 9 = ap length step in
    let counts : sieve_lengths inside ≡ rs =
    ap (λ m. pick_counts (take m inside.lo) (take m inside.hi) (take m inside.step)) same
    ∙ sym (counts_list region.len inside.lo inside.hi inside.step n (omega (arith, long, few)) (omega (arith, of_lo, few)) (omega (arith, hi, few)) (omega (arith, of_step, few)) each) in
    let starts : sieve_lo inside ≡ take n (replicate 9 0) = ap (λ m. take m inside.lo) same ∙ ap (take n) lo in
    let steps : sieve_step inside ≡ take n (replicate 9 1) = ap (λ m. take m inside.step) same ∙ ap (take n) step in
    let of_rs : length rs ≡ n = length-take n region.len ∙ omega (arith, long, few) in
    ap (λ l. map (λ k. place_of rs (stepped (sieve_lo inside) (sieve_step inside) k)) (box_coordinates l)) counts
    ∙ (box_same laws (λ k. place_of rs (stepped (sieve_lo inside) (sieve_step inside) k)) (place_of rs) rs (λ k are.
    ap (λ l. place_of rs (stepped l (sieve_step inside) k)) starts
    ∙ (ap (λ l. place_of rs (stepped (take n (replicate 9 0)) l k)) steps
    ∙ ap (place_of rs) (each_pixel n 9 k (are.axes ∙ of_rs) few)))
    ∙ box_whole laws rs)
