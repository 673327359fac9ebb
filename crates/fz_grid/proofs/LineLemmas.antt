-- The lines of a part have its picks, in their order.
use Rattle.std.proofs.Common.{◌≡◌, ℕ, suc, zero, ◌+◌, ◌-◌, ◌*◌, ◌/◌, ◌%◌, ◌<◌, ◌≤◌, List, [], ◌∷◌, length, get_or, map, refl, ap, sym, ◌∙◌, arith}
use Rattle.std.specs.List.{AllByRecursion, flat_map, range_with_len}
use Rattle.std.proofs.lemmas.List.Folds.{flat_map-map}
use Rattle.std.proofs.lemmas.Nat.{mod_below}
use Rattle.std.proofs.lemmas.Simd.{map-map}
use Rattle.std.proofs.Math.Nat.{div-one, mod-one}
use Rattle.fz_grid.specs.Arrays.{AreCoordinatesOf, coordinates_of, place_of, product}
use Rattle.fz_grid.specs.Grid.{box_coordinates, moved}
use Rattle.fz_grid.specs.Sieve.{stepped}
use Rattle.fz_grid.proofs.Neighbours.{flat_map_same, map_flat_map, map_range_same, range_moved}
use Rattle.fz_grid.proofs.BoxLists.{PlaceLaws, both_below}
use Rattle.fz_grid.proofs.TableLemmas.{rest_of}

-- rows of a box, one after the other, list the box
rows_are : PlaceLaws → (F : List ℕ → ℕ) (G : List ℕ → List ℕ) (c : ℕ) (rs : List ℕ) → ((ks : List ℕ) → G (0 ∷ ks) ≡ map (λ x. F (x ∷ ks)) (range_with_len 0 c)) → flat_map (λ k. G (coordinates_of (1 ∷ rs) k)) (range_with_len 0 (product (1 ∷ rs))) ≡ map F (box_coordinates (c ∷ rs))
rows_are laws F G c rs same =
    let row : List ℕ → List (List ℕ) = λ ks. map (λ x. x ∷ ks) (range_with_len 0 c) in
    let one : product (1 ∷ rs) ≡ product rs = omega arith in
    let numbers = range_with_len 0 (product rs) in
    let each : (k : ℕ) → G (coordinates_of (1 ∷ rs) k) ≡ map F (row (coordinates_of rs k)) =
    λ k.
    ap (λ d. G (d ∷ coordinates_of rs (k / 1))) (mod-one k)
    ∙ (ap (λ q. G (0 ∷ coordinates_of rs q)) (div-one k)
    ∙ (same (coordinates_of rs k) ∙ sym (map-map F (λ x. x ∷ coordinates_of rs k) (range_with_len 0 c)))) in
    ap (λ n. flat_map (λ k. G (coordinates_of (1 ∷ rs) k)) (range_with_len 0 n)) one
    ∙ (flat_map_same (λ k. G (coordinates_of (1 ∷ rs) k)) (λ k. map F (row (coordinates_of rs k))) numbers each
    ∙ (sym (flat_map-map (λ ks. map F (row ks)) (coordinates_of rs) numbers)
    ∙ (ap (flat_map (λ ks. map F (row ks))) (sym (laws.order rs))
    ∙ sym (map_flat_map F row (box_coordinates rs)))))

-- the picks of a part in a tile, row by row
pub tile_rows : PlaceLaws → (xs os ss cs rows : List ℕ) (gap count : ℕ) → 0 < length xs → 0 < length os → 0 < length ss → 0 < length cs → gap ≡ get_or ss 0 0 → count ≡ get_or cs 0 0 → rows ≡ 1 ∷ rest_of cs → flat_map (λ k. map (λ x. place_of xs (stepped os ss (coordinates_of rows k)) + x * gap) (range_with_len 0 count)) (range_with_len 0 (product rows)) ≡ map (λ k. place_of xs (stepped os ss k)) (box_coordinates cs)
tile_rows laws [] os ss cs rows gap count in_xs in_os in_ss in_cs gap_is count_is rows_is = absurd (omega arith)
tile_rows laws (n ∷ ns) [] ss cs rows gap count in_xs in_os in_ss in_cs gap_is count_is rows_is = absurd (omega arith)
tile_rows laws (n ∷ ns) (o ∷ os) [] cs rows gap count in_xs in_os in_ss in_cs gap_is count_is rows_is = absurd (omega arith)
tile_rows laws (n ∷ ns) (o ∷ os) (s ∷ ss) [] rows gap count in_xs in_os in_ss in_cs gap_is count_is rows_is = absurd (omega arith)
tile_rows laws (n ∷ ns) (o ∷ os) (s ∷ ss) (c ∷ cs) rows gap count in_xs in_os in_ss in_cs gap_is count_is rows_is =
    let line : ℕ → ℕ → List ℕ → List ℕ = λ g m ks. map (λ x. place_of (n ∷ ns) (stepped (o ∷ os) (s ∷ ss) ks) + x * g) (range_with_len 0 m) in
    ap (λ g. flat_map (λ k. line g count (coordinates_of rows k)) (range_with_len 0 (product rows))) gap_is
    ∙ (ap (λ m. flat_map (λ k. line s m (coordinates_of rows k)) (range_with_len 0 (product rows))) count_is
    ∙ (ap (λ l. flat_map (λ k. line s c (coordinates_of l k)) (range_with_len 0 (product l))) rows_is
    ∙ rows_are laws (λ k. place_of (n ∷ ns) (stepped (o ∷ os) (s ∷ ss) k)) (line s c) c cs (λ ks.
    let higher = place_of ns (stepped os ss ks) in
    map_range_same (λ x. o + 0 * s + n * higher + x * s) (λ x. o + x * s + n * higher) 0 0 c (λ i h. omega arith))))

-- and those of its box in a cutout
pub cutout_rows : PlaceLaws → (xs os cs rows : List ℕ) (count : ℕ) → 0 < length xs → 0 < length os → 0 < length cs → count ≡ get_or cs 0 0 → rows ≡ 1 ∷ rest_of cs → flat_map (λ k. range_with_len (place_of xs (moved os (coordinates_of rows k))) count) (range_with_len 0 (product rows)) ≡ map (λ k. place_of xs (moved os k)) (box_coordinates cs)
cutout_rows laws [] os cs rows count in_xs in_os in_cs count_is rows_is = absurd (omega arith)
cutout_rows laws (n ∷ ns) [] cs rows count in_xs in_os in_cs count_is rows_is = absurd (omega arith)
cutout_rows laws (n ∷ ns) (o ∷ os) [] rows count in_xs in_os in_cs count_is rows_is = absurd (omega arith)
cutout_rows laws (n ∷ ns) (o ∷ os) (c ∷ cs) rows count in_xs in_os in_cs count_is rows_is =
    let line : ℕ → List ℕ → List ℕ = λ m ks. range_with_len (place_of (n ∷ ns) (moved (o ∷ os) ks)) m in
    ap (λ m. flat_map (λ k. line m (coordinates_of rows k)) (range_with_len 0 (product rows))) count_is
    ∙ (ap (λ l. flat_map (λ k. line c (coordinates_of l k)) (range_with_len 0 (product l))) rows_is
    ∙ rows_are laws (λ k. place_of (n ∷ ns) (moved (o ∷ os) k)) (line c) c cs (λ ks.
    let higher = place_of ns (moved os ks) in
    sym (range_moved (o + 0 + n * higher) 0 c (λ x. o + x + n * higher) (λ i h. omega arith))))

pub each_of : {A B : Type 0} (P : B → Type 0) (f : A → B) (xs : List A) → ((x : A) → P (f x)) → AllByRecursion P (map f xs)
each_of P f [] each = tt
each_of P f (x ∷ xs) each = (each x, each_of P f xs each)

-- the coordinates of any number are below the lengths
digits_below : (rs : List ℕ) (k : ℕ) → ((i : ℕ) → i < length rs → 1 ≤ get_or rs i 0) → AreCoordinatesOf rs (coordinates_of rs k)
digits_below [] k positive = record { axes = refl; below = λ i h. absurd (omega arith) }
digits_below (r ∷ rs) k positive =
    both_below r (k % r) rs (coordinates_of rs (k / r)) (mod_below k r (positive zero (omega arith))) (digits_below rs (k / r) (λ i h. positive (suc i) (omega arith)))

-- the last pick of a row lies in the tile
pub tile_end : PlaceLaws → (xs os ss cs rows : List ℕ) (gap count k : ℕ) → 0 < length xs → 0 < length os → 0 < length ss → 0 < length cs → gap ≡ get_or ss 0 0 → count ≡ get_or cs 0 0 → rows ≡ 1 ∷ rest_of cs → ((i : ℕ) → i < length cs → 1 ≤ get_or cs i 0) → ((ks : List ℕ) → AreCoordinatesOf cs ks → AreCoordinatesOf xs (stepped os ss ks)) → place_of xs (stepped os ss (coordinates_of rows k)) + (count - 1) * gap < product xs
tile_end laws [] os ss cs rows gap count k in_xs in_os in_ss in_cs gap_is count_is rows_is positive inside = absurd (omega arith)
tile_end laws (n ∷ ns) [] ss cs rows gap count k in_xs in_os in_ss in_cs gap_is count_is rows_is positive inside = absurd (omega arith)
tile_end laws (n ∷ ns) (o ∷ os) [] cs rows gap count k in_xs in_os in_ss in_cs gap_is count_is rows_is positive inside = absurd (omega arith)
tile_end laws (n ∷ ns) (o ∷ os) (s ∷ ss) [] rows gap count k in_xs in_os in_ss in_cs gap_is count_is rows_is positive inside = absurd (omega arith)
tile_end laws (n ∷ ns) (o ∷ os) (s ∷ ss) (c ∷ cs) rows gap count k in_xs in_os in_ss in_cs gap_is count_is rows_is positive inside =
    let js = coordinates_of cs k in
    let higher = place_of ns (stepped os ss js) in
    let last = both_below c (c - 1) cs js (omega (arith, positive zero (omega arith))) (digits_below cs k (λ i h. positive (suc i) (omega arith))) in
    let below : o + (c - 1) * s + n * higher < product (n ∷ ns) = laws.inside (n ∷ ns) (stepped (o ∷ os) (s ∷ ss) ((c - 1) ∷ js)) (inside ((c - 1) ∷ js) last) in
    let start : place_of (n ∷ ns) (stepped (o ∷ os) (s ∷ ss) (coordinates_of rows k)) ≡ o + 0 * s + n * higher =
    ap (λ l. place_of (n ∷ ns) (stepped (o ∷ os) (s ∷ ss) (coordinates_of l k))) rows_is
    ∙ (ap (λ d. place_of (n ∷ ns) (stepped (o ∷ os) (s ∷ ss) (d ∷ coordinates_of cs (k / 1)))) (mod-one k)
    ∙ ap (λ q. place_of (n ∷ ns) (stepped (o ∷ os) (s ∷ ss) (0 ∷ coordinates_of cs q))) (div-one k)) in
    let reach : (count - 1) * gap ≡ (c - 1) * s = ap (λ m. (m - 1) * gap) count_is ∙ ap (λ g. (c - 1) * g) gap_is in
    omega (arith, below, start, reach)

-- and a row ends in the cutout
pub cutout_end : PlaceLaws → (xs os cs rows : List ℕ) (count k : ℕ) → 0 < length xs → 0 < length os → 0 < length cs → count ≡ get_or cs 0 0 → rows ≡ 1 ∷ rest_of cs → ((i : ℕ) → i < length cs → 1 ≤ get_or cs i 0) → ((ks : List ℕ) → AreCoordinatesOf cs ks → AreCoordinatesOf xs (moved os ks)) → place_of xs (moved os (coordinates_of rows k)) + count ≤ product xs
cutout_end laws [] os cs rows count k in_xs in_os in_cs count_is rows_is positive inside = absurd (omega arith)
cutout_end laws (n ∷ ns) [] cs rows count k in_xs in_os in_cs count_is rows_is positive inside = absurd (omega arith)
cutout_end laws (n ∷ ns) (o ∷ os) [] rows count k in_xs in_os in_cs count_is rows_is positive inside = absurd (omega arith)
cutout_end laws (n ∷ ns) (o ∷ os) (c ∷ cs) rows count k in_xs in_os in_cs count_is rows_is positive inside =
    let js = coordinates_of cs k in
    let higher = place_of ns (moved os js) in
    let some = positive zero (omega arith) in
    let last = both_below c (c - 1) cs js (omega (arith, some)) (digits_below cs k (λ i h. positive (suc i) (omega arith))) in
    let below : o + (c - 1) + n * higher < product (n ∷ ns) = laws.inside (n ∷ ns) (moved (o ∷ os) ((c - 1) ∷ js)) (inside ((c - 1) ∷ js) last) in
    let start : place_of (n ∷ ns) (moved (o ∷ os) (coordinates_of rows k)) ≡ o + 0 + n * higher =
    ap (λ l. place_of (n ∷ ns) (moved (o ∷ os) (coordinates_of l k))) rows_is
    ∙ (ap (λ d. place_of (n ∷ ns) (moved (o ∷ os) (d ∷ coordinates_of cs (k / 1)))) (mod-one k)
    ∙ ap (λ q. place_of (n ∷ ns) (moved (o ∷ os) (0 ∷ coordinates_of cs q))) (div-one k)) in
    omega (arith, below, start, count_is, some)

-- one line is taken off
pub next_of : {X : Type 0} (f : ℕ → X) (a e : ℕ) → a < e → map f (range_with_len a (e - a)) ≡ f a ∷ map f (range_with_len (a + 1) (e - (a + 1)))
next_of f a e less =
    let count : e - a ≡ suc (e - (a + 1)) = omega arith in
    ap (λ n. map f (range_with_len a n)) count
