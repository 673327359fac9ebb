-- The products of lengths that are cut short.
use Rattle.std.proofs.Common.{◌≡◌, ℕ, ◌-◌, ◌/◌, ◌≤◌, min, List, [], ◌∷◌, length, refl, ◌∙◌, arith}
use Rattle.std.proofs.lemmas.Nat.{mul-le}
use Rattle.fz_grid.specs.Arrays.{coordinates_of, product}
use Rattle.fz_grid.specs.Grid.{corner_of, lengths_from, tile_counts, tile_lengths}

-- what is cut short has no larger product
count_tiles : (ns ts : List ℕ) → length ts ≡ length ns → length (tile_counts ns ts) ≡ length ts
count_tiles [] [] same = refl
count_tiles [] (t ∷ ts) same = absurd (omega (arith, same))
count_tiles (n ∷ ns) [] same = absurd (omega (arith, same))
count_tiles (n ∷ ns) (t ∷ ts) same = let rest = count_tiles ns ts (omega (arith, same)) in omega (arith, rest)

count_coordinates : (ns : List ℕ) (k : ℕ) → length (coordinates_of ns k) ≡ length ns
count_coordinates [] k = refl
count_coordinates (n ∷ ns) k = let rest = count_coordinates ns (k / n) in omega (arith, rest)

count_corner : (ds ts : List ℕ) → length ds ≡ length ts → length (corner_of ds ts) ≡ length ts
count_corner [] [] same = refl
count_corner [] (t ∷ ts) same = absurd (omega (arith, same))
count_corner (d ∷ ds) [] same = absurd (omega (arith, same))
count_corner (d ∷ ds) (t ∷ ts) same = let rest = count_corner ds ts (omega (arith, same)) in omega (arith, rest)

product_from : (ns ts cs : List ℕ) → length ts ≡ length ns → length cs ≡ length ts → product (lengths_from ns ts cs) ≤ product ts
product_from [] [] cs same corner = omega arith
product_from [] (t ∷ ts) cs same corner = absurd (omega (arith, same))
product_from (n ∷ ns) [] cs same corner = absurd (omega (arith, same))
product_from (n ∷ ns) (t ∷ ts) [] same corner = absurd (omega (arith, corner))
product_from (n ∷ ns) (t ∷ ts) (c ∷ cs) same corner =
    let first : min t (n - c) ≤ t = omega arith in
    let rest : product (lengths_from ns ts cs) ≤ product ts = product_from ns ts cs (omega (arith, same)) (omega (arith, corner)) in
    mul-le (min t (n - c)) (product (lengths_from ns ts cs)) t (product ts) first rest

-- a tile has at most so many pixels as it is asked for
pub product_of_tile : (ns ts : List ℕ) (t : ℕ) → length ts ≡ length ns → product (tile_lengths ns ts t) ≤ product ts
product_of_tile ns ts t same =
    let counts = count_tiles ns ts same in
    let places : length (coordinates_of (tile_counts ns ts) t) ≡ length ts = count_coordinates (tile_counts ns ts) t ∙ counts in
    product_from ns ts (corner_of (coordinates_of (tile_counts ns ts) t) ts) same (count_corner (coordinates_of (tile_counts ns ts) t) ts places)
