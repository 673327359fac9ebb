-- Tiles that are written one after another.
use Rattle.std.proofs.Common.{◌≡◌, ℕ, zero, suc, ◌<◌, ℤ, List, [], ◌∷◌, ◌++◌, length, take, slice_index, slice_index_or, Option, refl, ap, ◌+◌, ◌∙◌, arith}
use Rattle.fz_grid.specs.declared.sieve.Sieve.{Sieve}
use Rattle.fz_head.specs.declared.plan.Plan.{Plan}
use Rattle.fz_pixels.specs.Scattered.{part_written, parts_written, tile_written, tiles_written}

-- one tile more
pub tiles_more : (p : Plan) (at i : ℕ) (tiles : List ℕ) (pixels : List (List ℤ)) (e : List ℤ) (contents : Option (List ℕ)) → i < length tiles → length pixels ≡ length tiles
    → tiles_written p at (take (suc i) tiles) (take (suc i) pixels) contents
    ≡ tile_written p at (slice_index tiles i) (slice_index_or pixels i e) (tiles_written p at (take i tiles) (take i pixels) contents)
tiles_more p at i [] pixels e contents near same = absurd (omega (arith, near))
tiles_more p at i (t ∷ ts) [] e contents near same = absurd (omega (arith, same))
tiles_more p at zero (t ∷ ts) (xs ∷ pixels) e contents near same = refl
tiles_more p at (suc i) (t ∷ ts) (xs ∷ pixels) e contents near same = tiles_more p at i ts pixels e (tile_written p at t xs contents) (omega (arith, near)) (omega (arith, same))

pub tiles_next : (p : Plan) (at i : ℕ) (tiles : List ℕ) (pixels : List (List ℤ)) (e : List ℤ) (contents : Option (List ℕ)) → i < length tiles → length pixels ≡ length tiles
    → tiles_written p at (take (i + 1) tiles) (take (i + 1) pixels) contents
    ≡ tile_written p at (slice_index tiles i) (slice_index_or pixels i e) (tiles_written p at (take i tiles) (take i pixels) contents)
tiles_next p at i tiles pixels e contents near same =
    let next : i + 1 ≡ suc i = omega arith in
    ap (λ n. tiles_written p at (take n tiles) (take n pixels) contents) next ∙ tiles_more p at i tiles pixels e contents near same

-- the picks of one tile more
pub parts_more : (p : Plan) (sieve : Sieve) (at i : ℕ) (tiles : List ℕ) (pixels : List (List ℤ)) (e : List ℤ) (contents : Option (List ℕ)) → i < length tiles → length pixels ≡ length tiles
    → parts_written p sieve at (take (suc i) tiles) (take (suc i) pixels) contents
    ≡ part_written p sieve at (slice_index tiles i) (slice_index_or pixels i e) (parts_written p sieve at (take i tiles) (take i pixels) contents)
parts_more p sieve at i [] pixels e contents near same = absurd (omega (arith, near))
parts_more p sieve at i (t ∷ ts) [] e contents near same = absurd (omega (arith, same))
parts_more p sieve at zero (t ∷ ts) (xs ∷ pixels) e contents near same = refl
parts_more p sieve at (suc i) (t ∷ ts) (xs ∷ pixels) e contents near same = parts_more p sieve at i ts pixels e (part_written p sieve at t xs contents) (omega (arith, near)) (omega (arith, same))

pub parts_next : (p : Plan) (sieve : Sieve) (at i : ℕ) (tiles : List ℕ) (pixels : List (List ℤ)) (e : List ℤ) (contents : Option (List ℕ)) → i < length tiles → length pixels ≡ length tiles
    → parts_written p sieve at (take (i + 1) tiles) (take (i + 1) pixels) contents
    ≡ part_written p sieve at (slice_index tiles i) (slice_index_or pixels i e) (parts_written p sieve at (take i tiles) (take i pixels) contents)
parts_next p sieve at i tiles pixels e contents near same =
    let next : i + 1 ≡ suc i = omega arith in
    ap (λ n. parts_written p sieve at (take n tiles) (take n pixels) contents) next ∙ parts_more p sieve at i tiles pixels e contents near same

-- the tiles of rounds, one after another
pub rounds_joined : (p : Plan) (at : ℕ) (front back : List ℕ) (xs ys : List (List ℤ)) (contents : Option (List ℕ)) → length xs ≡ length front
    → tiles_written p at (front ++ back) (xs ++ ys) contents ≡ tiles_written p at back ys (tiles_written p at front xs contents)
rounds_joined p at [] back [] ys contents same = refl
rounds_joined p at [] back (x ∷ xs) ys contents same = absurd (omega (arith, same))
rounds_joined p at (t ∷ ts) back [] ys contents same = absurd (omega (arith, same))
rounds_joined p at (t ∷ ts) back (x ∷ xs) ys contents same = rounds_joined p at ts back xs ys (tile_written p at t x contents) (omega (arith, same))

pub part_rounds_joined : (p : Plan) (sieve : Sieve) (at : ℕ) (front back : List ℕ) (xs ys : List (List ℤ)) (contents : Option (List ℕ)) → length xs ≡ length front
    → parts_written p sieve at (front ++ back) (xs ++ ys) contents ≡ parts_written p sieve at back ys (parts_written p sieve at front xs contents)
part_rounds_joined p sieve at [] back [] ys contents same = refl
part_rounds_joined p sieve at [] back (x ∷ xs) ys contents same = absurd (omega (arith, same))
part_rounds_joined p sieve at (t ∷ ts) back [] ys contents same = absurd (omega (arith, same))
part_rounds_joined p sieve at (t ∷ ts) back (x ∷ xs) ys contents same = part_rounds_joined p sieve at ts back xs ys (part_written p sieve at t x contents) (omega (arith, same))
