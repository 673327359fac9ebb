-- A tile has as many places as its pixels take, and they hold whole pixels.
use Rattle.std.proofs.Common.{◌≡◌, ℕ, ◌≤◌, ◌^◌, ℤ, unsigned_abs, w32, of_z, to_z, ap, ◌∙◌, arith}
use Rattle.fz_table.specs.declared.record.Tile.{Tile}
use Rattle.fz_tile.specs.Pixels.{pixel_count, place_count}
use Rattle.fz_files.specs.Packed.{pixel_bits}
use Rattle.fz_files.specs.Restored.{pixels_of}
use Rattle.fz_pixels.proofs.OneTile.{tile_held}
use Rattle.fz_pixels.proofs.PartWrites.{back_of}
use Rattle.fz_pixels.proofs.PixelBytes.{count_most, count_pixels}
use Rattle.fz_pixels.proofs.one.places_of.Goals as goal

pub returns-clause-places : goal.returns-clause-places
returns-clause-places c =
    let p = c.args.plan.now in
    let back : to_z w32 (of_z w32 p.bitpix) ≡ p.bitpix = back_of p.bitpix c.requires.size in
    let pixels : c.known_tile.result.pixels ≡ pixels_of p c.args.tile = ap (λ (k : Tile). k.pixels) c.known_tile.ensures.known in
    c.place_count.ensures.count ∙ ap (λ (y : ℤ). place_count (unsigned_abs y) c.from.result) back ∙ ap (place_count (pixel_bits p)) (c.from.ensures ∙ pixels)

pub returns-clause-whole : goal.returns-clause-whole
returns-clause-whole c =
    let p = c.args.plan.now in
    let n : ℕ = pixels_of p c.args.tile in
    let back : to_z w32 (of_z w32 p.bitpix) ≡ p.bitpix = back_of p.bitpix c.requires.size in
    let pixels : c.known_tile.result.pixels ≡ n = ap (λ (k : Tile). k.pixels) c.known_tile.ensures.known in
    let places : c.place_count.result ≡ place_count (pixel_bits p) n =
    c.place_count.ensures.count ∙ ap (λ (y : ℤ). place_count (unsigned_abs y) c.from.result) back ∙ ap (place_count (pixel_bits p)) (c.from.ensures ∙ pixels) in
    let some : 1 ≤ n = omega (arith, pixels, c.known_tile.ensures.some) in
    let most : n ≤ 2 ^ 26 = omega (arith, pixels, c.known_tile.ensures.most) in
    tile_held (pixel_bits p) n c.place_count.result places some most

pub returns-clause-pixels : goal.returns-clause-pixels
returns-clause-pixels c =
    let p = c.args.plan.now in
    let n : ℕ = pixels_of p c.args.tile in
    let back : to_z w32 (of_z w32 p.bitpix) ≡ p.bitpix = back_of p.bitpix c.requires.size in
    let pixels : c.known_tile.result.pixels ≡ n = ap (λ (k : Tile). k.pixels) c.known_tile.ensures.known in
    let places : c.place_count.result ≡ place_count (pixel_bits p) n =
    c.place_count.ensures.count ∙ ap (λ (y : ℤ). place_count (unsigned_abs y) c.from.result) back ∙ ap (place_count (pixel_bits p)) (c.from.ensures ∙ pixels) in
    ap (pixel_count (pixel_bits p)) places ∙ count_pixels (pixel_bits p) n

pub returns-clause-most : goal.returns-clause-most
returns-clause-most c =
    let p = c.args.plan.now in
    let n : ℕ = pixels_of p c.args.tile in
    let back : to_z w32 (of_z w32 p.bitpix) ≡ p.bitpix = back_of p.bitpix c.requires.size in
    let pixels : c.known_tile.result.pixels ≡ n = ap (λ (k : Tile). k.pixels) c.known_tile.ensures.known in
    let places : c.place_count.result ≡ place_count (pixel_bits p) n =
    c.place_count.ensures.count ∙ ap (λ (y : ℤ). place_count (unsigned_abs y) c.from.result) back ∙ ap (place_count (pixel_bits p)) (c.from.ensures ∙ pixels) in
    let most : place_count (pixel_bits p) n ≤ place_count (pixel_bits p) (pixels_of p 0) = count_most (pixel_bits p) n (pixels_of p 0) c.known_tile.ensures.no_larger in
    omega (arith, places, most)
