-- The picks of a tile: its pixels are held by the first places, and the buffer has room for what the sieve cuts out.
use Rattle.std.proofs.Common.{◌≡◌, ℕ, ◌*◌, ◌/◌, ◌≤◌, ◌^◌, ℤ, List, length, take, unsigned_abs, w32, of_z, to_z, sym, ap, subst, ◌∙◌, arith, length-take-le}
use Rattle.std.specs.List.{AllByRecursion}
use Rattle.fz_block.specs.declared.axes.Axes.{Axes}
use Rattle.fz_grid.specs.Arrays.{product}
use Rattle.fz_grid.specs.Grid.{tile_lengths}
use Rattle.fz_grid.specs.Region.{lengths_of}
use Rattle.fz_grid.specs.Sieve.{sieve_lengths}
use Rattle.fz_grid.specs.Cutout.{picks_in_cutout, picks_in_tile}
use Rattle.fz_grid.specs.Line.{IsLineWithin, lines_in_cutout, lines_in_tile}
use Rattle.fz_grid.specs.LineWalks.{lines_left}
use Rattle.fz_tile.specs.Pixels.{HoldPixels, place_count}
use Rattle.fz_files.specs.Packed.{pixel_bits}
use Rattle.fz_files.specs.Restored.{pixels_of}
use Rattle.fz_pixels.proofs.PartWrites.{back_of, part_held}
use Rattle.fz_pixels.proofs.SpanLemmas.{lines_whole, part_whole}
use Rattle.fz_pixels.proofs.placing.place_part.Goals as goal

pub slice_bounds-place_lines-end : goal.slice_bounds-place_lines-end
slice_bounds-place_lines-end c =
    let p = c.args.plan.now in
    let t : ℕ = c.args.tile in
    let back : to_z w32 (of_z w32 p.bitpix) ≡ p.bitpix = back_of p.bitpix c.requires.size in
    let lengths_are : tile_lengths (lengths_of c.new-grid.result.shape) (lengths_of c.new-grid.result.tile) t ≡ tile_lengths (lengths_of p.shape) (lengths_of p.tile) t =
    ap (λ (a : Axes). tile_lengths (lengths_of a) (lengths_of c.new-grid.result.tile) t) c.new-grid.ensures.shape ∙ ap (λ (a : Axes). tile_lengths (lengths_of p.shape) (lengths_of a) t) c.new-grid.ensures.tile in
    let pixels_are : c.pixels.result ≡ pixels_of p t = c.pixels.ensures.pixels ∙ ap product (c.tile_box.ensures.lengths ∙ lengths_are) in
    let places_are : c.place_count-places.result ≡ place_count (pixel_bits p) (pixels_of p t) =
    c.place_count-places.ensures.count ∙ ap (λ (y : ℤ). place_count (unsigned_abs y) c.pixels.result) back ∙ ap (λ n. place_count (pixel_bits p) n) pixels_are in
    let fits : c.place_count-places.result ≤ length c.args.numbers.now = omega (arith, places_are, c.requires.numbers) in
    sym (length-take-le c.place_count-places.result c.args.numbers.now fits)

pub place_lines-requires-clause-pixels : goal.place_lines-requires-clause-pixels
place_lines-requires-clause-pixels c =
    let p = c.args.plan.now in
    let t : ℕ = c.args.tile in
    let all : ℕ = product (sieve_lengths c.args.sieve.now) in
    let back : to_z w32 (of_z w32 p.bitpix) ≡ p.bitpix = back_of p.bitpix c.requires.size in
    let lengths_are : tile_lengths (lengths_of c.new-grid.result.shape) (lengths_of c.new-grid.result.tile) t ≡ tile_lengths (lengths_of p.shape) (lengths_of p.tile) t =
    ap (λ (a : Axes). tile_lengths (lengths_of a) (lengths_of c.new-grid.result.tile) t) c.new-grid.ensures.shape ∙ ap (λ (a : Axes). tile_lengths (lengths_of p.shape) (lengths_of a) t) c.new-grid.ensures.tile in
    let xs : List ℤ = c.requires.pixels.0 in
    let held = c.requires.pixels.1 in
    let pixels_are : c.pixels.result ≡ pixels_of p t = c.pixels.ensures.pixels ∙ ap product (c.tile_box.ensures.lengths ∙ lengths_are) in
    let places_are : c.place_count-places.result ≡ place_count (pixel_bits p) (pixels_of p t) =
    c.place_count-places.ensures.count ∙ ap (λ (y : ℤ). place_count (unsigned_abs y) c.pixels.result) back ∙ ap (λ n. place_count (pixel_bits p) n) pixels_are in
    let count : length xs ≡ pixels_of p t = held.count in
    let small : length xs ≤ 2 ^ 26 = omega (arith, count, pixels_are, c.pixels.ensures.pixels, c.tile_box.ensures.no_larger, c.largest-largest.ensures.pixels, c.largest-largest.ensures.most) in
    let many : product (tile_lengths (lengths_of c.new-grid.result.shape) (lengths_of c.new-grid.result.tile) t) ≡ length xs = ap product lengths_are ∙ sym count in
    let within : AllByRecursion (IsLineWithin (length xs) all) (lines_left c.tile_lines-lines.result) =
    subst (λ n. AllByRecursion (IsLineWithin n all) (lines_left c.tile_lines-lines.result)) many c.tile_lines-lines.ensures.within in (
      xs,
      subst (λ (y : ℤ). HoldPixels (unsigned_abs y) (take c.place_count-places.result c.args.numbers.now) xs) (sym back) (part_held p t c.place_count-places.result c.args.numbers.now xs held places_are),
      small,
      (
        all,
        lines_whole (length xs) all (lines_left c.tile_lines-lines.result) within,
        subst (λ (y : ℤ). unsigned_abs y / 8 * all ≤ length c.args.out.now) (sym back) c.requires.room,
      ),
    )

pub returns-clause-placed : goal.returns-clause-placed
returns-clause-placed c xs held =
    let p = c.args.plan.now in
    let t : ℕ = c.args.tile in
    let sieve = c.args.sieve.now in
    let z : ℤ = to_z w32 (of_z w32 p.bitpix) in
    let back : z ≡ p.bitpix = back_of p.bitpix c.requires.size in
    let lengths_are : tile_lengths (lengths_of c.new-grid.result.shape) (lengths_of c.new-grid.result.tile) t ≡ tile_lengths (lengths_of p.shape) (lengths_of p.tile) t =
    ap (λ (a : Axes). tile_lengths (lengths_of a) (lengths_of c.new-grid.result.tile) t) c.new-grid.ensures.shape ∙ ap (λ (a : Axes). tile_lengths (lengths_of p.shape) (lengths_of a) t) c.new-grid.ensures.tile in
    let pixels_are : c.pixels.result ≡ pixels_of p t = c.pixels.ensures.pixels ∙ ap product (c.tile_box.ensures.lengths ∙ lengths_are) in
    let places_are : c.place_count-places.result ≡ place_count (pixel_bits p) (pixels_of p t) =
    c.place_count-places.ensures.count ∙ ap (λ (y : ℤ). place_count (unsigned_abs y) c.pixels.result) back ∙ ap (λ n. place_count (pixel_bits p) n) pixels_are in
    let picks : lines_in_tile (lines_left c.tile_lines-lines.result) ≡ picks_in_tile (lengths_of p.shape) (lengths_of p.tile) sieve t =
    c.tile_lines-lines.ensures.tile ∙ ap (λ (a : Axes). picks_in_tile (lengths_of a) (lengths_of c.new-grid.result.tile) sieve t) c.new-grid.ensures.shape ∙ ap (λ (a : Axes). picks_in_tile (lengths_of p.shape) (lengths_of a) sieve t) c.new-grid.ensures.tile in
    let cut : lines_in_cutout (lines_left c.tile_lines-lines.result) ≡ picks_in_cutout (lengths_of p.shape) (lengths_of p.tile) sieve t =
    c.tile_lines-lines.ensures.cutout ∙ ap (λ (a : Axes). picks_in_cutout (lengths_of a) (lengths_of c.new-grid.result.tile) sieve t) c.new-grid.ensures.shape ∙ ap (λ (a : Axes). picks_in_cutout (lengths_of p.shape) (lengths_of a) sieve t) c.new-grid.ensures.tile in
    let there : HoldPixels (unsigned_abs z) (take c.place_count-places.result c.args.numbers.now) xs =
    subst (λ (y : ℤ). HoldPixels (unsigned_abs y) (take c.place_count-places.result c.args.numbers.now) xs) (sym back) (part_held p t c.place_count-places.result c.args.numbers.now xs held places_are) in
    part_whole p sieve t z xs (lines_in_tile (lines_left c.tile_lines-lines.result)) (lines_in_cutout (lines_left c.tile_lines-lines.result)) c.args.out.now c.place_lines.new.out back picks cut
    (c.place_lines.ensures.placed xs there)
