-- The picks of a tile are of the pixels that are held.
use Rattle.std.proofs.Common.{◌≡◌, ℕ, ◌+◌, ◌-◌, ◌*◌, ◌/◌, ◌≤◌, ◌^◌, ℤ, List, length, take, drop, All, Some, unsigned_abs, w32, of_z, to_z, sym, ap, subst, ◌∙◌, arith, length-drop, length-take-le}
use Rattle.std.specs.List.{AllByRecursion}
use Rattle.fz_block.specs.declared.axes.Axes.{Axes}
use Rattle.fz_grid.specs.Arrays.{product}
use Rattle.fz_grid.specs.Grid.{tile_lengths}
use Rattle.fz_grid.specs.Region.{lengths_of}
use Rattle.fz_grid.specs.Sieve.{sieve_lengths}
use Rattle.fz_grid.specs.Cutout.{picks_in_cutout, picks_in_tile}
use Rattle.fz_grid.specs.Line.{lines_in_cutout, lines_in_tile}
use Rattle.fz_grid.specs.LineWalks.{lines_left}
use Rattle.fz_tile.specs.Pixels.{HoldPixels, place_count}
use Rattle.fz_tile.specs.Plain.{plain_bytes}
use Rattle.fz_files.specs.Packed.{pixel_bits}
use Rattle.fz_files.specs.Restored.{pixels_of}
use Rattle.fz_pixels.specs.Parts.{IsLineBetween, IsPlaceBetween, pixels_from}
use Rattle.fz_pixels.specs.Pieces.{pieces_written}
use Rattle.fz_pixels.proofs.PartWrites.{back_of}
use Rattle.fz_pixels.proofs.PixelBytes.{count_most}
use Rattle.fz_pixels.proofs.SpanLemmas.{between_held, lines_between, part_between}
use Rattle.fz_pixels.proofs.placing.place_between.Goals as goal

-- how many pixels are between two
between_len : (i j n : ℕ) (xs : List ℤ) → i ≤ j → j ≤ n → length xs ≡ n → length (take (j - i) (drop i xs)) ≡ j - i
between_len i j n xs less most count = length-take-le (j - i) (drop i xs) (omega (arith, length-drop i xs, less, most, count))

pub slice_bounds-place_lines-start : goal.slice_bounds-place_lines-start
slice_bounds-place_lines-start c =
    let p = c.args.plan.now in
    let back : to_z w32 (of_z w32 p.bitpix) ≡ p.bitpix = back_of p.bitpix c.requires.size in
    let start : c.place_count-start.result ≡ place_count (pixel_bits p) c.args.first =
    c.place_count-start.ensures.count ∙ ap (λ (y : ℤ). place_count (unsigned_abs y) c.from-low.result) back ∙ ap (place_count (pixel_bits p)) c.from-low.ensures in
    let stop : c.place_count-stop.result ≡ place_count (pixel_bits p) c.args.end =
    c.place_count-stop.ensures.count ∙ ap (λ (y : ℤ). place_count (unsigned_abs y) c.from-high.result) back ∙ ap (place_count (pixel_bits p)) c.from-high.ensures in
    let most : place_count (pixel_bits p) c.args.first ≤ place_count (pixel_bits p) c.args.end = count_most (pixel_bits p) c.args.first c.args.end c.requires.span.0 in
    omega (arith, start, stop, most)

pub slice_bounds-place_lines-end : goal.slice_bounds-place_lines-end
slice_bounds-place_lines-end c =
    let p = c.args.plan.now in
    let back : to_z w32 (of_z w32 p.bitpix) ≡ p.bitpix = back_of p.bitpix c.requires.size in
    let stop : c.place_count-stop.result ≡ place_count (pixel_bits p) c.args.end =
    c.place_count-stop.ensures.count ∙ ap (λ (y : ℤ). place_count (unsigned_abs y) c.from-high.result) back ∙ ap (place_count (pixel_bits p)) c.from-high.ensures in
    omega (arith, stop, c.requires.numbers)

pub place_lines-requires-clause-pixels : goal.place_lines-requires-clause-pixels
place_lines-requires-clause-pixels c =
    let p = c.args.plan.now in
    let t : ℕ = c.args.tile in
    let sieve = c.args.sieve.now in
    let i : ℕ = c.args.first in
    let j : ℕ = c.args.end in
    let low : ℕ = c.from-low.result in
    let at : low ≡ i = c.from-low.ensures in
    let all : ℕ = product (sieve_lengths sieve) in
    let n : ℕ = product (tile_lengths (lengths_of c.new-grid.result.shape) (lengths_of c.new-grid.result.tile) t) in
    let xs : List ℤ = c.requires.pixels.0 in
    let held = c.requires.pixels.1 in
    let ys : List ℤ = take (j - i) (drop i xs) in
    let back : to_z w32 (of_z w32 p.bitpix) ≡ p.bitpix = back_of p.bitpix c.requires.size in
    let start : c.place_count-start.result ≡ place_count (pixel_bits p) i =
    c.place_count-start.ensures.count ∙ ap (λ (y : ℤ). place_count (unsigned_abs y) low) back ∙ ap (place_count (pixel_bits p)) at in
    let stop : c.place_count-stop.result ≡ place_count (pixel_bits p) j =
    c.place_count-stop.ensures.count ∙ ap (λ (y : ℤ). place_count (unsigned_abs y) c.from-high.result) back ∙ ap (place_count (pixel_bits p)) c.from-high.ensures in
    let slice : List ℤ = take (c.place_count-stop.result - c.place_count-start.result) (drop c.place_count-start.result c.args.numbers.now) in
    let there : HoldPixels (pixel_bits p) slice ys = between_held p t i j c.place_count-start.result c.place_count-stop.result c.args.numbers.now xs held c.requires.span.0 start stop in
    let long : length ys ≡ j - i = between_len i j (pixels_of p t) xs c.requires.span.0 c.requires.span.1 held.count in
    let small : length ys ≤ 2 ^ 26 = omega (arith, long, c.requires.span.1, c.tile_pixels-pixels.ensures.pixels, c.tile_pixels-pixels.ensures.most) in
    let sum : j ≡ low + length ys = omega (arith, long, at, c.requires.span.0) in
    let picks : lines_in_tile (lines_left c.tile_lines-lines.result) ≡ picks_in_tile (lengths_of p.shape) (lengths_of p.tile) sieve t =
    c.tile_lines-lines.ensures.tile ∙ ap (λ (a : Axes). picks_in_tile (lengths_of a) (lengths_of c.new-grid.result.tile) sieve t) c.new-grid.ensures.shape ∙ ap (λ (a : Axes). picks_in_tile (lengths_of p.shape) (lengths_of a) sieve t) c.new-grid.ensures.tile in
    let between : AllByRecursion (IsLineBetween i j all) (lines_left c.tile_lines-lines.result) =
    lines_between i j n all (lines_left c.tile_lines-lines.result) c.tile_lines-lines.ensures.within (subst (λ (l : List ℕ). All (IsPlaceBetween i j) l) (sym picks) c.requires.picks) in (
      ys,
      subst (λ (y : ℤ). HoldPixels (unsigned_abs y) slice ys) (sym back) there,
      small,
      (
        all,
        subst (λ k. AllByRecursion (IsLineBetween low k all) (lines_left c.tile_lines-lines.result)) sum
            (subst (λ k. AllByRecursion (IsLineBetween k j all) (lines_left c.tile_lines-lines.result)) (sym at) between),
        subst (λ (y : ℤ). unsigned_abs y / 8 * all ≤ length c.args.out.now) (sym back) c.requires.room,
      ),
    )

pub returns-clause-placed : goal.returns-clause-placed
returns-clause-placed c xs held =
    let p = c.args.plan.now in
    let t : ℕ = c.args.tile in
    let sieve = c.args.sieve.now in
    let i : ℕ = c.args.first in
    let j : ℕ = c.args.end in
    let low : ℕ = c.from-low.result in
    let at : low ≡ i = c.from-low.ensures in
    let ys : List ℤ = take (j - i) (drop i xs) in
    let z : ℤ = to_z w32 (of_z w32 p.bitpix) in
    let back : z ≡ p.bitpix = back_of p.bitpix c.requires.size in
    let start : c.place_count-start.result ≡ place_count (pixel_bits p) i =
    c.place_count-start.ensures.count ∙ ap (λ (y : ℤ). place_count (unsigned_abs y) low) back ∙ ap (place_count (pixel_bits p)) at in
    let stop : c.place_count-stop.result ≡ place_count (pixel_bits p) j =
    c.place_count-stop.ensures.count ∙ ap (λ (y : ℤ). place_count (unsigned_abs y) c.from-high.result) back ∙ ap (place_count (pixel_bits p)) c.from-high.ensures in
    let slice : List ℤ = take (c.place_count-stop.result - c.place_count-start.result) (drop c.place_count-start.result c.args.numbers.now) in
    let there : HoldPixels (unsigned_abs z) slice ys =
    subst (λ (y : ℤ). HoldPixels (unsigned_abs y) slice ys) (sym back) (between_held p t i j c.place_count-start.result c.place_count-stop.result c.args.numbers.now xs held c.requires.span.0 start stop) in
    let in_tile : List ℕ = lines_in_tile (lines_left c.tile_lines-lines.result) in
    let in_cutout : List ℕ = lines_in_cutout (lines_left c.tile_lines-lines.result) in
    let picks : in_tile ≡ picks_in_tile (lengths_of p.shape) (lengths_of p.tile) sieve t =
    c.tile_lines-lines.ensures.tile ∙ ap (λ (a : Axes). picks_in_tile (lengths_of a) (lengths_of c.new-grid.result.tile) sieve t) c.new-grid.ensures.shape ∙ ap (λ (a : Axes). picks_in_tile (lengths_of p.shape) (lengths_of a) sieve t) c.new-grid.ensures.tile in
    let cut : in_cutout ≡ picks_in_cutout (lengths_of p.shape) (lengths_of p.tile) sieve t =
    c.tile_lines-lines.ensures.cutout ∙ ap (λ (a : Axes). picks_in_cutout (lengths_of a) (lengths_of c.new-grid.result.tile) sieve t) c.new-grid.ensures.shape ∙ ap (λ (a : Axes). picks_in_cutout (lengths_of p.shape) (lengths_of a) sieve t) c.new-grid.ensures.tile in
    part_between p sieve t i j z xs in_tile in_cutout c.args.out.now c.place_lines.new.out back picks cut c.requires.picks
    (c.place_lines.ensures.placed ys there ∙ ap (λ k. pieces_written (unsigned_abs z / 8) 0 in_cutout (plain_bytes (unsigned_abs z) (pixels_from k ys in_tile)) (Some c.args.out.now)) at)
