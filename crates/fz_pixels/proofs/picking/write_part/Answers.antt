-- The picks of a tile: its pixels are held by the first places, and there is room for their bytes.
use Rattle.std.proofs.Common.{◌≡◌, ℕ, ◌*◌, ◌/◌, ◌≤◌, ◌^◌, ℤ, List, length, take, unsigned_abs, w32, of_z, to_z, sym, ap, subst, ◌∙◌, arith}
use Rattle.std.specs.List.{AllByRecursion}
use Rattle.std.proofs.lemmas.List.{length-take-le}
use Rattle.fz_block.specs.declared.axes.Axes.{Axes}
use Rattle.fz_grid.specs.Arrays.{product}
use Rattle.fz_grid.specs.Grid.{tile_lengths}
use Rattle.fz_grid.specs.Region.{lengths_of}
use Rattle.fz_grid.specs.Sieve.{sieve_lengths}
use Rattle.fz_grid.specs.Cutout.{picks_in_cutout, picks_in_tile}
use Rattle.fz_grid.specs.Line.{IsLineWithin, lines_in_cutout, lines_in_tile}
use Rattle.fz_grid.specs.LineWalks.{lines_left}
use Rattle.fz_tile.specs.Pixels.{HoldPixels, place_count}
use Rattle.fz_files.specs.Packed.{pixel_bits}
use Rattle.fz_files.specs.Restored.{pixels_of}
use Rattle.fz_pixels.proofs.PartWrites.{back_of, part_held, part_room, picks_same}
use Rattle.fz_pixels.proofs.picking.write_part.Goals as goal

pub put_picks-done-requires-clause-pixels : goal.put_picks-done-requires-clause-pixels
put_picks-done-requires-clause-pixels g c =
    let p = c.args.plan.now in
    let t : ℕ = c.args.tile in
    let back : to_z w32 (of_z w32 p.bitpix) ≡ p.bitpix = back_of p.bitpix c.requires.tile.size in
    let lengths_are : tile_lengths (lengths_of c.new-grid.result.shape) (lengths_of c.new-grid.result.tile) t ≡ tile_lengths (lengths_of p.shape) (lengths_of p.tile) t =
    ap (λ (a : Axes). tile_lengths (lengths_of a) (lengths_of c.new-grid.result.tile) t) c.new-grid.ensures.shape ∙ ap (λ (a : Axes). tile_lengths (lengths_of p.shape) (lengths_of a) t) c.new-grid.ensures.tile in
    let xs : List ℤ = c.requires.pixels.0 in
    let held = c.requires.pixels.1 in
    let pixels_are : c.pixels.result ≡ pixels_of p t = c.pixels.ensures.pixels ∙ ap product (c.tile_box.ensures.lengths ∙ lengths_are) in
    let places_are : c.place_count-places.result ≡ place_count (pixel_bits p) (pixels_of p t) =
    c.place_count-places.ensures.count ∙ ap (λ (y : ℤ). place_count (unsigned_abs y) c.pixels.result) back ∙ ap (λ n. place_count (pixel_bits p) n) pixels_are in
    let count : length xs ≡ pixels_of p t = held.count in
    let small : length xs ≤ 2 ^ 26 = omega (arith, count, pixels_are, c.pixels.ensures.pixels, c.tile_box.ensures.no_larger, c.largest-largest.ensures.pixels, c.largest-largest.ensures.most) in
    let many : product (tile_lengths (lengths_of c.new-grid.result.shape) (lengths_of c.new-grid.result.tile) t) ≡ length xs = ap product lengths_are ∙ sym count in (
      xs,
      subst (λ (y : ℤ). HoldPixels (unsigned_abs y) (take c.place_count-places.result c.args.numbers.now) xs) (sym back) (part_held p t c.place_count-places.result c.args.numbers.now xs held places_are),
      small,
      (product (sieve_lengths c.args.sieve.now), subst (λ n. AllByRecursion (IsLineWithin n (product (sieve_lengths c.args.sieve.now))) (lines_left c.tile_lines-lines.result)) many c.tile_lines-lines.ensures.within),
    )

pub put_picks-done-requires-clause-room : goal.put_picks-done-requires-clause-room
put_picks-done-requires-clause-room g c =
    let p = c.args.plan.now in
    let t : ℕ = c.args.tile in
    let sieve = c.args.sieve.now in
    let back : to_z w32 (of_z w32 p.bitpix) ≡ p.bitpix = back_of p.bitpix c.requires.tile.size in
    let picks : lines_in_tile (lines_left c.tile_lines-lines.result) ≡ picks_in_tile (lengths_of p.shape) (lengths_of p.tile) sieve t =
    c.tile_lines-lines.ensures.tile ∙ ap (λ (a : Axes). picks_in_tile (lengths_of a) (lengths_of c.new-grid.result.tile) sieve t) c.new-grid.ensures.shape ∙ ap (λ (a : Axes). picks_in_tile (lengths_of p.shape) (lengths_of a) sieve t) c.new-grid.ensures.tile in
    let most = c.cutout_law.ensures.room (lengths_of p.shape) (lengths_of p.tile) sieve t (c.shape_law.ensures.tiles p.shape p.tile c.requires.tile.divided) c.cutout_axes-cutout.ensures.sifts in
    let fits : length (lines_in_tile (lines_left c.tile_lines-lines.result)) ≤ pixels_of p t = omega (arith, most, ap length picks) in
    subst (λ (y : ℤ). unsigned_abs y / 8 * length (lines_in_tile (lines_left c.tile_lines-lines.result)) ≤ length c.args.code.now) (sym back)
    (part_room p.bitpix (length (lines_in_tile (lines_left c.tile_lines-lines.result))) (pixels_of p t) (length c.args.code.now) c.requires.tile.size fits c.requires.code)

pub slice_bounds-bytes-end : goal.slice_bounds-bytes-end
slice_bounds-bytes-end g c =
    let p = c.args.plan.now in
    let t : ℕ = c.args.tile in
    let sieve = c.args.sieve.now in
    let back : to_z w32 (of_z w32 p.bitpix) ≡ p.bitpix = back_of p.bitpix c.requires.tile.size in
    let picks : lines_in_tile (lines_left c.tile_lines-lines.result) ≡ picks_in_tile (lengths_of p.shape) (lengths_of p.tile) sieve t =
    c.tile_lines-lines.ensures.tile ∙ ap (λ (a : Axes). picks_in_tile (lengths_of a) (lengths_of c.new-grid.result.tile) sieve t) c.new-grid.ensures.shape ∙ ap (λ (a : Axes). picks_in_tile (lengths_of p.shape) (lengths_of a) sieve t) c.new-grid.ensures.tile in
    let most = c.cutout_law.ensures.room (lengths_of p.shape) (lengths_of p.tile) sieve t (c.shape_law.ensures.tiles p.shape p.tile c.requires.tile.divided) c.cutout_axes-cutout.ensures.sifts in
    let fits : length (lines_in_tile (lines_left c.tile_lines-lines.result)) ≤ pixels_of p t = omega (arith, most, ap length picks) in
    let room : unsigned_abs (to_z w32 (of_z w32 p.bitpix)) / 8 * length (lines_in_tile (lines_left c.tile_lines-lines.result)) ≤ length c.args.code.now =
    subst (λ (y : ℤ). unsigned_abs y / 8 * length (lines_in_tile (lines_left c.tile_lines-lines.result)) ≤ length c.args.code.now) (sym back)
    (part_room p.bitpix (length (lines_in_tile (lines_left c.tile_lines-lines.result))) (pixels_of p t) (length c.args.code.now) c.requires.tile.size fits c.requires.code) in
    let done : c.put_picks-done.result ≤ length c.put_picks-done.new.code = omega (arith, room, c.put_picks-done.ensures.count, c.put_picks-done.ensures.len) in
    done

pub slice_bounds-bytes-end-2 : goal.slice_bounds-bytes-end-2
slice_bounds-bytes-end-2 g c =
    let p = c.args.plan.now in
    let t : ℕ = c.args.tile in
    let sieve = c.args.sieve.now in
    let back : to_z w32 (of_z w32 p.bitpix) ≡ p.bitpix = back_of p.bitpix c.requires.tile.size in
    let picks : lines_in_tile (lines_left c.tile_lines-lines.result) ≡ picks_in_tile (lengths_of p.shape) (lengths_of p.tile) sieve t =
    c.tile_lines-lines.ensures.tile ∙ ap (λ (a : Axes). picks_in_tile (lengths_of a) (lengths_of c.new-grid.result.tile) sieve t) c.new-grid.ensures.shape ∙ ap (λ (a : Axes). picks_in_tile (lengths_of p.shape) (lengths_of a) sieve t) c.new-grid.ensures.tile in
    let most = c.cutout_law.ensures.room (lengths_of p.shape) (lengths_of p.tile) sieve t (c.shape_law.ensures.tiles p.shape p.tile c.requires.tile.divided) c.cutout_axes-cutout.ensures.sifts in
    let fits : length (lines_in_tile (lines_left c.tile_lines-lines.result)) ≤ pixels_of p t = omega (arith, most, ap length picks) in
    let room : unsigned_abs (to_z w32 (of_z w32 p.bitpix)) / 8 * length (lines_in_tile (lines_left c.tile_lines-lines.result)) ≤ length c.args.code.now =
    subst (λ (y : ℤ). unsigned_abs y / 8 * length (lines_in_tile (lines_left c.tile_lines-lines.result)) ≤ length c.args.code.now) (sym back)
    (part_room p.bitpix (length (lines_in_tile (lines_left c.tile_lines-lines.result))) (pixels_of p t) (length c.args.code.now) c.requires.tile.size fits c.requires.code) in
    let done : c.put_picks-done.result ≤ length c.put_picks-done.new.code = omega (arith, room, c.put_picks-done.ensures.count, c.put_picks-done.ensures.len) in
    sym (length-take-le c.put_picks-done.result c.put_picks-done.new.code done)

pub write_lines-requires-clause-within : goal.write_lines-requires-clause-within
write_lines-requires-clause-within g c =
    let p = c.args.plan.now in
    let back : to_z w32 (of_z w32 p.bitpix) ≡ p.bitpix = back_of p.bitpix c.requires.tile.size in
    let size : c.pixel_len.result ≡ pixel_bits p / 8 = c.pixel_len.ensures.len ∙ ap (λ (y : ℤ). unsigned_abs y / 8) back in
    let same : c.pixel_len.result * product (sieve_lengths c.args.sieve.now) ≡ pixel_bits p / 8 * product (sieve_lengths c.args.sieve.now) = ap (λ n. n * product (sieve_lengths c.args.sieve.now)) size in
    (product (tile_lengths (lengths_of c.new-grid.result.shape) (lengths_of c.new-grid.result.tile) c.args.tile), (product (sieve_lengths c.args.sieve.now), c.tile_lines-lines-2.ensures.within, omega (arith, c.requires.tile.near, same)))

pub write_lines-requires-clause-bytes : goal.write_lines-requires-clause-bytes
write_lines-requires-clause-bytes g c =
    let p = c.args.plan.now in
    let t : ℕ = c.args.tile in
    let sieve = c.args.sieve.now in
    let back : to_z w32 (of_z w32 p.bitpix) ≡ p.bitpix = back_of p.bitpix c.requires.tile.size in
    let picks : lines_in_tile (lines_left c.tile_lines-lines.result) ≡ picks_in_tile (lengths_of p.shape) (lengths_of p.tile) sieve t =
    c.tile_lines-lines.ensures.tile ∙ ap (λ (a : Axes). picks_in_tile (lengths_of a) (lengths_of c.new-grid.result.tile) sieve t) c.new-grid.ensures.shape ∙ ap (λ (a : Axes). picks_in_tile (lengths_of p.shape) (lengths_of a) sieve t) c.new-grid.ensures.tile in
    let most = c.cutout_law.ensures.room (lengths_of p.shape) (lengths_of p.tile) sieve t (c.shape_law.ensures.tiles p.shape p.tile c.requires.tile.divided) c.cutout_axes-cutout.ensures.sifts in
    let fits : length (lines_in_tile (lines_left c.tile_lines-lines.result)) ≤ pixels_of p t = omega (arith, most, ap length picks) in
    let room : unsigned_abs (to_z w32 (of_z w32 p.bitpix)) / 8 * length (lines_in_tile (lines_left c.tile_lines-lines.result)) ≤ length c.args.code.now =
    subst (λ (y : ℤ). unsigned_abs y / 8 * length (lines_in_tile (lines_left c.tile_lines-lines.result)) ≤ length c.args.code.now) (sym back)
    (part_room p.bitpix (length (lines_in_tile (lines_left c.tile_lines-lines.result))) (pixels_of p t) (length c.args.code.now) c.requires.tile.size fits c.requires.code) in
    let done : c.put_picks-done.result ≤ length c.put_picks-done.new.code = omega (arith, room, c.put_picks-done.ensures.count, c.put_picks-done.ensures.len) in
    let cut : lines_in_cutout (lines_left c.tile_lines-lines-2.result) ≡ picks_in_cutout (lengths_of p.shape) (lengths_of p.tile) sieve t =
    c.tile_lines-lines-2.ensures.cutout ∙ ap (λ (a : Axes). picks_in_cutout (lengths_of a) (lengths_of c.new-grid.result.tile) sieve t) c.new-grid.ensures.shape ∙ ap (λ (a : Axes). picks_in_cutout (lengths_of p.shape) (lengths_of a) sieve t) c.new-grid.ensures.tile in
    let as_many : length (lines_in_tile (lines_left c.tile_lines-lines.result)) ≡ length (lines_in_cutout (lines_left c.tile_lines-lines-2.result)) =
    ap length picks ∙ picks_same (lengths_of p.shape) (lengths_of p.tile) sieve t ∙ sym (ap length cut) in
    length-take-le c.put_picks-done.result c.put_picks-done.new.code done ∙ c.put_picks-done.ensures.count
    ∙ ap (λ n. unsigned_abs (to_z w32 (of_z w32 p.bitpix)) / 8 * n) as_many
    ∙ sym (ap (λ n. n * length (lines_in_cutout (lines_left c.tile_lines-lines-2.result))) c.pixel_len.ensures.len)
