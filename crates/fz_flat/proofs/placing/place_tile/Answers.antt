-- The lines are within the tile and within the box.
use Rattle.std.proofs.Common.{◌≡◌, ℕ, ℤ, List, ◌*◌, ◌<◌, length, unsigned_abs, sym, ap, subst, ◌∙◌, arith}
use Rattle.std.specs.List.{AllByRecursion}
use Rattle.std.specs.Prelude.{slice_index}
use Rattle.fz_block.specs.declared.axes.Axes.{Axes}
use Rattle.fz_grid.specs.Arrays.{product}
use Rattle.fz_grid.specs.Cutout.{picks_in_tile}
use Rattle.fz_grid.specs.Grid.{tile_lengths}
use Rattle.fz_grid.specs.Line.{IsLineWithin, lines_in_tile}
use Rattle.fz_grid.specs.LineWalks.{lines_left}
use Rattle.fz_grid.specs.Region.{lengths_of}
use Rattle.fz_grid.specs.Sieve.{sieve_lengths}
use Rattle.fz_tile.specs.Pixels.{place_count}
use Rattle.fz_flat.specs.Cutting.{in_tile}
use Rattle.fz_flat.specs.Tiles.{pixel_bits, pixels_of}
use Rattle.fz_flat.proofs.DecodedLemmas.{back_of}
use Rattle.fz_flat.proofs.PlacedLemmas.{lines_inside, width_times}
use Rattle.fz_flat.proofs.placing.place_tile.Goals as goal

pub place_lines-requires-clause-lines : goal.place_lines-requires-clause-lines
place_lines-requires-clause-lines c =
    let p = c.args.plan.now in
    let t : ℕ = c.args.tile in
    let b : ℕ = pixel_bits p in
    let all : ℕ = product (sieve_lengths c.args.sieve.now) in
    let lengths_are : tile_lengths (lengths_of c.new-grid.result.shape) (lengths_of c.new-grid.result.tile) t ≡ tile_lengths (lengths_of p.shape) (lengths_of p.tile) t =
    ap (λ (a : Axes). tile_lengths (lengths_of a) (lengths_of c.new-grid.result.tile) t) c.new-grid.ensures.shape ∙ ap (λ (a : Axes). tile_lengths (lengths_of p.shape) (lengths_of a) t) c.new-grid.ensures.tile in
    let within : AllByRecursion (IsLineWithin (pixels_of p t) all) (lines_left c.tile_lines-lines.result) =
    subst (λ n. AllByRecursion (IsLineWithin n all) (lines_left c.tile_lines-lines.result)) (ap product lengths_are) c.tile_lines-lines.ensures.within in
    let width : c.width_of.result ≡ place_count b 1 = c.width_of.ensures.width ∙ ap (λ (y : ℤ). place_count (unsigned_abs y) 1) (back_of p.bitpix c.requires.size) in
    let in_tile_is : c.width_of.result * pixels_of p t ≡ place_count b (pixels_of p t) = ap (λ n. n * pixels_of p t) width ∙ sym (width_times b (pixels_of p t)) in
    let in_box_is : c.width_of.result * all ≡ place_count b all = ap (λ n. n * all) width ∙ sym (width_times b all) in
    (pixels_of p t, (all, within, omega (arith, in_tile_is, c.requires.numbers), omega (arith, in_box_is, c.requires.room)))

pub returns-clause-inside : goal.returns-clause-inside
returns-clause-inside c k low =
    let p = c.args.plan.now in
    let t : ℕ = c.args.tile in
    let all : ℕ = product (sieve_lengths c.args.sieve.now) in
    let lengths_are : tile_lengths (lengths_of c.new-grid.result.shape) (lengths_of c.new-grid.result.tile) t ≡ tile_lengths (lengths_of p.shape) (lengths_of p.tile) t =
    ap (λ (a : Axes). tile_lengths (lengths_of a) (lengths_of c.new-grid.result.tile) t) c.new-grid.ensures.shape ∙ ap (λ (a : Axes). tile_lengths (lengths_of p.shape) (lengths_of a) t) c.new-grid.ensures.tile in
    let within : AllByRecursion (IsLineWithin (pixels_of p t) all) (lines_left c.tile_lines-lines.result) =
    subst (λ n. AllByRecursion (IsLineWithin n all) (lines_left c.tile_lines-lines.result)) (ap product lengths_are) c.tile_lines-lines.ensures.within in
    let is : lines_in_tile (lines_left c.tile_lines-lines.result) ≡ in_tile p c.args.sieve.now t =
    c.tile_lines-lines.ensures.tile ∙ ap (λ (a : Axes). picks_in_tile (lengths_of a) (lengths_of c.new-grid.result.tile) c.args.sieve.now t) c.new-grid.ensures.shape
    ∙ ap (λ (a : Axes). picks_in_tile (lengths_of p.shape) (lengths_of a) c.args.sieve.now t) c.new-grid.ensures.tile in
    subst (λ (l : List ℕ). slice_index l k < pixels_of p t) is
    (lines_inside (lines_left c.tile_lines-lines.result) (pixels_of p t) all k within (subst (λ (l : List ℕ). k < length l) (sym is) low))
