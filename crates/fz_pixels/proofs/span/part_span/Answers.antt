-- The lines of a tile have its picks.
use Rattle.std.proofs.Common.{◌≡◌, ℕ, ◌-◌, ◌<◌, List, length, All, Contains, sym, ap, subst, ◌∙◌, arith}
use Rattle.std.specs.List.{AllByRecursion}
use Rattle.fz_block.specs.declared.axes.Axes.{Axes}
use Rattle.fz_grid.specs.Arrays.{product}
use Rattle.fz_grid.specs.Grid.{tile_lengths}
use Rattle.fz_grid.specs.Region.{lengths_of}
use Rattle.fz_grid.specs.Sieve.{sieve_lengths}
use Rattle.fz_grid.specs.Cutout.{picks_in_tile}
use Rattle.fz_grid.specs.Line.{IsLineWithin, lines_in_tile}
use Rattle.fz_grid.specs.LineWalks.{lines_left}
use Rattle.fz_pixels.specs.Parts.{IsPlaceBetween}
use Rattle.fz_pixels.proofs.SpanLemmas.{some_picks}
use Rattle.fz_pixels.proofs.span.part_span.Goals as goal

pub lines_span-span-requires-clause-within : goal.lines_span-span-requires-clause-within
lines_span-span-requires-clause-within c =
    let p = c.args.plan.now in
    let t : ℕ = c.args.tile in
    let all : ℕ = product (sieve_lengths c.args.sieve.now) in
    let lengths_are : tile_lengths (lengths_of c.new-grid.result.shape) (lengths_of c.new-grid.result.tile) t ≡ tile_lengths (lengths_of p.shape) (lengths_of p.tile) t =
    ap (λ (a : Axes). tile_lengths (lengths_of a) (lengths_of c.new-grid.result.tile) t) c.new-grid.ensures.shape ∙ ap (λ (a : Axes). tile_lengths (lengths_of p.shape) (lengths_of a) t) c.new-grid.ensures.tile in
    let many : product (tile_lengths (lengths_of c.new-grid.result.shape) (lengths_of c.new-grid.result.tile) t) ≡ c.from-pixels.result =
    ap product lengths_are ∙ sym (c.from-pixels.ensures ∙ c.tile_pixels.ensures.pixels) in
    (all, subst (λ n. AllByRecursion (IsLineWithin n all) (lines_left c.tile_lines-lines.result)) many c.tile_lines-lines.ensures.within)

pub lines_span-span-requires-clause-some : goal.lines_span-span-requires-clause-some
lines_span-span-requires-clause-some c =
    let p = c.args.plan.now in
    let t : ℕ = c.args.tile in
    let sieve = c.args.sieve.now in
    let picks : lines_in_tile (lines_left c.tile_lines-lines.result) ≡ picks_in_tile (lengths_of p.shape) (lengths_of p.tile) sieve t =
    c.tile_lines-lines.ensures.tile ∙ ap (λ (a : Axes). picks_in_tile (lengths_of a) (lengths_of c.new-grid.result.tile) sieve t) c.new-grid.ensures.shape ∙ ap (λ (a : Axes). picks_in_tile (lengths_of p.shape) (lengths_of a) sieve t) c.new-grid.ensures.tile in
    let some : 0 < length (picks_in_tile (lengths_of p.shape) (lengths_of p.tile) sieve t) = some_picks c.place_law.ensures.pixels (lengths_of p.shape) (lengths_of p.tile) sieve t c.requires.picked in
    omega (arith, some, ap length picks)

pub returns-clause-spans : goal.returns-clause-spans
returns-clause-spans c =
    let p = c.args.plan.now in
    let t : ℕ = c.args.tile in
    let sieve = c.args.sieve.now in
    let first : ℕ = c.lines_span-span.result.0 in
    let end : ℕ = c.lines_span-span.result.1 in
    let picks : lines_in_tile (lines_left c.tile_lines-lines.result) ≡ picks_in_tile (lengths_of p.shape) (lengths_of p.tile) sieve t =
    c.tile_lines-lines.ensures.tile ∙ ap (λ (a : Axes). picks_in_tile (lengths_of a) (lengths_of c.new-grid.result.tile) sieve t) c.new-grid.ensures.shape ∙ ap (λ (a : Axes). picks_in_tile (lengths_of p.shape) (lengths_of a) sieve t) c.new-grid.ensures.tile in
    record {
      within = subst (λ (l : List ℕ). All (IsPlaceBetween first end) l) picks c.lines_span-span.ensures.within;
      first = subst (λ (l : List ℕ). Contains l first) picks c.lines_span-span.ensures.first;
      last = subst (λ (l : List ℕ). Contains l (end - 1)) picks c.lines_span-span.ensures.last;
    }

pub returns-clause-most : goal.returns-clause-most
returns-clause-most c = omega (arith, c.lines_span-span.ensures.most, c.from-pixels.ensures, c.tile_pixels.ensures.pixels)
