-- One line after another.
use Rattle.std.proofs.Common.{◌≡◌, ℕ, ◌*◌, ◌<◌, ◌≤◌, ℤ, List, [], ◌∷◌, length, Option, IfSome, slice_index, refl, sym, ap, subst, ◌∙◌, arith, rules}
use Rattle.std.specs.List.{AllByRecursion}
use Rattle.fz_block.specs.declared.axes.Axes.{Axes}
use Rattle.fz_grid.specs.Arrays.{product}
use Rattle.fz_grid.specs.Grid.{tile_lengths}
use Rattle.fz_grid.specs.Region.{lengths_of}
use Rattle.fz_grid.specs.Sieve.{sieve_lengths}
use Rattle.fz_grid.specs.Cutout.{picks_in_cutout, picks_in_tile}
use Rattle.fz_grid.specs.Line.{IsLineWithin, lines_in_cutout, lines_in_tile}
use Rattle.fz_grid.specs.LineWalks.{lines_left}
use Rattle.fz_grid.specs.declared.line.Line.{Line}
use Rattle.fz_files.specs.Restored.{pixels_of}
use Rattle.fz_target.specs.Reads.{pixels_end}
use Rattle.fz_target.specs.Tiles.{HasPiece}
use Rattle.fz_target.proofs.GivenLines.{all_begin, all_over, all_step, line_first, some_step}
use Rattle.fz_target.proofs.merge.put_given.Goals as goal

pub loop-line-init : goal.loop-line-init
loop-line-init g c =
    let t = c.args.target.now in
    let p = t.image.plan in
    let given : lines_left c.into_iter-line-iterator.result ≡ lines_left c.tile_lines-line-items.result = ap lines_left c.into_iter-line-iterator.ensures.into_iter_gives in
    let shape : c.grid-grid.result.shape ≡ p.shape = c.grid-grid.ensures.0 in
    let tile : c.grid-grid.result.tile ≡ p.tile = c.grid-grid.ensures.1 in
    let in_tile : lines_in_tile (lines_left c.into_iter-line-iterator.result) ≡ picks_in_tile (lengths_of p.shape) (lengths_of p.tile) t.sieve c.args.tile =
    ap lines_in_tile given ∙ (c.tile_lines-line-items.ensures.tile ∙ (λ j. picks_in_tile (lengths_of (shape j)) (lengths_of (tile j)) t.sieve c.args.tile))
    in
    let in_cutout : lines_in_cutout (lines_left c.into_iter-line-iterator.result) ≡ picks_in_cutout (lengths_of p.shape) (lengths_of p.tile) t.sieve c.args.tile =
    ap lines_in_cutout given ∙ (c.tile_lines-line-items.ensures.cutout ∙ (λ j. picks_in_cutout (lengths_of (shape j)) (lengths_of (tile j)) t.sieve c.args.tile))
    in
    let size : product (tile_lengths (lengths_of c.grid-grid.result.shape) (lengths_of c.grid-grid.result.tile) c.args.tile) ≡ pixels_of p c.args.tile =
    λ j. product (tile_lengths (lengths_of (shape j)) (lengths_of (tile j)) c.args.tile)
    in
    record {
      held = refl;
      attached = refl;
      told = λ told. told;
      reads = refl;
      pixels_read = c.log_law.ensures.none t.pixels_at (pixels_end t) (g.S.Source.ranges c.args.patch.now);
      copy = refl;
      numbers = refl;
      steps = subst (AllByRecursion (λ (line : Line). line.step ≡ slice_index t.sieve.step 0)) (sym given) c.tile_lines-line-items.ensures.step;
      within = subst (AllByRecursion (IsLineWithin (pixels_of p c.args.tile) (product (sieve_lengths t.sieve)))) (sym given)
          (subst (λ n. AllByRecursion (IsLineWithin n (product (sieve_lengths t.sieve))) (lines_left c.tile_lines-line-items.result)) size c.tile_lines-line-items.ensures.within);
      some = c.requires.pixels;
      put = all_begin t c.args.tile c.requires.tile.near c.new_numbers_law.ensures.given c.new_numbers_law.ensures.stay (g.S.Source.held c.args.patch.now) (lines_left c.into_iter-line-iterator.result) c.args.numbers.now
          (c.shape_law.ensures.tiles p.shape p.tile c.requires.target.readable.divided) in_tile in_cutout;
    }

pub put_line-requires-clause-line : goal.put_line-requires-clause-line
put_line-requires-clause-line g c =
    let t = c.args.target.now in
    let p = t.image.plan in
    let next : lines_left c.loop-line.line-iterator ≡ c.in-Some.line ∷ lines_left c.next.new.self = c.in-Some.ensures.steps in
    let within = (line_first (IsLineWithin (pixels_of p c.args.tile) (product (sieve_lengths t.sieve))) c.in-Some.line _ _ next c.loop-line.invariant.within).0 in
    let shape : c.grid-grid.result.shape ≡ p.shape = c.grid-grid.ensures.0 in
    let tile : c.grid-grid.result.tile ≡ p.tile = c.grid-grid.ensures.1 in
    let largest : c.largest-largest.result ≡ pixels_of p 0 = c.largest-largest.ensures.pixels ∙ (λ j. product (tile_lengths (lengths_of (shape j)) (lengths_of (tile j)) 0)) in
    let most = c.tile_pixels_law.ensures.most (lengths_of p.shape) (lengths_of p.tile) c.args.tile (c.shape_law.ensures.tiles p.shape p.tile c.requires.target.readable.divided) in (
      pixels_of p c.args.tile,
      omega (arith, most, largest, c.largest-largest.ensures.most),
      within,
      omega (arith, c.requires.room, c.loop-line.invariant.numbers),
    )

pub put_line-requires-clause-step : goal.put_line-requires-clause-step
put_line-requires-clause-step g c =
    let t = c.args.target.now in
    let next : lines_left c.loop-line.line-iterator ≡ c.in-Some.line ∷ lines_left c.next.new.self = c.in-Some.ensures.steps in
    (line_first (λ (line : Line). line.step ≡ slice_index t.sieve.step 0) c.in-Some.line _ _ next c.loop-line.invariant.steps).0 ∙ c.requires.target.step

pub loop-line-preserved : goal.loop-line-preserved
loop-line-preserved g c =
    let t = c.args.target.now in
    let p = t.image.plan in
    let line : Line = c.in-Some.line in
    let held : Option (List ℕ) = g.S.Source.held c.args.patch.now in
    let next : lines_left c.loop-line.line-iterator ≡ line ∷ lines_left c.next.new.self = c.in-Some.ensures.steps in
    let steps = line_first (λ (l : Line). l.step ≡ slice_index t.sieve.step 0) line _ _ next c.loop-line.invariant.steps in
    let within = line_first (IsLineWithin (pixels_of p c.args.tile) (product (sieve_lengths t.sieve))) line _ _ next c.loop-line.invariant.within in
    let one : line.step ≡ 1 = steps.0 ∙ c.requires.target.step in
    let room : 2 * pixels_of p c.args.tile ≤ length c.loop-line.numbers = omega (arith, c.requires.room, c.loop-line.invariant.numbers) in
    let put : HasPiece t line.in_tile line.in_cutout line.count held c.loop-line.numbers c.put_line.new.numbers =
    subst (λ h. HasPiece t line.in_tile line.in_cutout line.count h c.loop-line.numbers c.put_line.new.numbers) c.loop-line.invariant.held c.in_ok-put_line.ensures.piece
    in
    record {
      held = search rules;
      attached = search rules;
      told = λ told. c.in_ok-put_line.ensures.stays.0.told (c.loop-line.invariant.told told);
      reads = search rules;
      pixels_read = c.log_law.ensures.both t.pixels_at (pixels_end t) (g.S.Source.ranges c.args.patch.now) (g.S.Source.ranges c.loop-line.patch) (g.S.Source.ranges c.put_line.new.patch) c.loop-line.invariant.pixels_read c.put_line.ensures.pixels_read;
      copy = search rules;
      numbers = search rules;
      steps = steps.1;
      within = within.1;
      some = some_step t c.args.tile line held c.loop-line.numbers c.put_line.new.numbers one (product (sieve_lengths t.sieve)) within.0 room put c.loop-line.invariant.some;
      put = all_step t c.args.tile c.requires.tile.near held line _ _ c.args.numbers.now c.loop-line.numbers c.put_line.new.numbers next one within.0 room put c.loop-line.invariant.put;
    }

pub returns-clause-new : goal.returns-clause-new
returns-clause-new g c =
    let none : lines_left c.loop-line.line-iterator ≡ [] = c.in-None.ensures.steps.0 in
    all_over c.args.target.now c.args.tile c.requires.tile.near c.place_law.ensures.pixels (g.S.Source.held c.args.patch.now) (lines_left c.loop-line.line-iterator) c.args.numbers.now c.loop-line.numbers none c.loop-line.invariant.put

pub returns-in_err-put_line-clause-pixels_read : goal.returns-in_err-put_line-clause-pixels_read
returns-in_err-put_line-clause-pixels_read g c =
    let t = c.args.target.now in
    c.log_law.ensures.both t.pixels_at (pixels_end t) (g.S.Source.ranges c.args.patch.now) (g.S.Source.ranges c.loop-line.patch) (g.S.Source.ranges c.put_line.new.patch) c.loop-line.invariant.pixels_read c.put_line.ensures.pixels_read
