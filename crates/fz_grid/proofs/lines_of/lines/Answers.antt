use Rattle.std.proofs.Common.{◌≡◌, ℕ, min, ◌-◌, ◌^◌, length, get_or, set, map, refl, ap, ◌∙◌, arith}
use Rattle.std.specs.List.{range_with_len}
use Rattle.fz_block.specs.declared.axes.Axes.{Axes}
use Rattle.fz_grid.specs.declared.part.Part.{Part}
use Rattle.fz_grid.specs.Arrays.{product}
use Rattle.fz_grid.specs.Laws.{RegionsAreShapes}
use Rattle.fz_grid.specs.Region.{IsShape, IsWithin, lengths_of}
use Rattle.fz_grid.specs.Line.{lines_in_cutout, lines_in_tile}
use Rattle.fz_grid.specs.declared.line.Line.{Line}
use Rattle.fz_grid.specs.LineWalks.{nth_line}
use Rattle.fz_grid.proofs.BoxLists.{PlaceLaws}
use Rattle.fz_grid.proofs.RowLemmas.{AreRows, in_cutout_are, in_tile_are, lines_within, rows_shape}
use Rattle.fz_grid.proofs.TableLemmas.{set_first, set_later}
use Rattle.fz_grid.proofs.LineLemmas.{each_of}
use Rattle.fz_grid.proofs.lines_of.lines.Goals as goal

-- how many lines there are
count_of : (part : Part) (cutout rows : Axes) (end : ℕ) → RegionsAreShapes → length part.at.len ≡ 9 → IsShape cutout → IsWithin cutout part.at → rows.n ≡ part.at.n → rows.len ≡ set part.at.len 0 1 → end ≡ min (product (lengths_of rows)) (2 ^ 64 - 1) → end - 0 ≡ product (lengths_of rows)
count_of part cutout rows end law long is within same len ends =
    omega (arith, ends, (rows_shape part.at rows long (law cutout part.at is within) same len).pixels)

pub invariant_of-result : goal.invariant_of-result
invariant_of-result c =
    let tile = c.args.tile in
    let cutout = c.args.cutout in
    let part = c.args.part in
    let rows : Axes = record { n = c.axes-rows.result.n; len = set c.axes-rows.result.len 0 1 } in
    let same : rows.n ≡ part.at.n = ap (λ (x : Axes). x.n) c.axes-rows.ensures in
    let len : rows.len ≡ set part.at.len 0 1 = ap (λ (x : Axes). set x.len 0 1) c.axes-rows.ensures in
    let long : length part.at.len ≡ 9 = omega arith in
    let count = count_of part cutout rows c.volume-end.result c.shape_law.ensures.region long c.requires.cutout_is c.requires.at same len c.volume-end.ensures in
    let of_len = ap (λ (x : Axes). x.len) c.axes-rows.ensures in
    record {
      between = c.requires;
      rows_are = rows_shape part.at rows long (c.shape_law.ensures.region cutout part.at c.requires.cutout_is c.requires.at) same len;
      rows_axes = same ∙ (c.requires.at.same_axes ∙ c.requires.same_axes);
      first = set_first c.axes-rows.result.len (omega arith);
      later = λ i some h. set_later c.axes-rows.result.len i some ∙ ap (λ l. get_or l i 0) of_len;
      all = omega (arith, count);
      ordered = omega arith;
    }

pub returns-clause-tile : goal.returns-clause-tile
returns-clause-tile c =
    let tile = c.args.tile in
    let cutout = c.args.cutout in
    let part = c.args.part in
    let rows : Axes = record { n = c.axes-rows.result.n; len = set c.axes-rows.result.len 0 1 } in
    let same : rows.n ≡ part.at.n = ap (λ (x : Axes). x.n) c.axes-rows.ensures in
    let len : rows.len ≡ set part.at.len 0 1 = ap (λ (x : Axes). set x.len 0 1) c.axes-rows.ensures in
    let long : length part.at.len ≡ 9 = omega arith in
    let count = count_of part cutout rows c.volume-end.result c.shape_law.ensures.region long c.requires.cutout_is c.requires.at same len c.volume-end.ensures in
    let laws : PlaceLaws = record {
      inside = c.place_law.ensures.inside;
      coordinates = c.place_law.ensures.coordinates;
      numbers = c.place_law.ensures.numbers;
      order = c.place_law.ensures.order;
    } in
    let are : AreRows tile cutout part rows = record {
      tile_len = omega arith;
      cutout_len = omega arith;
      lo = omega arith;
      hi = omega arith;
      step = omega arith;
      at_lo = omega arith;
      at_len = long;
      between = c.requires;
      rows_n = same;
      rows_len = len;
    } in
    let nth = nth_line tile cutout part rows in
    ap (λ n. lines_in_tile (map nth (range_with_len 0 n))) count
    ∙ in_tile_are laws tile cutout part rows are

pub returns-clause-cutout : goal.returns-clause-cutout
returns-clause-cutout c =
    let tile = c.args.tile in
    let cutout = c.args.cutout in
    let part = c.args.part in
    let rows : Axes = record { n = c.axes-rows.result.n; len = set c.axes-rows.result.len 0 1 } in
    let same : rows.n ≡ part.at.n = ap (λ (x : Axes). x.n) c.axes-rows.ensures in
    let len : rows.len ≡ set part.at.len 0 1 = ap (λ (x : Axes). set x.len 0 1) c.axes-rows.ensures in
    let long : length part.at.len ≡ 9 = omega arith in
    let count = count_of part cutout rows c.volume-end.result c.shape_law.ensures.region long c.requires.cutout_is c.requires.at same len c.volume-end.ensures in
    let laws : PlaceLaws = record {
      inside = c.place_law.ensures.inside;
      coordinates = c.place_law.ensures.coordinates;
      numbers = c.place_law.ensures.numbers;
      order = c.place_law.ensures.order;
    } in
    let are : AreRows tile cutout part rows = record {
      tile_len = omega arith;
      cutout_len = omega arith;
      lo = omega arith;
      hi = omega arith;
      step = omega arith;
      at_lo = omega arith;
      at_len = long;
      between = c.requires;
      rows_n = same;
      rows_len = len;
    } in
    let nth = nth_line tile cutout part rows in
    ap (λ n. lines_in_cutout (map nth (range_with_len 0 n))) count
    ∙ in_cutout_are laws tile cutout part rows are

pub returns-clause-within : goal.returns-clause-within
returns-clause-within c =
    let tile = c.args.tile in
    let cutout = c.args.cutout in
    let part = c.args.part in
    let rows : Axes = record { n = c.axes-rows.result.n; len = set c.axes-rows.result.len 0 1 } in
    let same : rows.n ≡ part.at.n = ap (λ (x : Axes). x.n) c.axes-rows.ensures in
    let len : rows.len ≡ set part.at.len 0 1 = ap (λ (x : Axes). set x.len 0 1) c.axes-rows.ensures in
    let long : length part.at.len ≡ 9 = omega arith in
    let laws : PlaceLaws = record {
      inside = c.place_law.ensures.inside;
      coordinates = c.place_law.ensures.coordinates;
      numbers = c.place_law.ensures.numbers;
      order = c.place_law.ensures.order;
    } in
    let are : AreRows tile cutout part rows = record {
      tile_len = omega arith;
      cutout_len = omega arith;
      lo = omega arith;
      hi = omega arith;
      step = omega arith;
      at_lo = omega arith;
      at_len = long;
      between = c.requires;
      rows_n = same;
      rows_len = len;
    } in
    lines_within laws tile cutout part rows (c.volume-end.result - 0) are

pub returns-clause-step : goal.returns-clause-step
returns-clause-step c =
    let rows : Axes = record { n = c.axes-rows.result.n; len = set c.axes-rows.result.len 0 1 } in
    each_of (λ (line : Line). line.step ≡ get_or c.args.part.inside.step 0 0) (nth_line c.args.tile c.args.cutout c.args.part rows) (range_with_len 0 (c.volume-end.result - 0)) (λ k. refl)
