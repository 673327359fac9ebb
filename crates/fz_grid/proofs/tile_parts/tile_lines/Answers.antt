use Rattle.std.proofs.Common.{◌≡◌, ℕ, ap, subst, sym, ◌∙◌, arith}
use Rattle.std.specs.List.{AllByRecursion}
use Rattle.fz_block.specs.declared.axes.Axes.{Axes}
use Rattle.fz_grid.specs.Grid.{tile_corner, tile_lengths}
use Rattle.fz_grid.specs.Region.{lengths_of, places_of, region_corner, region_lengths}
use Rattle.fz_grid.specs.Sieve.{all_before, picks_in, sieve_hi, sieve_lengths, sieve_lo, sieve_step, stepped_places}
use Rattle.fz_grid.specs.Cutout.{first_from}
use Rattle.fz_grid.specs.declared.line.Line.{Line}
use Rattle.fz_grid.specs.Line.{IsPartBetween}
use Rattle.fz_grid.specs.LineWalks.{lines_left}
use Rattle.fz_grid.proofs.SieveLemmas.{part_between, part_corner, part_counts, part_starts, part_steps, tables_of}
use Rattle.fz_grid.proofs.TableLemmas.{long_enough}
use Rattle.fz_grid.proofs.tile_parts.tile_lines.Goals as goal

pub lines-requires : goal.lines-requires
lines-requires c =
    let shape = c.args.grid.now.shape in
    let divided = c.args.grid.now.divided in
    let long = long_enough shape.len shape.n (λ i h. omega (arith, divided.positive i h, divided.inside i h)) in
    let are = tables_of shape c.args.sieve.now c.tile_box-region.result c.part-part.result long divided.axes c.requires.sieve.same_axes c.tile_box-region.ensures.axes c.cutout_axes-cutout.ensures.sifts (omega arith) (omega arith) (omega arith) (omega arith) (omega arith) (omega arith) in
    let sieve = c.args.sieve.now in
    let same = c.requires.sieve.same_axes in
    let cutout = c.cutout_axes-cutout.result in
    subst (λ (x : Axes). IsPartBetween x cutout c.part-part.result) (sym c.axes.ensures)
    (part_between sieve c.tile_box-region.result c.part-part.result cutout are c.part-part.ensures.part c.tile_box-region.ensures.shape c.cutout_axes-cutout.ensures.shape (c.cutout_axes-cutout.ensures.axes ∙ sym same) c.cutout_axes-cutout.ensures.lengths (λ i h. c.requires.sieve.positive i (omega (arith, same))))

pub returns-clause-tile : goal.returns-clause-tile
returns-clause-tile c =
    let shape = c.args.grid.now.shape in
    let divided = c.args.grid.now.divided in
    let long = long_enough shape.len shape.n (λ i h. omega (arith, divided.positive i h, divided.inside i h)) in
    let are = tables_of shape c.args.sieve.now c.tile_box-region.result c.part-part.result long divided.axes c.requires.sieve.same_axes c.tile_box-region.ensures.axes c.cutout_axes-cutout.ensures.sifts (omega arith) (omega arith) (omega arith) (omega arith) (omega arith) (omega arith) in
    let sieve = c.args.sieve.now in
    let region = c.tile_box-region.result in
    let part = c.part-part.result in
    let array = lengths_of c.args.grid.now.shape in
    let tile = lengths_of c.args.grid.now.tile in
    let of_axes : lengths_of c.axes.result ≡ tile_lengths array tile c.args.t = ap (λ (x : Axes). lengths_of x) c.axes.ensures ∙ c.tile_box-region.ensures.lengths in
    let corner = c.tile_box-region.ensures.corner in
    let lengths = c.tile_box-region.ensures.lengths in
    let is = c.part-part.ensures.part in
    let os = sieve_lo sieve in
    let hs = sieve_hi sieve in
    let ss = sieve_step sieve in
    let starts : sieve_lo part.inside ≡ first_from os hs ss (tile_corner array tile c.args.t) = part_starts sieve region part are is ∙ ap (first_from os hs ss) corner in
    let steps = part_steps sieve region part are is in
    let counts : sieve_lengths part.inside ≡ picks_in os hs ss (tile_corner array tile c.args.t) (tile_lengths array tile c.args.t) =
    c.part-part.ensures.lengths
    ∙ (part_counts sieve region part are is ∙ (ap (λ l. picks_in os hs ss l (region_lengths region)) corner ∙ ap (picks_in os hs ss (tile_corner array tile c.args.t)) lengths)) in
    c.lines.ensures.tile
    ∙ (ap (λ l. stepped_places l (sieve_lo part.inside) (sieve_step part.inside) (sieve_lengths part.inside)) of_axes
    ∙ (ap (λ l. stepped_places (tile_lengths array tile c.args.t) l (sieve_step part.inside) (sieve_lengths part.inside)) starts
    ∙ (ap (λ l. stepped_places (tile_lengths array tile c.args.t) (first_from os hs ss (tile_corner array tile c.args.t)) l (sieve_lengths part.inside)) steps
    ∙ ap (stepped_places (tile_lengths array tile c.args.t) (first_from os hs ss (tile_corner array tile c.args.t)) ss) counts)))

pub returns-clause-cutout : goal.returns-clause-cutout
returns-clause-cutout c =
    let shape = c.args.grid.now.shape in
    let divided = c.args.grid.now.divided in
    let long = long_enough shape.len shape.n (λ i h. omega (arith, divided.positive i h, divided.inside i h)) in
    let are = tables_of shape c.args.sieve.now c.tile_box-region.result c.part-part.result long divided.axes c.requires.sieve.same_axes c.tile_box-region.ensures.axes c.cutout_axes-cutout.ensures.sifts (omega arith) (omega arith) (omega arith) (omega arith) (omega arith) (omega arith) in
    let sieve = c.args.sieve.now in
    let region = c.tile_box-region.result in
    let part = c.part-part.result in
    let array = lengths_of c.args.grid.now.shape in
    let tile = lengths_of c.args.grid.now.tile in
    let corner = c.tile_box-region.ensures.corner in
    let lengths = c.tile_box-region.ensures.lengths in
    let is = c.part-part.ensures.part in
    let os = sieve_lo sieve in
    let hs = sieve_hi sieve in
    let ss = sieve_step sieve in
    let firsts : region_corner part.at ≡ all_before os hs ss (tile_corner array tile c.args.t) = part_corner sieve region part are is ∙ ap (all_before os hs ss) corner in
    let counts : region_lengths part.at ≡ picks_in os hs ss (tile_corner array tile c.args.t) (tile_lengths array tile c.args.t) =
    part_counts sieve region part are is ∙ (ap (λ l. picks_in os hs ss l (region_lengths region)) corner ∙ ap (picks_in os hs ss (tile_corner array tile c.args.t)) lengths) in
    c.lines.ensures.cutout
    ∙ (ap (λ l. places_of l (region_corner part.at) (region_lengths part.at)) c.cutout_axes-cutout.ensures.lengths
    ∙ (ap (λ l. places_of (sieve_lengths sieve) l (region_lengths part.at)) firsts ∙ ap (places_of (sieve_lengths sieve) (all_before os hs ss (tile_corner array tile c.args.t))) counts))

pub returns-clause-step : goal.returns-clause-step
returns-clause-step c =
    let same = c.part-part.ensures.part.step 0 (omega (arith, c.tile_box-region.ensures.axes, c.args.grid.now.divided.some)) in
    subst (λ (step : ℕ). AllByRecursion (λ (line : Line). line.step ≡ step) (lines_left c.lines.result)) same c.lines.ensures.step
