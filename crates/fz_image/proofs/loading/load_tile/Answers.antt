-- The pixels stand in the numbers, and are those of the tile.
use Rattle.std.proofs.Common.{◌≡◌, ℕ, ◌+◌, List, length, drop, Option, IfSome, sym, ap, ◌∙◌, subst, rules}
use Rattle.std.specs.Prelude.{unsigned_abs}
use Rattle.fz_grid.specs.Arrays.{product}
use Rattle.fz_grid.specs.Division.{tile_places}
use Rattle.fz_grid.specs.Grid.{tile_corner, tile_lengths}
use Rattle.fz_grid.specs.Region.{lengths_of, places_of, region_corner, region_lengths}
use Rattle.fz_image.specs.Layout.{pixel_bytes_of}
use Rattle.fz_image.specs.Strips.{HasStrips}
use Rattle.fz_image.specs.Tiles.{pixels_at_places}
use Rattle.fz_image.proofs.LoadedTiles.{hold_tile, round_trip, told_tile}
use Rattle.fz_image.proofs.loading.load_tile.Goals as goal

pub returns-clause-holds : goal.returns-clause-holds
returns-clause-holds g c =
    let l = c.args.layout.now in
    let t : ℕ = c.args.tile in
    let r = c.tile_box-region.result in
    let shape = c.grid.ensures.shape in
    let tile = c.grid.ensures.tile in
    let corner : region_corner r ≡ tile_corner (lengths_of l.plan.shape) (lengths_of l.plan.tile) t =
    c.tile_box-region.ensures.corner ∙ (λ i. tile_corner (lengths_of (shape i)) (lengths_of (tile i)) t) in
    let lengths : region_lengths r ≡ tile_lengths (lengths_of l.plan.shape) (lengths_of l.plan.tile) t =
    c.tile_box-region.ensures.lengths ∙ (λ i. tile_lengths (lengths_of (shape i)) (lengths_of (tile i)) t) in
    let places : List ℕ = places_of (lengths_of l.plan.shape) (region_corner r) (region_lengths r) in
    let at : places ≡ tile_places (lengths_of l.plan.shape) (lengths_of l.plan.tile) t = λ i. places_of (lengths_of l.plan.shape) (corner i) (lengths i) in
    let n : ℕ = c.tile_pixels-pixels.result in
    let count : length places ≡ n = c.place_law.ensures.pixels (lengths_of l.plan.shape) (region_corner r) (region_lengths r) ∙ ap product lengths ∙ sym c.tile_pixels-pixels.ensures.pixels in
    hold_tile l (g.S.Source.held c.args.source.now) t n _ c.read_front.new.numbers c.read_region.new.into (ap unsigned_abs (round_trip l.plan.bitpix c.requires.can.layout.plan.writable.size)) c.tile_pixels-pixels.ensures.pixels c.tile_pixels-pixels.ensures.some c.tile_pixels-pixels.ensures.most c.read_front.ensures.pixels
    (told_tile l (g.S.Source.held c.args.source.now) c.requires.can.pixels.0 t n c.read_region.new.into places c.requires.can.layout c.requires.can.pixels.2 (g.met.S.Source.agrees c.args.source.now c.requires.can.pixels.0 c.requires.can.pixels.1)
    c.tiles_law.ensures.places at count c.in_ok-read_region.ensures.below
    (subst (λ (h : Option (List ℕ)). IfSome h (λ file. c.read_region.new.into ≡ pixels_at_places l.pixel_len (drop l.pixels_at file) places)) c.look_ahead.ensures.stays.0.held_is c.in_ok-read_region.ensures.pixels))

-- ---- what is read

pub returns-clause-stays : goal.returns-clause-stays
returns-clause-stays g c =
    let l = c.args.layout.now in (
      record {
        source = record {
          held_is = c.read_region.ensures.stays.0.held_is ∙ c.look_ahead.ensures.stays.0.held_is;
          attached_is = c.read_region.ensures.stays.0.attached_is ∙ c.look_ahead.ensures.stays.0.attached_is;
          told = λ told. c.read_region.ensures.stays.0.told (c.look_ahead.ensures.stays.0.told told);
        };
        log = c.log_law.ensures.both l.pixels_at (l.pixels_at + pixel_bytes_of l) (g.S.Source.ranges c.args.source.now) (g.S.Source.ranges c.look_ahead.new.source) (g.S.Source.ranges c.read_region.new.source)
            c.look_ahead.ensures.log c.read_region.ensures.log;
        cause = search rules;
      },
      search rules,
      search rules,
      search rules,
    )

pub returns-in_err-read_region-clause-stays : goal.returns-in_err-read_region-clause-stays
returns-in_err-read_region-clause-stays g c =
    let l = c.args.layout.now in (
      record {
        source = record {
          held_is = c.read_region.ensures.stays.0.held_is ∙ c.look_ahead.ensures.stays.0.held_is;
          attached_is = c.read_region.ensures.stays.0.attached_is ∙ c.look_ahead.ensures.stays.0.attached_is;
          told = λ told. c.read_region.ensures.stays.0.told (c.look_ahead.ensures.stays.0.told told);
        };
        log = c.log_law.ensures.both l.pixels_at (l.pixels_at + pixel_bytes_of l) (g.S.Source.ranges c.args.source.now) (g.S.Source.ranges c.look_ahead.new.source) (g.S.Source.ranges c.read_region.new.source)
            c.look_ahead.ensures.log c.read_region.ensures.log;
        cause = search rules;
      },
      search rules,
      search rules,
      search rules,
    )

-- ---- the strips are still there

pub returns-clause-strips : goal.returns-clause-strips
returns-clause-strips g c = subst (λ (h : Option (List ℕ)). HasStrips h c.look_ahead.new.strips c.look_ahead.new.ahead) (sym c.read_region.ensures.stays.0.held_is) c.look_ahead.ensures.strips

pub returns-in_err-read_region-clause-strips : goal.returns-in_err-read_region-clause-strips
returns-in_err-read_region-clause-strips g c = subst (λ (h : Option (List ℕ)). HasStrips h c.look_ahead.new.strips c.look_ahead.new.ahead) (sym c.read_region.ensures.stays.0.held_is) c.look_ahead.ensures.strips

pub returns-in_err-look_ahead-clause-stays : goal.returns-in_err-look_ahead-clause-stays
returns-in_err-look_ahead-clause-stays g c =
    let ahead = c.in_err-look_ahead.ensures in
    (record { source = ahead.stays.0; log = ahead.log; cause = search rules }, search rules, search rules, search rules)
