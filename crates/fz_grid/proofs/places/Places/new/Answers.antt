use Rattle.std.proofs.Common.{◌≡◌, ◌-◌, ap, sym, ◌∙◌, map, arith}
use Rattle.std.specs.List.{range_with_len}
use Rattle.fz_grid.specs.Nth.{nth_place}
use Rattle.fz_grid.specs.Region.{lengths_of, region_corner, region_lengths}
use Rattle.fz_grid.proofs.BoxLemmas.{box_of, lengths_positive, places_by_number}
use Rattle.fz_grid.proofs.ShapeLemmas.{region_shape}
use Rattle.fz_grid.proofs.places.Places.new.Goals as goal

pub pixels-end-requires : goal.pixels-end-requires
pixels-end-requires c = region_shape c.args.shape c.args.region c.requires.shape c.requires.region

pub returns-clause-left : goal.returns-clause-left
returns-clause-left c =
    let shape = c.args.shape in
    let region = c.args.region in
    let box = box_of shape region (omega arith) (omega arith) (omega arith) c.requires.shape.axes c.requires.region in
    let array = lengths_of shape in
    let corner = region_corner region in
    let lengths = region_lengths region in
    let count : c.pixels-end.result - 0 ≡ c.pixels-end.result = omega arith in
    ap (λ n. map (nth_place array corner lengths) (range_with_len 0 n)) (count ∙ c.pixels-end.ensures.pixels)
    ∙ sym (places_by_number array corner lengths (lengths_positive array corner lengths box))
