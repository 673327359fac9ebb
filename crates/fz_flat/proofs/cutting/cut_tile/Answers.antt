-- The tile stops, or stands for pixels that are put to their places.
use Rattle.std.proofs.Common.{rules, ◌≡◌, refl, sym, subst, Err, IfErr}
use Rattle.fz_flat.specs.Boxes.{TileStops}
use Rattle.fz_flat.specs.Boxes.TileStops.{no_record, row_stops}
use Rattle.fz_flat.proofs.CutLemmas.{faulty_tile, places_tile}
use Rattle.fz_flat.proofs.cutting.cut_tile.Goals as goal

pub returns-in_err-found-clause-stops : goal.returns-in_err-found-clause-stops
returns-in_err-found-clause-stops c =
    let stop = c.in_err-found.field-0.0 in
    let stopped : c.from_residual.result ≡ Err stop = search rules in
    let here = c.in_err-found.ensures.stops in
    subst (λ r. IfErr r (λ s. (s.tile ≡ c.args.tile) × TileStops c.args.image.now c.args.from c.args.rows.now c.args.at c.args.codes.now s)) (sym stopped) (here.0, row_stops here.1)

pub returns-in_default-clause-stops : goal.returns-in_default-clause-stops
returns-in_default-clause-stops c = (refl, no_record c.in_ok-found.found c.in_ok-found.ensures.said c.in_default.ensures refl)

pub returns-in_err-decode_part-clause-stops : goal.returns-in_err-decode_part-clause-stops
returns-in_err-decode_part-clause-stops c =
    let found = c.in_ok-found.found in
    let stop = c.in_err-decode_part.field-0.0 in
    let stopped : c.from_residual-in_err-decode_part.result ≡ Err stop = search rules in
    let here = c.in_err-decode_part.ensures.stops in
    let there = c.in-Some.ensures in
    subst (λ r. IfErr r (λ s. (s.tile ≡ c.args.tile) × TileStops c.args.image.now c.args.from c.args.rows.now c.args.at c.args.codes.now s)) (sym stopped)
    (here.0, faulty_tile c.args.image.now c.args.from c.args.rows.now c.args.at c.args.codes.now c.args.tile found c.in-Some.start _ stop c.in_ok-found.ensures.said there.0 there.1 refl here.0 here.1.0 here.1.1 here.1.2)

pub returns-clause-placed : goal.returns-clause-placed
returns-clause-placed c =
    let found = c.in_ok-found.found in
    let there = c.in-Some.ensures in
    places_tile c.args.image.now c.args.sieve.now c.args.from c.args.rows.now c.args.at c.args.codes.now c.args.tile found c.in-Some.start c.args.numbers.now c.decode_part.new.numbers _ c.args.out.now c.place_tile.new.out
    c.in_ok-found.ensures.said there.0 there.1 c.in_ok-decode_part.ensures.pixels c.places_of-places.ensures.places c.place_tile.ensures.inside c.place_tile.ensures.placed
