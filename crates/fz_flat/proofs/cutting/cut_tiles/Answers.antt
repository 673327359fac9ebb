-- One tile more, and then all of them.
use Rattle.std.proofs.Common.{rules, ◌≡◌, ℕ, List, ◌∷◌, ◌<◌, Err, IfErr, sym, subst, ◌∙◌}
use Rattle.std.specs.List.{AllByRecursion}
use Rattle.std.specs.Prelude.{Contains}
use Rattle.fz_grid.specs.SieveWalks.{sieve_tiles_left}
use Rattle.fz_flat.specs.Boxes.{TilesStop, picked_in}
use Rattle.fz_flat.specs.Cutting.{HasPick}
use Rattle.fz_flat.specs.Tiles.{tiles_in}
use Rattle.fz_flat.proofs.CutLemmas.{all_known, more_gone, near_all, stand_all, tile_stops}
use Rattle.fz_flat.proofs.WholeLemmas.{all_cut, fits_all}
use Rattle.fz_flat.proofs.cutting.cut_tiles.Goals as goal

pub loop-tile-preserved : goal.loop-tile-preserved
loop-tile-preserved c =
    let image = c.args.image.now in
    let sieve = c.args.sieve.now in
    let old = c.loop-tile.invariant in
    let next : sieve_tiles_left c.loop-tile.tile-iterator ≡ c.in-Some.tile ∷ sieve_tiles_left c.next.new.self = c.in-Some.ensures.steps in
    record {
      size = c.cut_tile.ensures.len.0 ∙ old.size;
      room = c.cut_tile.ensures.len.1 ∙ old.room;
      all = old.all;
      picked = (subst (AllByRecursion (HasPick image.plan sieve)) next old.picked).1;
      gone = more_gone image sieve c.args.from c.args.rows.now c.args.at c.args.codes.now c.args.out.now (sieve_tiles_left c.loop-tile.tile-iterator) (sieve_tiles_left c.next.new.self) c.in-Some.tile c.loop-tile.out c.cut_tile.new.out old.gone next c.in_ok-cut_tile.ensures.placed;
    }

pub returns-in_err-cut_tile-clause-stopped : goal.returns-in_err-cut_tile-clause-stopped
returns-in_err-cut_tile-clause-stopped c =
    let image = c.args.image.now in
    let sieve = c.args.sieve.now in
    let stop = c.in_err-cut_tile.field-0.0 in
    let stopped : c.from_residual.result ≡ Err stop = search rules in
    subst (λ r. IfErr r (TilesStop image c.args.from c.args.rows.now c.args.at c.args.codes.now (picked_in image.plan sieve))) (sym stopped)
    (tile_stops image sieve c.args.from c.args.rows.now c.args.at c.args.codes.now c.args.out.now (sieve_tiles_left c.loop-tile.tile-iterator) (sieve_tiles_left c.next.new.self) c.in-Some.tile c.loop-tile.out stop c.loop-tile.invariant.gone c.in-Some.ensures.steps c.in_err-cut_tile.ensures.stops)

pub returns-clause-cut : goal.returns-clause-cut
returns-clause-cut c =
    let image = c.args.image.now in
    let p = image.plan in
    let sieve = c.args.sieve.now in
    let from = c.args.from in
    let rows = c.args.rows.now in
    let at = c.args.at in
    let codes = c.args.codes.now in
    let before = c.args.out.now in
    let left : List ℕ = sieve_tiles_left c.loop-tile.tile-iterator in
    let out = c.loop-tile.out in
    let gone = c.loop-tile.invariant.gone in
    let none = c.in-None.ensures.steps.0 in
    let stand = stand_all image sieve from rows at codes before left out gone none in
    let known : (t : ℕ) → Contains (picked_in p sieve) t → t < tiles_in p = all_known p sieve (picked_in p sieve) c.loop-tile.invariant.all in
    let lengths = c.shape_law.ensures.tiles p.shape p.tile c.requires.image.divided in
    let sifts = c.cutout_axes-cutout.ensures.sifts in
    let one = c.one_record_law.ensures in
    let can = c.requires.image.codec in
    let fits = fits_all image sieve from rows at codes one can stand c.tiles_law.ensures.joined lengths known c.cutout_law.ensures.count c.cutout_law.ensures.numbers c.cutout_law.ensures.inside sifts in
    all_cut image sieve from rows at codes one can stand c.tiles_law.ensures.joined lengths known c.cutout_law.ensures.count c.cutout_law.ensures.numbers c.cutout_law.ensures.inside sifts
    c.place_law.ensures.pixels c.cutout_law.ensures.once c.tiles_law.ensures.whole out before (c.loop-tile.invariant.size ∙ c.requires.room)
    (near_all image sieve from rows at codes before left out gone none _ fits)
