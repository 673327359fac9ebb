-- If there is no room, nothing is held back.
use Rattle.std.proofs.Common.{ℕ, List, Option, sym, ap, ◌∙◌}
use Rattle.fz_pixels.specs.Scattered.{tiles_written}
use Rattle.fz_pixels.proofs.HeldTiles.{both_then, none_stays}
use Rattle.fz_pixels.proofs.scattering.scatter_tiles.Goals as goal

pub scatter_held-requires-clause-held : goal.scatter_held-requires-clause-held
scatter_held-requires-clause-held g c = c.none-back.ensures.held _

pub returns-clause-written : goal.returns-clause-written
returns-clause-written g c =
    let before : Option (List ℕ) = g.K.Sink.contents c.args.sink.now in
    let now : Option (List ℕ) = g.K.Sink.contents c.scatter_held.new.sink in
    both_then c.scatter_held.result c.scatter_held.ensures.written c.scatter_held.ensures.kept
    (λ put kept pixels have.
    sym (none_stays c.scatter_held.new.back c.scatter_held.new.held now kept c.scatter_held.ensures.stays.2)
    ∙ put pixels have
    ∙ ap (tiles_written c.args.plan.now c.args.data_at c.args.tiles.now pixels) (c.none-back.ensures.settled _ before))
