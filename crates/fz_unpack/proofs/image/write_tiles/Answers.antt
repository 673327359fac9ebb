-- All tiles are written, round by round or by turns.
use Rattle.std.proofs.Common.{ℕ, List, Option}
use Rattle.std.proofs.lemmas.Result.{on_ok_weaker}
use Rattle.fz_unpack.proofs.Tiles.{all_written}
use Rattle.fz_unpack.proofs.image.write_tiles.Goals as goal

pub returns-clause-pixels : goal.returns-clause-pixels
returns-clause-pixels g c =
    let held : Option (List ℕ) = g.S.Source.held c.args.source.now in
    let image = c.args.asked.now.image in
    on_ok_weaker c.write_gathered.result
    (λ written. all_written c.tiles_law.ensures.whole c.tiles_law.ensures.joined c.scattered_law.ensures.image held c.args.asked.now.header image c.args.asked.now.data_at c.args.asked.now.tiles
    (g.K.Sink.contents c.args.sink.now) (g.K.Sink.contents c.write_gathered.new.sink) c.requires.image.said c.requires.image.all c.requires.image.readable.divided c.requires.image.readable.codec.size
    (c.shape_law.ensures.tiles image.plan.shape image.plan.tile c.requires.image.readable.divided) written)
    c.write_gathered.ensures.pixels

-- by turns all are written too
pub returns-then-tiles-workers-clause-pixels : goal.returns-then-tiles-workers-clause-pixels
returns-then-tiles-workers-clause-pixels g c =
    let held : Option (List ℕ) = g.S.Source.held c.args.source.now in
    let image = c.args.asked.now.image in
    on_ok_weaker c.write_by_turns.result
    (λ written. all_written c.tiles_law.ensures.whole c.tiles_law.ensures.joined c.scattered_law.ensures.image held c.args.asked.now.header image c.args.asked.now.data_at c.args.asked.now.tiles
    (g.K.Sink.contents c.args.sink.now) (g.K.Sink.contents c.write_by_turns.new.sink) c.requires.image.said c.requires.image.all c.requires.image.readable.divided c.requires.image.readable.codec.size
    (c.shape_law.ensures.tiles image.plan.shape image.plan.tile c.requires.image.readable.divided) written)
    c.write_by_turns.ensures.pixels
