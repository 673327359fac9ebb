-- The rows go before what is held back, and the bytes of the tiles after it.
use Rattle.std.proofs.Common.{◌≡◌, ◌+◌, ◌*◌, ap, arith, rules}
use Rattle.std.proofs.lemmas.Result.{on_ok_weaker}
use Rattle.fz_base.specs.Sink.{written}
use Rattle.fz_files.specs.Packed.{rows_from}
use Rattle.fz_pool.specs.Round.{coded_tiles}
use Rattle.fz_image.specs.declared.progress.Progress.{Progress}
use Rattle.fz_image.proofs.Holding.{tiles_few, tiles_held}
use Rattle.fz_image.proofs.round.write_encoded.Goals as goal

pub write_codes-requires-clause-held : goal.write_codes-requires-clause-held
write_codes-requires-clause-held g c =
    let same : c.add_rows.new.self.heap ≡ c.args.underway.now.progress.heap = ap (λ (q : Progress). q.heap) c.add_rows.ensures in
    (c.requires.held.0, omega (arith, same, c.requires.held.1))

pub returns-clause-contents : goal.returns-clause-contents
returns-clause-contents g c =
    let l = c.args.layout.now in
    let w = c.args.underway.now.progress in
    let es = coded_tiles c.args.tiles c.args.window.now.slots in
    let first : g.K.Sink.contents c.write_behind.new.sink ≡ written (l.rows_at + l.row_len * w.tiles) (rows_from l.plan w.heap es) (g.K.Sink.contents c.args.sink.now) = search rules in
    let same : c.add_rows.new.self.heap ≡ w.heap = ap (λ (q : Progress). q.heap) c.add_rows.ensures in
    on_ok_weaker c.write_codes.result (λ last. tiles_held l w c.add_rows.new.self c.write_codes.new.underway.progress es c.args.tiles c.args.underway.now.held_back c.write_codes.new.underway.held_back c.args.held.now c.write_codes.new.held
    (g.K.Sink.contents c.args.sink.now) (g.K.Sink.contents c.write_behind.new.sink) (g.K.Sink.contents c.write_codes.new.sink)
    c.output_law.ensures.apart c.requires.layout.row_len (tiles_few c.args.tiles c.args.window.now.slots) c.requires.tiles c.requires.held.1 first same last) c.write_codes.ensures.contents
