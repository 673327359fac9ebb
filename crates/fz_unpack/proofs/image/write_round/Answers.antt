-- The tiles of a round are fetched, and then written to their places, now or later.
use Rattle.std.proofs.Common.{◌≡◌, ℕ, refl, arith, rules}
use Rattle.std.specs.List.{range_with_len}
use Rattle.std.proofs.lemmas.List.{length-replicate, length-take}
use Rattle.std.proofs.lemmas.Result.{on_ok_weaker}
use Rattle.fz_fetch.specs.Ahead.{image_tiles}
use Rattle.fz_job.specs.Held.{settled}
use Rattle.fz_unpack.proofs.HduReads.{round_read}
use Rattle.fz_unpack.proofs.Tiles.{numbered, round_written, tiles_of_image}
use Rattle.fz_unpack.proofs.image.write_round.Goals as goal

pub fetch_ahead-requires-clause-tiles : goal.fetch_ahead-requires-clause-tiles
fetch_ahead-requires-clause-tiles g c κs within =
    let are : c.number_tiles.new.tiles ≡ range_with_len c.args.round.now.first c.args.round.now.count =
    numbered c.args.round.now.first c.args.round.now.count _ c.number_tiles.new.tiles c.number_tiles.ensures (omega (arith, c.requires.few, length-take {A = ℕ}, length-replicate {A = ℕ})) in
    tiles_of_image c.args.asked.now.image c.args.round.now.first c.args.round.now.count c.number_tiles.new.tiles are (omega (arith, c.requires.tiles, c.requires.image.all))

pub scatter_held-requires-clause-tiles : goal.scatter_held-requires-clause-tiles
scatter_held-requires-clause-tiles g c =
    let are : c.number_tiles.new.tiles ≡ range_with_len c.args.round.now.first c.args.round.now.count =
    numbered c.args.round.now.first c.args.round.now.count _ c.number_tiles.new.tiles c.number_tiles.ensures (omega (arith, c.requires.few, length-take {A = ℕ}, length-replicate {A = ℕ})) in
    tiles_of_image c.args.asked.now.image c.args.round.now.first c.args.round.now.count c.number_tiles.new.tiles are (omega (arith, c.requires.tiles, c.requires.image.all))

pub returns-clause-pixels : goal.returns-clause-pixels
returns-clause-pixels g c =
    let are : c.number_tiles.new.tiles ≡ range_with_len c.args.round.now.first c.args.round.now.count =
    numbered c.args.round.now.first c.args.round.now.count _ c.number_tiles.new.tiles c.number_tiles.ensures (omega (arith, c.requires.few, length-take {A = ℕ}, length-replicate {A = ℕ})) in
    on_ok_weaker c.scatter_held.result
    (λ put. round_written (g.S.Source.held c.args.source.now) c.args.asked.now.header c.args.asked.now.image.plan c.args.asked.now.data_at c.args.round.now.first c.args.round.now.count c.number_tiles.new.tiles c.fetch_ahead.new.window.slots
    (settled c.args.round.now.back c.args.held.now (g.K.Sink.contents c.args.sink.now)) (settled c.scatter_held.new.back c.scatter_held.new.held (g.K.Sink.contents c.scatter_held.new.sink)) are c.in_ok-fetch_ahead.ensures.fetched put)
    c.scatter_held.ensures.written

-- ---- what is read

pub returns-in_err-fetch_ahead-clause-stays : goal.returns-in_err-fetch_ahead-clause-stays
returns-in_err-fetch_ahead-clause-stays g c =
    let image = c.args.asked.now.image in (
      search rules,
      record {
        source = c.in_err-fetch_ahead.ensures.stays.0;
        sink = record { created_is = refl; shut = λ shut. shut; told = λ told. told };
        row = search rules;
        read = round_read c.hdus_law.ensures.tiles (g.S.Source.held c.args.source.now) c.args.asked.now.header image (image_tiles image) (g.S.Source.ranges c.args.source.now)
            (g.S.Source.ranges c.fetch_ahead.new.source) c.requires.image.said
            (tiles_of_image image 0 image.table.rows (image_tiles image) refl (omega (arith, c.requires.image.readable.rows))) c.in_err-fetch_ahead.ensures.read;
        cause = search rules;
      },
      search rules,
      search rules,
    )

pub returns-clause-stays : goal.returns-clause-stays
returns-clause-stays g c =
    let image = c.args.asked.now.image in (
      search rules,
      record {
        source = c.in_ok-fetch_ahead.ensures.stays.0;
        sink = c.scatter_held.ensures.stays.0;
        row = search rules;
        read = round_read c.hdus_law.ensures.tiles (g.S.Source.held c.args.source.now) c.args.asked.now.header image (image_tiles image) (g.S.Source.ranges c.args.source.now)
            (g.S.Source.ranges c.fetch_ahead.new.source) c.requires.image.said
            (tiles_of_image image 0 image.table.rows (image_tiles image) refl (omega (arith, c.requires.image.readable.rows))) c.in_ok-fetch_ahead.ensures.read;
        cause = search rules;
      },
      search rules,
      search rules,
    )
