-- The rows of a round are those of neighbouring tiles; what is read is of all rows of the image.
use Rattle.std.proofs.Common.{◌≡◌, ℕ, List, Option, refl, arith}
use Rattle.std.specs.List.{range_with_len}
use Rattle.std.proofs.lemmas.List.{length-replicate, length-take}
use Rattle.std.proofs.lemmas.Result.{on_ok_weaker}
use Rattle.fz_fetch.specs.Ahead.{image_tiles}
use Rattle.fz_fetch.proofs.RoundReads.{refused_weaker, round_read}
use Rattle.fz_fetch.proofs.RoundTiles.{numbered, round_fault, round_sound, tiles_of_image}
use Rattle.fz_fetch.proofs.decoding.decode_ahead.Goals as goal

pub fetch_ahead-requires-clause-tiles : goal.fetch_ahead-requires-clause-tiles
fetch_ahead-requires-clause-tiles g c κs within =
    let are : c.number_tiles.new.tiles ≡ range_with_len c.args.round.first c.args.round.count =
    numbered c.args.round.first c.args.round.count _ c.number_tiles.new.tiles c.number_tiles.ensures
    (omega (arith, c.requires.round.few, length-take {A = ℕ}, length-replicate {A = ℕ})) in
    tiles_of_image c.args.packed.image.now c.args.round.first c.args.round.count c.number_tiles.new.tiles are c.requires.round.tiles

pub returns-clause-judged : goal.returns-clause-judged
returns-clause-judged g c =
    let held : Option (List ℕ) = g.S.Source.held c.args.source.now in
    let h = c.args.packed.header.now in
    let image = c.args.packed.image.now in
    let first : ℕ = c.args.round.first in
    let count : ℕ = c.args.round.count in
    let tiles : List ℕ = c.number_tiles.new.tiles in
    let result = c.fetch_ahead.result in
    let are : tiles ≡ range_with_len first count =
    numbered first count _ tiles c.number_tiles.ensures (omega (arith, c.requires.round.few, length-take {A = ℕ}, length-replicate {A = ℕ})) in
    record {
      sound = on_ok_weaker result (λ fetched. round_sound held h image.plan first count tiles c.fetch_ahead.new.window.slots are fetched) c.fetch_ahead.ensures.fetched;
      fault = round_fault held h first count tiles result are c.fetch_ahead.ensures.fault;
      row = refused_weaker result (λ x among. (_, among.2.1)) c.fetch_ahead.ensures.row;
      read = round_read c.hdus_law.ensures.tiles held h image (image_tiles image) (g.S.Source.ranges c.args.source.now) (g.S.Source.ranges c.fetch_ahead.new.source) c.requires.round.said
          (tiles_of_image image 0 image.table.rows (image_tiles image) refl (omega (arith, c.requires.round.readable.rows))) c.fetch_ahead.ensures.read;
    }
