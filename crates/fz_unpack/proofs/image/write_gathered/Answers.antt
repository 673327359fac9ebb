-- What was held back is written, and with it the pixels of all tiles.
use Rattle.std.specs.List.{range_with_len}
use Rattle.std.proofs.lemmas.Result.{on_ok_weaker}
use Rattle.fz_unpack.proofs.Gathered.{all_settled}
use Rattle.std.proofs.Common.{◌∙◌, rules}
use Rattle.fz_unpack.proofs.image.write_gathered.Goals as goal

pub write_rounds-requires-clause-held : goal.write_rounds-requires-clause-held
write_rounds-requires-clause-held g c κs within = c.none-back.ensures.held _

pub write_pieces-requires-clause-held : goal.write_pieces-requires-clause-held
write_pieces-requires-clause-held g c = c.in_ok-write_rounds.ensures.kept

pub returns-clause-pixels : goal.returns-clause-pixels
returns-clause-pixels g c =
    on_ok_weaker c.write_pieces.result
    (λ put. all_settled (g.S.Source.held c.args.source.now) c.args.asked.now.header c.args.asked.now.image.plan c.args.asked.now.data_at (range_with_len 0 c.args.asked.now.tiles)
    (g.K.Sink.contents c.args.sink.now) _ _ (g.K.Sink.contents c.write_pieces.new.sink)
    (c.none-back.ensures.settled _ (g.K.Sink.contents c.args.sink.now)) put c.in_ok-write_rounds.ensures.pixels)
    c.write_pieces.ensures.written

-- ---- what stays

pub returns-in_err-write_rounds-clause-stays : goal.returns-in_err-write_rounds-clause-stays
returns-in_err-write_rounds-clause-stays g c =
    let stays = c.in_err-write_rounds.ensures.stays.1 in
    (search rules, record { source = stays.source; sink = stays.sink; row = search rules; read = stays.read; cause = search rules }, search rules)

pub returns-clause-stays : goal.returns-clause-stays
returns-clause-stays g c =
    let stays = c.in_ok-write_rounds.ensures.stays.1 in
    let put = c.write_pieces.ensures.sink in (
      search rules,
      record {
        source = stays.source;
        sink = record {
          created_is = put.created_is ∙ stays.sink.created_is;
          shut = λ shut. put.shut (stays.sink.shut shut);
          told = λ told. put.told (stays.sink.told told);
        };
        row = search rules;
        read = stays.read;
        cause = search rules;
      },
      search rules,
    )
