-- The tiles are read, and then encoded.
use Rattle.std.proofs.lemmas.Result.{on_ok_weaker}
use Rattle.fz_image.proofs.round.encode_tiles.Goals as goal

pub returns-clause-encoded : goal.returns-clause-encoded
returns-clause-encoded g c = on_ok_weaker c.encode_loaded.result (λ encoded. encoded (g.S.Source.held c.args.source.now) c.in_ok-load_round.ensures.loaded) c.encode_loaded.ensures.encoded
