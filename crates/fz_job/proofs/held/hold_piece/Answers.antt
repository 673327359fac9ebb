-- What is held back is written before a piece that goes elsewhere.
use Rattle.std.proofs.Common.{List, ℕ, arith}
use Rattle.std.proofs.lemmas.Result.{on_ok_weaker}
use Rattle.fz_job.proofs.HeldBytes.{held_apart}
use Rattle.fz_job.proofs.held.hold_piece.Goals as goal

pub hold_next-requires-2-clause-held : goal.hold_next-requires-2-clause-held
hold_next-requires-2-clause-held g c = record { within = omega arith; behind = c.requires.behind }

pub returns-clause-written : goal.returns-clause-written
returns-clause-written g c =
    let held : List ℕ = c.args.held.now in
    let back = c.args.back.now in
    on_ok_weaker c.hold_next-2.result
    (λ put. held_apart c.args.at back.end back.count held c.args.bytes.now (g.K.Sink.contents c.args.sink.now)
    (g.K.Sink.contents c.write_pieces.new.sink) _ c.in_ok-write_pieces.ensures.written put)
    c.hold_next-2.ensures.written
