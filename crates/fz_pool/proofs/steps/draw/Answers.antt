use Rattle.std.proofs.Common.{arith}
use Rattle.fz_pool.specs.Running.{starts_of}
use Rattle.fz_pool.proofs.DrawLemmas.{draws}
use Rattle.fz_pool.proofs.steps.draw.Goals as goal

pub fetch_add-ticket-requires : goal.fetch_add-ticket-requires
fetch_add-ticket-requires c = let seat = c.requires.seat in let one = seat.1 in let key = c.args.board.now.shared.key in
    (seat.0, omega arith, draws (starts_of key) key.workers key.task _ _ _ c.requires.idle.turn)
