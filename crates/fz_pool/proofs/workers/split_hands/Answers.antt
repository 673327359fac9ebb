use Rattle.std.proofs.Common.{arith}
use Rattle.fz_pool.specs.Running.{starts_of}
use Rattle.fz_pool.proofs.SeatLemmas.{splits}
use Rattle.fz_pool.proofs.workers.split_hands.Goals as goal

pub split_seat-requires : goal.split_seat-requires
split_seat-requires c = let key = c.args.board.now.shared.key in let l = c.loop-i.invariant.0 in let one = c.requires.table in
    (l.at, omega arith, splits (starts_of key) key.workers key.task _ _ _ _ _ l.turn (omega arith))
