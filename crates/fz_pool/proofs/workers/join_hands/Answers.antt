use Rattle.std.proofs.Common.{arith}
use Rattle.fz_pool.specs.Hands.{IsBack}
use Rattle.fz_pool.specs.Running.{starts_of}
use Rattle.fz_pool.proofs.SeatLemmas.{joins}
use Rattle.fz_pool.proofs.MovingLemmas.{popped}
use Rattle.fz_pool.proofs.workers.join_hands.Goals as goal

pub join_seat-requires : goal.join_seat-requires
join_seat-requires c = let key = c.args.board.now.shared.key in let i = c.loop-hand.invariant in let l = i.1 in let one = c.requires.table in
    let b : IsBack c.args.board.now.shared.table_id c.in-Some.hand = popped (IsBack c.args.board.now.shared.table_id) c.loop-hand.hands.items _ _ c.in-Some.hand i.3 c.pop.ensures.items c.in-Some.is in
    (l.at, b.at, b.ended.held, omega arith, joins (starts_of key) key.workers key.task _ _ _ _ _ _ _ l.turn b.ended.turn)
