use Rattle.std.proofs.Common.{arith}
use Rattle.fz_pool.specs.Running.{starts_of}
use Rattle.fz_pool.proofs.HomeLemmas.{homes}
use Rattle.fz_pool.proofs.steps.home.Goals as goal

pub load-requires : goal.load-requires
load-requires c = let seat = c.requires.seat in let one = seat.1 in let key = c.args.board.now.shared.key in let i = c.requires.done.0 in let d = c.requires.done.1 in
    (seat.0, omega arith, homes (starts_of key) key.workers key.task _ _ i _ d.slot d.after d.turn d.at d.result d.held)
