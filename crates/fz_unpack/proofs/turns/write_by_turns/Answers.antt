use Rattle.std.proofs.Common.{ap, arith}
use Rattle.fz_pool.specs.Window.{Pool}
use Rattle.fz_unpack.proofs.Turning.{rooms_again}
use Rattle.fz_unpack.proofs.turns.write_by_turns.Goals as goal

pub rejoin-requires-clause-room : goal.rejoin-requires-clause-room
rejoin-requires-clause-room c = λ c'.
    let room = rooms_again c'.args.asked.now.image c'.args.window.now c'.in-Ok.first c'.in-Ok.second c'.write_turns-answer.new.first c'.write_turns-answer.new.second
    c'.requires.window c'.halves_law.ensures.halves c'.in-Ok.ensures.halves c'.write_turns-answer.ensures.windows c'.write_turns-answer.ensures.stays.2 in
    let left = ap (λ (w : Pool). w.workers) c'.in-Ok.ensures.empty in
    omega (arith, room, left)
