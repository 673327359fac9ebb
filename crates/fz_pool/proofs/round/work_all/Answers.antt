use Rattle.std.proofs.Common.{subst}
use Rattle.fz_pool.specs.declared.task.Task.{Task}
use Rattle.fz_pool.specs.Slots.{IsResult}
use Rattle.fz_pool.specs.Running.{starts_of}
use Rattle.fz_pool.proofs.EndLemmas.{closes}
use Rattle.fz_pool.proofs.round.work_all.Goals as goal

pub returns-clause-results : goal.returns-clause-results
returns-clause-results g c = λ k x at. let key = c.args.board.shared.key in
    let r = closes (starts_of key) key.workers key.task _ _ _ _ _ c.run-answer.ensures.lead.turn c.close_with.ensures.values.2 k x at in
    (r.0, r.1, subst (λ (b : Task). IsResult b x r.0) c.requires.task r.2)
