-- What is handed back is what was taken.
use Rattle.std.proofs.Common.{◌≡◌, refl, sym, ap, subst, arith, sum}
use Rattle.fz_pool.specs.Window.{Pool}
use Rattle.fz_job.specs.Workspace.{AreSizedFor, wanted_buffers, window_for}
use Rattle.fz_cases_rows.proofs.survey.take_and_give_back.Goals as goal

pub give_back-requires : goal.give_back-requires
give_back-requires c =
    let filled : c.take.new.window ≡ window_for c.in_ok-window.window.workers c.args.wants.now.tile = c.in-Ok.ensures.filled in
    let sizes : AreSizedFor c.args.wants.now.tile c.take.new.window = subst (AreSizedFor c.args.wants.now.tile) (sym filled) refl in
    let workers : c.take.new.window.workers ≡ c.in_ok-window.window.workers = ap (λ (p : Pool). p.workers) filled in
    let held = c.workspace_law.ensures.held c.args.wants.now c.in-Ok.space c.take.new.window c.in-Ok.ensures.lengths sizes in
    let live = ap (λ g. g.live) c.in-Ok.ensures.takings.all.1 in
    let same = ap (λ W. sum (wanted_buffers c.args.wants.now W)) workers in
    omega (arith, held, live, same)
