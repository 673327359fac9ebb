-- The first i slots have their jobs, and the others are as before.
use Rattle.fz_pool.specs.Window.{WindowStays}
use Rattle.fz_compare.proofs.JobsSet.{AreSet}
use Rattle.fz_compare.proofs.coded.set_jobs.Given as goal

abbrev pub invariant-loop-i : goal.invariant-loop-i
invariant-loop-i l = record {
  set : AreSet l.layout l.first l.i l.fn.window l.window;
  window : WindowStays l.fn.window l.window;
}
