-- Two meters as one, and what was packed anew.
use Rattle.fz_retile.proofs.Again.{stands_for_the_same}
use Rattle.fz_retile.proofs.OneLimit.{one_limit_answers, one_limit_causes, one_limit_leaves_unmade}
use Rattle.fz_retile.proofs.law.retile_law.Goals as goal

pub returns : goal.returns
returns c = record {
  causes = one_limit_causes c.takings_law.ensures.first c.takings_law.ensures.second;
  answers = one_limit_answers c.buffers_law.ensures.monotone;
  unmade = one_limit_leaves_unmade c.takings_law.ensures.first c.takings_law.ensures.second;
  restores = stands_for_the_same c.round_trip_law.ensures c.restored_bytes_law.ensures c.restored_law.ensures.only c.one_file_law.ensures;
}
