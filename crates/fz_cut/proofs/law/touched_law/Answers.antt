-- Header by header, and row by row.
use Rattle.fz_cut.proofs.Touching.{look_touched, work_touched}
use Rattle.fz_cut.proofs.law.touched_law.Goals as goal

pub returns : goal.returns
returns c = record {
  look = λ want sieve file range within byte from to. look_touched want sieve file range within byte from to;
  work = λ want sieve file s known byte is. work_touched want sieve file c.walk_law.ensures.headers c.hdu_at_law.ensures.facts s known byte is;
}
