-- The counts of a view: those of its source, and what it refused of readings that were accepted before.
use Rattle.std.proofs.Common.{◌-◌, refl, arith}
use Rattle.fz_base.specs.Counts.{CountsKept, Tally}

-- ---- counts that are kept

pub kept_same : (t : Tally) → CountsKept t t
kept_same t = record {
  faults_kept = omega arith;
  wants_kept = omega arith;
  faults_stay = λ full. full;
  wants_stay = λ full. full;
  names_kept = refl;
  not_amended = refl;
}
