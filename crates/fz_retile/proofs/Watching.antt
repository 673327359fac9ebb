-- The counts of a sink that is watched, before the first call of it.
use Rattle.std.proofs.Common.{◌≡◌, refl, sym, subst, arith}
use Rattle.fz_base.specs.Counts.{CountsKept, Tally}

pub kept_from : (a b : Tally) → b ≡ a → CountsKept a b
kept_from a b same = subst (CountsKept a) (sym same) (record {
  faults_kept = omega arith;
  wants_kept = omega arith;
  faults_stay = λ end. end;
  wants_stay = λ end. end;
  names_kept = refl;
  not_amended = refl;
})
