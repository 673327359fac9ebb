-- Counts that stay, are kept twice, or are said without names.
use Rattle.std.proofs.Common.{◌≡◌, ℕ, ◌≤◌, List, refl, sym, ap, ◌∙◌, subst, arith}
use Rattle.std.specs.Prelude.{Option, Result, Ok, Err, OnOk}
use Rattle.fz_base.specs.Counts.{CountsKept, Rose, Tally, nameless}
use Rattle.fz_base.specs.declared.failure.Stop.{Stop}
use Rattle.fz_files.specs.declared.job.Job.{Job}
use Rattle.fz_job.specs.Clauses.{Answers, HasJobCause}

kept_same : (t : Tally) → CountsKept t t
kept_same t = record { faults_kept = omega arith; wants_kept = omega arith; faults_stay = λ e. e; wants_stay = λ e. e; names_kept = refl; not_amended = refl }

pub kept_by : (before now : Tally) → now ≡ before → CountsKept before now
kept_by before now e = subst (λ (t : Tally). CountsKept before t) (sym e) (kept_same before)

pub kept_twice : (a b c : Tally) → CountsKept a b → CountsKept b c → CountsKept a c
kept_twice a b c k l = record {
  faults_kept = omega (arith, k.faults_kept, l.faults_kept);
  wants_kept = omega (arith, k.wants_kept, l.wants_kept);
  faults_stay = λ e. l.faults_stay (k.faults_stay e);
  wants_stay = λ e. l.wants_stay (k.wants_stay e);
  names_kept = l.names_kept ∙ k.names_kept;
  not_amended = l.not_amended ∙ k.not_amended;
}

-- what is kept with names is kept without
pub kept_nameless : (before now : Tally) → CountsKept before now → CountsKept (nameless before) (nameless now)
kept_nameless before now k = record {
  faults_kept = k.faults_kept;
  wants_kept = k.wants_kept;
  faults_stay = k.faults_stay;
  wants_stay = k.wants_stay;
  names_kept = refl;
  not_amended = k.not_amended;
}

pub nameless_ok : {X : Type 0} (r : Result X Stop) (source source' sink sink' : Tally) → OnOk r ((source' ≡ source) × (sink' ≡ sink)) → OnOk r ((nameless source' ≡ nameless source) × (sink' ≡ sink))
nameless_ok (Ok x) source source' sink sink' same = (ap nameless same.0, same.1)
nameless_ok (Err stop) source source' sink sink' same = tt

cause_nameless : {X : Type 0} (job : Job) (held : Option (List ℕ)) (source source' sink sink' : Tally) (limit workers : ℕ) (r : Result X Stop) →
    HasJobCause job held source source' sink sink' limit workers r → HasJobCause job held (nameless source) (nameless source') sink sink' limit workers r
cause_nameless job held source source' sink sink' limit workers r cause = record {
  done = nameless_ok r source source' sink sink' cause.done;
  refused = λ is. (ap nameless (cause.refused is).0, (cause.refused is).1);
  read_fault = cause.read_fault;
  write_fault = cause.write_fault;
  over_limit = cause.over_limit;
  first_past = cause.first_past;
  block = λ low. ((cause.block low).0, ap nameless (cause.block low).1, (cause.block low).2);
}

-- What is said of a source since it was opened is said of it as it was before, without its names: opening it is no fault and no want.
module _ (source opened source' : Tally) (same : nameless opened ≡ nameless source) where
  pub kept_from : CountsKept opened source' → CountsKept (nameless source) (nameless source')
  kept_from kept = subst (λ (t : Tally). CountsKept t (nameless source')) same (kept_nameless opened source' kept)

  pub cause_from : {X : Type 0} (job : Job) (held : Option (List ℕ)) (sink sink' : Tally) (limit workers : ℕ) (r : Result X Stop) →
      HasJobCause job held opened source' sink sink' limit workers r → HasJobCause job held (nameless source) (nameless source') sink sink' limit workers r
  cause_from job held sink sink' limit workers r cause =
      subst (λ (t : Tally). HasJobCause job held t (nameless source') sink sink' limit workers r) same (cause_nameless job held opened source' sink sink' limit workers r cause)

  pub answers_from : {X : Type 0} (job : Job) (held : Option (List ℕ)) (sink sink' : Tally) (limit workers : ℕ) (r : Result X Stop) →
      Answers job held opened source' sink sink' limit workers r → Answers job held (nameless source) (nameless source') sink sink' limit workers r
  answers_from job held sink sink' limit workers r answers =
      subst (λ (t : Tally). Answers job held t (nameless source') sink sink' limit workers r) same answers

-- a count that rose is risen where it does not fall
pub rose_on : (a b c : ℕ) → Rose a b → b ≤ c → Rose a c
rose_on a b c r k = omega (arith, r, k)
