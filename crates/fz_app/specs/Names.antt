-- The names by which a run opens its source and makes its sink: IN and OUT of the words.
use Rattle.std.specs.Prelude.{ℕ, ◌≡◌, List, Option, Result}
use Rattle.fz_base.specs.Names.{NamesOnce, with_name}
use Rattle.fz_base.specs.declared.failure.Stop.{Stop}
use Rattle.fz_files.specs.declared.job.Job.{Job}
use Rattle.fz_files.specs.declared.job.Job.TheVariants.{Pack, Unpack, Cut, Verify, List as ListHdus, Drill, Retile}
use Rattle.fz_job.specs.Clauses.{IfOverLimit}
use Rattle.fz_words.specs.Jobs.{Asked}
use Rattle.fz_app.specs.Answer.{IfRan}
use Rattle.fz_app.specs.declared.status.Status.{Status}
use Rattle.fz_app.specs.declared.status.Status.TheVariants.{Usage}

-- What opens the source does so by this name and by no other: at most once, whatever it answers; and exactly once if it is done, and also
-- if it answers that a buffer would pass the limit.
pub record OpensOnce {X : Type 0} (name : List ℕ) (old new : Option (List (List ℕ))) (answer : Result X Stop) : Type 0 where
  pub once : NamesOnce name old new answer
  pub over_limit : IfOverLimit answer (new ≡ with_name name old)

-- A job on a file opens the source by this name, once. `drill` opens nothing.
abbrev pub JobOpens : {X : Type 0} → Job → List ℕ → Option (List (List ℕ)) → Option (List (List ℕ)) → Result X Stop → Type 0
JobOpens (Pack options) name old new answer = OpensOnce name old new answer
JobOpens Unpack name old new answer = OpensOnce name old new answer
JobOpens (Cut wanted sieve) name old new answer = OpensOnce name old new answer
JobOpens Verify name old new answer = OpensOnce name old new answer
JobOpens ListHdus name old new answer = OpensOnce name old new answer
JobOpens (Drill rows) name old new answer = new ≡ old
JobOpens (Retile options) name old new answer = OpensOnce name old new answer

-- A job that writes a file makes the sink by this name and by no other: at most once, and exactly once if the job is done. Other jobs make
-- nothing.
abbrev pub JobMakes : {X : Type 0} → Job → List ℕ → Option (List (List ℕ)) → Option (List (List ℕ)) → Result X Stop → Type 0
JobMakes (Pack options) name old new answer = NamesOnce name old new answer
JobMakes Unpack name old new answer = NamesOnce name old new answer
JobMakes (Cut wanted sieve) name old new answer = NamesOnce name old new answer
JobMakes Verify name old new answer = new ≡ old
JobMakes ListHdus name old new answer = new ≡ old
JobMakes (Drill rows) name old new answer = new ≡ old
JobMakes (Retile options) name old new answer = NamesOnce name old new answer

-- what a job opens and makes is what the words name
pub record JobNames {X : Type 0} (asked : Asked) (opened opened' made made' : Option (List (List ℕ))) (answer : Result X Stop) : Type 0 where
  pub source : JobOpens asked.job asked.input opened opened' answer
  pub sink : JobMakes asked.job asked.output made made' answer

-- Names: the source was opened by IN and the sink was made by OUT, each at most once, and by no other name; each that the job has, exactly
-- once after Done and Different, and IN also after OverLimit. If the words ask for nothing, nothing was opened and nothing made.
pub record AreNamed (words : List (List ℕ)) (opened opened' made made' : Option (List (List ℕ))) (status : Status) : Type 0 where
  pub asked : IfRan words status (λ asked answer. JobNames asked opened opened' made made' answer)
  pub by_usage : status ≡ Usage → (opened' ≡ opened) × (made' ≡ made)
