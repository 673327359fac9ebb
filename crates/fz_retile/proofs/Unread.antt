-- A reading that failed after a call of the sink had is told as want of memory: so what `pack` promises of its answer is promised of that.
use Rattle.std.proofs.Common.{◌≡◌, ℕ, ◌≤◌, List, refl, inl, inr}
use Rattle.std.specs.Prelude.{Bool, true, false, Option, Some, None, IfSome, Result, Ok, Err, OnOk, IsErrOf}
use Rattle.fz_base.specs.Counts.{Tally}
use Rattle.fz_base.specs.FirstByte.{IsShut}
use Rattle.fz_base.specs.Names.{NamesOnce}
use Rattle.fz_base.specs.Takings.{TellsFirstPast}
use Rattle.fz_base.specs.declared.failure.Stop.{Stop}
use Rattle.fz_base.specs.declared.failure.Stop.TheVariants.{Refused, ReadFault, WriteFault, OverLimit, NoMemory}
use Rattle.fz_files.specs.Buffers.{job_bound, job_takings}
use Rattle.fz_files.specs.declared.job.Job.{Job}
use Rattle.fz_job.specs.Clauses.{Answers, HasJobCause, IsAnswer, IsShutOrWhole, IsUnmade, TellsFirstFault}
use Rattle.fz_retile.specs.Retiles.{unless_failed}

-- a fact of the answer, and of want of memory if it was a failed reading
unless : (failed : Bool) (r : Result (Unit {0}) Stop) (P : Result (Unit {0}) Stop → Type 0) → P r → (IsErrOf r ReadFault → P (Err NoMemory)) → P (unless_failed failed r)
unless failed (Ok x) P is other = is
unless false (Err stop) P is other = is
unless true (Err (Refused x)) P is other = is
unless true (Err ReadFault) P is other = other refl
unless true (Err WriteFault) P is other = is
unless true (Err (OverLimit live asked limit)) P is other = is
unless true (Err NoMemory) P is other = is

pub on_ok : (failed : Bool) (r : Result (Unit {0}) Stop) (P : Type 0) → OnOk r P → OnOk (unless_failed failed r) P
on_ok failed r P is = unless failed r (λ q. OnOk q P) is (λ e. tt)

pub fault : (failed : Bool) (r : Result (Unit {0}) Stop) (job : Job) (held : Option (List ℕ)) → TellsFirstFault job held r → TellsFirstFault job held (unless_failed failed r)
fault failed r job held is = unless failed r (λ q. TellsFirstFault job held q) is (λ e. tt)

want_answers : (held : Option (List ℕ)) (P : List ℕ → Type 0) → IfSome held (λ file. P file → IsAnswer {X = Unit {0}} (Err NoMemory))
want_answers None P = tt
want_answers (Some file) P = λ enough. tt

pub answers : (failed : Bool) (r : Result (Unit {0}) Stop) (job : Job) (held : Option (List ℕ)) (source source' sink sink' : Tally) (limit W : ℕ) → Answers job held source source' sink sink' limit W r →
    Answers job held source source' sink sink' limit W (unless_failed failed r)
answers failed r job held source source' sink sink' limit W is =
    unless failed r (λ q. Answers job held source source' sink sink' limit W q) is (λ e still quiet. want_answers held (λ file. job_bound job file W ≤ limit))

want_past : (held : Option (List ℕ)) (limit : ℕ) (takings : List ℕ → List (ℕ × ℕ)) → IfSome held (λ file. TellsFirstPast {X = Unit {0}} limit (takings file) (Err NoMemory))
want_past None limit takings = tt
want_past (Some file) limit takings = tt

-- a limit of less than one block stops the job before anything is read
not_read : (r : Result (Unit {0}) Stop) (limit : ℕ) (P : Type 0) → IsErrOf r ReadFault → IsErrOf r (OverLimit 0 2880 limit) → P
not_read (Ok x) limit P read over = absurd cc
not_read (Err stop) limit P read over = absurd cc

pub cause : (failed : Bool) (r : Result (Unit {0}) Stop) (job : Job) (held : Option (List ℕ)) (source source' sink sink' : Tally) (limit W : ℕ) → HasJobCause job held source source' sink sink' limit W r →
    HasJobCause job held source source' sink sink' limit W (unless_failed failed r)
cause failed r job held source source' sink sink' limit W is = unless failed r (λ q. HasJobCause job held source source' sink sink' limit W q) is (λ e. record {
  done = tt;
  refused = λ refused. absurd cc;
  read_fault = λ read. absurd cc;
  write_fault = λ write. absurd cc;
  over_limit = tt;
  first_past = want_past held limit (λ file. job_takings job file W);
  block = λ low. not_read r limit _ e (is.block low).0;
})

pub unwritten : (failed : Bool) (r : Result (Unit {0}) Stop) (P : Type 0) → (failed ≡ false → P) → IsErrOf (unless_failed failed r) ReadFault → P
unwritten failed (Ok x) P clean is = absurd cc
unwritten false (Err stop) P clean is = clean refl
unwritten true (Err (Refused x)) P clean is = absurd cc
unwritten true (Err ReadFault) P clean is = absurd cc
unwritten true (Err WriteFault) P clean is = absurd cc
unwritten true (Err (OverLimit live asked limit)) P clean is = absurd cc
unwritten true (Err NoMemory) P clean is = absurd cc

pub names : (failed : Bool) (r : Result (Unit {0}) Stop) (name : List ℕ) (old new : Option (List (List ℕ))) → NamesOnce name old new r → NamesOnce name old new (unless_failed failed r)
names failed r name old new is = unless failed r (λ q. NamesOnce name old new q) is (λ e. record { done = tt; at_most = is.at_most })

-- contents after a failed reading are shut
read_shut : (contents : Option (List ℕ)) (Whole : Type 0) (r : Result (Unit {0}) Stop) → IsErrOf r ReadFault → IsShutOrWhole contents Whole r → IsShut contents
read_shut contents Whole (Ok x) e is = absurd cc
read_shut contents Whole (Err stop) e (inl shut) = shut
read_shut contents Whole (Err stop) e (inr (whole, inl written)) = absurd cc
read_shut contents Whole (Err stop) e (inr (whole, inr wanted)) = absurd cc

pub first_byte : (failed : Bool) (r : Result (Unit {0}) Stop) (contents : Option (List ℕ)) (Whole : Type 0) → IsShutOrWhole contents Whole r → IsShutOrWhole contents Whole (unless_failed failed r)
first_byte failed r contents Whole is = unless failed r (λ q. IsShutOrWhole contents Whole q) is (λ e. inl (read_shut contents Whole r e is))

pub unmade : (failed : Bool) (r : Result (Unit {0}) Stop) (job : Job) (held : Option (List ℕ)) (limit W : ℕ) (Same : Type 0) → IsUnmade job held limit W Same r → IsUnmade job held limit W Same (unless_failed failed r)
unmade failed r job held limit W Same is = unless failed r (λ q. IsUnmade job held limit W Same q) is (λ e. record { faulty = is.faulty; past = is.past; over_limit = tt; refused = tt })
