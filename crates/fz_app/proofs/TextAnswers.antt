-- What is promised of the answer of a job that prints lines, beside what its contract says: the sink is as it was.
use Rattle.std.proofs.Common.{◌≡◌, ℕ, ◌≤◌, ◌<◌, List, [], refl, sym, ap, subst, ◌∙◌, inl}
use Rattle.std.specs.Prelude.{◌⊎◌, max, Bool, false, Option, Some, None, IfSome, IsSome, Result, Ok, Err, IsErrOf, OnOk, OnErr, ⊤}
use Rattle.fz_base.specs.Counts.{CountsKept, Tally}
use Rattle.fz_base.specs.Stop.{IfRefused, IsRefused, TellsLimit}
use Rattle.fz_base.specs.Takings.{TellsFirstPast, first_past, highest}
use Rattle.fz_base.specs.Told.{StaysTold}
use Rattle.fz_base.specs.declared.fault.Fault.{Fault}
use Rattle.fz_base.specs.declared.failure.Stop.{Stop}
use Rattle.fz_base.specs.declared.failure.Stop.TheVariants.{Refused as StopRefused, ReadFault as StopRead, WriteFault as StopWrite, OverLimit as StopLimit, NoMemory as StopMemory}
use Rattle.fz_files.specs.Buffers.{IsOfFile, job_bound, job_takings, own_bound, own_takings}
use Rattle.fz_files.specs.Walks.{header_fault}
use Rattle.fz_grid.specs.declared.sieve.Sieve.{Sieve}
use Rattle.fz_files.specs.declared.job.Job.{Job}
use Rattle.fz_files.specs.declared.job.Job.TheVariants.{Verify, List as ListHdus, Drill}
use Rattle.fz_job.specs.Clauses.{Answers, ComesLate, HasJobCause, IfOverLimit, IsAnswer, IsUnmade, TellsFirstFault, greatest_bound}
use Rattle.fz_verify.specs.Clauses.{PrintsLines}
use Rattle.fz_words.specs.Jobs.{Asked}
use Rattle.fz_app.specs.Answer.{done_of}
use Rattle.fz_app.specs.Asked.{given, is_compared_by, limit_of}
use Rattle.fz_app.specs.Ends.{Ends, IsSameSink, SinkIs, TextIs, counts_written, written_counts}
use Rattle.fz_app.specs.Outputs.{HoldsJobOutput, IfCut, IsFinished, IsOutput, JobRestores, ReadsTouched, Restores}
use Rattle.fz_app.specs.Printed.{HasPrinted, JobPrinted}
use Rattle.fz_app.specs.Promised.{IsPromised}
use Rattle.fz_app.proofs.JobAnswers.{always_ok, left_faulty, promised}
use Rattle.fz_app.proofs.PackAnswers.{empty_is_shut}
use Rattle.fz_app.proofs.Tallies.{kept_by}

-- facts of an answer are facts of the answer without its value
module _ {X : Type 0} where
  pub ok_done : (r : Result X Stop) (P : Type 0) → OnOk r P → OnOk (done_of r) P
  ok_done (Ok x) P p = p
  ok_done (Err stop) P p = tt

  pub refused_done : (r : Result X Stop) → IsRefused (done_of r) → IsRefused r
  refused_done (Ok x) is = absurd cc
  refused_done (Err (StopRefused x)) is = (x, refl)
  refused_done (Err StopRead) is = absurd cc
  refused_done (Err StopWrite) is = absurd cc
  refused_done (Err (StopLimit live asked limit)) is = absurd cc
  refused_done (Err StopMemory) is = absurd cc

  pub error_done : (r : Result X Stop) (stop : Stop) → IsErrOf (done_of r) stop → IsErrOf r stop
  error_done (Ok x) stop is = absurd cc
  error_done (Err other) stop is = cc

  pub error_of : (r : Result X Stop) (stop : Stop) → IsErrOf r stop → IsErrOf (done_of r) stop
  error_of (Ok x) stop is = absurd cc
  error_of (Err other) stop is = cc

  pub limit_done : (r : Result X Stop) (limit most : ℕ) → TellsLimit limit most r → TellsLimit limit most (done_of r)
  limit_done (Ok x) limit most p = tt
  limit_done (Err (StopRefused x)) limit most p = tt
  limit_done (Err StopRead) limit most p = tt
  limit_done (Err StopWrite) limit most p = tt
  limit_done (Err (StopLimit live asked told)) limit most p = p
  limit_done (Err StopMemory) limit most p = tt

  past_done : (r : Result X Stop) (limit : ℕ) (takings : List (ℕ × ℕ)) → TellsFirstPast limit takings r → TellsFirstPast limit takings (done_of r)
  past_done (Ok x) limit takings p = p
  past_done (Err (StopRefused x)) limit takings p = p
  past_done (Err StopRead) limit takings p = tt
  past_done (Err StopWrite) limit takings p = p
  past_done (Err (StopLimit live asked told)) limit takings p = p
  past_done (Err StopMemory) limit takings p = tt

  pub fault_done : (r : Result X Stop) (job : Job) (held : Option (List ℕ)) → TellsFirstFault job held r → TellsFirstFault job held (done_of r)
  fault_done (Ok x) job held p = p
  fault_done (Err (StopRefused x)) job held p = p
  fault_done (Err StopRead) job held p = tt
  fault_done (Err StopWrite) job held p = tt
  fault_done (Err (StopLimit live asked limit)) job held p = tt
  fault_done (Err StopMemory) job held p = tt

  lines_done : (r : Result X Stop) (job : Job) (held old new : Option (List ℕ)) → PrintsLines job held old new r → PrintsLines job held old new (done_of r)
  lines_done (Ok x) job held old new p = p
  lines_done (Err (StopRefused x)) job held old new p = p
  lines_done (Err StopRead) job held old new p = p
  lines_done (Err StopWrite) job held old new p = p
  lines_done (Err (StopLimit live asked limit)) job held old new p = p
  lines_done (Err StopMemory) job held old new p = p

  pub answer_done : (r : Result X Stop) → IsAnswer r → IsAnswer (done_of r)
  answer_done (Ok x) p = tt
  answer_done (Err (StopRefused x)) p = tt
  answer_done (Err StopRead) p = absurd p
  answer_done (Err StopWrite) p = absurd p
  answer_done (Err (StopLimit live asked limit)) p = absurd p
  answer_done (Err StopMemory) p = tt

  over_done : (r : Result X Stop) (P : Type 0) → IfOverLimit r P → IfOverLimit (done_of r) P
  over_done (Ok x) P p = tt
  over_done (Err (StopRefused x)) P p = tt
  over_done (Err StopRead) P p = tt
  over_done (Err StopWrite) P p = tt
  over_done (Err (StopLimit live asked limit)) P p = p
  over_done (Err StopMemory) P p = tt

  if_refused_done : (r : Result X Stop) (P : Fault → Type 0) → IfRefused r P → IfRefused (done_of r) P
  if_refused_done (Ok x) P p = tt
  if_refused_done (Err (StopRefused x)) P p = p
  if_refused_done (Err StopRead) P p = tt
  if_refused_done (Err StopWrite) P p = tt
  if_refused_done (Err (StopLimit live asked limit)) P p = tt
  if_refused_done (Err StopMemory) P p = tt

  answers_done : (r : Result X Stop) (held : Option (List ℕ)) (B : List ℕ → Type 0) → IfSome held (λ file. B file → IsAnswer r) → IfSome held (λ file. B file → IsAnswer (done_of r))
  answers_done r None B p = tt
  answers_done r (Some file) B p = λ b. answer_done r (p b)

  past_held : (r : Result X Stop) (held : Option (List ℕ)) (limit : ℕ) (takings others : List ℕ → List (ℕ × ℕ)) → ((file : List ℕ) → others file ≡ takings file) → IfSome held (λ file. TellsFirstPast limit (takings file) r) → IfSome held (λ file. TellsFirstPast limit (others file) (done_of r))
  past_held r None limit takings others same p = tt
  past_held r (Some file) limit takings others same p = subst (λ (ts : List (ℕ × ℕ)). TellsFirstPast limit ts (done_of r)) (sym (same file)) (past_done r limit (takings file) p)

-- the same of takings that are equal
past_workers : (held : Option (List ℕ)) (limit : ℕ) (takings others : List ℕ → List (ℕ × ℕ)) (Same : Type 0) → ((file : List ℕ) → others file ≡ takings file) →
    IfSome held (λ file. IsSome (first_past limit (takings file)) → Same) → IfSome held (λ file. IsSome (first_past limit (others file)) → Same)
past_workers None limit takings others Same equal p = tt
past_workers (Some file) limit takings others Same equal p = λ some. p (subst (λ (ts : List (ℕ × ℕ)). IsSome (first_past limit ts)) (equal file) some)

exact_workers : {X : Type 0} → (r : Result X Stop) (held : Option (List ℕ)) (peak : ℕ) (takings others : List ℕ → List (ℕ × ℕ)) → ((file : List ℕ) → others file ≡ takings file) →
    OnOk r (IfSome held (λ file. peak ≡ max 0 (highest (takings file)))) → OnOk (done_of r) (IfSome held (λ file. peak ≡ max 0 (highest (others file))))
exact_workers (Ok x) None peak takings others equal p = tt
exact_workers (Ok x) (Some file) peak takings others equal p = subst (λ (ts : List (ℕ × ℕ)). peak ≡ max 0 (highest ts)) (sym (equal file)) p
exact_workers (Err stop) held peak takings others equal p = tt

-- a peak within a bound is within an equal one
own_peak : (held : Option (List ℕ)) (peak : ℕ) (bounds others : List ℕ → ℕ) → ((file : List ℕ) → others file ≡ bounds file) → IfSome held (λ file. peak ≤ max 0 (bounds file)) → IfSome held (λ file. peak ≤ max 0 (others file))
own_peak None peak bounds others equal p = tt
own_peak (Some file) peak bounds others equal p = subst (λ (b : ℕ). peak ≤ max 0 b) (sym (equal file)) p

-- the second of two facts of an answer Ok
on_second : {X : Type 0} → (r : Result X Stop) (P Q : Type 0) → OnOk r (P × Q) → OnOk r Q
on_second (Ok x) P Q p = p.1
on_second (Err stop) P Q p = tt

-- what a job that prints says of the source, of the text and of the meter, as they were before the source was attached and after the call
pub record TextSays {X : Type 0} (job : Job) (held : Option (List ℕ)) (limit W : ℕ) (old new : Ends) (answer : Result X Stop) : Type 0 where
  pub of_file : IsOfFile job
  pub lines : PrintsLines job held old.text.contents new.text.contents answer
  pub first_fault : TellsFirstFault job held answer
  pub answered : Answers job held old.source new.source old.text.tally new.text.tally limit W answer
  pub cause : HasJobCause job held old.source new.source old.text.tally new.text.tally limit 1 answer
  pub silent : IsUnmade job held limit 1 ((new.text.contents ≡ old.text.contents) × (new.text.tally ≡ old.text.tally)) answer
  pub live : new.meter.live ≡ 0
  pub limit_is : new.meter.limit ≡ limit
  pub peak : IfSome held (λ file. new.meter.peak ≤ max 0 (job_bound job file W))
  pub exact : OnOk answer (IfSome held (λ file. new.meter.peak ≡ max 0 (highest (job_takings job file 1))))
  pub unread : limit < 2880 → new.ranges ≡ old.ranges
  pub most : new.meter.peak ≤ max 0 (greatest_bound job W)
  pub held_is : new.held ≡ old.held
  pub touched : ReadsTouched job old.held old.ranges new.ranges
  pub told_ranges : StaysTold old.ranges new.ranges
  pub told : StaysTold old.text.contents new.text.contents
  pub source_counts : CountsKept old.source new.source
  pub text_counts : CountsKept old.text.tally new.text.tally

-- what was printed, of the answer without its value
printed : {X : Type 0} → (job : Job) (held : Option (List ℕ)) (limit W : ℕ) (old new : Ends) (answer : Result X Stop) → ((file : List ℕ) → job_takings job file W ≡ job_takings job file 1) → TextSays job held limit W old new answer →
    HasPrinted false job held limit W old.text new.text (done_of answer)
printed job held limit W old new answer same s = record {
  lines = lines_done answer job held old.text.contents new.text.contents s.lines;
  silent = record { faulty = s.silent.faulty; past = past_workers held limit (λ file. job_takings job file 1) (λ file. job_takings job file W) _ same s.silent.past; over_limit = over_done answer _ s.silent.over_limit; refused = if_refused_done answer _ s.silent.refused };
  done = ok_done answer (new.text.tally ≡ old.text.tally) (on_second answer _ _ s.cause.done);
  refused = λ is. (s.cause.refused (refused_done answer is)).1;
  write_fault = λ is. s.cause.write_fault (error_done answer StopWrite is);
  told = s.told;
  counts = s.text_counts;
}

pub nothing_restored : (held contents : Option (List ℕ)) → IfSome held (λ file. IfSome contents (λ c. ⊤))
nothing_restored None contents = tt
nothing_restored (Some file) None = tt
nothing_restored (Some file) (Some bytes) = tt

pub always_err : (answer : Result (Unit {0}) Stop) (P : Type 0) → P → OnErr answer P
always_err (Ok x) P p = tt
always_err (Err stop) P p = p

over_limit_same : (answer : Result (Unit {0}) Stop) (P : Type 0) → P → IfOverLimit answer P
over_limit_same (Ok x) P p = tt
over_limit_same (Err (StopRefused x)) P p = tt
over_limit_same (Err StopRead) P p = tt
over_limit_same (Err StopWrite) P p = tt
over_limit_same (Err (StopLimit live asked limit)) P p = p
over_limit_same (Err StopMemory) P p = tt

refused_same : (answer : Result (Unit {0}) Stop) (P : Fault → Type 0) → ((x : Fault) → P x) → IfRefused answer P
refused_same (Ok x) P p = tt
refused_same (Err (StopRefused x)) P p = p x
refused_same (Err StopRead) P p = tt
refused_same (Err StopWrite) P p = tt
refused_same (Err (StopLimit live asked limit)) P p = tt
refused_same (Err StopMemory) P p = tt

same_held : (held : Option (List ℕ)) (P : List ℕ → Type 0) → ((file : List ℕ) → P file) → IfSome held P
same_held None P p = tt
same_held (Some file) P p = p file

-- a sink that is as it was is so by every answer
pub same_sink : (job : Job) (held : Option (List ℕ)) (limit W : ℕ) (Same : Type 0) (answer : Result (Unit {0}) Stop) → Same → IsUnmade job held limit W Same answer
same_sink job held limit W Same answer same = record {
  faulty = same_held held (λ file. ¬ (header_fault job file ≡ None) → Same) (λ file n. same);
  past = same_held held (λ file. IsSome (first_past limit (job_takings job file W)) → Same) (λ file some. same);
  over_limit = over_limit_same answer Same same;
  refused = refused_same answer (λ x. Same ⊎ ComesLate job x) (λ x. inl same);
}

-- What is of a job that prints: it writes no file, nothing comes back, its counts are those of the text, and its workers are its own,
-- whatever was asked.
pub record IsPrinter (job : Job) : Type 1 where
  pub output : (file : List ℕ) → IsOutput job file []
  pub finished : (is : Bool) → IsFinished job is
  pub restores : (file bytes : List ℕ) → Restores job file bytes
  pub no_cut : (P : Option ℕ → Sieve → Type 0) → IfCut job P
  pub counts : (sink text : Tally) → written_counts job sink text ≡ text
  pub most : (W : ℕ) → greatest_bound job W ≡ greatest_bound job 1
  pub takings : (W : ℕ) (file : List ℕ) → job_takings job file W ≡ job_takings job file 1
  pub own : (W : ℕ) (file : List ℕ) → (own_takings job file W ≡ job_takings job file W) × (own_bound job file W ≡ job_bound job file W)
  pub printed : (held : Option (List ℕ)) (limit W : ℕ) (old new : TextIs) (answer : Result (Unit {0}) Stop) → HasPrinted false job held limit W old new answer → JobPrinted job false held limit W old new answer

pub verifies : IsPrinter Verify
verifies = record { output = λ file. refl; finished = λ is. tt; restores = λ file bytes. tt; no_cut = λ P. tt; counts = λ sink text. refl; most = λ W. refl; takings = λ W file. refl; own = λ W file. (refl, refl); printed = λ held limit W old new answer p. p }

pub lists : IsPrinter ListHdus
lists = record { output = λ file. refl; finished = λ is. tt; restores = λ file bytes. tt; no_cut = λ P. tt; counts = λ sink text. refl; most = λ W. refl; takings = λ W file. refl; own = λ W file. (refl, refl); printed = λ held limit W old new answer p. p }

pub drills : (rows : ℕ) → IsPrinter (Drill rows)
drills rows = record { output = λ file. refl; finished = λ is. tt; restores = λ file bytes. tt; no_cut = λ P. tt; counts = λ sink text. refl; most = λ W. refl; takings = λ W file. refl; own = λ W file. (refl, refl); printed = λ held limit W old new answer p. p }

module _ (job : Job) (is : IsPrinter job) where
  pub empty_output : (held contents : Option (List ℕ)) → IfSome contents (λ c. c ≡ []) → HoldsJobOutput job held contents
  empty_output None contents empty = tt
  empty_output (Some file) None empty = tt
  empty_output (Some file) (Some bytes) empty = subst (IsOutput job file) (sym empty) (is.output file)

  pub none_restored : (held contents : Option (List ℕ)) → JobRestores job held contents
  none_restored None contents = tt
  none_restored (Some file) None = tt
  none_restored (Some file) (Some bytes) = is.restores file bytes

module _ (job : Job) (is : IsPrinter job) (W : ℕ) (strict : Bool) (plain : is_compared_by job strict ≡ false) (memory : ℕ) (input output : List ℕ) (old new : Ends) (same : new.sink ≡ old.sink) (empty : IfSome new.sink.contents (λ c. c ≡ [])) where
  abbrev pub asked : Asked
  asked = record { job = job; workers = W; strict = strict; memory = memory; input = input; output = output }

  abbrev pub limit : ℕ
  limit = limit_of asked old.meter.limit

  -- what is said of the counts of the text
  of_text : (P : Tally → Tally → Type 0) → P old.text.tally new.text.tally → P (counts_written job old) (counts_written job new)
  of_text P p = subst (λ (t : Tally). P t (counts_written job new)) (sym (is.counts old.sink.tally old.text.tally)) (subst (P old.text.tally) (sym (is.counts new.sink.tally new.text.tally)) p)

  text_cause : {X : Type 0} (answer : Result X Stop) → TextSays job (given job old.held) limit W old new answer → HasJobCause job (given job old.held) old.source new.source old.text.tally new.text.tally limit W (done_of answer)
  text_cause answer s = record {
    done = ok_done answer _ s.cause.done;
    refused = λ is. s.cause.refused (refused_done answer is);
    read_fault = λ is. s.cause.read_fault (error_done answer StopRead is);
    write_fault = λ is. s.cause.write_fault (error_done answer StopWrite is);
    over_limit = subst (λ (m : ℕ). TellsLimit limit m (done_of answer)) (sym (is.most W)) (limit_done answer limit (greatest_bound job 1) s.cause.over_limit);
    first_past = past_held answer (given job old.held) limit (λ file. job_takings job file 1) (λ file. job_takings job file W) (is.takings W) s.cause.first_past;
    block = λ less. (error_of answer _ (s.cause.block less).0, (s.cause.block less).1, (s.cause.block less).2);
  }

  -- the promises of a job that prints and compares nothing
  pub text_promised : {X : Type 0} (answer : Result X Stop) → TextSays job (given job old.held) limit W old new answer → IsPromised asked old new (done_of answer)
  text_promised answer s = promised asked old new plain (done_of answer)
      (record {
        of_file = s.of_file;
        output = always_ok (done_of answer) _ (empty_output job is old.held new.sink.contents empty);
        finished = always_ok (done_of answer) _ (is.finished new.sink.finished);
        first_fault = fault_done answer job (given job old.held) s.first_fault;
        answered = of_text (λ t t'. Answers job (given job old.held) old.source new.source t t' limit W (done_of answer)) (λ a b. answers_done answer (given job old.held) (λ file. job_bound job file W ≤ limit) (s.answered a b));
        cause = of_text (λ t t'. HasJobCause job (given job old.held) old.source new.source t t' limit W (done_of answer)) (text_cause answer s);
        first_byte = always_err (done_of answer) _ (inl (empty_is_shut new.sink.contents empty));
        unread = s.unread;
        unmade = same_sink job old.held limit W (IsSameSink old.sink new.sink) (done_of answer) (ap (λ (k : SinkIs). k.created) same, ap (λ (k : SinkIs). k.contents) same);
        faulty = left_faulty job old.held (IsSameSink old.sink new.sink) (ap (λ (k : SinkIs). k.created) same, ap (λ (k : SinkIs). k.contents) same);
        live = s.live;
        limit = s.limit_is;
        peak = own_peak (given job old.held) new.meter.peak (λ file. job_bound job file W) (λ file. own_bound job file W) (λ file. (is.own W file).1) s.peak;
        exact = exact_workers answer (given job old.held) new.meter.peak (λ file. job_takings job file 1) (λ file. own_takings job file W) (λ file. (is.own W file).0 ∙ is.takings W file) s.exact;
        most = s.most;
        held_is = s.held_is;
        touched = s.touched;
        told_ranges = s.told_ranges;
        told_contents = λ told. subst (λ (k : SinkIs). IsSome k.contents) (sym same) told;
        source_counts = s.source_counts;
        sink_counts = kept_by old.sink.tally new.sink.tally (ap (λ (k : SinkIs). k.tally) same);
        text_counts = s.text_counts;
        printed = is.printed (given job old.held) limit W old.text new.text (done_of answer) (printed job (given job old.held) limit W old new answer (is.takings W) s);
        one_written = λ e. (ap (λ (k : SinkIs). k.tally) same, sym (is.counts new.sink.tally new.text.tally) ∙ e ∙ is.counts old.sink.tally old.text.tally);
      })
      (λ whole. inl (empty_is_shut new.sink.contents empty)) (always_ok (done_of answer) _ (none_restored job is old.held new.sink.contents)) (always_ok (done_of answer) _ (is.no_cut _))

done_is : (r : Result (Unit {0}) Stop) → done_of r ≡ r
done_is (Ok tt) = refl
done_is (Err stop) = refl

-- the answer of `list` has no value
pub listed : (asked : Asked) (old new : Ends) (answer : Result (Unit {0}) Stop) → IsPromised asked old new (done_of answer) → IsPromised asked old new answer
listed asked old new answer = subst (IsPromised asked old new) (done_is answer)
