-- What a job promises of its answer, and what is promised of the answer to the words, for every job.
use Rattle.std.proofs.Common.{◌≡◌, ℕ, ◌≤◌, ◌<◌, ◌&&◌, not, Bool, false, List, refl, sym, subst, arith, inl, inr}
use Rattle.std.specs.Prelude.{◌⊎◌, max, Option, Some, None, IfSome, Result, Ok, Err, IsErrOf, OnOk, OnErr}
use Rattle.fz_base.specs.Counts.{CountsKept}
use Rattle.fz_base.specs.FirstByte.{IsShut}
use Rattle.fz_base.specs.Stop.{TellsLimit}
use Rattle.fz_base.specs.Takings.{TellsFirstPast, highest}
use Rattle.fz_base.specs.Told.{StaysTold}
use Rattle.fz_base.specs.declared.failure.Stop.{Stop}
use Rattle.fz_base.specs.declared.failure.Stop.TheVariants.{ReadFault as StopRead, WriteFault as StopWrite, OverLimit as StopLimit, NoMemory as StopMemory}
use Rattle.fz_files.specs.Buffers.{IsOfFile, job_takings, own_bound, own_takings}
use Rattle.fz_files.specs.FirstFault.{IsFirstFault}
use Rattle.fz_files.specs.declared.job.Job.{Job}
use Rattle.fz_files.specs.declared.job.Job.TheVariants.{Pack, Unpack, Cut, Verify, List as ListHdus, Drill, Retile}
use Rattle.fz_job.specs.Clauses.{Answers, HasJobCause, IsShutOrWhole, IsUnmade, TellsFirstFault, greatest_bound}
use Rattle.fz_words.specs.Jobs.{Asked}
use Rattle.fz_app.specs.Asked.{given, is_compared, is_write_fault, limit_of, most_bound, takings_with}
use Rattle.fz_app.specs.Ends.{Ends, IsSameSink, counts_written}
use Rattle.fz_app.specs.Outputs.{HoldsJobOutput, HoldsJobSlice, IsFinished, IsWhole, JobRestores, LeavesFaulty, ReadsTouched}
use Rattle.fz_app.specs.Printed.{JobPrinted}
use Rattle.fz_app.specs.Promised.{IsPromised}

-- a fact of an error that follows from another, and two facts of a done job
on_err : (answer : Result (Unit {0}) Stop) (P Q : Type 0) → (P → Q) → OnErr answer P → OnErr answer Q
on_err (Ok done) P Q f p = tt
on_err (Err stop) P Q f p = f p

pub on_ok : (answer : Result (Unit {0}) Stop) (P Q : Type 0) → (P → Q) → OnOk answer P → OnOk answer Q
on_ok (Ok done) P Q f p = f p
on_ok (Err stop) P Q f p = tt

pub always_ok : (answer : Result (Unit {0}) Stop) (P : Type 0) → P → OnOk answer P
always_ok (Ok done) P p = p
always_ok (Err stop) P p = tt

on_both : (answer : Result (Unit {0}) Stop) (P Q : Type 0) → OnOk answer P → OnOk answer Q → OnOk answer (P × Q)
on_both (Ok done) P Q p q = (p, q)
on_both (Err stop) P Q p q = tt

-- what a job says of the sink and of the source, as they were before the source was attached and after the call
pub record JobSays (asked : Asked) (old new : Ends) (answer : Result (Unit {0}) Stop) : Type 0 where
  pub of_file : IsOfFile asked.job
  pub output : OnOk answer (HoldsJobOutput asked.job old.held new.sink.contents)
  pub finished : OnOk answer (IsFinished asked.job new.sink.finished)
  pub first_fault : TellsFirstFault asked.job (given asked.job old.held) answer
  pub answered : Answers asked.job (given asked.job old.held) old.source new.source (counts_written asked.job old) (counts_written asked.job new) (limit_of asked old.meter.limit) asked.workers answer
  pub cause : HasJobCause asked.job (given asked.job old.held) old.source new.source (counts_written asked.job old) (counts_written asked.job new) (limit_of asked old.meter.limit) asked.workers answer
  pub first_byte : IsShutOrWhole new.sink.contents (HoldsJobOutput asked.job old.held new.sink.contents) answer
  pub unread : limit_of asked old.meter.limit < 2880 → new.ranges ≡ old.ranges
  pub unmade : IsUnmade asked.job old.held (limit_of asked old.meter.limit) asked.workers (IsSameSink old.sink new.sink) answer
  pub live : new.meter.live ≡ 0
  pub limit : new.meter.limit ≡ limit_of asked old.meter.limit
  pub peak : IfSome (given asked.job old.held) (λ file. new.meter.peak ≤ max 0 (own_bound asked.job file asked.workers))
  pub exact : OnOk answer (IfSome (given asked.job old.held) (λ file. new.meter.peak ≡ max 0 (highest (own_takings asked.job file asked.workers))))
  pub most : new.meter.peak ≤ max 0 (greatest_bound asked.job asked.workers)
  pub faulty : LeavesFaulty asked.job old.held (IsSameSink old.sink new.sink)
  pub held_is : new.held ≡ old.held
  pub touched : ReadsTouched asked.job old.held old.ranges new.ranges
  pub told_ranges : StaysTold old.ranges new.ranges
  pub told_contents : StaysTold old.sink.contents new.sink.contents
  pub source_counts : CountsKept old.source new.source
  pub sink_counts : CountsKept old.sink.tally new.sink.tally
  pub text_counts : CountsKept old.text.tally new.text.tally
  pub printed : JobPrinted asked.job false (given asked.job old.held) (limit_of asked old.meter.limit) asked.workers old.text new.text answer
  pub one_written : counts_written asked.job new ≡ counts_written asked.job old → (new.sink.tally ≡ old.sink.tally) × (new.text.tally ≡ old.text.tally)

-- a sink that is as before, whatever the file has
pub left_faulty : (job : Job) (held : Option (List ℕ)) (Same : Type 0) → Same → LeavesFaulty job held Same
left_faulty (Pack options) held Same is = tt
left_faulty Unpack held Same is = tt
left_faulty (Cut wanted sieve) held Same is = tt
left_faulty Verify held Same is = tt
left_faulty ListHdus held Same is = tt
left_faulty (Drill rows) held Same is = tt
left_faulty (Retile options) None Same is = tt
left_faulty (Retile options) (Some file) Same is = λ fault. is

-- the bound of a job on a file, whatever the file
most_is : (job : Job) (W : ℕ) → IsOfFile job → greatest_bound job W ≡ most_bound job W
most_is (Pack options) W of_file = refl
most_is Unpack W of_file = refl
most_is (Cut wanted sieve) W of_file = refl
most_is Verify W of_file = refl
most_is ListHdus W of_file = refl
most_is (Drill rows) W of_file = absurd of_file
most_is (Retile options) W of_file = refl

-- contents that hold the output are shut, or the file has no fault
abbrev pub WholeIsSound : Job → Ends → Ends → Type 0
WholeIsSound job old new = HoldsJobOutput job old.held new.sink.contents → IsShut new.sink.contents ⊎ IfSome old.held (λ file. IsFirstFault job file None)

module _ (asked : Asked) (old new : Ends) where
  abbrev pub Last : Result (Unit {0}) Stop → Type 0
  Last answer = IsErrOf answer StopWrite ⊎ IsErrOf answer StopMemory

  with_sound : (E : Type 0) → HoldsJobOutput asked.job old.held new.sink.contents → IsShut new.sink.contents ⊎ IfSome old.held (λ file. IsFirstFault asked.job file None) → E → IsShut new.sink.contents ⊎ (IsWhole asked.job old.held new.sink.contents × E)
  with_sound E whole (inl shut) last = inl shut
  with_sound E whole (inr sound) last = inr (record { output = whole; sound = sound }, last)

  first_byte_of : (E : Type 0) → WholeIsSound asked.job old new → IsShut new.sink.contents ⊎ (HoldsJobOutput asked.job old.held new.sink.contents × E) → IsShut new.sink.contents ⊎ (IsWhole asked.job old.held new.sink.contents × E)
  first_byte_of E sound (inl shut) = inl shut
  first_byte_of E sound (inr sealed) = with_sound E sealed.0 (sound sealed.0) sealed.1

  peak_of : (held : Option (List ℕ)) → IfSome held (λ file. new.meter.peak ≤ max 0 (own_bound asked.job file asked.workers)) → IfSome held (λ file. new.meter.peak ≤ own_bound asked.job file asked.workers)
  peak_of None p = tt
  peak_of (Some file) p = omega (arith, p)

  exact_of : (held : Option (List ℕ)) → IfSome held (λ file. new.meter.peak ≡ max 0 (highest (own_takings asked.job file asked.workers))) → IfSome held (λ file. new.meter.peak ≡ highest (own_takings asked.job file asked.workers))
  exact_of None p = tt
  exact_of (Some file) p = omega (arith, p)

  -- where the counts of the source and of what is written stay, all stay
  all_counts : (counts_written asked.job new ≡ counts_written asked.job old → (new.sink.tally ≡ old.sink.tally) × (new.text.tally ≡ old.text.tally)) →
      (new.source ≡ old.source) × (counts_written asked.job new ≡ counts_written asked.job old) → (new.source ≡ old.source) × (new.sink.tally ≡ old.sink.tally) × (new.text.tally ≡ old.text.tally)
  all_counts one same = (same.0, (one same.1).0, (one same.1).1)

  -- the first taking of one block
  block_of : (answer : Result (Unit {0}) Stop) → (limit_of asked old.meter.limit < 2880 → IsErrOf answer (StopLimit 0 2880 (limit_of asked old.meter.limit)) × (new.source ≡ old.source) × (counts_written asked.job new ≡ counts_written asked.job old)) →
      limit_of asked old.meter.limit < 2880 → IsErrOf answer (StopLimit 0 2880 (limit_of asked old.meter.limit)) ⊎ (IsErrOf answer StopRead ⊎ IsErrOf answer StopMemory)
  block_of answer says less = inl (says less).0

  -- what the job says of its answer is promised of it, with what it restores and what it is a slice of, where nothing is compared
  pub promised : is_compared asked ≡ false → (answer : Result (Unit {0}) Stop) → JobSays asked old new answer → WholeIsSound asked.job old new → OnOk answer (JobRestores asked.job old.held new.sink.contents) → OnOk answer (HoldsJobSlice asked.job old.held new.sink.contents) → IsPromised asked old new answer
  promised plain answer s sound restored slice = record {
    restored = restored;
    output = on_both answer (HoldsJobOutput asked.job old.held new.sink.contents) (IsFinished asked.job new.sink.finished) s.output s.finished;
    slice = slice;
    first_fault = s.first_fault;
    answered = λ unread. s.answered (unread s.of_file);
    first_byte = on_err answer (IsShut new.sink.contents ⊎ (HoldsJobOutput asked.job old.held new.sink.contents × Last answer)) (IsShut new.sink.contents ⊎ (IsWhole asked.job old.held new.sink.contents × Last answer)) (first_byte_of (Last answer) sound) s.first_byte;
    live = s.live;
    limit = s.limit;
    peak = peak_of (given asked.job old.held) s.peak;
    exact = subst (λ (b : Bool). OnOk answer (IfSome (given asked.job old.held) (λ file. new.meter.peak ≡ highest (takings_with b file (own_takings asked.job file asked.workers))))) (sym plain)
        (on_ok answer _ _ (exact_of (given asked.job old.held)) s.exact);
    done = on_ok answer ((new.source ≡ old.source) × (counts_written asked.job new ≡ counts_written asked.job old)) ((new.source ≡ old.source) × (new.sink.tally ≡ old.sink.tally) × (new.text.tally ≡ old.text.tally)) (all_counts s.one_written) s.cause.done;
    refused = λ is. (s.of_file, all_counts s.one_written (s.cause.refused is));
    read_fault = λ is. (s.of_file, s.cause.read_fault is);
    write_fault = s.cause.write_fault;
    most = subst (λ (m : ℕ). new.meter.peak ≤ m) (most_is asked.job asked.workers s.of_file) (omega (arith, s.most));
    told_limit = subst (λ (m : ℕ). TellsLimit (limit_of asked old.meter.limit) m answer) (most_is asked.job asked.workers s.of_file) s.cause.over_limit;
    first_past = subst (λ (b : Bool). IfSome (given asked.job old.held) (λ file. TellsFirstPast (limit_of asked old.meter.limit) (takings_with (b && not (is_write_fault answer)) file (job_takings asked.job file asked.workers)) answer)) (sym plain)
        s.cause.first_past;
    block = block_of answer s.cause.block;
    unread = s.unread;
    unmade = s.unmade;
    faulty = s.faulty;
    held_is = s.held_is;
    touched = s.touched;
    told_ranges = s.told_ranges;
    told_contents = s.told_contents;
    source_counts = s.source_counts;
    sink_counts = s.sink_counts;
    text_counts = s.text_counts;
    printed = subst (λ (b : Bool). JobPrinted asked.job b (given asked.job old.held) (limit_of asked old.meter.limit) asked.workers old.text new.text answer) (sym plain) s.printed;
  }
