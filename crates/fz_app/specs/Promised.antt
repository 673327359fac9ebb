-- What the function of a job promises of its answer, from which each promise of a run is read.
use Rattle.std.specs.Prelude.{◌≡◌, ◌⊎◌, ◌<◌, ◌≤◌, IfSome, Result, OnOk, OnErr, IsErrOf, ⊤}
use Rattle.fz_base.specs.Counts.{Rose, CountsKept}
use Rattle.fz_base.specs.FirstByte.{IsShut}
use Rattle.fz_base.specs.Stop.{IsRefused, TellsLimit}
use Rattle.fz_base.specs.Told.{StaysTold}
use Rattle.fz_base.specs.Takings.{TellsFirstPast, highest}
use Rattle.fz_base.specs.declared.failure.Stop.{Stop}
use Rattle.fz_base.specs.declared.failure.Stop.TheVariants.{ReadFault as StopRead, WriteFault as StopWrite, OverLimit as StopLimit, NoMemory as StopMemory}
use Rattle.fz_files.specs.Buffers.{IsOfFile, job_bound, own_bound}
use Rattle.fz_job.specs.Clauses.{IsAnswer, IsUnmade, TellsFirstFault}
use Rattle.fz_words.specs.Jobs.{Asked}
use Rattle.fz_app.specs.Asked.{given, is_compared, limit_of, most_bound, own_asked, takings_told}
use Rattle.fz_app.specs.Ends.{Ends, IsSameSink, counts_written}
use Rattle.fz_app.specs.Outputs.{HoldsJobOutput, HoldsJobSlice, JobRestores, IsFinished, IsWhole, LeavesFaulty, ReadsTouched}
use Rattle.fz_app.specs.Printed.{JobPrinted}

-- what a job promises of its answer to what the words ask for
pub record IsPromised (asked : Asked) (old new : Ends) (answer : Result ⊤ Stop) : Type 0 where
  pub restored : OnOk answer (JobRestores asked.job old.held new.sink.contents)
  pub output : OnOk answer (HoldsJobOutput asked.job old.held new.sink.contents × IsFinished asked.job new.sink.finished)
  pub slice : OnOk answer (HoldsJobSlice asked.job old.held new.sink.contents)
  pub first_fault : TellsFirstFault asked.job (given asked.job old.held) answer
  pub answered : (IsOfFile asked.job → ¬ Rose old.source.faults new.source.faults)
      → ¬ Rose (counts_written asked.job old).faults (counts_written asked.job new).faults
      → IfSome (given asked.job old.held) (λ file. job_bound asked.job file asked.workers ≤ limit_of asked old.meter.limit → IsAnswer answer)
  pub first_byte : OnErr answer (IsShut new.sink.contents
      ⊎ (IsWhole asked.job old.held new.sink.contents × (IsErrOf answer StopWrite ⊎ IsErrOf answer StopMemory)))
  pub live : new.meter.live ≡ 0
  pub limit : new.meter.limit ≡ limit_of asked old.meter.limit
  pub peak : IfSome (given asked.job old.held) (λ file. new.meter.peak ≤ own_bound asked.job file asked.workers)
  pub exact : OnOk answer (IfSome (given asked.job old.held) (λ file. new.meter.peak ≡ highest (own_asked asked file)))
  pub done : OnOk answer ((new.source ≡ old.source) × (new.sink.tally ≡ old.sink.tally) × (new.text.tally ≡ old.text.tally))
  pub refused : IsRefused answer → IsOfFile asked.job × ((new.source ≡ old.source) × (new.sink.tally ≡ old.sink.tally) × (new.text.tally ≡ old.text.tally))
  pub read_fault : IsErrOf answer StopRead → IsOfFile asked.job × Rose old.source.faults new.source.faults
  pub write_fault : IsErrOf answer StopWrite → Rose (counts_written asked.job old).faults (counts_written asked.job new).faults
  pub most : new.meter.peak ≤ most_bound asked.job asked.workers
  pub told_limit : TellsLimit (limit_of asked old.meter.limit) (most_bound asked.job asked.workers) answer
  pub first_past : IfSome (given asked.job old.held) (λ file. TellsFirstPast (limit_of asked old.meter.limit) (takings_told asked answer file) answer)
  pub block : limit_of asked old.meter.limit < 2880
      → IsErrOf answer (StopLimit 0 2880 (limit_of asked old.meter.limit)) ⊎ (IsErrOf answer StopRead ⊎ IsErrOf answer StopMemory)
  pub unread : limit_of asked old.meter.limit < 2880 → new.ranges ≡ old.ranges
  pub unmade : IsUnmade asked.job old.held (limit_of asked old.meter.limit) asked.workers (IsSameSink old.sink new.sink) answer
  pub faulty : LeavesFaulty asked.job old.held (IsSameSink old.sink new.sink)
  pub held_is : new.held ≡ old.held
  pub touched : ReadsTouched asked.job old.held old.ranges new.ranges
  pub told_ranges : StaysTold old.ranges new.ranges
  pub told_contents : StaysTold old.sink.contents new.sink.contents
  pub source_counts : CountsKept old.source new.source
  pub sink_counts : CountsKept old.sink.tally new.sink.tally
  pub text_counts : CountsKept old.text.tally new.text.tally
  pub printed : JobPrinted asked.job (is_compared asked) (given asked.job old.held) (limit_of asked old.meter.limit) asked.workers old.text new.text answer
