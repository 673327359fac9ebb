-- What `retile` promises, with its two meters.
use Rattle.std.specs.Prelude.{ℕ, ◌≡◌, ◌+◌, ◌⊎◌, ◌<◌, ◌≤◌, max, Bool, true, false, List, [], Option}
use Rattle.std.specs.Prelude.{Some, None, IfSome, IsSome, Result, Ok, Err, OnOk, IsErrOf, ⊤}
use Rattle.fz_base.specs.Counts.{Rose, Tally}
use Rattle.fz_base.specs.Meter.{Gauge}
use Rattle.fz_base.specs.Stop.{IfRefused, IsRefused, stop_of_read}
use Rattle.fz_base.specs.Takings.{first_past}
use Rattle.fz_base.specs.declared.fault.Fault.{Fault}
use Rattle.fz_base.specs.declared.failure.Failed.{Failed}
use Rattle.fz_base.specs.declared.failure.Stop.{Stop}
use Rattle.fz_base.specs.declared.failure.Stop.TheVariants.{Refused, ReadFault, WriteFault, OverLimit, NoMemory}
use Rattle.fz_head.specs.declared.options.PackOptions.{PackOptions}
use Rattle.fz_files.specs.Buffers.{file_takings, job_bound, packing_bound, plain_takings}
use Rattle.fz_files.specs.Decided.{first_fault}
use Rattle.fz_files.specs.Retiled.{IsRetiled, plain_of}
use Rattle.fz_files.specs.declared.job.Job.TheVariants.{Retile, Unpack}
use Rattle.fz_job.specs.Clauses.{ComesLate, HoldsOutput, IfOverLimit, IsAnswer, greatest_bound}
use Rattle.fz_pool.specs.Window.{Pool}

-- the contents are the packed file of what the bytes stand for
abbrev pub HoldsRetiled : PackOptions → Option (List ℕ) → Option (List ℕ) → Type 0
HoldsRetiled o held contents = HoldsOutput (IsRetiled o) held contents

-- ---- the answer

-- What stopped `pack`, by whether a call of the sink failed: a reading that failed after it is reported as want of memory. No source and no sink of
-- this program bring that about, since `pack` ends at the first call that fails.
abbrev pub stop_unless : Bool → Stop → Stop
stop_unless false stop = stop
stop_unless true (Refused x) = Refused x
stop_unless true ReadFault = NoMemory
stop_unless true WriteFault = WriteFault
stop_unless true (OverLimit live asked limit) = OverLimit live asked limit
stop_unless true NoMemory = NoMemory

abbrev pub unless_failed : Bool → Result ⊤ Stop → Result ⊤ Stop
unless_failed sink_failed (Ok x) = Ok x
unless_failed sink_failed (Err stop) = Err (stop_unless sink_failed stop)

-- what stopped `pack`, or the refusal that it took for a failed reading
abbrev pub late_of : Stop → Option Fault → Stop
late_of (Refused x) later = Refused x
late_of ReadFault None = ReadFault
late_of ReadFault (Some fault) = Refused fault
late_of WriteFault later = WriteFault
late_of (OverLimit live asked limit) later = OverLimit live asked limit
late_of NoMemory later = NoMemory

-- What stopped `pack`, if a reading of the source failed: that reading, if `pack` took it for one of the view, or for a refusal. What the sink, a
-- limit or want of memory stopped is reported as it is.
abbrev pub failed_of : Stop → Failed → Stop
failed_of (Refused x) failed = stop_of_read failed
failed_of ReadFault failed = stop_of_read failed
failed_of WriteFault failed = WriteFault
failed_of (OverLimit live asked limit) failed = OverLimit live asked limit
failed_of NoMemory failed = NoMemory

-- the answer of the job by that of `pack`, the first reading of the source that failed, and the first that was refused though it was accepted
-- before
abbrev pub settled_of : Result ⊤ Stop → Option Failed → Option Fault → Result ⊤ Stop
settled_of (Ok x) None later = Ok x
settled_of (Ok x) (Some failed) later = Err NoMemory
settled_of (Err stop) None later = Err (late_of stop later)
settled_of (Err stop) (Some failed) later = Err (failed_of stop failed)

-- ---- the limits

-- The first taking that passes its limit: of those of the look, under the limit of the view, or else of those of the file that is packed anew.
abbrev pub past_of : Option (ℕ × ℕ) → ℕ → Option (ℕ × ℕ) → ℕ → Option (ℕ × ℕ × ℕ)
past_of (Some (live, asked)) view_limit packing limit = Some (live, asked, view_limit)
past_of None view_limit (Some (live, asked)) limit = Some (live, asked, limit)
past_of None view_limit None limit = None

-- the same of a file: what is live, what is asked, and the limit
abbrev pub first_past_of : PackOptions → List ℕ → ℕ → ℕ → ℕ → Option (ℕ × ℕ × ℕ)
first_past_of o g workers view_limit limit =
    past_of (first_past view_limit (file_takings Unpack g workers)) view_limit (first_past limit (plain_takings o (plain_of g) workers)) limit

-- The limits stopped the job if one of the takings is the first that passes its own, and otherwise did not.
abbrev pub TellsFirstOfBoth : Option (ℕ × ℕ × ℕ) → Result ⊤ Stop → Type 0
TellsFirstOfBoth past (Ok x) = past ≡ None
TellsFirstOfBoth past (Err (Refused x)) = past ≡ None
TellsFirstOfBoth past (Err ReadFault) = ⊤
TellsFirstOfBoth past (Err WriteFault) = past ≡ None
TellsFirstOfBoth past (Err (OverLimit live asked limit)) = past ≡ Some (live, asked, limit)
TellsFirstOfBoth past (Err NoMemory) = ⊤

-- what OverLimit shows is the limit of one of the meters, and what passes it, which is never more than the greatest bound
abbrev pub TellsEitherLimit : ℕ → ℕ → ℕ → Result ⊤ Stop → Type 0
TellsEitherLimit view_limit limit most (Ok x) = ⊤
TellsEitherLimit view_limit limit most (Err (Refused x)) = ⊤
TellsEitherLimit view_limit limit most (Err ReadFault) = ⊤
TellsEitherLimit view_limit limit most (Err WriteFault) = ⊤
TellsEitherLimit view_limit limit most (Err (OverLimit live asked told)) =
    ((told ≡ view_limit) ⊎ (told ≡ limit)) × (told < live + asked) × (live + asked ≤ most)
TellsEitherLimit view_limit limit most (Err NoMemory) = ⊤

-- ---- why the job ended

-- Why the job ended as it did: after Ok and after Refused no count rose; the two faults come only if that of the source or of the sink
-- rose; OverLimit shows the first taking that passes its limit, and comes if one does. The first taking, of one block by the view, comes
-- before anything is read: a limit below that decides by itself.
pub record HasRetileCause
    (o : PackOptions) (held : Option (List ℕ)) (source source' sink sink' : Tally) (view_limit limit workers : ℕ)
    (result : Result ⊤ Stop) : Type 0 where
  pub done : OnOk result ((source' ≡ source) × (sink' ≡ sink))
  pub refused : IsRefused result → (source' ≡ source) × (sink' ≡ sink)
  pub read_fault : IsErrOf result ReadFault → Rose source.faults source'.faults
  pub write_fault : IsErrOf result WriteFault → Rose sink.faults sink'.faults
  pub over_limit : TellsEitherLimit view_limit limit (greatest_bound (Retile o) workers) result
  pub first_past : IfSome held (λ g. TellsFirstOfBoth (first_past_of o g workers view_limit limit) result)
  pub block : view_limit < 2880 → IsErrOf result (OverLimit 0 2880 view_limit) × (source' ≡ source) × (sink' ≡ sink)

-- if no count of faults rose, and each limit is at least its own bound, the answer is Ok or Refused, or there was no memory
abbrev pub AnswersBoth : PackOptions → Option (List ℕ) → Tally → Tally → Tally → Tally → ℕ → ℕ → ℕ → Result ⊤ Stop → Type 0
AnswersBoth o held source source' sink sink' view_limit limit workers result =
    ¬ Rose source.faults source'.faults → ¬ Rose sink.faults sink'.faults
    → IfSome held (λ g. job_bound Unpack g workers ≤ view_limit → packing_bound o g workers ≤ limit → IsAnswer result)

-- The sink is not made if the file has a first fault, also of a row or of the file that is packed anew, or if a taking passes its limit,
-- whatever the answer; nor after OverLimit. A refusal leaves it unmade too, except one that comes after the first look.
pub record StaysUnmadeBoth (o : PackOptions) (held : Option (List ℕ)) (view_limit limit workers : ℕ) (Same : Type 0) (result : Result ⊤ Stop) : Type 0 where
  pub faulty : IfSome held (λ g. ¬ (first_fault (Retile o) g ≡ None) → Same)
  pub past : IfSome held (λ g. IsSome (first_past_of o g workers view_limit limit) → Same)
  pub over_limit : IfOverLimit result Same
  pub refused : IfRefused result (λ x. Same ⊎ ComesLate (Retile o) x)

-- ---- the buffers

-- Nothing is live in the meter with the buffers in which the file is packed anew, its limit stays, its peak is at most that before or its
-- bound, and the window is empty. Of a file that does not show its bytes the greatest bound is said.
pub record KeepsPacking (o : PackOptions) (held : Option (List ℕ)) (old new : Gauge) (window window' : Pool) : Type 0 where
  pub live : new.live ≡ 0
  pub limit : new.limit ≡ old.limit
  pub peak : IfSome held (λ g. new.peak ≤ max old.peak (packing_bound o g window.workers))
  pub most : new.peak ≤ max old.peak (greatest_bound (Retile o) window.workers)
  pub window_is : window' ≡ record { slots = []; workers = window.workers }

-- The same of the meter with the buffers of the look and the view, whose bound is that of `unpack`.
pub record KeepsView (held : Option (List ℕ)) (old new : Gauge) (workers : ℕ) : Type 0 where
  pub live : new.live ≡ 0
  pub limit : new.limit ≡ old.limit
  pub peak : IfSome held (λ g. new.peak ≤ max old.peak (job_bound Unpack g workers))
  pub most : new.peak ≤ max old.peak (greatest_bound Unpack workers)
