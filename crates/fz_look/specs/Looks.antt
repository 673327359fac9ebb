-- Why a look ended, and what it leaves live.
use Rattle.std.specs.Prelude.{ℕ, ◌≡◌, ◌<◌, ◌≤◌, max, List, [], Option, IfSome, Result, Ok, Err, OnOk, IsErrOf}
use Rattle.fz_base.specs.Counts.{Rose, Tally, CountsKept}
use Rattle.fz_base.specs.Meter.{Gauge}
use Rattle.fz_base.specs.Stop.{IsRefused, TellsLimit}
use Rattle.fz_base.specs.Takings.{TellsFirstPast}
use Rattle.fz_base.specs.declared.failure.Stop.{Stop}
use Rattle.fz_base.specs.declared.failure.Stop.TheVariants.{ReadFault, WriteFault, OverLimit}
use Rattle.fz_files.specs.Buffers.{file_takings, job_bound}
use Rattle.fz_files.specs.declared.job.Job.TheVariants.{Unpack}
use Rattle.fz_job.specs.Clauses.{greatest_bound}
use Rattle.fz_pool.specs.Window.{Pool}
use Rattle.fz_look.specs.Looked.{buffers_of}
use Rattle.fz_look.specs.declared.looked.Looked.{Looked}

-- After Ok and after Refused no count rose; ReadFault comes only if the count of faults rose; OverLimit is the first of the takings of
-- `unpack` that passes the limit, and comes if one does. A limit below one block decides before anything is read.
pub record HasLookCause (held : Option (List ℕ)) (source source' : Tally) (limit workers : ℕ) (result : Result Looked Stop) : Type 0 where
  pub kept : CountsKept source source'
  pub done : OnOk result (source' ≡ source)
  pub refused : IsRefused result → source' ≡ source
  pub read_fault : IsErrOf result ReadFault → Rose source.faults source'.faults
  pub no_write_fault : IsErrOf result WriteFault → ⊥
  pub over_limit : TellsLimit limit (greatest_bound Unpack workers) result
  pub first_past : IfSome held (λ g. TellsFirstPast limit (file_takings Unpack g workers) result)
  pub block : limit < 2880 → IsErrOf result (OverLimit 0 2880 limit) × (source' ≡ source)

-- what is live after the look: the buffers of a view, or nothing
abbrev pub live_after : Result Looked Stop → ℕ
live_after (Ok l) = buffers_of l.space
live_after (Err stop) = 0

-- The limit stays, the peak is at most that before or the bound of `unpack`, and the window is empty. Of a file that does not show its bytes the
-- greatest bound is said.
pub record KeepsLookBuffers (held : Option (List ℕ)) (old new : Gauge) (window window' : Pool) (result : Result Looked Stop) : Type 0 where
  pub live : new.live ≡ live_after result
  pub limit : new.limit ≡ old.limit
  pub peak : IfSome held (λ g. new.peak ≤ max old.peak (job_bound Unpack g window.workers))
  pub most : new.peak ≤ max old.peak (greatest_bound Unpack window.workers)
  pub window_is : window' ≡ record { slots = []; workers = window.workers }
