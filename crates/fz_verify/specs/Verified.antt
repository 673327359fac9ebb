-- What is said of every file that is verified, whether its tiles are decoded or were decoded before.
use Rattle.std.specs.Prelude.{ℕ, ◌≡◌, ◌<◌, max, Bool, List, Option, IfOk, IfSome, OnOk, Result}
use Rattle.fz_base.specs.Counts.{Tally}
use Rattle.fz_base.specs.Meter.{Gauge}
use Rattle.fz_base.specs.Ranges.{LogsIn}
use Rattle.fz_base.specs.Takings.{highest}
use Rattle.fz_base.specs.Told.{StaysTold}
use Rattle.fz_base.specs.declared.failure.Stop.{Stop}
use Rattle.fz_files.specs.Buffers.{job_takings}
use Rattle.fz_files.specs.Touched.{touched_by}
use Rattle.fz_files.specs.declared.job.Job.TheVariants.{Verify}
use Rattle.fz_job.specs.Clauses.{Answers, HasJobCause, IsUnmade, KeepsBuffers, KeepsSource, TellsFirstFault}
use Rattle.fz_pool.specs.Window.{Pool}
use Rattle.fz_verify.specs.Clauses.{IsRightAsSaid, PrintsLines}
use Rattle.fz_verify.specs.Reported.{Grew, Reports}

-- the clauses of `verify`, by their names
pub record Verifies
    {S T : Type 0} (held : S → Option (List ℕ)) (attached : S → Option ℕ) (ranges : S → Option (List (ℕ × ℕ))) (reads : S → Tally)
    (contents : T → Option (List ℕ)) (prints : T → Tally) (source source' : S) (text text' : T) (meter meter' : Gauge)
    (window window' : Pool) (result : Result Bool Stop) : Type 0 where
  pub lines : PrintsLines Verify (held source) (contents text) (contents text') result
  pub right : IfOk result (λ right. IfSome (held source) (IsRightAsSaid right))
  pub reported : IfOk result (Reports (contents text) (contents text'))
  pub grown : Grew (contents text) (contents text')
  pub first_fault : TellsFirstFault Verify (held source) result
  pub answered : Answers Verify (held source) (reads source) (reads source') (prints text) (prints text') meter.limit 1 result
  pub cause : HasJobCause Verify (held source) (reads source) (reads source') (prints text) (prints text') meter.limit 1 result
  pub silent : IsUnmade Verify (held source) meter.limit 1 ((contents text' ≡ contents text) × (prints text' ≡ prints text)) result
  pub buffers : KeepsBuffers Verify (held source) meter meter' window window'
  pub touched : IfSome (held source) (λ g. LogsIn (touched_by Verify g) (ranges source) (ranges source'))
  pub exact_peak : OnOk result (IfSome (held source) (λ g. meter'.peak ≡ max meter.peak (highest (job_takings Verify g 1))))
  pub unread : meter.limit < 2880 → ranges source' ≡ ranges source
  pub kept : KeepsSource (held source) (held source') (attached source) (attached source') (reads source) (reads source') (prints text) (prints text')
  pub told_ranges : StaysTold (ranges source) (ranges source')
  pub told_contents : StaysTold (contents text) (contents text')
