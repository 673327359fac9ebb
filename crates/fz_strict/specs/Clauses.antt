-- What the call promises of its answer, its takings and its peak.
use Rattle.std.specs.Prelude.{ℕ, ◌≡◌, ◌+◌, ◌*◌, ◌<◌, ◌≤◌, ◌↔◌, ◌⊎◌, max, Bool, true, false, List, []}
use Rattle.std.specs.Prelude.{◌∷◌, ◌++◌, Option, None, Some, IfSome, IfErr, Result, OnOk, IsErrOf, ⊤}
use Rattle.fz_base.specs.Counts.{Rose, Tally, CountsKept}
use Rattle.fz_base.specs.Meter.{Gauge}
use Rattle.fz_base.specs.Stop.{IsRefused, TellsLimit}
use Rattle.fz_base.specs.Takings.{TellsFirstPast, piled}
use Rattle.fz_base.specs.declared.failure.Stop.{Stop}
use Rattle.fz_base.specs.declared.fault.Fault.{Fault}
use Rattle.fz_base.specs.declared.failure.Stop.TheVariants.{Refused, ReadFault, WriteFault, OverLimit, NoMemory}
use Rattle.fz_files.specs.Buffers.{header_takings, job_bound, largest_tile, longest_header}
use Rattle.fz_files.specs.Walks.{header_fault}
use Rattle.fz_files.specs.declared.job.Job.TheVariants.{Verify}
use Rattle.fz_checks.specs.WorkBuffers.{work_buffers}
use Rattle.fz_job.specs.Clauses.{ComesLate, IsAnswer, greatest_bound}
use Rattle.fz_job.specs.Surveys.{survey_takings}
use Rattle.fz_job.specs.declared.checks.JobChecks.TheVariants.{Unpack as UnpackChecks}
use Rattle.fz_job.specs.declared.survey.Survey.{Survey}
use Rattle.fz_job.specs.declared.workspace.Wants.{Wants}
use Rattle.fz_strict.specs.Strict.{IsStrict}

-- the answer is true if and only if the file is strict
abbrev pub IsStrictAsSaid : Bool → List ℕ → Type 0
IsStrictAsSaid same file = (same ≡ true) ↔ IsStrict file

-- what the look at the headers takes, when nothing else is live: one block, and then room for the headers
abbrev pub look_takings : List ℕ → List (ℕ × ℕ)
look_takings file = (0, 2880) ∷ survey_takings UnpackChecks 2880 file

-- the buffers of the work: one for restored headers, one for those that are read and packed again, the slots, and the copy buffer; each of
-- the first two is a block longer than the longest header
abbrev pub strict_buffers : ℕ → ℕ → ℕ → List ℕ
strict_buffers H n W = (H + 2880) ∷ work_buffers (H + 2880) false (Some n) W

-- those of them that are taken as a workspace
abbrev pub strict_wants : Survey → Wants
strict_wants s = record { header_len = s.header_len + 2880; translates = false; tile = Some s.tile }

-- what is taken when no header is refused: nothing else is live then
abbrev pub later_takings : Option Fault → List ℕ → List (ℕ × ℕ)
later_takings None file = piled 0 (strict_buffers (longest_header Verify file) (largest_tile Verify file) 1)
later_takings (Some x) file = []

-- what the call takes, beside what is live then: one block, room for the headers, and then, with nothing live, its buffers
abbrev pub strict_takings : List ℕ → List (ℕ × ℕ)
strict_takings file = (0, 2880) ∷ (header_takings Verify file ++ later_takings (header_fault Verify file) file)

-- Why the call ended as it did: after Ok and after Refused no count rose, ReadFault comes only if the source's count of faults rose, and
-- OverLimit is the first of the takings that passes the limit, and comes if one does. The first taking, of one block, comes before anything
-- is read: a limit below that decides by itself.
pub record HasStrictCause {X : Type 0} (held : Option (List ℕ)) (source source' : Tally) (limit : ℕ) (result : Result X Stop) : Type 0 where
  pub done : OnOk result (source' ≡ source)
  pub refused : IsRefused result → source' ≡ source
  pub read_fault : IsErrOf result ReadFault → Rose source.faults source'.faults
  pub write_fault : ¬ (IsErrOf result WriteFault)
  pub over_limit : TellsLimit limit (greatest_bound Verify 1) result
  pub first_past : IfSome held (λ file. TellsFirstPast limit (strict_takings file) result)
  pub block : limit < 2880 → IsErrOf result (OverLimit 0 2880 limit) × (source' ≡ source)

-- A refusal is that of a row, or of an HDU that changed since the look, or the peak is one that the look may reach: 740,160 bytes, or what
-- the peak was before. So nothing is said if the buffers of the work are no larger than that.
abbrev pub IsLateOrEarly : ℕ → ℕ → Fault → Type 0
IsLateOrEarly peak peak' x = ComesLate Verify x ⊎ (peak' ≤ max peak (2880 + 737280))

-- if no count of faults rose, and the limit is at least the bound, the answer is Ok or Refused, or there was no memory
abbrev pub AnswersStrict : {X : Type 0} → Option (List ℕ) → Tally → Tally → ℕ → Result X Stop → Type 0
AnswersStrict held source source' limit result = ¬ Rose source.faults source'.faults → IfSome held (λ file. job_bound Verify file 1 ≤ limit → IsAnswer result)
