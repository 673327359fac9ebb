-- What the parts of `drill` keep, why they stop, and what they answer.
use Rattle.std.specs.Prelude.{ℕ, ◌≡◌, ◌⊎◌, ◌<◌, ◌≤◌, max, true, List, length, Result, IfErr, IsErrOf, ⊤}
use Rattle.fz_base.specs.Meter.{Gauge}
use Rattle.fz_base.specs.Stop.{TellsLimit}
use Rattle.fz_base.specs.Takings.{TellsFirstPast}
use Rattle.fz_base.specs.declared.failure.Stop.{Stop}
use Rattle.fz_base.specs.declared.failure.Stop.TheVariants.{Refused, ReadFault, WriteFault, OverLimit, NoMemory}
use Rattle.fz_head.specs.declared.options.CodecWord.{CodecWord}
use Rattle.fz_head.specs.declared.options.CodecWord.TheVariants as word
use Rattle.fz_files.specs.Drill.{drill_file, drill_packed}
use Rattle.fz_pool.specs.Window.{IsEmpty, Pool}
use Rattle.fz_drill.specs.Bound.{drill_bound}
use Rattle.fz_drill.specs.declared.outcome.Outcome.{Outcome}
use Rattle.fz_drill.specs.declared.outcome.Outcomes.{Outcomes}

-- Jobs over files in memory stop only for a limit or for want of memory, and for no limit that is at least the bound.
abbrev pub StoppedInMemory : ℕ → ℕ → Stop → Type 0
StoppedInMemory rows limit (Refused x) = ⊥
StoppedInMemory rows limit ReadFault = ⊥
StoppedInMemory rows limit WriteFault = ⊥
StoppedInMemory rows limit (OverLimit live asked told) = limit < drill_bound rows
StoppedInMemory rows limit NoMemory = ⊤

-- Why they stopped, by the takings that they make.
pub record Stops {X : Type 0} (rows : ℕ) (takings : List (ℕ × ℕ)) (limit : ℕ) (result : Result X Stop) : Type 0 where
  pub stop : IfErr result (StoppedInMemory rows limit)
  pub over_limit : TellsLimit limit (drill_bound rows) result
  pub first_past : TellsFirstPast limit takings result

-- a limit below the first taking decides by itself, if there was memory for the files
abbrev pub BlockDecides : {X : Type 0} → ℕ → Result X Stop → Type 0
BlockDecides limit result = limit < 2880 → IsErrOf result (OverLimit 0 2880 limit) ⊎ IsErrOf result NoMemory

-- the packed file of a codec has so many bytes, and what was unpacked and cut from it were the right bytes
pub record IsOutcome (rows : ℕ) (codec : CodecWord) (outcome : Outcome) : Type 0 where
  pub packed : outcome.packed ≡ length (drill_packed rows codec)
  pub unpacked : outcome.unpacked ≡ true
  pub part : outcome.cut ≡ true

-- the same of all codecs, and the file has so many bytes
pub record AreOutcomes (rows : ℕ) (all : Outcomes) : Type 0 where
  pub plain : all.plain ≡ length (drill_file rows)
  pub rice : IsOutcome rows word.Rice all.rice
  pub plio : IsOutcome rows word.Plio all.plio
  pub none : IsOutcome rows word.None all.none

-- nothing is live, and the window is empty, with four workers
pub record IsReady (meter : Gauge) (window : Pool) : Type 0 where
  pub live : meter.live ≡ 0
  pub empty : IsEmpty window
  pub workers : window.workers ≡ 4

-- nothing is live, the limit stays, the peak is at most that before or the bound, and the window is empty with as many workers
pub record KeepsAll (rows : ℕ) (old new : Gauge) (window window' : Pool) : Type 0 where
  pub live : new.live ≡ 0
  pub limit : new.limit ≡ old.limit
  pub peak : new.peak ≤ max old.peak (drill_bound rows)
  pub window_is : window' ≡ window

-- a sink in memory fails only for want of memory
abbrev pub in_memory : Stop → Stop
in_memory (Refused x) = Refused x
in_memory ReadFault = ReadFault
in_memory WriteFault = NoMemory
in_memory (OverLimit live asked limit) = OverLimit live asked limit
in_memory NoMemory = NoMemory
