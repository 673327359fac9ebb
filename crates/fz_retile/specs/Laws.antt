-- What follows from the promises of `retile` if both meters have one limit, and of what it writes.
use Rattle.std.specs.Prelude.{ℕ, ◌≡◌, ◌^◌, ◌≤◌, Bool, List, length, Option, None, Result, ⊤}
use Rattle.fz_base.specs.Counts.{Tally}
use Rattle.fz_base.specs.declared.failure.Stop.{Stop}
use Rattle.fz_tile.specs.Plain.{AreBytes}
use Rattle.fz_head.specs.Planned.{AreOptions}
use Rattle.fz_head.specs.declared.options.PackOptions.{PackOptions}
use Rattle.fz_files.specs.FirstFault.{IsFirstFault}
use Rattle.fz_files.specs.Retiled.{IsRetiled}
use Rattle.fz_files.specs.StandsFor.{StandsFor}
use Rattle.fz_files.specs.declared.job.Job.TheVariants.{Retile}
use Rattle.fz_job.specs.Clauses.{Answers, HasJobCause, IsUnmade}
use Rattle.fz_retile.specs.Retiles.{AnswersBoth, HasRetileCause, StaysUnmadeBoth}

-- the cause is that of a job whose takings are those of both meters, one after another
abbrev pub OneLimitCauses : Type 0
OneLimitCauses =
    (o : PackOptions) (held : Option (List ℕ)) (source source' sink sink' : Tally) (limit workers : ℕ) (result : Result ⊤ Stop) →
    HasRetileCause o held source source' sink sink' limit limit workers result
    → HasJobCause (Retile o) held source source' sink sink' limit workers result

-- it answers if the limit is at least the bound of the job
abbrev pub OneLimitAnswers : Type 0
OneLimitAnswers =
    (o : PackOptions) (held : Option (List ℕ)) (source source' sink sink' : Tally) (limit workers : ℕ) (result : Result ⊤ Stop) →
    AnswersBoth o held source source' sink sink' limit limit workers result
    → Answers (Retile o) held source source' sink sink' limit workers result

-- and the sink stays as that of a job does
abbrev pub OneLimitLeavesUnmade : Type 0
OneLimitLeavesUnmade =
    (o : PackOptions) (held : Option (List ℕ)) (limit workers : ℕ) (created created' : Bool) (contents contents' : Option (List ℕ)) (result : Result ⊤ Stop) →
    StaysUnmadeBoth o held limit limit workers ((created' ≡ created) × (contents' ≡ contents)) result
    → IsUnmade (Retile o) held limit workers ((created' ≡ created) × (contents' ≡ contents)) result

-- What is packed anew from a file in which `retile` finds no fault stands for the same file, if it has at most 2^62 bytes.
abbrev pub StandsForTheSame : Type 0
StandsForTheSame =
    (o : PackOptions) (file bytes plain : List ℕ) → AreBytes file → AreOptions o → IsFirstFault (Retile o) file None → IsRetiled o file bytes
    → StandsFor file plain → length bytes ≤ 2 ^ 62 → StandsFor bytes plain
