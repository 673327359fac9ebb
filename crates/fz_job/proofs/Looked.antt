-- One HDU: what the checks of every job and then those of a job say together.
use Rattle.std.proofs.Common.{◌≡◌, ℕ, ◌==◌, Bool, List, [], ◌∷◌, IfSome, refl, sym, ap, ◌∙◌, subst, arith}
use Rattle.std.specs.Prelude.{◌&&◌, Contains, Option, Some, None, Result, Ok, Err}
use Rattle.std.specs.Result.{result_map_both}
use Rattle.fz_base.specs.Counts.{Tally}
use Rattle.fz_base.specs.Source.{LogsOnly, LogsWithin}
use Rattle.fz_base.specs.Stop.{IsDefined, StoppedReading, TellsLimit}
use Rattle.fz_base.specs.Takings.{first_past, TellsFirstPast}
use Rattle.fz_base.specs.declared.fault.Fault.{Fault}
use Rattle.fz_base.specs.declared.failure.Stop.{Stop}
use Rattle.fz_base.specs.declared.failure.Stop.TheVariants.{Refused, ReadFault, WriteFault, OverLimit, NoMemory}
use Rattle.fz_block.specs.Checks.{hdu_at, header_touched}
use Rattle.fz_block.specs.declared.header.Header.{Header}
use Rattle.fz_block.specs.Hdus.{size_at}
use Rattle.fz_checks.specs.JobChecks.{is_after_empty}
use Rattle.fz_job.specs.Looks.{hdu_look, looked, looked_by, with_header}
use Rattle.fz_job.specs.SurveyReads.{IsWithinOne}
use Rattle.fz_job.specs.Surveys.{fill_places, fill_places_in, hdu_places}
use Rattle.fz_job.specs.declared.checks.JobChecks.{JobChecks}
use Rattle.fz_job.specs.declared.look.Look.{Look}
use Rattle.fz_job.specs.declared.look.Looked.{Looked}
use Rattle.fz_job.proofs.Places.{logs_both, logs_in, logs_right}

-- the header was read, and then the job answered
abbrev pub answered_look : Header → Result Look Stop → Result Looked Stop
answered_look h answer = result_map_both (with_header h) (λ x. x) answer

pub looked_after : (held : Option (List ℕ)) (checks : JobChecks) (k start : ℕ) (h : Header) (answer : Result Look Stop) → IfSome held (λ g. hdu_at k start g ≡ Ok h) →
    IfSome held (λ g. IsDefined (hdu_look checks g h) answer) → IfSome held (λ g. IsDefined (looked checks k start g) (answered_look h answer))
looked_after None checks k start h answer at is = tt
looked_after (Some g) checks k start h answer at is = by_answer answer is
  where
    whole : looked checks k start g ≡ result_map_both (with_header h) (λ x. x) (hdu_look checks g h)
    whole = ap (looked_by checks g) at

    by_answer : (a : Result Look Stop) → IsDefined (hdu_look checks g h) a → IsDefined (looked checks k start g) (answered_look h a)
    by_answer (Ok l) e = whole ∙ ap (result_map_both (with_header h) (λ x. x)) e
    by_answer (Err (Refused x)) e = whole ∙ ap (result_map_both (with_header h) (λ x. x)) e
    by_answer (Err ReadFault) e = tt
    by_answer (Err WriteFault) e = tt
    by_answer (Err (OverLimit live asked limit)) e = tt
    by_answer (Err NoMemory) e = tt

-- a call that only reads stopped after the taking
pub reading_tells : (held : Option (List ℕ)) (limit : ℕ) (takings : List ℕ → List (ℕ × ℕ)) (before now : Tally) (stop : Stop) →
    IfSome held (λ g. first_past limit (takings g) ≡ None) → StoppedReading before now stop → IfSome held (λ g. TellsFirstPast {X = Looked} limit (takings g) (Err stop))
reading_tells None limit takings before now stop none why = tt
reading_tells (Some g) limit takings before now (Refused x) none why = none
reading_tells (Some g) limit takings before now ReadFault none why = tt
reading_tells (Some g) limit takings before now WriteFault none why = absurd why
reading_tells (Some g) limit takings before now (OverLimit live asked told) none why = absurd why
reading_tells (Some g) limit takings before now NoMemory none why = tt

pub reading_passes_none : (limit most : ℕ) (before now : Tally) (stop : Stop) → StoppedReading before now stop → TellsLimit {X = Looked} limit most (Err stop)
reading_passes_none limit most before now (Refused x) why = tt
reading_passes_none limit most before now ReadFault why = tt
reading_passes_none limit most before now WriteFault why = tt
reading_passes_none limit most before now (OverLimit live asked told) why = absurd why
reading_passes_none limit most before now NoMemory why = tt

-- a taking that passed the limit stops the caller too
pub limit_told : (X Y : Type 0) (limit most : ℕ) (stop : Stop) → TellsLimit {X = X} limit most (Err stop) → TellsLimit {X = Y} limit most (Err stop)
limit_told X Y limit most (Refused x) tells = tt
limit_told X Y limit most ReadFault tells = tt
limit_told X Y limit most WriteFault tells = tt
limit_told X Y limit most (OverLimit live asked told) tells = tells
limit_told X Y limit most NoMemory tells = tt

-- what was read of the header, and then of the fill
first_place : (p : ℕ × ℕ) (places : List (ℕ × ℕ)) → Contains (p ∷ places) p
first_place p places = (0, omega arith, refl)

pub header_places : (held : Option (List ℕ)) (checks : JobChecks) (k start : ℕ) (old new : Option (List (ℕ × ℕ))) →
    IfSome held (λ g. LogsWithin start (header_touched k start g) old new) → IfSome held (λ g. LogsOnly (IsWithinOne (hdu_places checks k start g)) old new)
header_places None checks k start old new logs = tt
header_places (Some g) checks k start old new logs =
    logs_in (hdu_places checks k start g) start (header_touched k start g) old new (first_place (start, header_touched k start g) (fill_places_in checks (hdu_at k start g))) logs

pub both_places : (held : Option (List ℕ)) (checks : JobChecks) (k start : ℕ) (h : Header) (old mid new : Option (List (ℕ × ℕ))) → IfSome held (λ g. hdu_at k start g ≡ Ok h) →
    IfSome held (λ g. LogsWithin start (header_touched k start g) old mid) → LogsOnly (IsWithinOne (fill_places checks h)) mid new →
    IfSome held (λ g. LogsOnly (IsWithinOne (hdu_places checks k start g)) old new)
both_places None checks k start h old mid new at first second = tt
both_places (Some g) checks k start h old mid new at first second =
    let fills : LogsOnly (IsWithinOne (fill_places_in checks (hdu_at k start g))) mid new =
    subst (λ (r : Result Header Fault). LogsOnly (IsWithinOne (fill_places_in checks r)) mid new) (sym at) second in
    logs_both (IsWithinOne (hdu_places checks k start g)) old mid new
    (header_places (Some g) checks k start old mid first)
    (logs_right ((start, header_touched k start g) ∷ []) (fill_places_in checks (hdu_at k start g)) mid new fills)

-- HDU 1 after a primary without axes
pub after_by_number : (held held' : Option (List ℕ)) (h : Header) (after_empty : Bool) (k : ℕ) → h.hdu ≡ k → held' ≡ held → IfSome held (λ g. after_empty ≡ ((k == 1) && (size_at g 2 == 0))) →
    IfSome held' (λ g. after_empty ≡ is_after_empty g h)
after_by_number held held' h after_empty k same kept after =
    subst (λ (o : Option (List ℕ)). IfSome o (λ g. after_empty ≡ is_after_empty g h)) (sym kept)
    (subst (λ (m : ℕ). IfSome held (λ g. after_empty ≡ ((m == 1) && (size_at g 2 == 0)))) (sym same) after)
