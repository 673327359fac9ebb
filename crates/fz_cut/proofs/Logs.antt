-- Reads within ranges, within wider ones.
use Rattle.std.proofs.Common.{◌≡◌, ℕ, List, [], ◌++◌, append-nil, refl, sym, ap, arith}
use Rattle.std.specs.Prelude.{Option, Some, None, IfSome}
use Rattle.std.specs.Option.{option_map}
use Rattle.fz_base.specs.Ranges.{LiesIn, LogsIn, LogsJoinLaw}
use Rattle.fz_base.specs.Source.{LogsOnly}
use Rattle.fz_grid.specs.declared.sieve.Sieve.{Sieve}
use Rattle.fz_job.specs.SurveyReads.{IsWithinOne}
use Rattle.fz_job.specs.Surveys.{survey_places}
use Rattle.fz_job.specs.declared.checks.JobChecks.TheVariants.{Cut as CutChecks}
use Rattle.fz_files.specs.Cutout.{touched}
use Rattle.fz_files.specs.Walks.{box_of}
use Rattle.fz_cut.specs.Laws.{LooksAreTouched}

-- where the bytes of some ranges lie in others, what was read in these was read in those
abbrev pub LogsInWider : Type 0
LogsInWider = (ranges wider : List (ℕ × ℕ)) (old new : Option (List (ℕ × ℕ))) → ((byte : ℕ) → LiesIn ranges byte → LiesIn wider byte) → LogsIn ranges old new → LogsIn wider old new

pub wider : LogsInWider
wider ranges other old new inside reads = (reads.0, (λ k d few byte from to. inside byte (reads.1 k d few byte from to)), reads.2)

-- nothing was read
same_ranges : (old : Option (List (ℕ × ℕ))) → old ≡ option_map (λ rs. rs ++ []) old
same_ranges None = refl
same_ranges (Some rs) = ap Some (sym (append-nil rs))

pub nothing : (ranges : List (ℕ × ℕ)) (old : Option (List (ℕ × ℕ))) → LogsIn ranges old old
nothing ranges old = ([], (λ k d few. absurd (omega (arith, few))), same_ranges old)

pub unread : (held : Option (List ℕ)) (Seen : List ℕ → Type 0) (ranges : List ℕ → List (ℕ × ℕ)) (old : Option (List (ℕ × ℕ))) → IfSome held (λ g. Seen g → LogsIn (ranges g) old old)
unread None Seen ranges old = tt
unread (Some g) Seen ranges old = λ is. nothing (ranges g) old

-- the first look, and what follows it
pub look_reads : LooksAreTouched → (want : Option ℕ) (sieve : Sieve) (held : Option (List ℕ)) (old new : Option (List (ℕ × ℕ))) →
    IfSome held (λ g. LogsOnly (IsWithinOne (survey_places (CutChecks want (box_of sieve)) g)) old new) → IfSome held (λ g. LogsIn (touched want sieve g) old new)
look_reads touch want sieve None old new reads = tt
look_reads touch want sieve (Some g) old new reads = (reads.0, (λ k d few byte from to. touch want sieve g _ (reads.1 k d few) byte from to), reads.2)

pub both_reads : LogsJoinLaw → (want : Option ℕ) (sieve : Sieve) (held : Option (List ℕ)) (old mid new : Option (List (ℕ × ℕ))) →
    IfSome held (λ g. LogsIn (touched want sieve g) old mid) → IfSome held (λ g. LogsIn (touched want sieve g) mid new) → IfSome held (λ g. LogsIn (touched want sieve g) old new)
both_reads join want sieve None old mid new first next = tt
both_reads join want sieve (Some g) old mid new first next = join (touched want sieve g) old mid new first next
