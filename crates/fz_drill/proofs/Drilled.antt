-- How `drill` ends, by how its parts do.
use Rattle.std.specs.Prelude.{Option, Some, None, IsSome, Result, Ok, Err}
use Rattle.std.proofs.Common.{◌≡◌, ◌⊎◌, inl, inr, ℕ, ◌<◌, List, ◌++◌, append-nil, append_assoc, codes, decimal, length, refl, sym, ap, ◌∙◌, subst, arith}
use Rattle.fz_base.specs.Counts.{CountsKept, HasCause, Tally}
use Rattle.fz_base.specs.Sink.{MayAppend}
use Rattle.fz_base.specs.Stop.{stop_of_write}
use Rattle.fz_base.specs.Takings.{first_past}
use Rattle.fz_base.specs.declared.failure.Failed.{Failed}
use Rattle.fz_base.specs.declared.failure.Failed.TheVariants.{Fault, NoMemory as NoRoom}
use Rattle.fz_base.specs.declared.failure.Stop.{Stop}
use Rattle.fz_base.specs.declared.failure.Stop.TheVariants.{Refused, ReadFault, WriteFault, OverLimit, NoMemory}
use Rattle.fz_head.specs.declared.options.CodecWord.{CodecWord}
use Rattle.fz_job.specs.Clauses.{IfOverLimit}
use Rattle.fz_files.specs.Drill.{drill_line, drill_lines, drill_packed}
use Rattle.fz_drill.specs.Bound.{drill_bound, takings_of}
use Rattle.fz_drill.specs.Clauses.{Answers, HasDrillCause, IsSilent}
use Rattle.fz_drill.specs.Outcomes.{AreOutcomes, BlockDecides, IsOutcome, Stops}
use Rattle.fz_drill.specs.Said.{outcome_text, outcomes_text, same_word}
use Rattle.fz_drill.specs.declared.outcome.Outcome.{Outcome}
use Rattle.fz_drill.specs.declared.outcome.Outcomes.{Outcomes}

-- ---- the lines

joined : (x a b c d e : List ℕ) → x ++ a ++ b ++ c ++ d ++ e ≡ x ++ (a ++ (b ++ (c ++ (d ++ e))))
joined x a b c d e =
    append_assoc (x ++ a ++ b ++ c) d e ∙ (append_assoc (x ++ a ++ b) c (d ++ e) ∙ (append_assoc (x ++ a) b (c ++ (d ++ e)) ∙ append_assoc x a (b ++ (c ++ (d ++ e)))))

line_is : (rows : ℕ) (name : List ℕ) (codec : CodecWord) (o : Outcome) → IsOutcome rows codec o → outcome_text name o ≡ drill_line rows name codec
line_is rows name codec o is =
    (λ i. name ++ codes " packed " ++ decimal (is.packed i) ++ codes " unpack " ++ same_word (is.unpacked i) ++ codes " cut " ++ same_word (is.part i) ++ codes "\n")
    ∙ joined (name ++ codes " packed " ++ decimal (length (drill_packed rows codec))) (codes " unpack ") (codes "same") (codes " cut ") (codes "same") (codes "\n")

pub lines_are : (rows : ℕ) (all : Outcomes) → AreOutcomes rows all → outcomes_text rows all ≡ drill_lines rows
unfolding drill_lines
lines_are rows all are = λ i.
    codes "drill " ++ decimal rows ++ codes " plain " ++ decimal (are.plain i) ++ codes "\n"
    ++ (line_is rows (codes "rice") _ all.rice are.rice i ++ (line_is rows (codes "plio") _ all.plio are.plio i ++ line_is rows (codes "none") _ all.none are.none i))

-- nothing was printed
pub none_printed : (lines : List ℕ) (old : Option (List ℕ)) → MayAppend lines old old
none_printed lines None = (0, refl)
none_printed lines (Some text) = (0, ap Some (sym (append-nil text)))

-- ---- where a job stopped

same_kept : (t : Tally) → CountsKept t t
same_kept t = record { faults_kept = omega arith; wants_kept = omega arith; faults_stay = λ e. e; wants_stay = λ e. e; names_kept = refl; not_amended = refl }

pub stopped_cause : (X Y : Type 0) (rows limit : ℕ) (t : Tally) (stop : Stop) → Stops {X = X} rows (takings_of rows) limit (Err stop) → BlockDecides {X = X} limit (Err stop) → HasDrillCause {X = Y} rows t t limit (Err stop)
stopped_cause X Y rows limit t (Refused x) s block = absurd s.stop
stopped_cause X Y rows limit t ReadFault s block = absurd s.stop
stopped_cause X Y rows limit t WriteFault s block = absurd s.stop
stopped_cause X Y rows limit t (OverLimit live asked told) s block = record {
  kept = same_kept t;
  done = tt;
  stop = refl;
  over_limit = s.over_limit;
  first_past = s.first_past;
  block = λ low. by_case (block low);
}
  where
    by_case : (◌≡◌ {A = Result X Stop} (Err (OverLimit live asked told)) (Err (OverLimit 0 2880 limit))) ⊎ (◌≡◌ {A = Result X Stop} (Err (OverLimit live asked told)) (Err NoMemory)) →
        (◌≡◌ {A = Result Y Stop} (Err (OverLimit live asked told)) (Err (OverLimit 0 2880 limit))) ⊎ (◌≡◌ {A = Result Y Stop} (Err (OverLimit live asked told)) (Err NoMemory))
    by_case (inl is) = let same : OverLimit live asked told ≡ OverLimit 0 2880 limit = cc in inl (ap Err same)
    by_case (inr is) = absurd cc
stopped_cause X Y rows limit t NoMemory s block = record { kept = same_kept t; done = tt; stop = tt; over_limit = tt; first_past = tt; block = λ low. inr refl }

pub stopped_answers : (X Y : Type 0) (rows limit : ℕ) (t : Tally) (stop : Stop) → Stops {X = X} rows (takings_of rows) limit (Err stop) → Answers {X = Y} rows t t limit (Err stop)
stopped_answers X Y rows limit t (Refused x) s = absurd s.stop
stopped_answers X Y rows limit t ReadFault s = absurd s.stop
stopped_answers X Y rows limit t WriteFault s = absurd s.stop
stopped_answers X Y rows limit t (OverLimit live asked told) s = λ quiet room. let low : limit < drill_bound rows = s.stop in omega (arith, low, room)
stopped_answers X Y rows limit t NoMemory s = λ quiet room. tt

stopped_over : (Y : Type 0) (P : Type 0) (stop : Stop) → P → IfOverLimit {X = Y} (Err stop) P
stopped_over Y P (Refused x) is = tt
stopped_over Y P ReadFault is = tt
stopped_over Y P WriteFault is = tt
stopped_over Y P (OverLimit live asked limit) is = is
stopped_over Y P NoMemory is = tt

pub stopped_silent : (Y : Type 0) (rows limit : ℕ) (old : Option (List ℕ)) (t : Tally) (stop : Stop) → IsSilent {X = Y} rows limit old old t t (Err stop)
stopped_silent Y rows limit old t stop = record { past = λ some. (refl, refl); over_limit = stopped_over Y ((old ≡ old) × (t ≡ t)) stop (refl, refl) }

-- ---- where all jobs were done, and the lines were put

no_block : {X : Type 0} (limit : ℕ) (done : X) → BlockDecides limit (Ok done) → limit < 2880 → ⊥
no_block {X} limit done block low = by_case (block low)
  where
    by_case : (◌≡◌ {A = Result X Stop} (Ok done) (Err (OverLimit 0 2880 limit))) ⊎ (◌≡◌ {A = Result X Stop} (Ok done) (Err NoMemory)) → ⊥
    by_case (inl is) = absurd cc
    by_case (inr is) = absurd cc

none_past : (P : Type 0) (first : Option (ℕ × ℕ)) → first ≡ None → IsSome first → P
none_past P first none some = let never : IsSome {T = ℕ × ℕ} None = subst IsSome none some in absurd cc

pub done_silent : {X Y : Type 0} (rows limit : ℕ) (old new : Option (List ℕ)) (t t' : Tally) (done : X) (all : Y) → Stops rows (takings_of rows) limit (Ok done) → IsSilent rows limit old new t t' (Ok all)
done_silent rows limit old new t t' done all s = record { past = none_past _ (first_past limit (takings_of rows)) s.first_past; over_limit = tt }

pub put_silent : {X : Type 0} (Y : Type 0) (rows limit : ℕ) (old new : Option (List ℕ)) (t t' : Tally) (done : X) (failed : Failed) → Stops rows (takings_of rows) limit (Ok done) →
    IsSilent {X = Y} rows limit old new t t' (Err (stop_of_write failed))
put_silent Y rows limit old new t t' done Fault s = record { past = none_past _ (first_past limit (takings_of rows)) s.first_past; over_limit = tt }
put_silent Y rows limit old new t t' done NoRoom s = record { past = none_past _ (first_past limit (takings_of rows)) s.first_past; over_limit = tt }

pub done_cause : {X Y : Type 0} (rows limit : ℕ) (t t' : Tally) (done : X) (all : Y) → Stops rows (takings_of rows) limit (Ok done) → BlockDecides limit (Ok done) → CountsKept t t' → t' ≡ t → HasDrillCause rows t t' limit (Ok all)
done_cause rows limit t t' done all s block kept same = record {
  kept = kept;
  done = same;
  stop = tt;
  over_limit = tt;
  first_past = s.first_past;
  block = λ low. absurd (no_block limit done block low);
}

pub put_cause : {X : Type 0} (Y : Type 0) (rows limit : ℕ) (t t' : Tally) (done : X) (failed : Failed) → Stops rows (takings_of rows) limit (Ok done) → BlockDecides limit (Ok done) → HasCause {T = Y} t t' (Err failed) →
    HasDrillCause {X = Y} rows t t' limit (Err (stop_of_write failed))
put_cause Y rows limit t t' done Fault s block cause = record {
  kept = cause.kept;
  done = tt;
  stop = cause.fault refl;
  over_limit = tt;
  first_past = s.first_past;
  block = λ low. absurd (no_block limit done block low);
}
put_cause Y rows limit t t' done NoRoom s block cause = record { kept = cause.kept; done = tt; stop = tt; over_limit = tt; first_past = tt; block = λ low. inr refl }

pub put_answers : (Y : Type 0) (rows limit : ℕ) (t t' : Tally) (failed : Failed) → HasCause {T = Y} t t' (Err failed) → Answers {X = Y} rows t t' limit (Err (stop_of_write failed))
put_answers Y rows limit t t' Fault cause = λ quiet room. absurd (quiet (cause.fault refl))
put_answers Y rows limit t t' NoRoom cause = λ quiet room. tt
