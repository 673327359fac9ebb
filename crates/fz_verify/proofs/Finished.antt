-- What a job promises where the first look knows the file, by what the work after it says.
use Rattle.std.proofs.Common.{◌≡◌, inr, ℕ, Bool, List, map, sym, ap, ◌∙◌, subst}
use Rattle.std.specs.Prelude.{Option, Some, None, IfSome, IfOk, Result, Ok, Err, not, IsSome}
use Rattle.std.specs.List.{list_any}
use Rattle.fz_base.specs.Sink.{MayAppend, appended}
use Rattle.fz_base.specs.Stop.{IfRefused}
use Rattle.fz_base.specs.Takings.{first_past}
use Rattle.fz_base.specs.declared.fault.Fault.{Fault}
use Rattle.fz_base.specs.declared.failure.Stop.{Stop}
use Rattle.fz_base.specs.declared.failure.Stop.TheVariants.{Refused, ReadFault, WriteFault, OverLimit, NoMemory}
use Rattle.fz_block.specs.declared.header.Header.{Header}
use Rattle.fz_checks.specs.Greatest.{greatest}
use Rattle.fz_checks.specs.WorkBuffers.{pixels_of_tile}
use Rattle.fz_files.specs.Buffers.{largest_tile, plans_behind}
use Rattle.fz_files.specs.FirstFault.{IsFaultBehind, IsFirstFault, IsFirstRowFault, all_rows}
use Rattle.fz_files.specs.Lines.{before_fault, has_wrong_sum, lines_behind, report_lines}
use Rattle.fz_files.specs.Walks.{header_fault}
use Rattle.fz_files.specs.declared.job.Job.{Job}
use Rattle.fz_files.specs.declared.job.Job.TheVariants.{Verify, List as ListHdus}
use Rattle.fz_job.specs.Surveys.{surveyed}
use Rattle.fz_job.specs.declared.checks.JobChecks.TheVariants.{Unpack as UnpackChecks}
use Rattle.fz_job.specs.declared.survey.Survey.{Survey}
use Rattle.fz_job.specs.Clauses.{ComesLate, IfOverLimit, StaysUnmade, TellsFirstFault}
use Rattle.fz_verify.specs.Clauses.{GotFront, IsRightAsSaid, PrintsLines}
use Rattle.fz_verify.specs.Printed.{AreRowsSound, GotSome, GotVerified, ListsSeen, VerifiesSeen, list_lines, verify_lines}
use Rattle.fz_job.specs.Known.{IsKnown, SurveysKnow}
use Rattle.fz_job.specs.Stages.{HasLargest}
use Rattle.fz_verify.proofs.Outcomes.{refused_weaker}

-- the first look knows this of the file
abbrev pub Knows : Survey → List ℕ → Type 0
Knows s g = surveyed UnpackChecks g ≡ Ok s

-- ---- what both jobs promise

module _ (job : Job) (know : SurveysKnow job) (s : Survey) where
  pub work_silent : {X : Type 0} (held : Option (List ℕ)) (limit : ℕ) (takings : List ℕ → List (ℕ × ℕ)) (Same : Type 0) (r : Result X Stop) → IfSome held (Knows s) → IfSome held (λ file. IsSome (first_past limit (takings file)) → Same) →
      IfOverLimit r Same → IfRefused r (ComesLate job) → StaysUnmade job held limit takings Same r
  work_silent held limit takings Same r exact past over late = record { faulty = by_held held exact; past = past; over_limit = over; refused = refused_weaker r (λ x is. inr is) late }
    where
      by_held : (told : Option (List ℕ)) → IfSome told (Knows s) → IfSome told (λ file. ¬ (header_fault job file ≡ None) → Same)
      by_held None is = tt
      by_held (Some g) is = λ faulty. absurd (faulty (know g s is).no_fault)

  -- the first fault of the file, by that of its rows
  pub rows_fault : (g : List ℕ) (known : IsKnown job g s) (fault : Option Fault) → IsFaultBehind None job g fault → IsFirstFault job g fault
  rows_fault g known fault is = subst (λ (f : Option Fault). IsFaultBehind f job g fault) (sym known.no_fault) is

  pub rows_fault_back : (g : List ℕ) (known : IsKnown job g s) (fault : Option Fault) → IsFirstFault job g fault → IsFaultBehind None job g fault
  rows_fault_back g known fault is = subst (λ (f : Option Fault). IsFaultBehind f job g fault) known.no_fault is

  -- the lines of the job, where no header is refused
  pub lines_known : (g : List ℕ) (known : IsKnown job g s) (fault : Option Fault) → report_lines job g fault ≡ lines_behind None job g fault
  lines_known g known fault = ap (λ (f : Option Fault). lines_behind f job g fault) known.no_fault

-- ---- `list`

module _ (know : SurveysKnow ListHdus) (s : Survey) where
  list_lines_are : (g : List ℕ) (known : IsKnown ListHdus g s) (fault : Option Fault) → report_lines ListHdus g fault ≡ list_lines g known.headers
  list_lines_are g known fault = lines_known ListHdus know s g known fault ∙ ap (list_lines g) known.are

  listed : {X : Type 0} (g : List ℕ) (known : IsKnown ListHdus g s) (old new : Option (List ℕ)) (r : Result X Stop) → ListsSeen g s old new r → PrintsLines ListHdus (Some g) old new r
  listed g known old new (Ok x) seen = seen known.headers known.seen ∙ ap (λ l. appended l old) (sym (list_lines_are g known None))
  listed g known old new (Err (Refused x)) seen = absurd (seen known.headers known.seen)
  listed g known old new (Err ReadFault) seen = λ fault is. subst (λ l. MayAppend l old new) (sym (list_lines_are g known fault)) (seen known.headers known.seen)
  listed g known old new (Err WriteFault) seen = λ fault is. subst (λ l. MayAppend l old new) (sym (list_lines_are g known fault)) (seen known.headers known.seen)
  listed g known old new (Err (OverLimit live asked limit)) seen = λ fault is. subst (λ l. MayAppend l old new) (sym (list_lines_are g known fault)) (seen known.headers known.seen)
  listed g known old new (Err NoMemory) seen = λ fault is. subst (λ l. MayAppend l old new) (sym (list_lines_are g known fault)) (seen known.headers known.seen)

  none_told : {X : Type 0} (job : Job) (old new : Option (List ℕ)) (r : Result X Stop) → PrintsLines job None old new r
  none_told job old new (Ok x) = tt
  none_told job old new (Err (Refused x)) = tt
  none_told job old new (Err ReadFault) = tt
  none_told job old new (Err WriteFault) = tt
  none_told job old new (Err (OverLimit live asked limit)) = tt
  none_told job old new (Err NoMemory) = tt

  pub list_prints : {X : Type 0} (held old new : Option (List ℕ)) (r : Result X Stop) → IfSome held (Knows s) → IfSome held (λ g. ListsSeen g s old new r) → PrintsLines ListHdus held old new r
  list_prints None old new r exact seen = none_told ListHdus old new r
  list_prints (Some g) old new r exact seen = listed g (know g s exact) old new r seen

  list_faulty_by : {X : Type 0} (g : List ℕ) (known : IsKnown ListHdus g s) (old new : Option (List ℕ)) (r : Result X Stop) → ListsSeen g s old new r → TellsFirstFault ListHdus (Some g) r
  list_faulty_by g known old new (Ok x) seen = rows_fault ListHdus know s g known None tt
  list_faulty_by g known old new (Err (Refused x)) seen = absurd (seen known.headers known.seen)
  list_faulty_by g known old new (Err ReadFault) seen = tt
  list_faulty_by g known old new (Err WriteFault) seen = tt
  list_faulty_by g known old new (Err (OverLimit live asked limit)) seen = tt
  list_faulty_by g known old new (Err NoMemory) seen = tt

  fault_untold : {X : Type 0} (job : Job) (r : Result X Stop) → TellsFirstFault job None r
  fault_untold job (Ok x) = tt
  fault_untold job (Err (Refused x)) = tt
  fault_untold job (Err ReadFault) = tt
  fault_untold job (Err WriteFault) = tt
  fault_untold job (Err (OverLimit live asked limit)) = tt
  fault_untold job (Err NoMemory) = tt

  pub list_faulty : {X : Type 0} (held old new : Option (List ℕ)) (r : Result X Stop) → IfSome held (Knows s) → IfSome held (λ g. ListsSeen g s old new r) → TellsFirstFault ListHdus held r
  list_faulty None old new r exact seen = fault_untold ListHdus r
  list_faulty (Some g) old new r exact seen = list_faulty_by g (know g s exact) old new r seen

  -- what the work wants: it works on no tiles
  pub list_learnt : (held : Option (List ℕ)) → IfSome held (Knows s) → IfSome held (HasLargest ListHdus s.header_len 0)
  list_learnt None exact = tt
  list_learnt (Some g) exact =
      let known = know g s exact in
      let none : largest_tile ListHdus g ≡ 0 = ap (λ (f : Option Fault). greatest (map pixels_of_tile (plans_behind f ListHdus g))) known.no_fault in
      record { no_fault = known.no_fault; longest = known.longest; largest = none }

-- ---- `verify`

module _ (know : SurveysKnow Verify) (s : Survey) where
  verify_lines_are : (g : List ℕ) (known : IsKnown Verify g s) (fault : Option Fault) → report_lines Verify g fault ≡ verify_lines g (before_fault fault known.headers)
  verify_lines_are g known fault = lines_known Verify know s g known fault ∙ ap (λ (hs : List Header). verify_lines g (before_fault fault hs)) known.are

  rows_are : (g : List ℕ) (known : IsKnown Verify g s) (fault : Option Fault) → IsFirstFault Verify g fault → IsFirstRowFault g (all_rows g known.headers) fault
  rows_are g known fault is = subst (λ (hs : List Header). IsFirstRowFault g (all_rows g hs) fault) known.are (rows_fault_back Verify know s g known fault is)

  rows_back : (g : List ℕ) (known : IsKnown Verify g s) (fault : Option Fault) → IsFirstRowFault g (all_rows g known.headers) fault → IsFirstFault Verify g fault
  rows_back g known fault is = rows_fault Verify know s g known fault (subst (λ (hs : List Header). IsFirstRowFault g (all_rows g hs) fault) (sym known.are) is)

  some_front : (g : List ℕ) (known : IsKnown Verify g s) (old new : Option (List ℕ)) → GotSome g known.headers old new → GotFront Verify g old new
  some_front g known old new some = λ fault is. subst (λ l. MayAppend l old new) (sym (verify_lines_are g known fault)) (some fault (rows_are g known fault is))

  verified : (g : List ℕ) (known : IsKnown Verify g s) (old new : Option (List ℕ)) (r : Result Bool Stop) → GotVerified g known.headers old new r → PrintsLines Verify (Some g) old new r
  verified g known old new (Ok x) got = got.1 ∙ ap (λ l. appended l old) (sym (verify_lines_are g known None))
  verified g known old new (Err (Refused x)) got = got.1 ∙ ap (λ l. appended l old) (sym (verify_lines_are g known (Some x)))
  verified g known old new (Err ReadFault) got = some_front g known old new got
  verified g known old new (Err WriteFault) got = some_front g known old new got
  verified g known old new (Err (OverLimit live asked limit)) got = some_front g known old new got
  verified g known old new (Err NoMemory) got = some_front g known old new got

  verify_untold : (old new : Option (List ℕ)) (r : Result Bool Stop) → PrintsLines Verify None old new r
  verify_untold old new (Ok x) = tt
  verify_untold old new (Err (Refused x)) = tt
  verify_untold old new (Err ReadFault) = tt
  verify_untold old new (Err WriteFault) = tt
  verify_untold old new (Err (OverLimit live asked limit)) = tt
  verify_untold old new (Err NoMemory) = tt

  pub verify_prints : (held old new : Option (List ℕ)) (r : Result Bool Stop) → IfSome held (Knows s) → IfSome held (λ g. VerifiesSeen g s old new r) → PrintsLines Verify held old new r
  verify_prints None old new r exact seen = verify_untold old new r
  verify_prints (Some g) old new r exact seen = let known = know g s exact in verified g known old new r (seen known.headers known.seen)

  -- the answer says whether no sum is wrong
  right_by : (g : List ℕ) (known : IsKnown Verify g s) (old new : Option (List ℕ)) (r : Result Bool Stop) → GotVerified g known.headers old new r → IfOk r (λ right. IsRightAsSaid right g)
  right_by g known old new (Ok right) got = got.0.judged ∙ ap (λ (hs : List Header). not (list_any (has_wrong_sum g) hs)) (sym known.are)
  right_by g known old new (Err stop) got = tt

  pub verify_right : (held old new : Option (List ℕ)) (r : Result Bool Stop) → IfSome held (Knows s) → IfSome held (λ g. VerifiesSeen g s old new r) → IfOk r (λ right. IfSome held (IsRightAsSaid right))
  verify_right None old new (Ok right) exact seen = tt
  verify_right None old new (Err stop) exact seen = tt
  verify_right (Some g) old new (Ok right) exact seen = let known = know g s exact in right_by g known old new (Ok right) (seen known.headers known.seen)
  verify_right (Some g) old new (Err stop) exact seen = tt

  -- the first faulty row is refused
  verify_faulty_by : (g : List ℕ) (known : IsKnown Verify g s) (old new : Option (List ℕ)) (r : Result Bool Stop) → GotVerified g known.headers old new r → TellsFirstFault Verify (Some g) r
  verify_faulty_by g known old new (Ok x) got = rows_back g known None got.0.sound
  verify_faulty_by g known old new (Err (Refused x)) got = rows_back g known (Some x) got.0
  verify_faulty_by g known old new (Err ReadFault) got = tt
  verify_faulty_by g known old new (Err WriteFault) got = tt
  verify_faulty_by g known old new (Err (OverLimit live asked limit)) got = tt
  verify_faulty_by g known old new (Err NoMemory) got = tt

  verify_fault_untold : (r : Result Bool Stop) → TellsFirstFault Verify None r
  verify_fault_untold (Ok x) = tt
  verify_fault_untold (Err (Refused x)) = tt
  verify_fault_untold (Err ReadFault) = tt
  verify_fault_untold (Err WriteFault) = tt
  verify_fault_untold (Err (OverLimit live asked limit)) = tt
  verify_fault_untold (Err NoMemory) = tt

  pub verify_faulty : (held old new : Option (List ℕ)) (r : Result Bool Stop) → IfSome held (Knows s) → IfSome held (λ g. VerifiesSeen g s old new r) → TellsFirstFault Verify held r
  verify_faulty None old new r exact seen = verify_fault_untold r
  verify_faulty (Some g) old new r exact seen = let known = know g s exact in verify_faulty_by g known old new r (seen known.headers known.seen)

  -- no row of a file without a fault has one
  pub rows_sound : (held : Option (List ℕ)) → IfSome held (Knows s) → IfSome held (λ g. IsFirstFault Verify g None) → IfSome held (AreRowsSound s)
  rows_sound None exact none = tt
  rows_sound (Some g) exact none = let known = know g s exact in record { headers = known.headers; seen = known.seen; sound = rows_are g known None none }

  -- what the work wants
  pub verify_learnt : (held : Option (List ℕ)) → IfSome held (Knows s) → IfSome held (HasLargest Verify s.header_len s.tile)
  verify_learnt None exact = tt
  verify_learnt (Some g) exact = let known = know g s exact in record { no_fault = known.no_fault; longest = known.longest; largest = known.largest }
