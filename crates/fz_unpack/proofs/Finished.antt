-- What the job promises where the first look knows the file, by what the work after it says.
use Rattle.std.proofs.Common.{◌≡◌, ◌⊎◌, inl, inr, ℕ, List, sym, subst}
use Rattle.std.specs.Prelude.{Option, Some, None, IfSome, Result, Ok, Err, OnOk, IsErrOf, IsSome}
use Rattle.fz_base.specs.FirstByte.{IsShut}
use Rattle.fz_base.specs.Stop.{IfRefused}
use Rattle.fz_base.specs.Takings.{first_past}
use Rattle.fz_base.specs.declared.fault.Fault.{Fault}
use Rattle.fz_base.specs.declared.failure.Stop.{Stop}
use Rattle.fz_base.specs.declared.failure.Stop.TheVariants.{Refused, ReadFault, WriteFault, OverLimit, NoMemory}
use Rattle.fz_block.specs.declared.header.Header.{Header}
use Rattle.fz_files.specs.FirstFault.{IsFaultBehind, IsFirstFault, IsFirstRowFault, all_rows}
use Rattle.fz_files.specs.Restored.{HdusStandFor, standing}
use Rattle.fz_files.specs.StandsFor.{StandsFor}
use Rattle.fz_files.specs.Walks.{header_fault}
use Rattle.fz_files.specs.declared.job.Job.TheVariants.{Unpack}
use Rattle.fz_job.specs.Surveys.{surveyed}
use Rattle.fz_job.specs.declared.checks.JobChecks.TheVariants.{Unpack as UnpackChecks}
use Rattle.fz_job.specs.declared.survey.Survey.{Survey}
use Rattle.fz_unpack.specs.Output.{HoldsRestored}
use Rattle.fz_job.specs.Clauses.{ComesLate, IfOverLimit, IsShutOrWhole, StaysUnmade, TellsFirstFault}
use Rattle.fz_job.specs.Stages.{HasLargest}
use Rattle.fz_job.specs.Known.{IsKnown, IsList, SurveysKnow}
use Rattle.fz_unpack.specs.Written.{AreRestored, AreShutOrWhole, FinishesSeen}
use Rattle.fz_unpack.proofs.Outcomes.{refused_weaker}
use Rattle.fz_unpack.proofs.Rows.{rows_sound}

-- the first look knows this of the file
abbrev pub Knows : Survey → List ℕ → Type 0
Knows s g = surveyed UnpackChecks g ≡ Ok s

module _ (know : SurveysKnow Unpack) (s : Survey) where
  -- no row of a file that was restored is refused
  no_fault_of : (g : List ℕ) (known : IsKnown Unpack g s) (c : Option (List ℕ)) → AreRestored g known.headers c → IsFirstFault Unpack g None
  no_fault_of g known c is =
      let rows : IsFirstRowFault g (all_rows g known.headers) None = rows_sound g s.header_len s.tile known.headers is.bytes known.seen.seen is.stand in
      subst (λ (f : Option Fault). IsFaultBehind f Unpack g None) (sym known.no_fault) (subst (λ (hs : List Header). IsFirstRowFault g (all_rows g hs) None) (sym known.are) rows)

  by_contents : (g : List ℕ) (known : IsKnown Unpack g s) (c : Option (List ℕ)) → AreRestored g known.headers c → IfSome c (StandsFor g)
  by_contents g known None is = tt
  by_contents g known (Some bytes) is = record {
    sound = no_fault_of g known (Some bytes) is;
    parts = subst (λ (hs : List Header). HdusStandFor g (standing g hs) bytes) (sym known.are) (subst (λ (l : List ℕ). HdusStandFor g (standing g known.headers) l) (sym is.told) is.stand);
  }

  -- the restored file was written
  is_output : {X : Type 0} (held : Option (List ℕ)) (now : Option (List ℕ)) (x : X) → IfSome held (Knows s) → IfSome held (λ g. FinishesSeen {X = X} g s now (Ok x)) → HoldsRestored held now
  is_output None now x exact written = tt
  is_output (Some g) now x exact written = let known = know g s exact in by_contents g known now (written.restored known.headers known.seen)

  pub work_output : {X : Type 0} (held : Option (List ℕ)) (now : Option (List ℕ)) (r : Result X Stop) → IfSome held (Knows s) → IfSome held (λ g. FinishesSeen g s now r) → OnOk r (HoldsRestored held now)
  work_output held now (Ok x) exact written = is_output held now x exact written
  work_output held now (Err stop) exact written = tt

  -- nothing is refused
  no_fault : {X : Type 0} (held : Option (List ℕ)) (now : Option (List ℕ)) (x : X) → IfSome held (Knows s) → IfSome held (λ g. FinishesSeen {X = X} g s now (Ok x)) → IfSome held (λ g. IsFirstFault Unpack g None)
  no_fault None now x exact written = tt
  no_fault (Some g) now x exact written = let known = know g s exact in no_fault_of g known now (written.restored known.headers known.seen)

  -- the first faulty row is
  row_refused : (X : Type 0) (held : Option (List ℕ)) (now : Option (List ℕ)) (x : Fault) → IfSome held (Knows s) → IfSome held (λ g. FinishesSeen {X = X} g s now (Err (Refused x))) → IfSome held (λ g. IsFirstFault Unpack g (Some x))
  row_refused X None now x exact written = tt
  row_refused X (Some g) now x exact written =
      let known = know g s exact in
      let rows : IsFirstRowFault g (all_rows g known.headers) (Some x) = written.first_fault known.headers known.seen in
      subst (λ (f : Option Fault). IsFaultBehind f Unpack g (Some x)) (sym known.no_fault) (subst (λ (hs : List Header). IsFirstRowFault g (all_rows g hs) (Some x)) (sym known.are) rows)

  pub work_faulty : {X : Type 0} (held : Option (List ℕ)) (now : Option (List ℕ)) (r : Result X Stop) → IfSome held (Knows s) → IfSome held (λ g. FinishesSeen g s now r) → TellsFirstFault Unpack held r
  work_faulty held now (Ok x) exact written = no_fault held now x exact written
  work_faulty {X} held now (Err (Refused x)) exact written = row_refused X held now x exact written
  work_faulty held now (Err ReadFault) exact written = tt
  work_faulty held now (Err WriteFault) exact written = tt
  work_faulty held now (Err (OverLimit live asked limit)) exact written = tt
  work_faulty held now (Err NoMemory) exact written = tt

  pub work_unmade : {X : Type 0} (held : Option (List ℕ)) (limit : ℕ) (takings : List ℕ → List (ℕ × ℕ)) (Same : Type 0) (r : Result X Stop) → IfSome held (Knows s) → IfSome held (λ file. IsSome (first_past limit (takings file)) → Same) →
      IfOverLimit r Same → IfRefused r (ComesLate Unpack) → StaysUnmade Unpack held limit takings Same r
  work_unmade held limit takings Same r exact past over late = record { faulty = by_held held exact; past = past; over_limit = over; refused = refused_weaker r (λ x is. inr is) late }
    where
      by_held : (told : Option (List ℕ)) → IfSome told (Knows s) → IfSome told (λ file. ¬ (header_fault Unpack file ≡ None) → Same)
      by_held None is = tt
      by_held (Some g) is = λ faulty. absurd (faulty (know g s is).no_fault)

  -- what is sealed is the restored file
  sealed_whole : (held : Option (List ℕ)) (now : Option (List ℕ)) → IfSome held (Knows s) → IfSome held (λ g. (hs : List Header) → IsList g s hs → AreRestored g hs now) → HoldsRestored held now
  sealed_whole None now exact whole = tt
  sealed_whole (Some g) now exact whole = let known = know g s exact in by_contents g known now (whole known.headers known.seen)

  pub work_shut : {X : Type 0} (held : Option (List ℕ)) (now : Option (List ℕ)) (r : Result X Stop) → IfSome held (Knows s) → AreShutOrWhole s held now r → IsShutOrWhole now (HoldsRestored held now) r
  work_shut held now (Ok x) exact shut = tt
  work_shut {X} held now (Err stop) exact shut = by_shut shut
    where
      Whole : Type 0
      Whole = IfSome held (λ g. (hs : List Header) → IsList g s hs → AreRestored g hs now)

      Why : Type 0
      Why = IsErrOf {T = X} (Err stop) WriteFault ⊎ IsErrOf {T = X} (Err stop) NoMemory

      by_shut : IsShut now ⊎ (Whole × Why) → IsShut now ⊎ (HoldsRestored held now × Why)
      by_shut (inl is) = inl is
      by_shut (inr is) = inr (sealed_whole held now exact is.0, is.1)

  -- ---- what the work wants
  pub learnt : (held : Option (List ℕ)) → IfSome held (Knows s) → IfSome held (HasLargest Unpack s.header_len s.tile)
  learnt None exact = tt
  learnt (Some g) exact = let known = know g s exact in record { no_fault = known.no_fault; longest = known.longest; largest = known.largest }
