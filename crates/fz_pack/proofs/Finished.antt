-- What the job promises where the first look knows the file, by what the work after it says.
use Rattle.std.proofs.Common.{◌≡◌, ◌⊎◌, inl, inr, ℕ, List, map, sym, subst}
use Rattle.std.specs.Prelude.{Option, Some, None, IfSome, Result, Ok, Err, OnOk, IsErrOf, IsSome}
use Rattle.fz_base.specs.FirstByte.{IsShut}
use Rattle.fz_base.specs.Stop.{IfRefused}
use Rattle.fz_base.specs.Takings.{first_past}
use Rattle.fz_base.specs.declared.fault.Fault.{Fault}
use Rattle.fz_base.specs.declared.failure.Stop.{Stop}
use Rattle.fz_base.specs.declared.failure.Stop.TheVariants.{Refused, ReadFault, WriteFault, OverLimit, NoMemory}
use Rattle.fz_block.specs.Walk.{hdu_of}
use Rattle.fz_block.specs.declared.header.Header.{Header}
use Rattle.fz_head.specs.declared.options.PackOptions.{PackOptions}
use Rattle.fz_files.specs.FirstFault.{IsFaultBehind, IsFirstFault}
use Rattle.fz_files.specs.Packed.{IsPackedFile}
use Rattle.fz_files.specs.Walks.{header_fault}
use Rattle.fz_files.specs.declared.job.Job.TheVariants.{Pack}
use Rattle.fz_job.specs.Surveys.{surveyed}
use Rattle.fz_job.specs.declared.checks.JobChecks.TheVariants.{Pack as PackChecks}
use Rattle.fz_job.specs.declared.survey.Survey.{Survey}
use Rattle.fz_pack.specs.Output.{HoldsPacked}
use Rattle.fz_job.specs.Clauses.{IfOverLimit, IsChanged, IsShutOrWhole, StaysUnmade, TellsFirstFault}
use Rattle.fz_job.specs.Stages.{HasLargest}
use Rattle.fz_pack.specs.Known.{IsKnown, SurveysKnow}
use Rattle.fz_pack.specs.Written.{ArePacked, AreShutOrWhole, FinishesSeen, IsList}
use Rattle.fz_pack.proofs.Outcomes.{refused_weaker}

-- the first look knows this of the file
abbrev pub Knows : PackOptions → Survey → List ℕ → Type 0
Knows o s g = surveyed (PackChecks o) g ≡ Ok s

module _ (know : SurveysKnow) (o : PackOptions) (s : Survey) where
  by_contents : (g : List ℕ) (known : IsKnown o g s) (c : Option (List ℕ)) → ArePacked o g known.headers c → IfSome c (IsPackedFile o g)
  by_contents g known None is = tt
  by_contents g known (Some bytes) is = record { hdus = map (hdu_of g) known.headers; parts = known.parts; packed = is }

  -- the packed file was written
  is_output : {X : Type 0} (held : Option (List ℕ)) (now : Option (List ℕ)) (x : X) → IfSome held (Knows o s) → IfSome held (λ g. FinishesSeen {X = X} o g s now (Ok x)) → HoldsPacked o held now
  is_output None now x exact written = tt
  is_output (Some g) now x exact written = let known = know o g s exact in by_contents g known now (written.packed known.headers known.seen)

  pub work_output : {X : Type 0} (held : Option (List ℕ)) (now : Option (List ℕ)) (r : Result X Stop) → IfSome held (Knows o s) → IfSome held (λ g. FinishesSeen o g s now r) → OnOk r (HoldsPacked o held now)
  work_output held now (Ok x) exact written = is_output held now x exact written
  work_output held now (Err stop) exact written = tt

  -- no header is refused
  no_fault : (held : Option (List ℕ)) → IfSome held (Knows o s) → IfSome held (λ g. IsFirstFault (Pack o) g None)
  no_fault None exact = tt
  no_fault (Some g) exact = subst (λ (f : Option Fault). IsFaultBehind f (Pack o) g None) (sym (know o g s exact).no_fault) tt

  none_refused : (X : Type 0) (held : Option (List ℕ)) (now : Option (List ℕ)) (x : Fault) → IfSome held (Knows o s) → IfSome held (λ g. FinishesSeen {X = X} o g s now (Err (Refused x))) → IfSome held (λ g. IsFirstFault (Pack o) g (Some x))
  none_refused X None now x exact written = tt
  none_refused X (Some g) now x exact written = let known = know o g s exact in absurd (written.as_seen known.headers known.seen)

  pub work_faulty : {X : Type 0} (held : Option (List ℕ)) (now : Option (List ℕ)) (r : Result X Stop) → IfSome held (Knows o s) → IfSome held (λ g. FinishesSeen o g s now r) → TellsFirstFault (Pack o) held r
  work_faulty held now (Ok x) exact written = no_fault held exact
  work_faulty {X} held now (Err (Refused x)) exact written = none_refused X held now x exact written
  work_faulty held now (Err ReadFault) exact written = tt
  work_faulty held now (Err WriteFault) exact written = tt
  work_faulty held now (Err (OverLimit live asked limit)) exact written = tt
  work_faulty held now (Err NoMemory) exact written = tt

  pub work_unmade : {X : Type 0} (held : Option (List ℕ)) (limit : ℕ) (takings : List ℕ → List (ℕ × ℕ)) (Same : Type 0) (r : Result X Stop) → IfSome held (Knows o s) → IfSome held (λ file. IsSome (first_past limit (takings file)) → Same) →
      IfOverLimit r Same → IfRefused r IsChanged → StaysUnmade (Pack o) held limit takings Same r
  work_unmade held limit takings Same r exact past over changed = record { faulty = by_held held exact; past = past; over_limit = over; refused = refused_weaker r (λ x is. inr is) changed }
    where
      by_held : (told : Option (List ℕ)) → IfSome told (Knows o s) → IfSome told (λ file. ¬ (header_fault (Pack o) file ≡ None) → Same)
      by_held None is = tt
      by_held (Some g) is = λ faulty. absurd (faulty (know o g s is).no_fault)

  -- what is sealed is the packed file
  sealed_whole : (held : Option (List ℕ)) (now : Option (List ℕ)) → IfSome held (Knows o s) → IfSome held (λ g. (hs : List Header) → IsList o g s hs → ArePacked o g hs now) → HoldsPacked o held now
  sealed_whole None now exact whole = tt
  sealed_whole (Some g) now exact whole = let known = know o g s exact in by_contents g known now (whole known.headers known.seen)

  pub work_shut : {X : Type 0} (held : Option (List ℕ)) (now : Option (List ℕ)) (r : Result X Stop) → IfSome held (Knows o s) → AreShutOrWhole o s held now r → IsShutOrWhole now (HoldsPacked o held now) r
  work_shut held now (Ok x) exact shut = tt
  work_shut {X} held now (Err stop) exact shut = by_shut shut
    where
      Whole : Type 0
      Whole = IfSome held (λ g. (hs : List Header) → IsList o g s hs → ArePacked o g hs now)

      Why : Type 0
      Why = IsErrOf {T = X} (Err stop) WriteFault ⊎ IsErrOf {T = X} (Err stop) NoMemory

      by_shut : IsShut now ⊎ (Whole × Why) → IsShut now ⊎ (HoldsPacked o held now × Why)
      by_shut (inl is) = inl is
      by_shut (inr is) = inr (sealed_whole held now exact is.0, is.1)

  -- ---- what the work wants
  pub learnt : (held : Option (List ℕ)) → IfSome held (Knows o s) → IfSome held (HasLargest (Pack o) s.header_len s.tile)
  learnt None exact = tt
  learnt (Some g) exact = let known = know o g s exact in record { no_fault = known.no_fault; longest = known.longest; largest = known.largest }
