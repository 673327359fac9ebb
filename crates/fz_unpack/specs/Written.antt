-- The restored file, written whole, or cut short (FITS 4.0, section 4.4.1.1).
use Rattle.std.specs.Prelude.{ℕ, ◌≡◌, ◌⊎◌, List, Option, Some, IfSome, Result, OnOk, OnErr, IsErrOf}
use Rattle.fz_base.specs.FirstByte.{IsShut}
use Rattle.fz_base.specs.Stop.{IfRefused}
use Rattle.fz_base.specs.declared.failure.Stop.{Stop}
use Rattle.fz_base.specs.declared.failure.Stop.TheVariants.{WriteFault, NoMemory}
use Rattle.fz_block.specs.declared.header.Header.{Header}
use Rattle.fz_files.specs.FirstFault.{IsFirstRowFault, all_rows}
use Rattle.fz_files.specs.Restored.{HdusStandFor, standing}
use Rattle.fz_job.specs.declared.survey.Survey.{Survey}
use Rattle.fz_job.specs.Known.{IsList}

-- the HDUs stand for some bytes, and shown contents are these
pub record AreRestored (file : List ℕ) (hs : List Header) (contents : Option (List ℕ)) : Type 0 where
  pub bytes : List ℕ
  pub stand : HdusStandFor file (standing file hs) bytes
  pub told : IfSome contents (λ c. c ≡ bytes)

-- The restored file of a file whose HDUs were seen was written; or its first faulty row is refused, and no HDU that was seen.
pub record FinishesSeen {X : Type 0} (file : List ℕ) (s : Survey) (now : Option (List ℕ)) (result : Result X Stop) : Type 0 where
  pub restored : (hs : List Header) → IsList file s hs → OnOk result (AreRestored file hs now)
  pub first_fault : (hs : List Header) → IsList file s hs → IfRefused result (λ x. IsFirstRowFault file (all_rows file hs) (Some x))

-- after an error the contents are shut, or they are the restored file, of which byte 0 came last
abbrev pub AreShutOrWhole : {X : Type 0} → Survey → Option (List ℕ) → Option (List ℕ) → Result X Stop → Type 0
AreShutOrWhole s held now result =
    OnErr result (IsShut now
    ⊎ (IfSome held (λ file. (hs : List Header) → IsList file s hs → AreRestored file hs now) × (IsErrOf result WriteFault ⊎ IsErrOf result NoMemory)))
