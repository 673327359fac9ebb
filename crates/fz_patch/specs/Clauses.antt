-- What a patch promises.
use Rattle.std.specs.Prelude.{ℕ, ◌≡◌, ◌⊎◌, ◌+◌, ◌<◌, ◌≤◌, ◌^◌, ◌++◌, max, List, [], length, take, Option, Some, None, IfSome, IsSome, Result, Ok, Err, OnOk, IsErrOf, ⊤}
use Rattle.std.specs.Option.{option_map}
use Rattle.fz_base.specs.Counts.{Amend, Amended, Rose, Tally}
use Rattle.fz_base.specs.JobBuffers.{buffer_bound}
use Rattle.fz_base.specs.Meter.{Gauge}
use Rattle.fz_base.specs.Stop.{IfRefused, IsRefused, TellsLimit}
use Rattle.fz_base.specs.Store.{IsSettled}
use Rattle.fz_base.specs.Takings.{TellsFirstPast, first_past}
use Rattle.fz_base.specs.declared.failure.Stop.{Stop}
use Rattle.fz_base.specs.declared.failure.Stop.TheVariants.{Refused, ReadFault, WriteFault, OverLimit, NoMemory}
use Rattle.fz_block.specs.Checks.{headers_of, unjudged}
use Rattle.fz_block.specs.declared.header.Header.{Header}
use Rattle.fz_files.specs.Buffers.{room_takings}
use Rattle.fz_job.specs.Clauses.{IfOverLimit, IsAnswer, IsChanged, IsOfSomeRow}
use Rattle.fz_laws.specs.Amends.{applied}
use Rattle.fz_laws.specs.PatchBuffers.{patch_bound, patch_takings, second_takings}
use Rattle.fz_laws.specs.FirstPatchFault.{ArePatchSteps, IsFirstPatchFault}
use Rattle.fz_laws.specs.Given.{PatchJob, given_by}
use Rattle.fz_laws.specs.Patched.{IsPatched}
use Rattle.fz_laws.specs.Safe.{IsSafeAfter, IsStep}
use Rattle.fz_laws.specs.Writes.{Steps, all_writes}
use Rattle.fz_target.specs.Ends.{SameCounts}
use Rattle.fz_target.specs.Steps.{Wrote, WroteSome}
use Rattle.fz_target.specs.Told.{IfBoth}

-- after Ok the patch has no fault, and after Refused x its first fault is x
abbrev pub TellsPatchFault : {X : Type 0} → PatchJob → Option (List ℕ) → Option (List ℕ) → Result X Stop → Type 0
TellsPatchFault job held given (Ok x) = IfBoth held given (λ file patch. IsFirstPatchFault file patch job None)
TellsPatchFault job held given (Err (Refused x)) = IfBoth held given (λ file patch. IsFirstPatchFault file patch job (Some x))
TellsPatchFault job held given (Err ReadFault) = ⊤
TellsPatchFault job held given (Err WriteFault) = ⊤
TellsPatchFault job held given (Err (OverLimit live asked limit)) = ⊤
TellsPatchFault job held given (Err NoMemory) = ⊤

-- The file is patched: all writes of the patch were made, one after another, and with them its tiles, the file that it stands for and its
-- checksums are as they should be. All writes are settled.
pub record IsPatchedBy (job : PatchJob) (held' : Option (List ℕ)) (before now : Amended) (file patch : List ℕ) : Type 0 where
  pub header : Header
  pub steps : Steps
  pub are : ArePatchSteps file patch job header steps
  pub wrote : Wrote (all_writes steps) (Some file) held' before.writes now.writes
  pub is : IsPatched file (applied (all_writes steps) file) header (given_by patch job)
  pub settled : IsSettled now

-- The writes that were made are those of all steps before one, which are settled, and some of that one, from the first on. So each step
-- begins when all earlier ones are settled: a store may fail in any of its calls, and then this is said of that moment.
pub record AreSettledUpTo (steps : Steps) (before now : Amended) : Type 0 where
  pub earlier : List Amend
  pub step : List Amend
  pub is_step : IsStep steps earlier step
  pub count : ℕ
  pub logged : now.writes ≡ option_map (λ ws. ws ++ (earlier ++ take count step)) before.writes
  pub settled : IfSome before.writes (λ ws. (earlier ≡ []) ⊎ (length ws + length earlier ≤ now.settled))

-- Some writes of the patch were made, from the first on, and of the next one perhaps a part; after every prefix of all writes the file is safe.
-- Those of all steps before the last one that was begun are settled.
pub record StopsAmong (job : PatchJob) (held' : Option (List ℕ)) (before now : Amended) (file patch : List ℕ) : Type 0 where
  pub header : Header
  pub steps : Steps
  pub are : ArePatchSteps file patch job header steps
  pub some : WroteSome (all_writes steps) (Some file) held' before.writes now.writes
  pub safe : (n : ℕ) → IsSafeAfter file header (given_by patch job) steps n
  pub settled : AreSettledUpTo steps before now

-- whatever the answer is, nothing was written, or some writes of the patch
abbrev pub LeavesSafe : PatchJob → Option (List ℕ) → Amended → Amended → List ℕ → List ℕ → Type 0
LeavesSafe job held' before now file patch = ((held' ≡ Some file) × (now.writes ≡ before.writes)) ⊎ StopsAmong job held' before now file patch

-- what is taken of a meter, by the bytes of both files
abbrev pub TakingsOfBoth : Type 0
TakingsOfBoth = List ℕ → List ℕ → List (ℕ × ℕ)

-- Nothing was written after Refused, if both files show their bytes, nor if one of these takings passes the limit, whatever the answer, nor after
-- OverLimit. If the files do not show their bytes, a refusal after some writes is that of a row, or of an HDU of which FILE gave other bytes than
-- before.
pub record IsUnwritten {X : Type 0} (held given : Option (List ℕ)) (limit : ℕ) (takings : TakingsOfBoth) (Same : Type 0) (result : Result X Stop) : Type 0 where
  pub refused : IsRefused result → IfBoth held given (λ file patch. Same)
  pub late : IfRefused result (λ x. Same ⊎ (IsChanged x ⊎ IsOfSomeRow x))
  pub past : IfBoth held given (λ file patch. IsSome (first_past limit (takings file patch)) → Same)
  pub over_limit : IfOverLimit result Same

-- nothing was written, or none of these takings passes the limit
abbrev pub IsUnpassed : Type 0 → ℕ → List (ℕ × ℕ) → Type 0
IsUnpassed Same limit takings = Same ⊎ (first_past limit takings ≡ None)

-- the greatest bound of a patch, whatever the files are
abbrev pub greatest_patch_bound : ℕ
greatest_patch_bound = buffer_bound 737280 (2 ^ 26) 1

-- Why a patch ended as it did: after Ok and after Refused no count rose; ReadFault comes only if a count of read faults rose, of either file,
-- and WriteFault only if that of write faults rose. OverLimit is the first of the takings that passes the limit, and comes if one does. The
-- first taking, of one block, comes before anything is read: if the limit is below that, the answer is OverLimit.
pub record HasPatchCause
    {X : Type 0} (job : PatchJob) (held given : Option (List ℕ)) (store store' patch patch' : Tally) (limit : ℕ)
    (result : Result X Stop) : Type 0 where
  pub done : OnOk result (SameCounts store store' × (patch' ≡ patch))
  pub refused : IsRefused result → SameCounts store store' × (patch' ≡ patch)
  pub read_fault : IsErrOf result ReadFault → Rose store.faults store'.faults ⊎ Rose patch.faults patch'.faults
  pub write_fault : IsErrOf result WriteFault → Rose store.amended.faults store'.amended.faults
  pub over_limit : TellsLimit limit greatest_patch_bound result
  pub first_past : IfBoth held given (λ file by. TellsFirstPast limit (patch_takings file by job) result)
  pub block : limit < 2880 → IsErrOf result (OverLimit 0 2880 limit) × (store' ≡ store) × (patch' ≡ patch)

-- if no count of faults rose, and the limit is at least the bound, the answer is Ok or Refused, or there was no memory
abbrev pub AnswersPatch : {X : Type 0} → PatchJob → Option (List ℕ) → Option (List ℕ) → Tally → Tally → Tally → Tally → ℕ → Result X Stop → Type 0
AnswersPatch job held given store store' patch patch' limit result =
    ¬ Rose store.faults store'.faults → ¬ Rose store.amended.faults store'.amended.faults → ¬ Rose patch.faults patch'.faults →
    IfBoth held given (λ file by. patch_bound file by job ≤ limit → IsAnswer result)

-- Nothing is live, the limit stays, and the peak is at most that before or the bound. Of files that do not show their bytes the greatest
-- bound is said.
pub record KeepsPatchBuffers (job : PatchJob) (held given : Option (List ℕ)) (old new : Gauge) : Type 0 where
  pub live : new.live ≡ 0
  pub limit : new.limit ≡ old.limit
  pub risen : old.peak ≤ new.peak
  pub peak : IfBoth held given (λ file patch. new.peak ≤ max old.peak (patch_bound file patch job))
  pub most : new.peak ≤ max old.peak greatest_patch_bound

-- what is taken after the first block
abbrev pub later_takings : List ℕ → List ℕ → PatchJob → List (ℕ × ℕ)
later_takings file patch job = room_takings unjudged 2880 65536 file ++ second_takings file patch job (headers_of 65536 file)
