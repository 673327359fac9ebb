-- What a run of `patch` promises of FILE, of PATCH, of the text and of its status.
use Rattle.std.specs.Prelude.{ℕ, ◌≡◌, ◌≢◌, ◌⊎◌, ◌-◌, ◌<◌, ◌≤◌, ◌↔◌, map, List, Option, Some, None, IfSome, Result, Ok, Err, OnOk, IfErr, IsErrOf, ⊤}
use Rattle.fz_base.specs.Counts.{Amended, CountsKept, Rose, Tally, nameless}
use Rattle.fz_base.specs.Meter.{Gauge, narrowed}
use Rattle.fz_base.specs.Names.{MayName, with_name}
use Rattle.fz_base.specs.Stop.{IsRefused, TellsLimit}
use Rattle.fz_base.specs.Store.{StoreKept}
use Rattle.fz_base.specs.Takings.{TellsFirstPast}
use Rattle.fz_base.specs.declared.failure.Stop.{Stop}
use Rattle.fz_base.specs.declared.failure.Stop.TheVariants.{Refused as StopRefused, ReadFault as StopRead, WriteFault as StopWrite}
use Rattle.fz_base.specs.declared.failure.Stop.TheVariants.{OverLimit as StopLimit, NoMemory as StopMemory}
use Rattle.fz_block.specs.declared.header.Header.{Header}
use Rattle.fz_grid.specs.Region.{lengths_of}
use Rattle.fz_patch.specs.Clauses.{AnswersPatch, IsPatchedBy, IsUnwritten, KeepsPatchBuffers, LeavesSafe, TellsPatchFault, greatest_patch_bound}
use Rattle.fz_patch.specs.Kept.{LeavesRest}
use Rattle.fz_target.specs.Ends.{SameCounts}
use Rattle.fz_target.specs.Reads.{ReadsGiven}
use Rattle.fz_target.specs.Told.{IfBoth}
use Rattle.fz_laws.specs.PatchBuffers.{patch_bound, patch_takings}
use Rattle.fz_laws.specs.PatchChecks.{patch_target}
use Rattle.fz_laws.specs.Given.{PatchJob, given_by}
use Rattle.fz_laws.specs.Patched.{IsPatched}
use Rattle.fz_words.specs.PatchJobs.{PatchAsked, patch_job_of}
use Rattle.fz_app.specs.Answer.{IfAnswer}
use Rattle.fz_app.specs.declared.status.Status.{Status}
use Rattle.fz_app.specs.declared.status.Status.TheVariants.{Different, Usage}

-- a fact of what the words ask for, and of that and the answer to it
abbrev pub IfPatch : List (List ℕ) → (PatchAsked → Type 0) → Type 0
IfPatch words P = IfSome (patch_job_of words) P

abbrev pub IfPatchRan : List (List ℕ) → Status → (PatchAsked → Result ⊤ Stop → Type 0) → Type 0
IfPatchRan words status P = IfPatch words (λ asked. IfAnswer status (P asked))

-- the patch that is asked for: the place of its first pixel is counted from 0
abbrev pub job_asked : PatchAsked → PatchJob
job_asked asked = record { wanted = asked.hdu; corner = map (λ n. n - 1) (lengths_of asked.at) }

-- Usage: comes if and only if the words ask for no patch; and Different never.
pub record IsPatchUsage (words : List (List ℕ)) (SameFile SamePatch SameMeter : Type 0) (status : Status) : Type 0 where
  pub exactly : (status ≡ Usage) ↔ (patch_job_of words ≡ None)
  pub untouched : status ≡ Usage → SameFile × SamePatch × SameMeter
  pub never_different : status ≢ Different

-- Patched: after Done FILE is patched, if both files show their bytes, and all of its writes are settled.
abbrev pub IsPatchedFor : List (List ℕ) → Option (List ℕ) → Option (List ℕ) → Option (List ℕ) → Amended → Amended → Status → Type 0
IsPatchedFor words held given held' before now status =
    IfPatchRan words status (λ asked answer. OnOk answer (IfBoth held given (IsPatchedBy (job_asked asked) held' before now)))

-- FILE has the patch: each tile with a pixel in the box has its new numbers, every other has its old ones, what FILE stood for has the box
-- replaced, and the checksums of the HDU are right.
pub record HasPatch (job : PatchJob) (file patch : List ℕ) (held' : Option (List ℕ)) : Type 0 where
  pub header : Header
  pub target : patch_target file patch job ≡ Ok header
  pub new : List ℕ
  pub holds : held' ≡ Some new
  pub is : IsPatched file new header (given_by patch job)

-- Replaced: after Done the pixels are those of PATCH in the box, and everywhere else as they were.
abbrev pub IsReplacedFor : List (List ℕ) → Option (List ℕ) → Option (List ℕ) → Option (List ℕ) → Status → Type 0
IsReplacedFor words held given held' status =
    IfPatchRan words status (λ asked answer. OnOk answer (IfBoth held given (λ file by. HasPatch (job_asked asked) file by held')))

-- Safe: whatever the status, nothing was written, or some writes of the patch, after each of which FILE is safe to read; and all steps before the
-- last one that was begun are settled.
abbrev pub IsLeftSafe : List (List ℕ) → Option (List ℕ) → Option (List ℕ) → Option (List ℕ) → Amended → Amended → Type 0
IsLeftSafe words held given held' before now = IfPatch words (λ asked. IfBoth held given (LeavesSafe (job_asked asked) held' before now))

-- Kept: whatever the status, and whatever PATCH holds or shows, only bytes of FILE that have a place in a patch were changed.
abbrev pub IsKeptBeside : List (List ℕ) → Option (List ℕ) → Option (List ℕ) → Option ℕ → Option (List ℕ) → Amended → Amended → Type 0
IsKeptBeside words held given attached held' before now =
    IfPatch words (λ asked. IfSome held (LeavesRest (job_asked asked) attached given held' before.writes now.writes))

-- First fault: after Done the patch has none, and Refused gives it.
abbrev pub HasPatchFault : List (List ℕ) → Option (List ℕ) → Option (List ℕ) → Status → Type 0
HasPatchFault words held given status = IfPatchRan words status (λ asked answer. TellsPatchFault (job_asked asked) held given answer)

-- the limit of the meter after it was narrowed
abbrev pub patch_limit : PatchAsked → Gauge → ℕ
patch_limit asked meter = (narrowed meter asked.memory).limit

-- Unwritten: nothing was written if the patch was refused, or if a buffer passes the limit, whatever the status.
abbrev pub IsUnwrittenFor : List (List ℕ) → Option (List ℕ) → Option (List ℕ) → Gauge → Type 0 → Status → Type 0
IsUnwrittenFor words held given meter Same status =
    IfPatchRan words status (λ asked answer. IsUnwritten held given (patch_limit asked meter) (λ file by. patch_takings file by (job_asked asked)) Same answer)

-- Unread: below one block nothing is read of either file, whatever the status.
abbrev pub IsPatchUnread : List (List ℕ) → Option (List (ℕ × ℕ)) → Option (List (ℕ × ℕ)) → Option (List (ℕ × ℕ)) → Option (List (ℕ × ℕ)) → Gauge → Type 0
IsPatchUnread words ranges ranges' given given' meter = IfPatch words (λ asked. patch_limit asked meter < 2880 → (ranges' ≡ ranges) × (given' ≡ given))

-- Given: every byte that was read of PATCH, whatever the status.
abbrev pub PatchReadsGiven : List (List ℕ) → Option (List ℕ) → Option (List ℕ) → Option (List (ℕ × ℕ)) → Option (List (ℕ × ℕ)) → Type 0
PatchReadsGiven words held given ranges ranges' = IfPatch words (λ asked. ReadsGiven held given (job_asked asked) ranges ranges')

-- Complete: if no count of faults rose, and the limit is at least the bound of the patch, the status is Done, Refused or NoMemory.
abbrev pub IsPatchComplete : List (List ℕ) → Option (List ℕ) → Option (List ℕ) → Tally → Tally → Tally → Tally → Gauge → Status → Type 0
IsPatchComplete words held given store store' patch patch' meter status =
    IfPatchRan words status (λ asked answer. AnswersPatch (job_asked asked) held given store store' patch patch' (patch_limit asked meter) answer)

-- Causes: after Done and Refused no count rose; ReadFault comes only if a count of read faults rose, of either file, and WriteFault only if that
-- of the write faults of FILE rose. OverLimit is the first of the takings that passes the limit, and comes if one does; what passes it is never
-- more than the bound of the patch, so a limit of at least the bound is never passed. Below the first taking, of one block, it comes unless a
-- file could not be opened.
pub record PatchHasCause
    (words : List (List ℕ)) (held given : Option (List ℕ)) (store store' patch patch' : Tally) (meter : Gauge)
    (status : Status) : Type 0 where
  pub done : IfPatchRan words status (λ asked answer. OnOk answer (SameCounts store store' × (patch' ≡ patch)))
  pub refused : IfPatchRan words status (λ asked answer. IsRefused answer → SameCounts store store' × (patch' ≡ patch))
  pub read_fault : IfPatchRan words status (λ asked answer. IsErrOf answer StopRead → Rose store.faults store'.faults ⊎ Rose patch.faults patch'.faults)
  pub write_fault : IfPatchRan words status (λ asked answer. IsErrOf answer StopWrite → Rose store.amended.faults store'.amended.faults)
  pub over_limit : IfPatchRan words status (λ asked answer. TellsLimit (patch_limit asked meter) greatest_patch_bound answer)
  pub first_past :
      IfPatchRan words status
      (λ asked answer. IfBoth held given (λ file by. TellsFirstPast (patch_limit asked meter) (patch_takings file by (job_asked asked)) answer))
  pub within :
      IfPatchRan words status
      (λ asked answer. IfBoth held given (λ file by. TellsLimit (patch_limit asked meter) (patch_bound file by (job_asked asked)) answer))
  pub block :
      IfPatchRan words status
      (λ asked answer. patch_limit asked meter < 2880
      → IsErrOf answer (StopLimit 0 2880 (patch_limit asked meter)) ⊎ (IsErrOf answer StopRead ⊎ IsErrOf answer StopMemory))

-- Buffers: nothing is live, the limit is that of the meter or of the words, and the peak is at most that and at most the bound of the patch.
pub record PatchIsBounded (words : List (List ℕ)) (held given : Option (List ℕ)) (old new : Gauge) : Type 0 where
  pub within : new.peak ≤ new.limit
  pub asked : IfPatch words (λ asked. KeepsPatchBuffers (job_asked asked) held given (narrowed old asked.memory) new)

-- a fact of every answer that comes only after both files were opened: of any but a read fault and the want of memory
abbrev pub IfOpened : {X : Type 0} → Result X Stop → Type 0 → Type 0
IfOpened (Ok x) P = P
IfOpened (Err (StopRefused x)) P = P
IfOpened (Err StopRead) P = ⊤
IfOpened (Err StopWrite) P = P
IfOpened (Err (StopLimit live asked limit)) P = P
IfOpened (Err StopMemory) P = ⊤

-- FILE is opened first: if it was not, PATCH was not either
abbrev pub OpensInOrder : List ℕ → List ℕ → Option (List (List ℕ)) → Option (List (List ℕ)) → Option (List (List ℕ)) → Option (List (List ℕ)) → Type 0
OpensInOrder file patch opened opened' given given' =
    ((opened' ≡ opened) × (given' ≡ given)) ⊎ ((opened' ≡ with_name file opened) × MayName patch given given')

-- Names: FILE was opened for writing, and after it PATCH for reading, each at most once and by no other name. Both were opened, whatever the
-- answer is, but for a read fault and the want of memory: also before FILE or PATCH was rejected.
pub record PatchNames {X : Type 0} (file patch : List ℕ) (opened opened' given given' : Option (List (List ℕ))) (answer : Result X Stop) : Type 0 where
  pub in_order : OpensInOrder file patch opened opened' given given'
  pub both : IfOpened answer ((opened' ≡ with_name file opened) × (given' ≡ with_name patch given))

abbrev pub ArePatchNames : List (List ℕ) → Option (List (List ℕ)) → Option (List (List ℕ)) → Option (List (List ℕ)) → Option (List (List ℕ)) → Status → Type 0
ArePatchNames words opened opened' given given' status =
    IfPatchRan words status (λ asked answer. PatchNames asked.file asked.patch opened opened' given given' answer)

-- no count falls
pub record ArePatchCountsKept (store store' patch patch' text text' : Tally) : Type 0 where
  pub of_store : StoreKept store store'
  pub of_patch : CountsKept patch patch'
  pub of_text : CountsKept text text'

-- Why opening both files stopped, if it did: the count of faults of one of them rose, or there was no memory.
abbrev pub StoppedOpening : Tally → Tally → Tally → Tally → Stop → Type 0
StoppedOpening store store' patch patch' (StopRefused x) = ⊥
StoppedOpening store store' patch patch' StopRead = Rose store.faults store'.faults ⊎ Rose patch.faults patch'.faults
StoppedOpening store store' patch patch' StopWrite = ⊥
StoppedOpening store store' patch patch' (StopLimit live asked limit) = ⊥
StoppedOpening store store' patch patch' StopMemory = ⊤

-- opening both changed the tallies as the answer says
pub record OpensBoth {X : Type 0} (store store' patch patch' : Tally) (result : Result X Stop) : Type 0 where
  pub store_kept : CountsKept store store'
  pub patch_kept : CountsKept patch patch'
  pub ok : OnOk result ((store' ≡ store) × (patch' ≡ patch))
  pub stop : IfErr result (StoppedOpening store store' patch patch')

-- what a run promises of the answer to what is asked for, whole
pub record PatchEnds
    (asked : PatchAsked) (held held' given : Option (List ℕ)) (store store' patch patch' : Tally) (old new : Gauge)
    (answer : Result ⊤ Stop) : Type 0 where
  pub patched : OnOk answer (IfBoth held given (IsPatchedBy (job_asked asked) held' store.amended store'.amended))
  pub safe : IfBoth held given (LeavesSafe (job_asked asked) held' store.amended store'.amended)
  pub unwritten :
      IsUnwritten held given (patch_limit asked old) (λ file by. patch_takings file by (job_asked asked))
      ((held' ≡ held) × (store'.amended ≡ store.amended)) answer
  pub fault : TellsPatchFault (job_asked asked) held given answer
  pub answered : AnswersPatch (job_asked asked) held given (nameless store) (nameless store') (nameless patch) (nameless patch') (patch_limit asked old) answer
  pub done : OnOk answer (SameCounts (nameless store) (nameless store') × (nameless patch' ≡ nameless patch))
  pub refused : IsRefused answer → SameCounts (nameless store) (nameless store') × (nameless patch' ≡ nameless patch)
  pub read_fault : IsErrOf answer StopRead → Rose store.faults store'.faults ⊎ Rose patch.faults patch'.faults
  pub write_fault : IsErrOf answer StopWrite → Rose store.amended.faults store'.amended.faults
  pub over_limit : TellsLimit (patch_limit asked old) greatest_patch_bound answer
  pub first_past : IfBoth held given (λ file by. TellsFirstPast (patch_limit asked old) (patch_takings file by (job_asked asked)) answer)
  pub block : patch_limit asked old < 2880 → IsErrOf answer (StopLimit 0 2880 (patch_limit asked old)) ⊎ (IsErrOf answer StopRead ⊎ IsErrOf answer StopMemory)
  pub buffers : KeepsPatchBuffers (job_asked asked) held given (narrowed old asked.memory) new
  pub names : PatchNames asked.file asked.patch store.names store'.names patch.names patch'.names answer
  pub store_kept : StoreKept (nameless store) (nameless store')
  pub patch_kept : CountsKept (nameless patch) (nameless patch')
