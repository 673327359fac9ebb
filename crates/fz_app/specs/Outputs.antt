-- What a job writes (FITS 4.0, sections 4.4.1 and 10.1).
use Rattle.std.specs.Prelude.{ℕ, ◌≡◌, ◌≤◌, ◌^◌, true, Bool, List, [], length, Option, None, IfSome, ⊤}
use Rattle.fz_base.specs.Ranges.{LogsIn}
use Rattle.fz_head.specs.declared.options.PackOptions.{PackOptions}
use Rattle.fz_files.specs.CutoutBytes.{IsCutout}
use Rattle.fz_files.specs.FirstFault.{IsFirstFault}
use Rattle.fz_files.specs.Packed.{IsPackedFile}
use Rattle.fz_files.specs.Retiled.{IsRetiled}
use Rattle.fz_files.specs.StandsFor.{IsProfileFile, StandsFor}
use Rattle.fz_files.specs.Touched.{touched_by}
use Rattle.fz_files.specs.declared.job.Job.{Job}
use Rattle.fz_files.specs.declared.job.Job.TheVariants.{Pack, Unpack, Cut, Verify, List as ListHdus, Drill, Retile}
use Rattle.fz_grid.specs.declared.sieve.Sieve.{Sieve}
use Rattle.fz_cut.specs.Slices.{HoldsSlice}
use Rattle.fz_files.specs.Decided.{first_fault}

-- the bytes are what a job writes for a file; some jobs write nothing
abbrev pub IsOutput : Job → List ℕ → List ℕ → Type 0
IsOutput (Pack options) file bytes = IsPackedFile options file bytes
IsOutput Unpack file bytes = StandsFor file bytes
IsOutput (Cut wanted sieve) file bytes = IsCutout wanted sieve file bytes
IsOutput Verify file bytes = bytes ≡ []
IsOutput ListHdus file bytes = bytes ≡ []
IsOutput (Drill rows) file bytes = bytes ≡ []
IsOutput (Retile options) file bytes = IsRetiled options file bytes

-- Packing and unpacking undo each other. Packed bytes stand for the file, if they are at most 2^62: so unpacking them gives it again.
-- What is unpacked from the packed file of a plain file, whatever this was packed with, is the plain file. What was packed anew stands for the
-- same file.
abbrev pub Restores : Job → List ℕ → List ℕ → Type 0
Restores (Pack options) file bytes = length bytes ≤ 2 ^ 62 → StandsFor bytes file
Restores Unpack file bytes = (options : PackOptions) (plain : List ℕ) → IsProfileFile options plain → IsPackedFile options plain file → bytes ≡ plain
Restores (Cut wanted sieve) file bytes = ⊤
Restores Verify file bytes = ⊤
Restores ListHdus file bytes = ⊤
Restores (Drill rows) file bytes = ⊤
Restores (Retile options) file bytes = (plain : List ℕ) → StandsFor file plain → length bytes ≤ 2 ^ 62 → StandsFor bytes plain

-- the packed file of a plain file, whatever this was packed with, has no fault of unpack
abbrev pub PackedIsSound : Job → List ℕ → Type 0
PackedIsSound (Pack options) file = ⊤
PackedIsSound Unpack file =
    (options : PackOptions) (plain : List ℕ) → IsProfileFile options plain → IsPackedFile options plain file → length file ≤ 2 ^ 62
    → IsFirstFault Unpack file None
PackedIsSound (Cut wanted sieve) file = ⊤
PackedIsSound Verify file = ⊤
PackedIsSound ListHdus file = ⊤
PackedIsSound (Drill rows) file = ⊤
PackedIsSound (Retile options) file = ⊤

-- what comes back, of the bytes of the source and the contents of the sink, if both are shown
abbrev pub JobRestores : Job → Option (List ℕ) → Option (List ℕ) → Type 0
JobRestores job held contents = IfSome held (λ file. IfSome contents (Restores job file))

-- contents are what a job writes for the bytes of the source, if both are shown
abbrev pub HoldsJobOutput : Job → Option (List ℕ) → Option (List ℕ) → Type 0
HoldsJobOutput job held contents = IfSome held (λ file. IfSome contents (IsOutput job file))

-- a job that writes no file leaves the sink as it was
abbrev pub LeavesSink : Job → Type 0 → Type 0
LeavesSink (Pack options) Same = ⊤
LeavesSink Unpack Same = ⊤
LeavesSink (Cut wanted sieve) Same = ⊤
LeavesSink Verify Same = Same
LeavesSink ListHdus Same = Same
LeavesSink (Drill rows) Same = Same
LeavesSink (Retile options) Same = ⊤

-- A job that looks for all faults before it makes the sink leaves it as it was if the file has one: `retile` does, also for a fault of a row,
-- or of the file that is packed anew.
abbrev pub LeavesFaulty : Job → Option (List ℕ) → Type 0 → Type 0
LeavesFaulty (Pack options) held Same = ⊤
LeavesFaulty Unpack held Same = ⊤
LeavesFaulty (Cut wanted sieve) held Same = ⊤
LeavesFaulty Verify held Same = ⊤
LeavesFaulty ListHdus held Same = ⊤
LeavesFaulty (Drill rows) held Same = ⊤
LeavesFaulty (Retile options) held Same = IfSome held (λ file. ¬ (first_fault (Retile options) file ≡ None) → Same)

-- a job that is given no file leaves the source as it was
abbrev pub LeavesSource : Job → Type 0 → Type 0
LeavesSource (Pack options) Same = ⊤
LeavesSource Unpack Same = ⊤
LeavesSource (Cut wanted sieve) Same = ⊤
LeavesSource Verify Same = ⊤
LeavesSource ListHdus Same = ⊤
LeavesSource (Drill rows) Same = Same
LeavesSource (Retile options) Same = ⊤

-- the sink was finished by a job that writes one
abbrev pub IsFinished : Job → Bool → Type 0
IsFinished (Pack options) finished = finished ≡ true
IsFinished Unpack finished = finished ≡ true
IsFinished (Cut wanted sieve) finished = finished ≡ true
IsFinished Verify finished = ⊤
IsFinished ListHdus finished = ⊤
IsFinished (Drill rows) finished = ⊤
IsFinished (Retile options) finished = finished ≡ true

-- they are the whole output of a job of which the file has no fault
pub record IsWhole (job : Job) (held contents : Option (List ℕ)) : Type 0 where
  pub output : HoldsJobOutput job held contents
  pub sound : IfSome held (λ file. IsFirstFault job file None)

-- a fact of the HDU that a job `cut` wants and of its sieve; nothing of any other job
abbrev pub IfCut : Job → (Option ℕ → Sieve → Type 0) → Type 0
IfCut (Pack options) P = ⊤
IfCut Unpack P = ⊤
IfCut (Cut wanted sieve) P = P wanted sieve
IfCut Verify P = ⊤
IfCut ListHdus P = ⊤
IfCut (Drill rows) P = ⊤
IfCut (Retile options) P = ⊤

-- what a cut wrote is a slice of every file that its source stands for
abbrev pub HoldsJobSlice : Job → Option (List ℕ) → Option (List ℕ) → Type 0
HoldsJobSlice job held contents = IfCut job (λ wanted sieve. HoldsSlice wanted sieve held contents)

-- every byte that a job reads itself lies in the ranges that it may read
abbrev pub ReadsTouched : Job → Option (List ℕ) → Option (List (ℕ × ℕ)) → Option (List (ℕ × ℕ)) → Type 0
ReadsTouched job held old new = IfSome held (λ file. LogsIn (touched_by job file) old new)
