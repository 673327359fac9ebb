-- The restored file, written but for its byte 0, which comes last (FITS 4.0, section 4.4.1.1).
use Rattle.std.specs.Prelude.{ℕ, ◌≡◌, ◌+◌, ◌^◌, ◌≤◌, ◌<◌, Bool, List, [], ◌∷◌, ◌++◌, length, Option, Some, Result, OnOk, ⊤}
use Rattle.fz_base.specs.Stop.{IfRefused}
use Rattle.fz_base.specs.declared.fault.Fault.{Fault}
use Rattle.fz_base.specs.declared.failure.Stop.{Stop}
use Rattle.fz_block.specs.Header.{next_start_of}
use Rattle.fz_block.specs.declared.header.Header.{Header}
use Rattle.fz_checks.specs.JobChecks.{is_after_empty}
use Rattle.fz_files.specs.FirstFault.{IsFirstRowFault, all_rows}
use Rattle.fz_files.specs.Restored.{HduStandsFor, HdusStandFor, IsImageOf, standing}
use Rattle.fz_job.specs.Behind.{HoldsBytes, written_behind}
use Rattle.fz_job.specs.declared.survey.Survey.{Survey}
use Rattle.fz_job.specs.Again.{WereSeen}
use Rattle.fz_job.specs.Known.{IsList}

-- the image of a packed HDU was written
pub record HoldsImage (h : Header) (file : List ℕ) (at end : ℕ) (before now : Option (List ℕ)) : Type 0 where
  pub image : List ℕ
  pub is : IsImageOf file h image
  pub holds : HoldsBytes image at end before now

-- what an HDU stands for was written
pub record HoldsHdu (h : Header) (file : List ℕ) (at end : ℕ) (before now : Option (List ℕ)) : Type 0 where
  pub bytes : List ℕ
  pub stands : HduStandsFor file h bytes
  pub holds : HoldsBytes bytes at end before now

-- the first fault of the rows of an HDU, if it is packed
abbrev pub IsHduFault : List ℕ → Header → Fault → Type 0
IsHduFault file h x = IsFirstRowFault file (all_rows file (h ∷ [])) (Some x)

-- what an HDU becomes ends after where it begins, and is at most 2^46 bytes longer than the HDU
pub record EndsNear (h : Header) (at end : ℕ) : Type 0 where
  pub some : at < end
  pub near : end + h.start ≤ at + 2 ^ 46 + next_start_of h

-- what HDUs stand for was written
pub record HoldsHdus (file : List ℕ) (hs : List Header) (before now : Option (List ℕ)) : Type 0 where
  pub bytes : List ℕ
  pub stand : HdusStandFor file (standing file hs) bytes
  pub contents : now ≡ written_behind 0 bytes before

-- The restored file of a file whose HDUs were seen was written; or its first faulty row is refused, and no HDU that was seen.
pub record RestoresSeen {X : Type 0} (file : List ℕ) (s : Survey) (before now : Option (List ℕ)) (result : Result X Stop) : Type 0 where
  pub restored : (hs : List Header) → IsList file s hs → OnOk result (HoldsHdus file hs before now)
  pub first_fault : (hs : List Header) → IsList file s hs → IfRefused result (λ x. IsFirstRowFault file (all_rows file hs) (Some x))

-- the flag says of the first of some HDUs whether it is HDU 1 after a primary with NAXIS 0
abbrev pub SaysBehind : List ℕ → Bool → List Header → Type 0
SaysBehind file after_empty [] = ⊤
SaysBehind file after_empty (h ∷ hs) = after_empty ≡ is_after_empty file h

-- Of a file with these headers what the HDUs before number k stand for was written, and those from number k on begin at one byte.
pub record AreWritten
    (file : List ℕ) (header_len tile : ℕ) (hs : List Header) (k start at : ℕ) (after_empty : Bool)
    (before now : Option (List ℕ)) : Type 0 where
  pub done : List Header
  pub rest : List Header
  pub parts : standing file hs ≡ done ++ rest
  pub count : length hs ≡ k + length rest
  pub seen : WereSeen file header_len tile k start rest
  pub flag : SaysBehind file after_empty rest
  pub bytes : List ℕ
  pub stand : HdusStandFor file done bytes
  pub contents : now ≡ written_behind 0 bytes before
  pub place : at ≡ length bytes
  pub first : k ≡ 0 → start ≡ 0

-- the same of a file whose HDUs were seen
abbrev pub IsUnderway : Survey → ℕ → ℕ → ℕ → Bool → Option (List ℕ) → Option (List ℕ) → List ℕ → Type 0
IsUnderway s k start at after_empty before now file =
    (hs : List Header) → IsList file s hs → AreWritten file s.header_len s.tile hs k start at after_empty before now
