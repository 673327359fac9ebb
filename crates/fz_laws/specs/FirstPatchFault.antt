-- The first fault of a patch: of the headers of both files, then of the rows of the tiles with a pixel in the box, and then of the room that
-- the new codes need; and the writes of a patch without a fault (FITS 4.0, sections 4.4.1.2, 7.3.5 and 10.1.3).
use Rattle.std.specs.Prelude.{ℕ, ◌≡◌, ◌⊎◌, ◌+◌, ◌-◌, ◌^◌, ◌&&◌, ◌||◌, not, nat_lt, Bool, ℤ, List, [], ◌∷◌, length, Option, Some, None, Result, Ok, Err, ⊤}
use Rattle.fz_base.specs.Refusal.{refusal, first_refusal}
use Rattle.fz_base.specs.declared.fault.Fault.{Fault}
use Rattle.fz_base.specs.declared.fault.Place.TheVariants.{Card}
use Rattle.fz_base.specs.declared.kind.Kind.TheVariants.{Limit}
use Rattle.fz_block.specs.declared.header.Header.{Header}
use Rattle.fz_files.specs.FirstFault.{IsFirstRowFault, picked_rows}
use Rattle.fz_files.specs.Packed.{heap_of}
use Rattle.fz_files.specs.Restored.{RowStandsFor, header_in, plan_in}
use Rattle.fz_laws.specs.Amends.{applied}
use Rattle.fz_laws.specs.PatchChecks.{patch_target}
use Rattle.fz_laws.specs.PatchForm.{is_wide_table}
use Rattle.fz_laws.specs.Given.{Given, PatchJob, box_sieve, given_by}
use Rattle.fz_laws.specs.NewNumbers.{box_tiles}
use Rattle.fz_laws.specs.Writes.{Steps, all_writes, grown_end, new_codes, steps_of}

-- the rows of these tiles stand for these numbers, a list for each
abbrev pub RowsHaveNumbers : List ℕ → Header → List ℕ → List (List ℤ) → Type 0
RowsHaveNumbers file h [] [] = ⊤
RowsHaveNumbers file h [] (xs ∷ more) = ⊥
RowsHaveNumbers file h (t ∷ ts) [] = ⊥
RowsHaveNumbers file h (t ∷ ts) (xs ∷ more) = RowStandsFor file h t xs × RowsHaveNumbers file h ts more

-- so do those of the tiles with a pixel in the box
abbrev pub BoxHasNumbers : List ℕ → Header → Given → List (List ℤ) → Type 0
BoxHasNumbers file h g olds = RowsHaveNumbers file h (box_tiles (plan_in file h) g) olds

-- how many bytes the new codes have
abbrev pub codes_len : List ℕ → Header → Given → List (List ℤ) → ℕ
codes_len file h g olds = length (heap_of (new_codes (plan_in file h) g (box_tiles (plan_in file h) g) olds))

-- the heap with so many bytes more can be said: an offset has 31 bits in a column of P, PCOUNT has 18 digits, and an HDU ends at byte 2^62
-- at most
abbrev pub room_check : List ℕ → Header → ℕ → Bool × Fault
room_check file h more = (
  (not (is_wide_table (header_in file h)) && nat_lt 2147483647 (h.pcount + more))
      || (nat_lt (10 ^ 18 - 1) (h.pcount + more)
      || nat_lt (2 ^ 62) (grown_end h more)),
  refusal h.hdu (Card 5) Limit,
)

-- the first fault of the rows of the box, or, if there is none, that of the room for the new codes, or none
abbrev pub IsBoxFault : List ℕ → Header → Given → Option Fault → Type 0
IsBoxFault file h g found =
    ((fault : Fault) × (found ≡ Some fault) × IsFirstRowFault file (picked_rows file (box_sieve g) h) (Some fault))
    ⊎ ((olds : List (List ℤ)) × BoxHasNumbers file h g olds × (found ≡ first_refusal (room_check file h (codes_len file h g olds) ∷ [])))

abbrev pub IsFaultBehindTarget : List ℕ → Given → Result Header Fault → Option Fault → Type 0
IsFaultBehindTarget file g (Err fault) found = found ≡ Some fault
IsFaultBehindTarget file g (Ok h) found = IsBoxFault file h g found

-- the first fault of a patch of a file by another, or none
abbrev pub IsFirstPatchFault : List ℕ → List ℕ → PatchJob → Option Fault → Type 0
IsFirstPatchFault file patch job found = IsFaultBehindTarget file (given_by patch job) (patch_target file patch job) found

-- The writes of a patch that has no fault: of the HDU with this header, whose tiles with a pixel in the box have these numbers.
pub record ArePatchSteps (file patch : List ℕ) (job : PatchJob) (h : Header) (steps : Steps) : Type 0 where
  pub target : patch_target file patch job ≡ Ok h
  pub olds : List (List ℤ)
  pub numbers : BoxHasNumbers file h (given_by patch job) olds
  pub room : first_refusal (room_check file h (codes_len file h (given_by patch job) olds) ∷ []) ≡ None
  pub steps_are : steps ≡ steps_of file h (given_by patch job) olds

-- The patched file: the file after all its writes.
pub record IsPatchedFile (file patch : List ℕ) (job : PatchJob) (new : List ℕ) : Type 0 where
  pub header : Header
  pub steps : Steps
  pub are : ArePatchSteps file patch job header steps
  pub made : new ≡ applied (all_writes steps) file
