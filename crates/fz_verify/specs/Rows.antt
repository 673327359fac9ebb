-- The rows of an HDU that may be packed (FITS 4.0, sections 7.3.5 and 10.1).
use Rattle.std.specs.Prelude.{ℕ, ◌≡◌, Bool, true, List, [], ◌∷◌, Some, None, IsOk}
use Rattle.fz_base.specs.declared.fault.Fault.{Fault}
use Rattle.fz_block.specs.declared.header.Header.{Header}
use Rattle.fz_block.specs.Facts.{IsHeaderOf}
use Rattle.fz_checks.specs.JobChecks.{image_to_unpack}
use Rattle.fz_files.specs.FirstFault.{IsFirstRowFault, IsRowFault, IsRowSound, all_rows, image_row}
use Rattle.fz_files.specs.Restored.{header_in, is_image}

-- no row of the HDU is refused
abbrev pub IsHduSound : List ℕ → Header → Type 0
IsHduSound file h = IsFirstRowFault file (all_rows file (h ∷ [])) None

-- this is the first fault of its rows
abbrev pub IsHduFault : List ℕ → Header → Fault → Type 0
IsHduFault file h x = IsFirstRowFault file (all_rows file (h ∷ [])) (Some x)

-- a row of an image of which no check of headers refuses anything either stands for pixels, or is refused
abbrev pub SoundRowsAreNotRefused : Type 0
SoundRowsAreNotRefused =
    (file : List ℕ) (h : Header) (after_empty : Bool) (row : ℕ) (x : Fault) → IsHeaderOf (header_in file h) h
    → IsOk (image_to_unpack h (header_in file h) after_empty) → is_image file h ≡ true
    → IsRowSound file (image_row h row) → ¬ (IsRowFault file (image_row h row) x)
