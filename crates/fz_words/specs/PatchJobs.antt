-- What the words of `patch` ask for.
use Rattle.std.specs.Prelude.{ℕ, Bool, false, List, [], ◌∷◌, codes, Option, Some, None, if◌then◌else◌}
use Rattle.std.specs.List.{list_all}
use Rattle.std.specs.Str.{bytes_eq}
use Rattle.fz_block.specs.declared.axes.Axes.{Axes}
use Rattle.fz_words.specs.Jobs.{LineIs, at_of, hdu_of, line_of, memory_of, names_in, with_some}
use Rattle.fz_words.specs.Parts.{is_inside}
use Rattle.fz_words.specs.declared.table.Command.TheVariants.{Patch}

-- The HDU with the packed image, or none for the first that is packed; where the first pixel goes, a place along each axis, counted from 1;
-- the limit on memory in bytes; and the names of the file with the image that is put in and of the file that is changed.
pub record PatchAsked : Type 0 where
  pub hdu : Option ℕ
  pub at : Axes
  pub memory : ℕ
  pub patch : List ℕ
  pub file : List ℕ

abbrev pub patch_of : LineIs → Option PatchAsked
patch_of line =
    with_some (hdu_of line) (λ hdu.
    with_some (at_of line) (λ at.
    with_some (memory_of line) (λ memory.
    with_some (names_in line.operands) (λ names.
    Some (record { hdu = hdu; at = at; memory = memory; patch = names.input; file = names.output })))))

-- what the words after the command ask for: each is an option of the command, its value or an operand
abbrev pub patch_of_line : LineIs → Option PatchAsked
patch_of_line line = if list_all is_inside line.parts then patch_of line else None

-- the first word is `patch`
abbrev pub begins_patch : List (List ℕ) → Bool
begins_patch [] = false
begins_patch (first ∷ words) = bytes_eq first (codes "patch")

-- what the words ask for, if they do; the first is the command
unfoldable pub patch_job_of : List (List ℕ) → Option PatchAsked
patch_job_of [] = None
patch_job_of (first ∷ words) = if bytes_eq first (codes "patch") then patch_of_line (line_of Patch words) else None
