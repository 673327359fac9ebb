-- What the jobs do with the files of `drill`, for each number of rows and each codec: the statements of laws.
use Rattle.std.specs.Prelude.{ℕ, ◌≡◌, ◌≤◌, ◌^◌, List, None, length}
use Rattle.fz_tile.specs.Plain.{AreBytes}
use Rattle.fz_head.specs.declared.options.CodecWord.{CodecWord}
use Rattle.fz_files.specs.Buffers.{job_bound}
use Rattle.fz_files.specs.CutoutBytes.{IsCutout}
use Rattle.fz_files.specs.Drill.{drill_file, drill_options, drill_packed, drill_sieve}
use Rattle.fz_files.specs.FirstFault.{IsFirstFault}
use Rattle.fz_files.specs.Packed.{IsPackedFile}
use Rattle.fz_files.specs.StandsFor.{StandsFor}
use Rattle.fz_files.specs.declared.job.Job.TheVariants.{Pack, Unpack, Cut}
use Rattle.fz_drill.specs.Bound.{drill_bound}
use Rattle.fz_drill.specs.Files.{IsRows, part_file}

-- `pack` refuses nothing of the file, stays within the bound, and makes the one packed file of it
pub record Packs (rows : ℕ) (codec : CodecWord) : Type 0 where
  pub sound : IsFirstFault (Pack (drill_options codec)) (drill_file rows) None
  pub bound : job_bound (Pack (drill_options codec)) (drill_file rows) 4 ≤ drill_bound rows
  pub one : (bytes : List ℕ) → IsPackedFile (drill_options codec) (drill_file rows) bytes → bytes ≡ drill_packed rows codec

-- `unpack` refuses nothing of the packed file, stays within the bound, and makes the file again
pub record Unpacks (rows : ℕ) (codec : CodecWord) : Type 0 where
  pub sound : IsFirstFault Unpack (drill_packed rows codec) None
  pub bound : job_bound Unpack (drill_packed rows codec) 4 ≤ drill_bound rows
  pub one : (bytes : List ℕ) → StandsFor (drill_packed rows codec) bytes → bytes ≡ drill_file rows

-- `cut` refuses nothing of it either, stays within the bound, and makes the part
pub record Cuts (rows : ℕ) (codec : CodecWord) : Type 0 where
  pub sound : IsFirstFault (Cut None (drill_sieve rows)) (drill_packed rows codec) None
  pub bound : job_bound (Cut None (drill_sieve rows)) (drill_packed rows codec) 4 ≤ drill_bound rows
  pub one : (bytes : List ℕ) → IsCutout None (drill_sieve rows) (drill_packed rows codec) bytes → bytes ≡ part_file rows

-- a packed file that is taken: one that is longer never comes
abbrev pub IsHeld : ℕ → CodecWord → Type 0
IsHeld rows codec = length (drill_packed rows codec) ≤ 2 ^ 40

abbrev pub FilesArePacked : Type 0
FilesArePacked = (rows : ℕ) (codec : CodecWord) → IsRows rows → Packs rows codec

abbrev pub FilesComeBack : Type 0
FilesComeBack = (rows : ℕ) (codec : CodecWord) → IsRows rows → AreBytes (drill_file rows) → IsHeld rows codec → Unpacks rows codec

abbrev pub PartsAreCut : Type 0
PartsAreCut = (rows : ℕ) (codec : CodecWord) → IsRows rows → AreBytes (drill_file rows) → IsHeld rows codec → Cuts rows codec
