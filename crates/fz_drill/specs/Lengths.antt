-- How long the files of `drill` are, and that its jobs stay within its bound: the statements of laws.
use Rattle.std.specs.Prelude.{ℕ, ◌≡◌, ◌+◌, ◌*◌, ◌≤◌, List, None, length}
use Rattle.fz_base.specs.Takings.{first_past}
use Rattle.fz_block.specs.Header.{whole_blocks_of}
use Rattle.fz_head.specs.declared.options.CodecWord.{CodecWord}
use Rattle.fz_head.specs.declared.options.CodecWord.TheVariants as word
use Rattle.fz_files.specs.Buffers.{job_bound, job_takings}
use Rattle.fz_files.specs.Drill.{drill_file, drill_packed}
use Rattle.fz_files.specs.declared.job.Job.TheVariants.{Drill}
use Rattle.fz_drill.specs.Files.{IsRows}

-- a header of one block, and 512 bytes of pixels for each row
abbrev pub PlainFilesAreLong : Type 0
PlainFilesAreLong = (rows : ℕ) → IsRows rows → length (drill_file rows) ≡ 2880 + whole_blocks_of (512 * rows)

-- an empty primary, a header of one block, and for each row 16 bytes and its pixels, or its code if that is shorter
abbrev pub PackedFilesAreShort : Type 0
PackedFilesAreShort =
    (rows : ℕ) (codec : CodecWord) → IsRows rows
    → (8640 ≤ length (drill_packed rows codec)) × (length (drill_packed rows codec) ≤ 5760 + whole_blocks_of (528 * rows))

-- without a codec all pixels are stored
abbrev pub StoredFilesAreLong : Type 0
StoredFilesAreLong = (rows : ℕ) → IsRows rows → length (drill_packed rows word.None) ≡ 5760 + whole_blocks_of (528 * rows)

-- no taking of `drill` passes its bound
abbrev pub DrillsAreBounded : Type 0
DrillsAreBounded =
    (rows : ℕ) (file : List ℕ) (asked : ℕ) → IsRows rows
    → first_past (job_bound (Drill rows) file asked) (job_takings (Drill rows) file asked) ≡ None
