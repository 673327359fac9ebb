-- The buffers of a patch and their bound. All are taken from one meter: one block; room for the headers of the file while the block is live,
-- once for the checks of every job and once more up to the wanted HDU; the header of that HDU, which is kept; that of the given image while
-- both are live; and then, at once and before anything is written, what the work on tiles takes.
use Rattle.std.specs.Prelude.{ℕ, ◌+◌, ◌*◌, max, false, List, [], ◌∷◌, ◌++◌, map, Option, Some, None, Result, Ok, Err}
use Rattle.fz_base.specs.JobBuffers.{buffer_bound}
use Rattle.fz_base.specs.Refusal.{first_refusal}
use Rattle.fz_base.specs.Takings.{piled}
use Rattle.fz_base.specs.declared.fault.Fault.{Fault}
use Rattle.fz_block.specs.Checks.{header_blocks_of, headers_of, unjudged}
use Rattle.fz_block.specs.Takings.{header_taking}
use Rattle.fz_block.specs.declared.header.Header.{Header}
use Rattle.fz_checks.specs.Greatest.{greatest}
use Rattle.fz_checks.specs.WorkBuffers.{pixels_of_tile, work_buffers}
use Rattle.fz_files.specs.Buffers.{found_len, header_len, room_takings}
use Rattle.fz_files.specs.Restored.{plan_in}
use Rattle.fz_files.specs.Walks.{reached_from}
use Rattle.fz_laws.specs.PatchChecks.{find_judge, own_checks, patch_target, target_checks, wanted_image}
use Rattle.fz_laws.specs.Given.{PatchJob}

-- ---- the takings, each with what is live before it

-- what is live while tiles are worked on, and what the work takes: one worker, whose two slots hold tiles of this image, and the copy buffer
abbrev pub kept_live : Header → ℕ
kept_live h = 2880 + 2880 * h.blocks

abbrev pub tile_takings : List ℕ → Header → Option Fault → List (ℕ × ℕ)
tile_takings file h (Some fault) = []
tile_takings file h None = piled (kept_live h) (work_buffers 0 false (Some (pixels_of_tile (plan_in file h))) 1)

-- the header of the given image, if no check before it refuses, and then the work
abbrev pub given_takings : List ℕ → List ℕ → PatchJob → Header → Option Fault → List (ℕ × ℕ)
given_takings file patch job h (Some fault) = []
given_takings file patch job h None =
    header_taking (kept_live h) (header_blocks_of 0 0 patch) ++ tile_takings file h (first_refusal (target_checks file patch h job))

abbrev pub target_takings : List ℕ → List ℕ → PatchJob → Result Header Fault → List (ℕ × ℕ)
target_takings file patch job (Err fault) = []
target_takings file patch job (Ok h) = (2880, 2880 * h.blocks) ∷ given_takings file patch job h (first_refusal (own_checks file h job))

-- the second look at the headers, if the first refuses none
abbrev pub second_takings : List ℕ → List ℕ → PatchJob → Result (List Header) Fault → List (ℕ × ℕ)
second_takings file patch job (Err fault) = []
second_takings file patch job (Ok hs) =
    room_takings (find_judge job.wanted file) 2880 65536 file ++ target_takings file patch job (wanted_image job.wanted file)

unfoldable pub patch_takings : List ℕ → List ℕ → PatchJob → List (ℕ × ℕ)
patch_takings file patch job =
    (0, 2880) ∷ (room_takings unjudged 2880 65536 file ++ second_takings file patch job (headers_of 65536 file))

-- ---- the bound

-- the length of the header of the given image, if it is read
abbrev pub given_len : List ℕ → Option Fault → ℕ
given_len patch (Some fault) = 0
given_len patch None = found_len (header_blocks_of 0 0 patch)

abbrev pub given_len_by : List ℕ → List ℕ → PatchJob → Result Header Fault → ℕ
given_len_by file patch job (Err fault) = 0
given_len_by file patch job (Ok h) = given_len patch (first_refusal (own_checks file h job))

abbrev pub given_len_after : List ℕ → List ℕ → PatchJob → Result (List Header) Fault → ℕ
given_len_after file patch job (Err fault) = 0
given_len_after file patch job (Ok hs) = given_len_by file patch job (wanted_image job.wanted file)

-- the longest header that is read of both files
abbrev pub longest_read : List ℕ → List ℕ → PatchJob → ℕ
longest_read file patch job =
    max (greatest (map (header_len file) (reached_from unjudged 65536 0 0 file))) (given_len_after file patch job (headers_of 65536 file))

-- the pixels of the largest tile of the image; 0 if a header is refused
abbrev pub target_tile : List ℕ → Result Header Fault → ℕ
target_tile file (Err fault) = 0
target_tile file (Ok h) = pixels_of_tile (plan_in file h)

abbrev pub patch_bound : List ℕ → List ℕ → PatchJob → ℕ
patch_bound file patch job = buffer_bound (longest_read file patch job) (target_tile file (patch_target file patch job)) 1
