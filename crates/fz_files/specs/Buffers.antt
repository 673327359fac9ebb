-- The buffers of a job and their bound. All are taken from one meter: one block; room for the headers while the block is live; and
-- then, at once and before anything is written, what the work takes.
use Rattle.std.specs.Prelude.{ℕ, ◌≡◌, ◌*◌, max, true, false, List, [], ◌∷◌, ◌++◌, map, Option, Some, None, Result, Ok, Err, ⊤}
use Rattle.std.specs.List.{filter}
use Rattle.fz_base.specs.JobBuffers.{buffer_bound}
use Rattle.fz_base.specs.Takings.{piled, first_past}
use Rattle.fz_base.specs.declared.fault.Fault.{Fault}
use Rattle.fz_block.specs.Checks.{Judge, header_blocks_of}
use Rattle.fz_block.specs.Takings.{walk_takings}
use Rattle.fz_block.specs.declared.header.Header.{Header}
use Rattle.fz_checks.specs.Greatest.{greatest}
use Rattle.fz_checks.specs.Judges.{pack_judge, unpack_judge, cut_judge}
use Rattle.fz_head.specs.Packable.{is_packable}
use Rattle.fz_head.specs.Planned.{pack_plan_of}
use Rattle.fz_head.specs.declared.options.PackOptions.{PackOptions}
use Rattle.fz_checks.specs.WorkBuffers.{pixels_of_tile, work_buffers}
use Rattle.fz_head.specs.declared.plan.Plan.{Plan}
use Rattle.fz_files.specs.declared.job.Job.{Job}
use Rattle.fz_files.specs.declared.job.Job.TheVariants.{Pack, Unpack, Cut, Verify, List as ListHdus, Drill, Retile}
use Rattle.fz_head.specs.declared.options.CodecWord.{CodecWord}
use Rattle.fz_head.specs.declared.options.CodecWord.TheVariants as word
use Rattle.fz_files.specs.Drill.{drill_file, drill_options, drill_packed, drill_sieve}
use Rattle.fz_files.specs.Restored.{is_image, plan_in}
use Rattle.fz_files.specs.Retiled.{plain_of}
use Rattle.fz_files.specs.Walks.{Reached, box_of, header_fault, headers_for, last_of, reached_by}

-- the length of a header whose END was found
abbrev pub found_len : Result ℕ Fault → ℕ
found_len (Ok blocks) = 2880 * blocks
found_len (Err fault) = 0

abbrev pub header_len : List ℕ → Reached → ℕ
header_len file r = found_len (header_blocks_of r.hdu r.start file)

-- the longest header that the checks of a job come to, or 0
abbrev pub longest_reached : Job → List ℕ → ℕ
longest_reached job file = greatest (map (header_len file) (reached_by job file))

-- the same of the file that is packed anew, if there is one
abbrev pub longest_plain : PackOptions → Option (List ℕ) → ℕ
longest_plain o None = 0
longest_plain o (Some plain) = longest_reached (Pack o) plain

-- The longest header that a job meets, or 0. The headers of `drill` have one block; `retile` meets those of two files.
abbrev pub longest_header : Job → List ℕ → ℕ
longest_header (Drill rows) file = 2880
longest_header (Retile o) file = max (longest_reached Unpack file) (longest_plain o (plain_of file))
longest_header job file = longest_reached job file

-- the plans of the images whose tiles a job works on
abbrev pub plans_for : Job → List ℕ → List Header → List Plan
plans_for (Pack o) file hs = map (pack_plan_of o) (filter is_packable hs)
plans_for Unpack file hs = map (plan_in file) (filter (is_image file) hs)
plans_for (Cut wanted sieve) file hs = map (plan_in file) (last_of hs)
plans_for Verify file hs = map (plan_in file) (filter (is_image file) hs)
plans_for ListHdus file hs = []
plans_for (Drill rows) file hs = []
plans_for (Retile o) file hs = map (plan_in file) (filter (is_image file) hs)

-- no tile is worked on if a header is refused
abbrev pub plans_behind : Option Fault → Job → List ℕ → List Plan
plans_behind (Some fault) job file = []
plans_behind None job file = plans_for job file (headers_for job file)

-- the pixels of the largest tile of a file that a job works on, or 0
abbrev pub largest_behind : Job → List ℕ → ℕ
largest_behind job file = greatest (map pixels_of_tile (plans_behind (header_fault job file) job file))

-- the same of the file that is packed anew, if there is one
abbrev pub largest_plain : PackOptions → Option (List ℕ) → ℕ
largest_plain o None = 0
largest_plain o (Some plain) = largest_behind (Pack o) plain

-- The pixels of the largest tile that a job works on, or 0. Those of `drill` are rows of 256; `retile` works on the tiles of two files.
abbrev pub largest_tile : Job → List ℕ → ℕ
largest_tile (Drill rows) file = 256
largest_tile (Retile o) file = max (largest_behind Unpack file) (largest_plain o (plain_of file))
largest_tile job file = largest_behind job file

-- how many workers a job has that is asked for so many: `verify` and `list` have one, `drill` four
abbrev pub workers_of : Job → ℕ → ℕ
workers_of (Pack o) asked = asked
workers_of Unpack asked = asked
workers_of (Cut wanted sieve) asked = asked
workers_of Verify asked = 1
workers_of ListHdus asked = 1
workers_of (Drill rows) asked = 4
workers_of (Retile o) asked = asked

-- the bound of a job on a file, asked for so many workers
abbrev pub job_bound : Job → List ℕ → ℕ → ℕ
job_bound job file asked = buffer_bound (longest_header job file) (largest_tile job file) (workers_of job asked)

-- of the two meters of `retile`, the bound of that with the buffers in which the file is packed anew: the other has that of `unpack`
abbrev pub packing_bound : PackOptions → List ℕ → ℕ → ℕ
packing_bound o file asked = buffer_bound (longest_header (Retile o) file) (largest_plain o (plain_of file)) asked

-- What the work of a job takes for headers of at most H bytes and tiles of at most n pixels, with W workers. If nothing is written
-- no header is translated, and `list` looks only at headers. `drill` and `retile` have no buffers of their own, but those of the jobs that they
-- run.
abbrev pub job_buffers : Job → ℕ → ℕ → ℕ → List ℕ
job_buffers (Pack o) H n W = work_buffers H true (Some n) W
job_buffers Unpack H n W = work_buffers H true (Some n) W
job_buffers (Cut wanted sieve) H n W = work_buffers H true (Some n) W
job_buffers Verify H n W = work_buffers H false (Some n) W
job_buffers ListHdus H n W = work_buffers H false None W
job_buffers (Drill rows) H n W = []
job_buffers (Retile o) H n W = []

-- A look first takes room for 22 blocks, with so many bytes live before. Each header is read into the room. The room goes back before a
-- longer header is taken in its place, which is then the room. The list has every header, also those that fit and take nothing: such a
-- header is no longer than a taking before it, so it changes neither the first taking past a limit nor the greatest sum.
abbrev pub room_takings : Judge → ℕ → ℕ → List ℕ → List (ℕ × ℕ)
room_takings judge live most file = (live, 63360) ∷ walk_takings judge live most 0 0 file

-- the headers, while one block is live
abbrev pub header_takings : Job → List ℕ → List (ℕ × ℕ)
header_takings (Pack o) file = room_takings (pack_judge o file) 2880 65535 file
header_takings Unpack file = room_takings (unpack_judge file) 2880 65536 file
header_takings (Cut wanted sieve) file = room_takings (cut_judge wanted (box_of sieve) file) 2880 65536 file
header_takings Verify file = room_takings (unpack_judge file) 2880 65536 file
header_takings ListHdus file = room_takings (unpack_judge file) 2880 65536 file
header_takings (Drill rows) file = []
header_takings (Retile o) file = room_takings (unpack_judge file) 2880 65536 file

-- the work of a job is taken if no header is refused
abbrev pub work_takings : Option Fault → Job → List ℕ → ℕ → List (ℕ × ℕ)
work_takings (Some fault) job file W = []
work_takings None job file W = piled 2880 (job_buffers job (longest_header job file) (largest_tile job file) W)

-- what a job with W workers takes of its meter for a file, each taking with what is live before it
abbrev pub file_takings : Job → List ℕ → ℕ → List (ℕ × ℕ)
file_takings job file W = (0, 2880) ∷ (header_takings job file ++ work_takings (header_fault job file) job file W)

-- `drill` packs its file with each codec, unpacks what came out, and cuts from it
abbrev pub drill_takings : ℕ → CodecWord → List (ℕ × ℕ)
drill_takings N codec =
    file_takings (Pack (drill_options codec)) (drill_file N) 4
    ++ (file_takings Unpack (drill_packed N codec) 4
    ++ file_takings (Cut None (drill_sieve N)) (drill_packed N codec) 4)

-- the file that is packed anew, if there is one, is packed as `pack` packs it
abbrev pub plain_takings : PackOptions → Option (List ℕ) → ℕ → List (ℕ × ℕ)
plain_takings o None W = []
plain_takings o (Some plain) W = file_takings (Pack o) plain W

-- What a job takes that is asked for so many workers, of its meter, and `retile` of two: first what `unpack` takes, and then what `pack` takes.
abbrev pub job_takings : Job → List ℕ → ℕ → List (ℕ × ℕ)
job_takings (Pack o) file asked = file_takings (Pack o) file asked
job_takings Unpack file asked = file_takings Unpack file asked
job_takings (Cut wanted sieve) file asked = file_takings (Cut wanted sieve) file asked
job_takings Verify file asked = file_takings Verify file 1
job_takings ListHdus file asked = file_takings ListHdus file 1
job_takings (Retile o) file asked = file_takings Unpack file asked ++ plain_takings o (plain_of file) asked
job_takings (Drill rows) file asked = drill_takings rows word.Rice ++ (drill_takings rows word.Plio ++ drill_takings rows word.None)

-- of these, what it takes of the meter that it is given: `retile` makes one of its own for what `unpack` takes
abbrev pub own_takings : Job → List ℕ → ℕ → List (ℕ × ℕ)
own_takings (Pack o) file asked = job_takings (Pack o) file asked
own_takings Unpack file asked = job_takings Unpack file asked
own_takings (Cut wanted sieve) file asked = job_takings (Cut wanted sieve) file asked
own_takings Verify file asked = job_takings Verify file asked
own_takings ListHdus file asked = job_takings ListHdus file asked
own_takings (Drill rows) file asked = job_takings (Drill rows) file asked
own_takings (Retile o) file asked = plain_takings o (plain_of file) asked

-- and the bound of that meter
abbrev pub own_bound : Job → List ℕ → ℕ → ℕ
own_bound (Pack o) file asked = job_bound (Pack o) file asked
own_bound Unpack file asked = job_bound Unpack file asked
own_bound (Cut wanted sieve) file asked = job_bound (Cut wanted sieve) file asked
own_bound Verify file asked = job_bound Verify file asked
own_bound ListHdus file asked = job_bound ListHdus file asked
own_bound (Drill rows) file asked = job_bound (Drill rows) file asked
own_bound (Retile o) file asked = packing_bound o file asked

-- the job works on a file that it is given, and not on its own
abbrev pub IsOfFile : Job → Type 0
IsOfFile (Pack o) = ⊤
IsOfFile Unpack = ⊤
IsOfFile (Cut wanted sieve) = ⊤
IsOfFile Verify = ⊤
IsOfFile ListHdus = ⊤
IsOfFile (Drill rows) = ⊥
IsOfFile (Retile o) = ⊤

-- every taking of a job on a file stays within its bound
abbrev pub AreBounded : Type 0
AreBounded = (job : Job) (file : List ℕ) (asked : ℕ) → IsOfFile job → first_past (job_bound job file asked) (job_takings job file asked) ≡ None
