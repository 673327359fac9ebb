-- Which bytes of a file a job may read (FITS 4.0, sections 3.1, 3.3, 7.3.5 and 10.1).
use Rattle.std.specs.Prelude.{ℕ, ◌-◌, List, [], ◌∷◌, ◌++◌, Option, Some, None, Result, Ok, Err, if◌then◌else◌}
use Rattle.std.specs.List.{flat_map}
use Rattle.fz_base.specs.declared.fault.Fault.{Fault}
use Rattle.fz_block.specs.Checks.{hdu_at}
use Rattle.fz_block.specs.Header.{data_start_of, next_start_of}
use Rattle.fz_block.specs.declared.header.Header.{Header}
use Rattle.fz_checks.specs.JobChecks.{data_end_of}
use Rattle.fz_head.specs.Packable.{is_packable}
use Rattle.fz_files.specs.Cutout.{ranges_of_row, touched}
use Rattle.fz_files.specs.FirstFault.{rows_of}
use Rattle.fz_files.specs.Reads.{header_ranges}
use Rattle.fz_files.specs.Restored.{is_image}
use Rattle.fz_files.specs.Walks.{Reached, header_fault, headers_for, reached_by}
use Rattle.fz_files.specs.declared.job.Job.{Job}
use Rattle.fz_files.specs.declared.job.Job.TheVariants.{Pack, Unpack, Cut, Verify, List as ListHdus, Drill, Retile}

-- the data of an HDU with their padding, as a range
abbrev pub data_range : Header → ℕ × ℕ
data_range h = (data_start_of h, next_start_of h - data_start_of h)

-- the descriptors of all rows of a packed image, and of each record what counts, as far as no check rejects the row
abbrev pub image_ranges : List ℕ → Header → List (ℕ × ℕ)
image_ranges file h = flat_map (ranges_of_row file) (rows_of file h)

-- the same of an HDU that is packed; of any other nothing
abbrev pub packed_ranges : List ℕ → Header → List (ℕ × ℕ)
packed_ranges file h = if is_image file h then image_ranges file h else []

-- the padding after the data of an image that can be packed, which the checks of `pack` may read; of any other HDU nothing
abbrev pub fill_of : Result Header Fault → List (ℕ × ℕ)
fill_of (Ok h) = if is_packable h then (data_end_of h, next_start_of h - data_end_of h) ∷ [] else []
fill_of (Err fault) = []

-- the same of an HDU that the checks come to
abbrev pub fill_ranges : List ℕ → Reached → List (ℕ × ℕ)
fill_ranges file r = fill_of (hdu_at r.hdu r.start file)

-- What a job may read of an HDU after its header, if it comes to all HDUs: `pack` the data with their padding; `unpack` the rows and records of
-- a packed image, and the data of any other HDU with their padding, which it copies; `verify` the rows and records of a packed image, and the
-- data of every HDU with their padding, of which it computes the checksums; `retile` what `unpack` reads. `cut` has its own definition; `list`
-- and `drill` read no data.
abbrev pub data_touched : Job → List ℕ → Header → List (ℕ × ℕ)
data_touched (Pack options) file h = data_range h ∷ []
data_touched Unpack file h = if is_image file h then image_ranges file h else data_range h ∷ []
data_touched (Cut wanted sieve) file h = []
data_touched Verify file h = packed_ranges file h ++ data_range h ∷ []
data_touched ListHdus file h = []
data_touched (Drill rows) file h = []
data_touched (Retile o) file h = if is_image file h then image_ranges file h else data_range h ∷ []

-- the same of all HDUs, if no header is rejected; otherwise nothing
unfoldable pub all_data_touched : Option Fault → Job → List ℕ → List (ℕ × ℕ)
all_data_touched (Some fault) job file = []
all_data_touched None job file = flat_map (data_touched job file) (headers_for job file)

-- the headers of the HDUs that the checks of a job come to, and their data
abbrev pub hdus_touched : Job → List ℕ → List (ℕ × ℕ)
hdus_touched job file = header_ranges job file ++ all_data_touched (header_fault job file) job file

-- the ranges of a file that a job may read; `drill` is given no file
abbrev pub touched_by : Job → List ℕ → List (ℕ × ℕ)
touched_by (Pack options) file = flat_map (fill_ranges file) (reached_by (Pack options) file) ++ hdus_touched (Pack options) file
touched_by Unpack file = hdus_touched Unpack file
touched_by (Cut wanted sieve) file = touched wanted sieve file
touched_by Verify file = hdus_touched Verify file
touched_by ListHdus file = header_ranges ListHdus file
touched_by (Drill rows) file = []
touched_by (Retile o) file = hdus_touched (Retile o) file
