-- What is read of the HDUs of a file that were seen at the first look: headers, rows and data (FITS 4.0, sections 3.1, 7.3.5 and 10.1).
use Rattle.std.specs.Prelude.{ℕ, ◌≡◌, true, false, List, ◌∷◌, ◌++◌, Option}
use Rattle.std.specs.List.{flat_map}
use Rattle.fz_base.specs.Ranges.{LogsIn}
use Rattle.fz_base.specs.Source.{LogsWithin}
use Rattle.fz_block.specs.Checks.{header_touched}
use Rattle.fz_block.specs.Header.{data_start_of, next_start_of}
use Rattle.fz_block.specs.declared.header.Header.{Header}
use Rattle.fz_checks.specs.declared.job_checks.PackedImage.{PackedImage}
use Rattle.fz_files.specs.Restored.{is_image}
use Rattle.fz_files.specs.declared.job.Job.{Job}
use Rattle.fz_files.specs.declared.job.Job.TheVariants.{Unpack, Verify}
use Rattle.fz_job.specs.Images.{fetched_ranges, AreTilesOf, IsSaid}
use Rattle.fz_job.specs.declared.survey.Survey.{Survey}
use Rattle.fz_job.specs.Headers.{ranges_of_headers}
use Rattle.fz_job.specs.Known.{IsKnown, IsList}
use Rattle.fz_files.specs.Touched.{data_range, data_touched, hdus_touched, image_ranges}

-- what a job reads of the HDUs with these headers
abbrev pub ranges_of_hdus : Job → List ℕ → List Header → List (ℕ × ℕ)
ranges_of_hdus job file hs = ranges_of_headers file hs ++ flat_map (data_touched job file) hs

-- of the HDUs of a file that were seen a job read this and nothing else
abbrev pub ReadsHdus : Job → List ℕ → Survey → Option (List (ℕ × ℕ)) → Option (List (ℕ × ℕ)) → Type 0
ReadsHdus job file s old new = (hs : List Header) → IsList file s hs → LogsIn (ranges_of_hdus job file hs) old new

-- ---- what the law says

-- the header of one of some HDUs is one of theirs
abbrev pub HeaderIsOfHdus : Job → Type 0
HeaderIsOfHdus job =
    (file : List ℕ) (before after : List Header) (h : Header) (old new : Option (List (ℕ × ℕ))) → LogsWithin h.start (header_touched h.hdu h.start file) old new
    → LogsIn (ranges_of_hdus job file (before ++ h ∷ after)) old new

-- and so are its data
abbrev pub DataAreOfHdus : Job → Type 0
DataAreOfHdus job =
    (file : List ℕ) (before after : List Header) (h : Header) (old new : Option (List (ℕ × ℕ))) → LogsIn (data_touched job file h) old new
    → LogsIn (ranges_of_hdus job file (before ++ h ∷ after)) old new

-- tiles of a packed image are fetched from its rows and records
abbrev pub TilesAreOfImage : Type 0
TilesAreOfImage =
    (file : List ℕ) (h : Header) (image : PackedImage) (tiles : List ℕ) (old new : Option (List (ℕ × ℕ))) → IsSaid file h image → AreTilesOf image tiles
    → LogsIn (fetched_ranges file h tiles) old new → LogsIn (image_ranges file h) old new

-- the rows and records of a packed HDU, and the data of one that is copied, are what `unpack` reads of it
pub record UnpacksWithin : Type 0 where
  pub rows : (file : List ℕ) (h : Header) (old new : Option (List (ℕ × ℕ))) → is_image file h ≡ true → LogsIn (image_ranges file h) old new
      → LogsIn (data_touched Unpack file h) old new
  pub rest : (file : List ℕ) (h : Header) (old new : Option (List (ℕ × ℕ))) → is_image file h ≡ false → LogsWithin (data_start_of h) (next_start_of h) old new
      → LogsIn (data_touched Unpack file h) old new

-- the rows and records of a packed HDU, and the data of any, are what `verify` reads of it
pub record VerifiesWithin : Type 0 where
  pub rows : (file : List ℕ) (h : Header) (old new : Option (List (ℕ × ℕ))) → is_image file h ≡ true → LogsIn (image_ranges file h) old new
      → LogsIn (data_touched Verify file h) old new
  pub rest : (file : List ℕ) (h : Header) (old new : Option (List (ℕ × ℕ))) → LogsWithin (data_start_of h) (next_start_of h) old new
      → LogsIn (data_touched Verify file h) old new

-- what is read of the HDUs of a file that is known is what the job reads of the file
abbrev pub KnownAreTouched : Job → Type 0
KnownAreTouched job = (file : List ℕ) (s : Survey) (known : IsKnown job file s) → hdus_touched job file ≡ ranges_of_hdus job file known.headers
