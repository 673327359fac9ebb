-- An HDU that is read again, and what is known of it then (FITS 4.0, sections 3.1 and 10.1).
use Rattle.std.specs.Prelude.{ℕ, ◌≡◌, ◌+◌, ◌-◌, ◌*◌, ◌≤◌, List, length, take, Some, Ok}
use Rattle.std.specs.Option.{ForSome}
use Rattle.fz_table.specs.Rows.{IsTable}
use Rattle.fz_checks.specs.JobChecks.{image_to_unpack}
use Rattle.fz_files.specs.Restored.{pixels_of}
use Rattle.fz_files.specs.RestoredFile.{restored}
use Rattle.fz_job.specs.Surveys.{surveyed}
use Rattle.fz_job.specs.declared.checks.JobChecks.TheVariants.{Unpack as UnpackChecks}
use Rattle.fz_job.specs.declared.survey.Survey.{Survey}
use Rattle.fz_look.specs.Here.{IsInOrder, IsPlaced, IsReadHeader, here_of, made_header}
use Rattle.fz_look.specs.declared.here.Here.{Here}
use Rattle.fz_look.specs.declared.looked.Space.{Space}
use Rattle.fz_retile.specs.declared.reading.Begin.{Begin}

-- the HDU that begins there stands for something, in a file that the first look knows and that stands for so many bytes
pub record IsBegun (g : List ℕ) (s : Survey) (plain_len : ℕ) (b : Begin) : Type 0 where
  pub sound : surveyed UnpackChecks g ≡ Ok s
  pub long : length (restored g) ≡ plain_len
  pub placed : IsPlaced g b.hdu b.start b.after_empty b.at

-- what is known of it whatever the source shows: its places, its header in this buffer, and its image
pub record IsReadHere (plain_len length_is room tile : ℕ) (buf : List ℕ) (h : Here) : Type 0 where
  pub order : IsInOrder plain_len length_is room h
  pub header : IsReadHeader (take (2880 * h.read.header.blocks) buf) h.read.header
  pub image : image_to_unpack h.read.header (take (2880 * h.read.header.blocks) buf) h.after_empty ≡ Ok h.read.image
  pub table : ForSome h.read.image (λ i. IsTable i.table)
  pub near : ForSome h.read.image (λ i. i.table.heap_at + i.table.heap_len ≤ length_is)
  pub small : ForSome h.read.image (λ i. pixels_of i.plan 0 ≤ tile)

-- and if it shows its bytes
pub record IsToldHere (g made : List ℕ) (h : Here) : Type 0 where
  pub here : here_of g h.read.header.hdu ≡ Some h
  pub made_is : take (h.data_at - h.at) made ≡ made_header g h.read.header

-- the buffers of headers keep their lengths, and the others stay as they are
pub record HeadersStay (old new : Space) : Type 0 where
  pub block : length new.block ≡ length old.block
  pub header : length new.header ≡ length old.header
  pub translated : length new.translated ≡ length old.translated
  pub numbers : new.numbers ≡ old.numbers
  pub code : new.code ≡ old.code
  pub band : new.band ≡ old.band
