-- The header of the HDU that is cut from, read once more after the first look (FITS 4.0, sections 3.1 and 10.1).
use Rattle.std.specs.Prelude.{ℕ, ◌≡◌, ◌+◌, ◌*◌, ◌≤◌, true, List, length, take, Option, Ok, Err, Result, ⊤}
use Rattle.fz_base.specs.Source.{Reads}
use Rattle.fz_base.specs.Stop.{IfRefused}
use Rattle.fz_base.specs.declared.failure.Stop.{Stop}
use Rattle.fz_block.specs.Checks.{hdu_at}
use Rattle.fz_block.specs.Facts.{IsHeaderOf}
use Rattle.fz_block.specs.declared.header.Header.{Header}
use Rattle.fz_grid.specs.Region.{IsWithin}
use Rattle.fz_grid.specs.declared.region.Region.{Region}
use Rattle.fz_head.specs.Conditions.{IsPackedPlan}
use Rattle.fz_checks.specs.JobChecks.{image_to_cut, is_after_empty}
use Rattle.fz_checks.specs.declared.job_checks.PackedImage.{PackedImage}
use Rattle.fz_files.specs.Restored.{header_in, pixels_of}
use Rattle.fz_job.specs.Images.{IsReadable}
use Rattle.fz_cut.specs.declared.again.Again.{Again}

-- the bytes of a header at the front of a buffer
abbrev pub header_at_front : Again → List ℕ → List ℕ
header_at_front a buf = take (2880 * a.header.blocks) buf

-- an image that can be read, whose header is this, in which this box ends, and whose table ends within so many bytes
pub record IsUsable (header : List ℕ) (h : Header) (len : ℕ) (region : Region) (image : PackedImage) : Type 0 where
  pub planned : IsPackedPlan header h image.plan
  pub readable : IsReadable image
  pub inside : image.table.heap_at + image.table.heap_len ≤ len
  pub within : IsWithin image.plan.shape region

-- The header of an HDU within so many bytes is at the front of the buffer, and no check refuses to cut this box from its image. Where
-- a packed primary is was looked at before.
pub record IsAgain (held : Option (List ℕ)) (len : ℕ) (region : Region) (buf : List ℕ) (a : Again) : Type 0 where
  pub room : 2880 * a.header.blocks ≤ length buf
  pub header : IsHeaderOf (header_at_front a buf) a.header
  pub read : Reads held a.header.start (header_at_front a buf)
  pub found : image_to_cut a.header (header_at_front a buf) true region ≡ Ok a.image
  pub usable : IsUsable (header_at_front a buf) a.header len region a.image

-- the HDU with this header passes all checks, also those of cutting this box from it, and is within what the first look learnt
pub record WasSeen (file : List ℕ) (region : Region) (header_len tile : ℕ) (h : Header) : Type 0 where
  pub found : hdu_at h.hdu h.start file ≡ Ok h
  pub is_header : IsHeaderOf (header_in file h) h
  pub short : 2880 * h.blocks ≤ header_len
  pub image : PackedImage
  pub said : image_to_cut h (header_in file h) (is_after_empty file h) region ≡ Ok image
  pub small : pixels_of image.plan 0 ≤ tile

-- the answer, if there is one, is this header
abbrev pub IsHeaderAnswered : Header → Result Again Stop → Type 0
IsHeaderAnswered h (Ok a) = a.header ≡ h
IsHeaderAnswered h (Err stop) = ⊤

-- an HDU that was seen is read as it was seen, and not refused
abbrev pub ReadsAsSeen : List ℕ → Region → ℕ → ℕ → Header → Result Again Stop → Type 0
ReadsAsSeen file region header_len tile h result = WasSeen file region header_len tile h → IfRefused result (λ x. ⊥) × IsHeaderAnswered h result
