-- A header that is read once more, after the first look at all headers (FITS 4.0, sections 3.1 and 10.1).
use Rattle.std.specs.Prelude.{ℕ, suc, ◌≡◌, ◌+◌, ◌*◌, ◌^◌, ◌≤◌, ◌&&◌, ◌==◌, nat_lt, Bool, true, false, List}
use Rattle.std.specs.Prelude.{[], ◌∷◌, length, take, codes, Option, Some, None, IfSome, Result, Ok, Err, ⊤}
use Rattle.fz_base.specs.Source.{Reads}
use Rattle.fz_base.specs.Stop.{IfRefused}
use Rattle.fz_base.specs.declared.failure.Stop.{Stop}
use Rattle.fz_block.specs.Cards.{card_at}
use Rattle.fz_block.specs.Checks.{hdu_at, is_set}
use Rattle.fz_block.specs.Facts.{IsHeaderOf}
use Rattle.fz_block.specs.Header.{next_start_of}
use Rattle.fz_block.specs.declared.header.Header.{Header}
use Rattle.fz_checks.specs.JobChecks.{IsImageOf, image_to_unpack, is_after_empty}
use Rattle.fz_checks.specs.declared.job_checks.PackedImage.{PackedImage}
use Rattle.fz_files.specs.Restored.{header_in, pixels_of}
use Rattle.fz_job.specs.Images.{IsReadable}
use Rattle.fz_job.specs.declared.again.ReadHdu.{ReadHdu}

-- the bytes of a header at the front of a buffer
abbrev pub header_at_front : ReadHdu → List ℕ → List ℕ
header_at_front a buf = take (2880 * a.header.blocks) buf

-- the tiles of an image have more pixels than so many
abbrev pub is_larger : ℕ → Option PackedImage → Bool
is_larger tile None = false
is_larger tile (Some i) = nat_lt tile (pixels_of i.plan 0)

-- the image was a primary
abbrev pub was_primary_image : Option PackedImage → Bool
was_primary_image None = false
was_primary_image (Some i) = i.plan.primary

-- the HDU is a primary with NAXIS 0
abbrev pub is_empty_primary : Header → Bool
is_empty_primary h = h.hdu == 0 && h.axes.n == 0

-- an image that can be read, whose header is this, and whose table ends within so many bytes
pub record IsUsable (header : List ℕ) (h : Header) (len : ℕ) (image : PackedImage) : Type 0 where
  pub said : IsImageOf header h image
  pub readable : IsReadable image
  pub inside : image.table.heap_at + image.table.heap_len ≤ len

-- the header of an HDU within so many bytes is at the front of the buffer, and this is the image that is in the HDU, or none
pub record IsAgain (held : Option (List ℕ)) (len : ℕ) (buf : List ℕ) (a : ReadHdu) : Type 0 where
  pub room : 2880 * a.header.blocks ≤ length buf
  pub header : IsHeaderOf (header_at_front a buf) a.header
  pub inside : next_start_of a.header ≤ len
  pub near : next_start_of a.header ≤ 2 ^ 62
  pub read : Reads held a.header.start (header_at_front a buf)
  pub after_empty : Bool
  pub found : image_to_unpack a.header (header_at_front a buf) after_empty ≡ Ok a.image
  pub usable : IfSome a.image (IsUsable (header_at_front a buf) a.header len)

-- HDU k begins at this byte, passes all checks, and is within what the first look learnt
pub record WasSeen (file : List ℕ) (k start header_len tile : ℕ) (h : Header) : Type 0 where
  pub found : hdu_at k start file ≡ Ok h
  pub number : h.hdu ≡ k
  pub place : h.start ≡ start
  pub is_header : IsHeaderOf (header_in file h) h
  pub simple : k ≡ 0 → is_set (codes "SIMPLE") (card_at (header_in file h) 0) ≡ true
  pub short : 2880 * h.blocks ≤ header_len
  pub image : Option PackedImage
  pub said : image_to_unpack h (header_in file h) (is_after_empty file h) ≡ Ok image
  pub small : IfSome image (λ i. pixels_of i.plan 0 ≤ tile)

-- the same of HDUs from number k on, the last of which ends the file
abbrev pub WereSeen : List ℕ → ℕ → ℕ → ℕ → ℕ → List Header → Type 0
WereSeen file header_len tile k start [] = start ≡ length file
WereSeen file header_len tile k start (h ∷ hs) = WasSeen file k start header_len tile h × WereSeen file header_len tile (suc k) (next_start_of h) hs

-- the answer, if there is one, is this header
abbrev pub IsHeaderAnswered : Header → Result ReadHdu Stop → Type 0
IsHeaderAnswered h (Ok a) = a.header ≡ h
IsHeaderAnswered h (Err stop) = ⊤

-- it is read as it was seen, and not refused
abbrev pub ReadsAsSeen : List ℕ → ℕ → ℕ → Bool → ℕ → ℕ → Result ReadHdu Stop → Type 0
ReadsAsSeen file k start after_empty header_len tile result =
    (h : Header) → WasSeen file k start header_len tile h → after_empty ≡ is_after_empty file h → IfRefused result (λ x. ⊥) × IsHeaderAnswered h result
