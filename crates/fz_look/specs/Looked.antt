-- What the look at a packed file learns of it (FITS 4.0, sections 3.1 and 10.1).
use Rattle.std.specs.Prelude.{ℕ, ◌≡◌, ◌+◌, ◌-◌, ◌*◌, ◌/◌, ◌<◌, ◌≤◌, ◌^◌, ◌⊎◌, ◌&&◌, min, max, Bool, false, List, [], ◌∷◌, length, Some, None, Ok, if◌then◌else◌}
use Rattle.std.specs.List.{flat_map}
use Rattle.fz_base.specs.Refusal.{refusal}
use Rattle.fz_base.specs.declared.fault.Fault.{Fault}
use Rattle.fz_base.specs.declared.fault.Place.TheVariants.{Byte}
use Rattle.fz_base.specs.declared.kind.Kind.TheVariants.{Limit}
use Rattle.fz_block.specs.Hdus.{cards_of, header_bytes}
use Rattle.fz_block.specs.Header.{next_start_of, whole_blocks_of}
use Rattle.fz_block.specs.declared.header.Header.{Header}
use Rattle.fz_grid.specs.Arrays.{product}
use Rattle.fz_grid.specs.Region.{lengths_of}
use Rattle.fz_head.specs.PlainHeader.{plain_header}
use Rattle.fz_head.specs.declared.plan.Plan.{Plan}
use Rattle.fz_files.specs.FirstFault.{IsFirstFault, IsFirstRowFault, all_rows}
use Rattle.fz_files.specs.Packed.{pixel_bits}
use Rattle.fz_files.specs.PlainFault.{too_long}
use Rattle.fz_files.specs.Restored.{is_packed_primary, standing}
use Rattle.fz_files.specs.RestoredFile.{restored, restored_hdu}
use Rattle.fz_files.specs.Retiled.{plain_of}
use Rattle.fz_files.specs.declared.job.Job.TheVariants.{Unpack}
use Rattle.fz_job.specs.Surveys.{surveyed}
use Rattle.fz_job.specs.declared.checks.JobChecks.TheVariants.{Unpack as UnpackChecks}
use Rattle.fz_job.specs.declared.survey.Survey.{Survey}
use Rattle.fz_job.specs.Again.{is_empty_primary, was_primary_image}
use Rattle.fz_job.specs.declared.again.ReadHdu.{ReadHdu}
use Rattle.fz_job.specs.Known.{IsList}
use Rattle.fz_look.specs.declared.hdus.Counted.{Counted}
use Rattle.fz_look.specs.declared.hdus.Seen.{Seen}
use Rattle.fz_look.specs.declared.looked.First.{First}
use Rattle.fz_look.specs.declared.looked.Looked.{Looked}
use Rattle.fz_look.specs.declared.looked.Space.{Space}

-- the bytes of the buffers of a view
abbrev pub buffers_of : Space → ℕ
buffers_of s = length s.block + length s.header + length s.translated + 4 * length s.numbers + length s.code + length s.band

-- the buffers serve headers of at most so many bytes, which are a block or more, and tiles of at most so many pixels, and have room for
-- one pixel
pub record HaveRoom (header_len tile : ℕ) (s : Space) : Type 0 where
  pub block : length s.block ≡ 2880
  pub long : 2880 ≤ header_len
  pub header : length s.header ≡ header_len
  pub translated : length s.translated ≡ header_len + 2880
  pub numbers : length s.numbers ≡ 2 * tile
  pub code : length s.code ≡ 8 * tile + 64
  pub band : 8 ≤ length s.band

-- the first HDU that stands for something: the primary, or the packed primary after it
abbrev pub the_primary : First
the_primary = record { hdu = 0; start = 0; after_empty = false }

abbrev pub behind_primary : Header → First
behind_primary h = record { hdu = 1; start = next_start_of h; after_empty = is_empty_primary h }

abbrev pub first_of : List ℕ → List Header → First
first_of g [] = the_primary
first_of g (h ∷ []) = the_primary
first_of g (h ∷ k ∷ hs) = if is_packed_primary g k then behind_primary h else the_primary

-- The rows of an HDU stand for pixels, and the HDU for so many bytes.
pub record IsHduLooked (g : List ℕ) (h : Header) (c : Counted) : Type 0 where
  pub sound : IsFirstRowFault g (all_rows g (h ∷ [])) None
  pub bytes : c.all ≡ length (restored_hdu g h)

-- so many bytes are those of an image with this packed header: its own header, its pixels, and fill
pub record IsImageCounted (header : List ℕ) (p : Plan) (c : Counted) : Type 0 where
  pub pixels : c.pixels ≡ pixel_bits p / 8 * product (lengths_of p.shape)
  pub all : c.all ≡ length (header_bytes (plain_header (cards_of header))) + whole_blocks_of c.pixels

-- what is learnt of the HDUs before and of one more: a primary before a packed primary stands for nothing
abbrev pub with_counted : Seen → ReadHdu → Bool → Counted → Seen
with_counted seen a after_empty c =
    let alone = after_empty && was_primary_image a.image in
    record {
      plain_len = if alone then c.all else seen.plain_len + c.all;
      data_len = max seen.data_len c.pixels;
      first = if alone then record { hdu = a.header.hdu; start = a.header.start; after_empty = after_empty } else seen.first;
    }

-- The rows of all HDUs stand for pixels; these are the bytes that the HDUs stand for, and the first that does.
pub record AreLooked (g : List ℕ) (hs : List Header) (seen : Seen) : Type 0 where
  pub sound : IsFirstRowFault g (all_rows g hs) None
  pub bytes : seen.plain_len ≡ length (flat_map (restored_hdu g) (standing g hs))
  pub first : seen.first ≡ first_of g hs

abbrev pub IsSeen : List ℕ → Survey → Seen → Type 0
IsSeen g s seen = (hs : List Header) → IsList g s hs → AreLooked g hs seen

-- a fault of the rows of HDUs that were seen, or, if they have none, that what they stand for is too long
abbrev pub IsFaultAmong : List ℕ → Survey → Fault → Type 0
IsFaultAmong g s x =
    (hs : List Header) → IsList g s hs →
    IsFirstRowFault g (all_rows g hs) (Some x)
    ⊎ (IsFirstRowFault g (all_rows g hs) None × (2 ^ 62 < length (flat_map (restored_hdu g) (standing g hs)))
    × (x ≡ refusal (length hs) (Byte (length g)) Limit))

-- ---- the look

-- The bytes of the band: those of the slots of a window with W workers but one, and of the copy buffer, at most 2^24 and at most those of the
-- pixels of the largest image, with room for one pixel.
abbrev pub band_bytes : ℕ → ℕ → ℕ → ℕ
band_bytes W tile data_len = max (min (min ((2 * W - 1) * (16 * tile + 64) + 65536) (2 ^ 24)) data_len) 8

-- What a look learnt, whatever the source shows: the buffers serve what it met, there are HDUs, and it stands for at most 2^62 bytes.
pub record IsSoundLook (length_is : ℕ) (l : Looked) : Type 0 where
  pub room : HaveRoom l.survey.header_len l.survey.tile l.space
  pub some : 0 < l.survey.hdus
  pub few : l.survey.hdus ≤ 65536
  pub short : l.plain_len ≤ 2 ^ 62
  pub zero : l.first.hdu ≡ 0 → l.first.start ≡ 0
  pub place : 0 < l.first.hdu → l.first.start < length_is
  pub first : l.first.hdu < 2

-- No check of `unpack` refuses the file, and it stands for one of at most 2^62 bytes; so many HDUs, and so large headers and tiles, as a survey
-- learns, and the first HDU that stands for something.
pub record IsLooked (g : List ℕ) (l : Looked) : Type 0 where
  pub sound : IsFirstFault Unpack g None
  pub plain : plain_of g ≡ Some (restored g)
  pub len : length (restored g) ≡ l.plain_len
  pub surveyed : surveyed UnpackChecks g ≡ Ok l.survey
  pub headers : List Header
  pub list : IsList g l.survey headers
  pub first : l.first ≡ first_of g headers

-- the fault of a file that the look refuses: the first of `unpack`, or otherwise that it stands for one of more than 2^62 bytes
abbrev pub IsLookFault : List ℕ → Fault → Type 0
IsLookFault g x = IsFirstFault Unpack g (Some x) ⊎ (IsFirstFault Unpack g None × (2 ^ 62 < length (restored g)) × (x ≡ too_long g))
