-- The HDU at hand: one that stands for something, and where what it stands for is in the file that the packed file stands for (FITS 4.0,
-- section 10.1).
use Rattle.std.specs.Prelude.{ℕ, ◌≡◌, ◌+◌, ◌-◌, ◌*◌, ◌/◌, ◌<◌, ◌≤◌, ◌==◌, nat_lt, Bool, List, []}
use Rattle.std.specs.Prelude.{length, take, Option, Some, None, IsSome, Result, Ok, Err, if◌then◌else◌}
use Rattle.std.specs.List.{filter, find, flat_map}
use Rattle.std.specs.Option.{ForSome, option_map}
use Rattle.fz_base.specs.declared.fault.Fault.{Fault}
use Rattle.fz_base.specs.Refusal.{first_refusal}
use Rattle.fz_block.specs.Cards.{end_of}
use Rattle.fz_block.specs.Facts.{facts_of}
use Rattle.fz_block.specs.Hdus.{cards_of, header_bytes}
use Rattle.fz_block.specs.Mandatory.{mandatory_checks}
use Rattle.fz_block.specs.Header.{next_start_of, whole_blocks_of}
use Rattle.fz_block.specs.declared.header.Header.{Header}
use Rattle.fz_grid.specs.Arrays.{product}
use Rattle.fz_grid.specs.Region.{lengths_of}
use Rattle.fz_checks.specs.JobChecks.{image_to_unpack, is_after_empty}
use Rattle.fz_head.specs.PlainHeader.{plain_header}
use Rattle.fz_checks.specs.declared.job_checks.PackedImage.{PackedImage}
use Rattle.fz_files.specs.Packed.{pixel_bits}
use Rattle.fz_files.specs.Restored.{header_in, is_image, plan_in, standing}
use Rattle.fz_files.specs.RestoredFile.{restored_hdu}
use Rattle.fz_files.specs.Walks.{headers_for}
use Rattle.fz_files.specs.declared.job.Job.TheVariants.{Unpack}
use Rattle.fz_head.specs.declared.plan.Plan.{Plan}
use Rattle.fz_job.specs.declared.again.ReadHdu.{ReadHdu}
use Rattle.fz_look.specs.declared.here.Here.{Here}

-- the image that is in an HDU of which no check refuses anything, if there is one
abbrev pub image_or_none : Result (Option PackedImage) Fault → Option PackedImage
image_or_none (Ok image) = image
image_or_none (Err fault) = None

-- the header of the image that a packed HDU stands for; none of another HDU
abbrev pub made_header : List ℕ → Header → List ℕ
made_header g h = if is_image g h then header_bytes (plain_header (cards_of (header_in g h))) else []

-- the bytes of its pixels; all bytes of another HDU
abbrev pub data_len_of : List ℕ → Header → ℕ
data_len_of g h = if is_image g h then pixel_bits (plan_in g h) / 8 * product (lengths_of (plan_in g h).shape) else length (restored_hdu g h)

-- the byte at which what an HDU stands for begins: the HDUs of lower numbers stand for so many bytes
abbrev pub place_of : List ℕ → Header → ℕ
place_of g h = length (flat_map (restored_hdu g) (filter (λ (other : Header). nat_lt other.hdu h.hdu) (standing g (headers_for Unpack g))))

-- the HDU with this header
abbrev pub here_with : List ℕ → Header → Here
here_with g h =
    let after_empty = is_after_empty g h in
    let at = place_of g h in
    let data_at = at + length (made_header g h) in
    record {
      read = record { header = h; image = image_or_none (image_to_unpack h (header_in g h) after_empty) };
      after_empty = after_empty;
      at = at;
      data_at = data_at;
      data_end = data_at + data_len_of g h;
      end = at + length (restored_hdu g h);
    }

-- the HDU of this number, if it stands for something
unfoldable pub here_of : List ℕ → ℕ → Option Here
here_of g k = option_map (here_with g) (find (λ (h : Header). h.hdu == k) (standing g (headers_for Unpack g)))

-- an image with this packed header begins at this plain byte
pub record IsImageHere (header : List ℕ) (a : ReadHdu) (p : Plan) (after_empty : Bool) (at : ℕ) (h : Here) : Type 0 where
  pub read : h.read ≡ a
  pub flag : h.after_empty ≡ after_empty
  pub place : h.at ≡ at
  pub data_at : h.data_at ≡ at + length (header_bytes (plain_header (cards_of header)))
  pub data_end : h.data_end ≡ h.data_at + pixel_bits p / 8 * product (lengths_of p.shape)
  pub end : h.end ≡ h.data_at + whole_blocks_of (pixel_bits p / 8 * product (lengths_of p.shape))

-- an HDU that is copied begins at this plain byte
pub record IsCopiedHere (a : ReadHdu) (at : ℕ) (h : Here) : Type 0 where
  pub data_at : h.data_at ≡ at
  pub data_end : h.data_end ≡ at + (next_start_of a.header - a.header.start)
  pub end : h.end ≡ h.data_end

-- the HDU of this number stands for something; it begins at this byte, and what it stands for at that one of the plain bytes
pub record IsPlaced (g : List ℕ) (k start : ℕ) (after_empty : Bool) (at : ℕ) : Type 0 where
  pub here : Here
  pub found : here_of g k ≡ Some here
  pub start_is : here.read.header.start ≡ start
  pub flag : here.after_empty ≡ after_empty
  pub place : here.at ≡ at

-- ---- whatever the source shows

-- The bytes are a header with these facts (`IsHeaderOf`), whose blocks are those that the facts say: so this is one fact, and not also a number
-- of blocks.
pub record IsReadHeader (header : List ℕ) (h : Header) : Type 0 where
  pub some : 1 ≤ h.blocks
  pub blocks : length header ≡ 2880 * h.blocks
  pub none : end_of (take (2880 * (h.blocks - 1)) header) ≡ None
  pub has : IsSome (end_of header)
  pub short : length header ≤ 737280
  pub mandatory : first_refusal (mandatory_checks h.hdu header) ≡ None
  pub facts : h ≡ facts_of h.hdu h.start header

-- The places of an HDU at hand are in order and within so many plain bytes; its data end within the packed file, and a header of the image has
-- room. One that is copied takes as many bytes as in the packed file, and an image has all its pixels.
pub record IsInOrder (plain_len length_is room : ℕ) (h : Here) : Type 0 where
  pub number : h.read.header.hdu ≤ 65536
  pub some : h.at < h.end
  pub header : h.at ≤ h.data_at
  pub pixels : h.data_at ≤ h.data_end
  pub fill : h.data_end ≤ h.end
  pub near : h.end ≤ h.data_end + 2880
  pub last : h.end ≤ plain_len
  pub made : h.data_at ≤ h.at + room
  pub within : next_start_of h.read.header ≤ length_is
  pub whole : h.read.image ≡ None → h.end + h.read.header.start ≡ h.at + next_start_of h.read.header
  pub all_pixels : ForSome h.read.image (λ i. h.data_end ≡ h.data_at + pixel_bits i.plan / 8 * product (lengths_of i.plan.shape))
