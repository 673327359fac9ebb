-- What the definitions of a view promise (FITS 4.0, sections 3.1, 3.3.2 and 10.1).
use Rattle.std.specs.Prelude.{ℕ, ◌≡◌, ◌+◌, ◌-◌, ◌*◌, ◌/◌, ◌%◌, ◌<◌, ◌≤◌, ℤ, pos, Bool, List, [], ◌∷◌, take}
use Rattle.std.specs.Prelude.{drop, replicate, length, slice_index, None, Some, IfSome, Option, Result, Ok}
use Rattle.fz_base.specs.Ranges.{LogsIn}
use Rattle.fz_base.specs.Source.{LogsWithin}
use Rattle.fz_base.specs.Stop.{IfRefused}
use Rattle.fz_base.specs.declared.fault.Fault.{Fault}
use Rattle.fz_base.specs.declared.failure.Stop.{Stop}
use Rattle.fz_block.specs.Checks.{header_touched}
use Rattle.fz_block.specs.Hdus.{cards_of, header_bytes}
use Rattle.fz_block.specs.Header.{next_start_of}
use Rattle.fz_block.specs.declared.axes.Axes.{Axes}
use Rattle.fz_block.specs.declared.header.Header.{Header}
use Rattle.fz_grid.specs.Arrays.{IsArray, NumberArray, coordinates_of, place_of as place_in, product}
use Rattle.fz_grid.specs.Grid.{tile}
use Rattle.fz_grid.specs.Region.{IsWithin, lengths_of, region_lengths}
use Rattle.fz_grid.specs.Sieve.{IsSieveOf, sieve_lengths}
use Rattle.fz_grid.specs.declared.region.Region.{Region}
use Rattle.fz_grid.specs.Cutout.{Sifts, picked_numbers}
use Rattle.fz_tile.specs.Pixels.{IsBitpix}
use Rattle.fz_tile.specs.Plain.{AreBytes, plain_bytes}
use Rattle.fz_table.specs.Rows.{IsTable}
use Rattle.fz_checks.specs.JobChecks.{image_to_unpack}
use Rattle.fz_head.specs.PlainHeader.{plain_header}
use Rattle.fz_checks.specs.declared.job_checks.PackedImage.{PackedImage}
use Rattle.fz_files.specs.Decided.{first_fault}
use Rattle.fz_files.specs.FirstFault.{IsRowFault, image_row}
use Rattle.fz_files.specs.Packed.{pixel_bits, tiles_in}
use Rattle.fz_files.specs.Restored.{RowStandsFor, plan_in}
use Rattle.fz_files.specs.RestoredFile.{image_array, restored}
use Rattle.fz_files.specs.Touched.{touched_by}
use Rattle.fz_files.specs.Walks.{headers_for}
use Rattle.fz_files.specs.declared.job.Job.TheVariants.{Unpack}
use Rattle.fz_job.specs.Images.{fetched_ranges, IsReadable, IsSaid}
use Rattle.fz_job.specs.Surveys.{surveyed}
use Rattle.fz_job.specs.declared.checks.JobChecks.TheVariants.{Unpack as UnpackChecks}
use Rattle.fz_job.specs.declared.survey.Survey.{Survey}
use Rattle.fz_job.specs.Again.{IsAgain, ReadsAsSeen, header_at_front, is_empty_primary}
use Rattle.fz_job.specs.declared.again.ReadHdu.{ReadHdu}
use Rattle.fz_look.specs.Boxes.{HasPixel, inside_of, sieve_in}
use Rattle.fz_look.specs.Here.{IsCopiedHere, IsImageHere, IsPlaced, IsReadHeader, here_of, made_header}
use Rattle.fz_look.specs.Looked.{first_of}
use Rattle.fz_look.specs.declared.here.Here.{Here}
use Rattle.fz_look.specs.declared.looked.First.{First}

-- ---- from one HDU to the next

-- the first HDU that stands for something begins with the plain bytes
abbrev pub FirstIsPlaced : Type 0
FirstIsPlaced =
    (g : List ℕ) (s : Survey) (f : First) → surveyed UnpackChecks g ≡ Ok s → 0 < s.hdus → f ≡ first_of g (headers_for Unpack g)
    → IsPlaced g f.hdu f.start f.after_empty 0

-- There is one more HDU after this one, which begins where this one ends.
pub record HasNext (g : List ℕ) (s : Survey) (h : Here) : Type 0 where
  pub more : h.read.header.hdu + 1 < s.hdus
  pub within : next_start_of h.read.header < length g
  pub placed : IsPlaced g (h.read.header.hdu + 1) (next_start_of h.read.header) (is_empty_primary h.read.header) h.end

-- so it is if plain bytes are left
abbrev pub NextIsPlaced : Type 0
NextIsPlaced =
    (g : List ℕ) (s : Survey) (h : Here) → surveyed UnpackChecks g ≡ Ok s → here_of g h.read.header.hdu ≡ Some h
    → h.end < length (restored g) → HasNext g s h

-- the header of an HDU that is placed is not refused when it is read once more
abbrev pub PlacedIsRead : Type 0
PlacedIsRead =
    (g : List ℕ) (s : Survey) (k start at : ℕ) (flag : Bool) (result : Result ReadHdu Stop) → surveyed UnpackChecks g ≡ Ok s → IsPlaced g k start flag at
    → ReadsAsSeen g k start flag s.header_len s.tile result → IfRefused result (λ x. ⊥)

-- The HDU with the header that was read once more is where it is said to be.
pub record IsFound (g : List ℕ) (s : Survey) (k start at : ℕ) (flag : Bool) (buf : List ℕ) (a : ReadHdu) : Type 0 where
  pub sound : surveyed UnpackChecks g ≡ Ok s
  pub placed : IsPlaced g k start flag at
  pub seen : ReadsAsSeen g k start flag s.header_len s.tile (Ok a)
  pub len : ℕ
  pub long : length g ≡ len
  pub again : IsAgain (Some g) len buf a
  pub image : image_to_unpack a.header (header_at_front a buf) flag ≡ Ok a.image

-- It is the HDU of its number, ends within the plain bytes, and has the header that was made.
pub record IsHere (g buf : List ℕ) (a : ReadHdu) (h : Here) : Type 0 where
  pub here : here_of g h.read.header.hdu ≡ Some h
  pub last : h.end ≤ length (restored g)
  pub copied : a.image ≡ None → made_header g h.read.header ≡ []
  pub made : IfSome a.image (λ i. made_header g h.read.header ≡ header_bytes (plain_header (cards_of (header_at_front a buf))))

abbrev pub FoundIsHere : Type 0
FoundIsHere =
    (g : List ℕ) (s : Survey) (k start at : ℕ) (flag : Bool) (buf : List ℕ) (a : ReadHdu) (h : Here) → IsFound g s k start at flag buf a
    → h.read ≡ a → h.after_empty ≡ flag → h.at ≡ at
    → (a.image ≡ None → IsCopiedHere a at h) → IfSome a.image (λ i. IsImageHere (header_at_front a buf) a i.plan flag at h) → IsHere g buf a h

-- ---- what is read

-- what is read of the header of an HDU that is placed, and of one that is copied, is what `unpack` reads
abbrev pub HeaderIsTouched : Type 0
HeaderIsTouched =
    (g : List ℕ) (s : Survey) (k start at : ℕ) (flag : Bool) (old new : Option (List (ℕ × ℕ))) → surveyed UnpackChecks g ≡ Ok s → IsPlaced g k start flag at
    → LogsWithin start (header_touched k start g) old new → LogsIn (touched_by Unpack g) old new

abbrev pub CopyIsTouched : Type 0
CopyIsTouched =
    (g : List ℕ) (s : Survey) (h : Here) (old new : Option (List (ℕ × ℕ))) → surveyed UnpackChecks g ≡ Ok s
    → here_of g h.read.header.hdu ≡ Some h → h.read.image ≡ None
    → LogsWithin h.read.header.start (next_start_of h.read.header) old new → LogsIn (touched_by Unpack g) old new

-- ---- plain bytes

-- so many plain bytes from a place on are these
abbrev pub IsPiece : List ℕ → ℕ → ℕ → List ℕ → Type 0
IsPiece g at n bytes = bytes ≡ take n (drop at (restored g))

-- the plain bytes of the HDU at hand: of one that is copied, of the header of an image, of its pixels, and of its fill
pub record ArePieces (g : List ℕ) (h : Here) : Type 0 where
  pub copied : (at n : ℕ) → h.read.image ≡ None → h.at ≤ at → at + n ≤ h.end → IsPiece g at n (take n (drop (h.read.header.start + (at - h.at)) g))
  pub header : (at n : ℕ) → h.at ≤ at → at + n ≤ h.data_at → IsPiece g at n (take n (drop (at - h.at) (made_header g h.read.header)))
  pub pixels : (i : PackedImage) (at n : ℕ) → h.read.image ≡ Some i → h.data_at ≤ at → at + n ≤ h.data_end →
      IsPiece g at n (take n (drop (at - h.data_at) (plain_bytes (pixel_bits (plan_in g h.read.header)) (image_array g h.read.header).numbers)))
  pub fill : (i : PackedImage) (at n : ℕ) → h.read.image ≡ Some i → h.data_end ≤ at → at + n ≤ h.end → IsPiece g at n (replicate n 0)

abbrev pub HereHasPieces : Type 0
HereHasPieces = (g : List ℕ) (s : Survey) (h : Here) → surveyed UnpackChecks g ≡ Ok s → here_of g h.read.header.hdu ≡ Some h → ArePieces g h

-- ---- boxes

-- an image that no check refuses can be read
abbrev pub FoundIsReadable : Type 0
FoundIsReadable =
    (h : Header) (header : List ℕ) (flag : Bool) (i : PackedImage) → IsReadHeader header h → image_to_unpack h header flag ≡ Ok (Some i)
    → IsTable i.table → IsReadable i

-- What is known of an image: it is the one that the header says, each of its rows stands for the numbers of the array and for no others, none is
-- refused, and what is read of one is what `unpack` reads.
pub record IsKnownImage (g : List ℕ) (h : Header) (i : PackedImage) : Type 0 where
  pub said : IsSaid g h i
  pub stands : (t : ℕ) → t < tiles_in i.plan → RowStandsFor g h t (tile (image_array g h) (lengths_of i.plan.tile) t)
  pub rows : (t : ℕ) (xs : List ℤ) → t < tiles_in i.plan → RowStandsFor g h t xs → xs ≡ tile (image_array g h) (lengths_of i.plan.tile) t
  pub never : (t : ℕ) (x : Fault) → t < tiles_in i.plan → ¬ IsRowFault g (image_row h t) x
  pub touched : (t : ℕ) (old new : Option (List (ℕ × ℕ))) → t < tiles_in i.plan → LogsIn (fetched_ranges g h (t ∷ [])) old new
      → LogsIn (touched_by Unpack g) old new

-- so it is of the HDU at hand
abbrev pub HereIsKnown : Type 0
HereIsKnown =
    (g : List ℕ) (s : Survey) (h : Here) (i : PackedImage) → AreBytes g → first_fault Unpack g ≡ None → surveyed UnpackChecks g ≡ Ok s
    → here_of g h.read.header.hdu ≡ Some h
    → h.read.image ≡ Some i → IsReadable i → IsKnownImage g h.read.header i

-- the sieve that picks a region is one of the array, and picks as many numbers as the region has
abbrev pub RegionIsSieve : Type 0
RegionIsSieve =
    (shape : Axes) (r : Region) → shape.n ≤ 9 → length r.lo ≡ 9 → length r.len ≡ 9 → IsWithin shape r
    → IsSieveOf shape (sieve_in r) × Sifts (lengths_of shape) (sieve_in r) × (sieve_lengths (sieve_in r) ≡ region_lengths r)

-- ---- lines

-- what is left of a line of a region from one of its pixels on has room in the region
abbrev pub LineHasRoom : Type 0
LineHasRoom =
    (r : Region) (at : List ℕ) → 1 ≤ r.n → r.n ≤ 9 → length r.lo ≡ 9 → length r.len ≡ 9 → length at ≡ 9 → HasPixel r at
    → place_in (region_lengths r) (inside_of r at) + (slice_index r.lo 0 + slice_index r.len 0 - slice_index at 0) ≤ product (region_lengths r)

-- the first bytes of a band are these
abbrev pub HoldsBox : List ℕ → List ℕ → Type 0
HoldsBox bytes band = take (length bytes) band ≡ bytes

-- bytes in a band that has the box are those of the array, as far as the line goes in the box; and that is within the array
abbrev pub LineIsBytes : Type 0
LineIsBytes =
    (bits from n : ℕ) (shape : Axes) (r : Region) (at : List ℕ) (a : NumberArray) (band : List ℕ) → IsBitpix (pos bits) → IsArray a
    → a.lengths ≡ lengths_of shape
    → 1 ≤ shape.n → shape.n ≤ 9 → length r.lo ≡ 9 → length r.len ≡ 9 → length at ≡ 9 → IsWithin shape r → HasPixel r at
    → take shape.n at ≡ coordinates_of (lengths_of shape) (from / (bits / 8)) → from / (bits / 8) < product (lengths_of shape)
    → HoldsBox (plain_bytes bits (picked_numbers a (sieve_in r))) band
    → from % (bits / 8) + n ≤ bits / 8 * (slice_index r.lo 0 + slice_index r.len 0 - slice_index at 0)
    → (take n (drop (from % (bits / 8) + bits / 8 * place_in (region_lengths r) (inside_of r at)) band) ≡ take n (drop from (plain_bytes bits a.numbers)))
    × (from + n ≤ bits / 8 * product (lengths_of shape))
