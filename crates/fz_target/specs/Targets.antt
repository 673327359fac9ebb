-- The packed image that is patched, as the code has it, and what its header and the image that is put in say of it (FITS 4.0, sections
-- 3.3.2, 7.3.5 and 10.1).
use Rattle.std.specs.Prelude.{ℕ, ◌≡◌, ◌+◌, ◌*◌, ◌/◌, ◌^◌, ◌≤◌, true, List, [], length, drop, replicate}
use Rattle.std.specs.Prelude.{slice_index, Option, Some, None, IfSome, Result, Ok, Err, if◌then◌else◌}
use Rattle.fz_base.specs.Refusal.{first_refusal, refusal}
use Rattle.fz_base.specs.declared.failure.Stop.{Stop}
use Rattle.fz_base.specs.declared.fault.Fault.{Fault}
use Rattle.fz_base.specs.declared.fault.Place.TheVariants.{Byte}
use Rattle.fz_base.specs.declared.kind.Kind.TheVariants.{BadPatch}
use Rattle.fz_block.specs.Checks.{header_blocks_of}
use Rattle.fz_block.specs.Facts.{IsHeaderOf}
use Rattle.fz_block.specs.Hdus.{cards_of}
use Rattle.fz_block.specs.Header.{data_start_of, next_start_of}
use Rattle.fz_block.specs.Takings.{header_taking}
use Rattle.fz_block.specs.declared.axes.Axes.{Axes}
use Rattle.fz_block.specs.declared.header.Header.{Header}
use Rattle.fz_job.specs.Images.{IsReadable, IsSaid}
use Rattle.fz_files.specs.Packed.{pixel_bits}
use Rattle.fz_files.specs.Restored.{header_in}
use Rattle.fz_grid.specs.Arrays.{product}
use Rattle.fz_grid.specs.Region.{lengths_of, region_corner, region_lengths}
use Rattle.fz_grid.specs.Sieve.{IsSieveOf, sieve_lengths}
use Rattle.fz_grid.specs.declared.region.Region.{Region}
use Rattle.fz_grid.specs.declared.sieve.Sieve.{Sieve}
use Rattle.fz_checks.specs.JobChecks.{IsImageOf, image_in}
use Rattle.fz_head.specs.PackedTable.{coded_unit}
use Rattle.fz_checks.specs.declared.job_checks.PackedImage.{PackedImage}
use Rattle.fz_head.specs.PackedPlan.{plan_of_cards}
use Rattle.fz_head.specs.declared.plan.Plan.{Plan}
use Rattle.fz_laws.specs.PatchChecks.{find_checks, may_be_given}
use Rattle.fz_laws.specs.PatchForm.{has_form, is_wide_table}
use Rattle.fz_laws.specs.Given.{Given, PatchJob, array_if, box_sieve, given_header, last_along, nine_numbers}
use Rattle.fz_laws.specs.Grown.{IsFoundHeader}
use Rattle.fz_laws.specs.PatchLaws.{IsGivenFor}
use Rattle.fz_table.specs.Tables.{table_in}
use Rattle.fz_table.specs.Rows.{IsTable, descriptor_len}
use Rattle.fz_tile.specs.Codecs.{CanWrite}
use Rattle.fz_tile.specs.Plain.{stored_pixels}
use Rattle.fz_target.specs.declared.target.Target.{Target}

-- the coordinates of a pixel of an image: 1 to 9
pub record IsCorner (corner : List ℕ) : Type 0 where
  pub some : 1 ≤ length corner
  pub few : length corner ≤ 9

abbrev pub job_at : Option ℕ → List ℕ → PatchJob
job_at wanted corner = record { wanted = wanted; corner = corner }

-- ---- the target

-- The image can be read and its tiles written; its table has two columns of descriptors of one width, and its heap is directly after the
-- rows and ends with the data; and every pixel of a box of it is replaced.
pub record IsTarget (t : Target) : Type 0 where
  pub end : next_start_of t.header ≤ 2 ^ 62
  pub readable : IsReadable t.image
  pub writable : CanWrite t.image.plan.codec t.image.plan.bitpix
  pub coded : t.image.table.coded ≡ Some (record { at = 0; wide = t.wide; unit = coded_unit t.image.plan.codec })
  pub stored : t.image.table.stored ≡ Some (record { at = descriptor_len t.wide; wide = t.wide; unit = pixel_bits t.image.plan / 8 })
  pub row : t.image.table.row_bytes ≡ 2 * descriptor_len t.wide
  pub rows_at : t.image.table.rows_at ≡ data_start_of t.header
  pub heap_at : t.image.table.heap_at ≡ t.image.table.rows_at + t.image.table.row_bytes * t.image.table.rows
  pub heap_len : t.image.table.heap_len ≡ t.header.pcount
  pub data_len : t.header.data_len ≡ t.image.table.row_bytes * t.image.table.rows + t.header.pcount
  pub sieve : IsSieveOf t.image.plan.shape t.sieve
  pub step : slice_index t.sieve.step 0 ≡ 1

-- the pixels that are put in are within what is attached
abbrev pub GivesWithin : Option ℕ → Target → Type 0
GivesWithin attached t =
    (n : ℕ) × (n ≤ 2 ^ 62) × (attached ≡ Some n) × (t.pixels_at + pixel_bits t.image.plan / 8 * product (sieve_lengths t.sieve) ≤ n)

-- the image of PATCH, of which the first pixel goes to this corner
abbrev pub given_at : List ℕ → List ℕ → Given
given_at corner patch = record { corner = corner; array = array_if patch (given_header patch) }

-- What is put in by the bytes of PATCH: the pixels that are replaced are those of its box, and its numbers are stored where the target has
-- them.
pub record IsGivenTo (corner patch : List ℕ) (t : Target) : Type 0 where
  pub sieve : t.sieve ≡ box_sieve (given_at corner patch)
  pub fits : IsGivenFor t.image.plan (given_at corner patch)
  pub numbers :
      (given_at corner patch).array.numbers ≡ stored_pixels (pixel_bits t.image.plan) (product (sieve_lengths t.sieve)) (drop t.pixels_at patch)

-- a box of these lengths at a corner, whatever its pixels are
abbrev pub box_at : List ℕ → List ℕ → Given
box_at corner lengths = record { corner = corner; array = record { lengths = lengths; numbers = [] } }

-- The pixels that are replaced are those of a box at the corner: if PATCH shows its bytes, with the lengths of its image.
pub record IsBoxAt (corner : List ℕ) (given : Option (List ℕ)) (t : Target) : Type 0 where
  pub lengths : List ℕ
  pub sieve : t.sieve ≡ box_sieve (box_at corner lengths)
  pub along : sieve_lengths t.sieve ≡ lengths
  pub shown : IfSome given (λ patch. lengths ≡ (given_at corner patch).array.lengths)

-- The target by the bytes of a file, which may have some of the writes already.
pub record IsTargetIn (file : List ℕ) (t : Target) : Type 0 where
  pub said : IsSaid file t.header t.image
  pub wide : is_wide_table (header_in file t.header) ≡ t.wide

-- The target by the bytes of its header, which is that of a table that can be patched.
pub record IsFoundBy (header : List ℕ) (t : Target) : Type 0 where
  pub found : IsFoundHeader header t.header
  pub form : has_form header t.header t.image.plan ≡ true
  pub plan : plan_of_cards (cards_of header) ≡ t.image.plan
  pub table : table_in header t.header ≡ t.image.table
  pub wide : is_wide_table header ≡ t.wide

-- The target as it was found in a store that ends with it, by its header, which has these bytes.
pub record IsFoundIn (store : Option ℕ) (held : Option (List ℕ)) (bytes : List ℕ) (t : Target) : Type 0 where
  pub target : IsTarget t
  pub attached : (n : ℕ) × (store ≡ Some n) × (next_start_of t.header ≡ n)
  pub header : IsHeaderOf bytes t.header
  pub by : IsFoundBy bytes t
  pub said : IfSome held (λ f. IsTargetIn f t × (header_in f t.header ≡ bytes))

-- the plan of its image, with descriptors of the width that its columns have
abbrev pub plan_to_write : Target → Plan
plan_to_write t = record t.image.plan { wide = t.wide }

-- the target with a heap that is longer by so many bytes
abbrev pub grown_header : Header → ℕ → Header
grown_header h more = record h { pcount = h.pcount + more; data_len = h.data_len + more }

abbrev pub grown_by : Target → ℕ → Target
grown_by t more = record t {
  header = grown_header t.header more;
  image = record t.image { table = record t.image.table { heap_len = t.image.table.heap_len + more } };
}

-- ---- how it is found

-- a file of so many bytes has a header with these bytes, which no check of a packed image refuses
pub record HasHeader (len : ℕ) (h : Header) (header file : List ℕ) : Type 0 where
  pub length_is : length file ≡ len
  pub header_is : header_in file h ≡ header
  pub passes : first_refusal (find_checks h header true) ≡ None

-- The image of that header: the HDU is the last of a file of so many bytes, its table has the form of one that can be patched, and it has as
-- many axes as the corner.
pub record IsOwnImage (len : ℕ) (corner header : List ℕ) (h : Header) (image : PackedImage) : Type 0 where
  pub checks : first_refusal (find_checks h header true) ≡ None
  pub said : image ≡ image_in h header
  pub is : IsImageOf header h image
  pub table : IsTable image.table
  pub last : next_start_of h ≡ len
  pub form : has_form header h image.plan ≡ true
  pub axes : length corner ≡ image.plan.shape.n

-- the sieve that picks every pixel of a region
abbrev pub region_sieve : Region → Sieve
region_sieve r = record {
  n = r.n;
  lo = r.lo;
  hi = nine_numbers (last_along (region_corner r) (region_lengths r));
  step = nine_numbers (replicate r.n 1);
}

-- An image that may be put in: it has pixels of the same bits, as many axes, a pixel along each, and no data but its pixels.
pub record IsGivenImage (p : Plan) (q : Header) : Type 0 where
  pub may : may_be_given p (Ok q) ≡ true
  pub axes : length (lengths_of q.axes) ≡ q.axes.n
  pub data_is : q.data_len ≡ pixel_bits p / 8 * product (lengths_of q.axes)

-- the header of the image that is put in, if it fits
abbrev pub given_found : Plan → List ℕ → Result Header Fault
given_found p patch = if may_be_given p (given_header patch) then given_header patch else Err (refusal 0 (Byte 0) BadPatch)

-- what is put at a corner, with these lengths, whatever its pixels are
abbrev pub placed : List ℕ → Axes → Given
placed corner axes = record { corner = corner; array = record { lengths = lengths_of axes; numbers = [] } }

-- the header of the target that was found
abbrev pub header_of : Result Target Stop → Result Header Stop
header_of (Ok t) = Ok t.header
header_of (Err stop) = Err stop

-- the taking of the header of PATCH, if no check before it refuses
abbrev pub given_taking : ℕ → List ℕ → Option Fault → List (ℕ × ℕ)
given_taking live patch (Some fault) = []
given_taking live patch None = header_taking live (header_blocks_of 0 0 patch)
