-- What is read of one of some HDUs lies in what a job reads of all of them (FITS 4.0, sections 3.1, 7.3.5 and 10.1).
use Rattle.std.proofs.Common.{◌≡◌, ℕ, zero, suc, ◌+◌, ◌-◌, ◌<◌, ◌≤◌, ◌⊎◌, Bool, true, false, List, [], ◌∷◌, ◌++◌, length, map, slice_index, inl, inr, refl, sym, ap, ◌∙◌, subst, arith}
use Rattle.std.specs.Prelude.{Option, None, if◌then◌else◌}
use Rattle.std.specs.List.{flat_map, range_with_len}
use Rattle.fz_base.specs.Ranges.{LiesIn, LogsIn, LogsWithinLaw}
use Rattle.fz_base.specs.Source.{LogsWithin}
use Rattle.fz_base.specs.declared.fault.Fault.{Fault}
use Rattle.fz_block.specs.Checks.{header_touched}
use Rattle.fz_block.specs.Header.{data_start_of, next_start_of}
use Rattle.fz_block.specs.declared.header.Header.{Header}
use Rattle.fz_checks.specs.declared.job_checks.PackedImage.{PackedImage}
use Rattle.fz_head.specs.declared.plan.Plan.{Plan}
use Rattle.fz_files.specs.Cutout.{ranges_of_row}
use Rattle.fz_files.specs.FirstFault.{image_row}
use Rattle.fz_files.specs.Packed.{tiles_in}
use Rattle.fz_files.specs.Reads.{header_ranges}
use Rattle.fz_files.specs.Restored.{is_image}
use Rattle.fz_files.specs.Walks.{header_fault, headers_for}
use Rattle.fz_files.specs.declared.job.Job.{Job}
use Rattle.fz_files.specs.declared.job.Job.TheVariants.{Unpack, Verify}
use Rattle.fz_job.specs.Images.{fetched_ranges, AreTilesOf, IsSaid}
use Rattle.fz_job.specs.declared.survey.Survey.{Survey}
use Rattle.fz_job.specs.Hdus.{ranges_of_hdus}
use Rattle.fz_job.specs.Headers.{HeadersAreSeen, ranges_of_headers}
use Rattle.fz_job.specs.Known.{IsKnown}
use Rattle.fz_files.specs.Touched.{all_data_touched, data_range, data_touched, hdus_touched, image_ranges, packed_ranges}

-- ---- ranges within ranges

wider : (ranges more : List (ℕ × ℕ)) (old new : Option (List (ℕ × ℕ))) → ((byte : ℕ) → LiesIn ranges byte → LiesIn more byte) → LogsIn ranges old new → LogsIn more old new
wider ranges more old new inside reads = (reads.0, (λ k d few byte from to. inside byte (reads.1 k d few byte from to)), reads.2)

lies_before : (front back : List (ℕ × ℕ)) (byte : ℕ) → LiesIn front byte → LiesIn (front ++ back) byte
lies_before [] back byte is = absurd is
lies_before ((start, count) ∷ front) back byte (inl is) = inl is
lies_before ((start, count) ∷ front) back byte (inr is) = inr (lies_before front back byte is)

lies_behind : (front back : List (ℕ × ℕ)) (byte : ℕ) → LiesIn back byte → LiesIn (front ++ back) byte
lies_behind [] back byte is = is
lies_behind ((start, count) ∷ front) back byte is = inr (lies_behind front back byte is)

lies_in_either : (front back : List (ℕ × ℕ)) (byte : ℕ) → LiesIn (front ++ back) byte → LiesIn front byte ⊎ LiesIn back byte
lies_in_either [] back byte is = inr is
lies_in_either ((start, count) ∷ front) back byte (inl is) = inl (inl is)
lies_in_either ((start, count) ∷ front) back byte (inr is) = either (lies_in_either front back byte is)
  where
    either : LiesIn front byte ⊎ LiesIn back byte → LiesIn ((start, count) ∷ front) byte ⊎ LiesIn back byte
    either (inl there) = inl (inr there)
    either (inr there) = inr there

-- ---- one of some HDUs

header_lies : (file : List ℕ) (before after : List Header) (h : Header) (byte : ℕ) → h.start ≤ byte → byte < header_touched h.hdu h.start file → LiesIn (ranges_of_headers file (before ++ h ∷ after)) byte
header_lies file [] after h byte from to = inl (from, omega (arith, from, to))
header_lies file (j ∷ before) after h byte from to = inr (header_lies file before after h byte from to)

pub header_read : LogsWithinLaw → (job : Job) (file : List ℕ) (before after : List Header) (h : Header) (old new : Option (List (ℕ × ℕ))) → LogsWithin h.start (header_touched h.hdu h.start file) old new →
    LogsIn (ranges_of_hdus job file (before ++ h ∷ after)) old new
header_read within job file before after h old new reads =
    within h.start (header_touched h.hdu h.start file) (ranges_of_hdus job file (before ++ h ∷ after)) old new
    (λ byte from to. lies_before (ranges_of_headers file (before ++ h ∷ after)) (flat_map (data_touched job file) (before ++ h ∷ after)) byte (header_lies file before after h byte from to)) reads

data_lie : (job : Job) (file : List ℕ) (before after : List Header) (h : Header) (byte : ℕ) → LiesIn (data_touched job file h) byte → LiesIn (flat_map (data_touched job file) (before ++ h ∷ after)) byte
data_lie job file [] after h byte is = lies_before (data_touched job file h) (flat_map (data_touched job file) after) byte is
data_lie job file (j ∷ before) after h byte is = lies_behind (data_touched job file j) (flat_map (data_touched job file) (before ++ h ∷ after)) byte (data_lie job file before after h byte is)

pub data_read : (job : Job) (file : List ℕ) (before after : List Header) (h : Header) (old new : Option (List (ℕ × ℕ))) → LogsIn (data_touched job file h) old new → LogsIn (ranges_of_hdus job file (before ++ h ∷ after)) old new
data_read job file before after h old new reads =
    wider (data_touched job file h) (ranges_of_hdus job file (before ++ h ∷ after)) old new
    (λ byte is. lies_behind (ranges_of_headers file (before ++ h ∷ after)) (flat_map (data_touched job file) (before ++ h ∷ after)) byte (data_lie job file before after h byte is)) reads

-- ---- the tiles of a packed image

-- a number from a place on is that place, or after it
at_or_behind : (m n : ℕ) → m ≤ n → (n ≡ m) ⊎ (m + 1 ≤ n)
at_or_behind zero zero low = inl refl
at_or_behind zero (suc n) low = inr (omega arith)
at_or_behind (suc m) zero low = absurd (omega (arith, low))
at_or_behind (suc m) (suc n) low = more (at_or_behind m n (omega (arith, low)))
  where
    more : (n ≡ m) ⊎ (m + 1 ≤ n) → (suc n ≡ suc m) ⊎ (suc m + 1 ≤ suc n)
    more (inl same) = inl (ap suc same)
    more (inr less) = inr (omega (arith, less))

module _ (file : List ℕ) (h : Header) (byte : ℕ) where
  abbrev Rows : ℕ → ℕ → List (ℕ × ℕ)
  Rows first count = flat_map (ranges_of_row file) (map (image_row h) (range_with_len first count))

  abbrev Row : ℕ → List (ℕ × ℕ)
  Row t = ranges_of_row file (image_row h t)

  row_by : (first count t : ℕ) → (t ≡ first) ⊎ (first + 1 ≤ t) → (first + 1 ≤ t → LiesIn (Rows (first + 1) count) byte) → LiesIn (Row t) byte → LiesIn (Row first ++ Rows (first + 1) count) byte
  row_by first count t (inl same) rest is = lies_before (Row first) (Rows (first + 1) count) byte (subst (λ (n : ℕ). LiesIn (Row n) byte) same is)
  row_by first count t (inr less) rest is = lies_behind (Row first) (Rows (first + 1) count) byte (rest less)

  -- the row of one of neighbouring tiles is one of theirs
  row_lies : (first count t : ℕ) → first ≤ t → t < first + count → LiesIn (Row t) byte → LiesIn (Rows first count) byte
  row_lies first zero t from to is = absurd (omega (arith, from, to))
  row_lies first (suc count) t from to is = row_by first count t (at_or_behind first t from) (λ less. row_lies (first + 1) count t less (omega (arith, to)) is) is

  row_or : (n t : ℕ) (tiles : List ℕ) → t < n → LiesIn (Row t) byte ⊎ LiesIn (fetched_ranges file h tiles) byte → (LiesIn (fetched_ranges file h tiles) byte → LiesIn (Rows 0 n) byte) → LiesIn (Rows 0 n) byte
  row_or n t tiles low (inl there) rest = row_lies 0 n t (omega arith) (omega (arith, low)) there
  row_or n t tiles low (inr there) rest = rest there

  -- and so are those of several
  tiles_lie : (n : ℕ) (tiles : List ℕ) → ((i : ℕ) → i < length tiles → slice_index tiles i < n) → LiesIn (fetched_ranges file h tiles) byte → LiesIn (Rows 0 n) byte
  tiles_lie n [] few is = absurd is
  tiles_lie n (t ∷ tiles) few is =
      row_or n t tiles (few 0 (omega arith)) (lies_in_either (Row t) (fetched_ranges file h tiles) byte is) (λ there. tiles_lie n tiles (λ i low. few (suc i) (omega (arith, low))) there)

pub tiles_read : (file : List ℕ) (h : Header) (image : PackedImage) (tiles : List ℕ) (old new : Option (List (ℕ × ℕ))) → IsSaid file h image → AreTilesOf image tiles → LogsIn (fetched_ranges file h tiles) old new → LogsIn (image_ranges file h) old new
tiles_read file h image tiles old new said are reads =
    wider (fetched_ranges file h tiles) (image_ranges file h) old new
    (λ byte is. subst (λ (p : Plan). LiesIn (flat_map (ranges_of_row file) (map (image_row h) (range_with_len 0 (tiles_in p)))) byte) (sym said.plan) (tiles_lie file h byte (tiles_in image.plan) tiles are is))
    reads

-- ---- one HDU

data_lies : (h : Header) (byte : ℕ) → data_start_of h ≤ byte → byte < next_start_of h → LiesIn (data_range h ∷ []) byte
data_lies h byte from to = inl (from, omega (arith, from, to))

unpacked_rows : (file : List ℕ) (h : Header) (b : Bool) (byte : ℕ) → b ≡ true → LiesIn (image_ranges file h) byte → LiesIn (if b then image_ranges file h else data_range h ∷ []) byte
unpacked_rows file h true byte is there = there
unpacked_rows file h false byte is there = absurd cc

unpacked_data : (file : List ℕ) (h : Header) (b : Bool) (byte : ℕ) → b ≡ false → LiesIn (data_range h ∷ []) byte → LiesIn (if b then image_ranges file h else data_range h ∷ []) byte
unpacked_data file h true byte is there = absurd cc
unpacked_data file h false byte is there = there

pub unpack_rows : (file : List ℕ) (h : Header) (old new : Option (List (ℕ × ℕ))) → is_image file h ≡ true → LogsIn (image_ranges file h) old new → LogsIn (data_touched Unpack file h) old new
unpack_rows file h old new is reads = wider (image_ranges file h) (data_touched Unpack file h) old new (λ byte there. unpacked_rows file h (is_image file h) byte is there) reads

pub unpack_data : LogsWithinLaw → (file : List ℕ) (h : Header) (old new : Option (List (ℕ × ℕ))) → is_image file h ≡ false → LogsWithin (data_start_of h) (next_start_of h) old new → LogsIn (data_touched Unpack file h) old new
unpack_data within file h old new is reads =
    within (data_start_of h) (next_start_of h) (data_touched Unpack file h) old new (λ byte from to. unpacked_data file h (is_image file h) byte is (data_lies h byte from to)) reads

verified_rows : (file : List ℕ) (h : Header) (b : Bool) (byte : ℕ) → b ≡ true → LiesIn (image_ranges file h) byte → LiesIn (if b then image_ranges file h else []) byte
verified_rows file h true byte is there = there
verified_rows file h false byte is there = absurd cc

pub verify_rows : (file : List ℕ) (h : Header) (old new : Option (List (ℕ × ℕ))) → is_image file h ≡ true → LogsIn (image_ranges file h) old new → LogsIn (data_touched Verify file h) old new
verify_rows file h old new is reads =
    wider (image_ranges file h) (data_touched Verify file h) old new
    (λ byte there. lies_before (packed_ranges file h) (data_range h ∷ []) byte (verified_rows file h (is_image file h) byte is there)) reads

pub verify_data : LogsWithinLaw → (file : List ℕ) (h : Header) (old new : Option (List (ℕ × ℕ))) → LogsWithin (data_start_of h) (next_start_of h) old new → LogsIn (data_touched Verify file h) old new
verify_data within file h old new reads =
    within (data_start_of h) (next_start_of h) (data_touched Verify file h) old new (λ byte from to. lies_behind (packed_ranges file h) (data_range h ∷ []) byte (data_lies h byte from to)) reads

-- ---- the whole file

all_data : (job : Job) (file : List ℕ) (hs : List Header) → header_fault job file ≡ None → headers_for job file ≡ hs → all_data_touched (header_fault job file) job file ≡ flat_map (data_touched job file) hs
unfolding all_data_touched
all_data job file hs sound are = ap (λ (f : Option Fault). all_data_touched f job file) sound ∙ ap (flat_map (data_touched job file)) are

pub known_touched : (job : Job) → HeadersAreSeen job → (file : List ℕ) (s : Survey) (known : IsKnown job file s) → hdus_touched job file ≡ ranges_of_hdus job file known.headers
known_touched job seen file s known =
    let front : header_ranges job file ≡ ranges_of_headers file known.headers = seen file s known in
    let back : all_data_touched (header_fault job file) job file ≡ flat_map (data_touched job file) known.headers = all_data job file known.headers known.no_fault known.are in
    λ i. front i ++ back i
