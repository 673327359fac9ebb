-- What a job may read lies in the file: the headers that it reaches, and what follows them, HDU by HDU.
use Rattle.std.proofs.Common.{◌≡◌, ℕ, ◌+◌, ◌-◌, ◌<◌, ◌≤◌, Bool, true, false, List, [], ◌∷◌, ◌++◌, length, All, Contains, Option, Some, None, Result, Ok, Err, if◌then◌else◌, refl, sym, subst, arith}
use Rattle.std.specs.List.{AllByRecursion, flat_map}
use Rattle.std.proofs.lemmas.List.Elements.{All-append, All-contains_itself, All-from_recursion, All-map, All-nil, recursion_from_All}
use Rattle.fz_base.specs.declared.fault.Fault.{Fault}
use Rattle.fz_block.specs.Checks.{Judge, hdu_at, walk_of}
use Rattle.fz_block.specs.Header.{next_start_of}
use Rattle.fz_block.specs.declared.header.Header.{Header}
use Rattle.fz_checks.specs.JobChecks.{data_end_of}
use Rattle.fz_checks.specs.Judges.{pack_judge, unpack_judge}
use Rattle.fz_head.specs.Packable.{is_packable}
use Rattle.fz_head.specs.declared.options.PackOptions.{PackOptions}
use Rattle.fz_files.specs.declared.job.Job.{Job}
use Rattle.fz_files.specs.declared.job.Job.TheVariants.{Pack, Unpack, Cut, Verify, List as ListHdus, Drill, Retile}
use Rattle.fz_files.specs.Cutout.{header_range, ranges_of_row}
use Rattle.fz_files.specs.Ends.{CutsLieWithin}
use Rattle.fz_files.specs.FirstFault.{ImageRow, image_row, rows_of}
use Rattle.fz_files.specs.Laws.{ReachedLieWithin, RowsLieWithin}
use Rattle.fz_files.specs.Packed.{tiles_in}
use Rattle.fz_files.specs.Reads.{header_ranges}
use Rattle.fz_files.specs.Restored.{is_image, plan_in}
use Rattle.fz_files.specs.Touched.{all_data_touched, data_range, data_touched, fill_of, fill_ranges, hdus_touched, image_ranges, packed_ranges}
use Rattle.fz_files.specs.Walks.{Reached, found_headers, header_fault, headers_for, job_walk, reached_by}
use Rattle.fz_laws.specs.Touched.{TouchedLieWithin}
use Rattle.fz_laws.proofs.PlaceHeaders.{Stands, hdu_stands}
use Rattle.fz_laws.proofs.PlaceRows.{EachMet, EachRow, HasRows, Laws, each_met, each_tile, found_walk}
use Rattle.fz_laws.proofs.PlaceWalks.{stands_there}

abbrev Lies : List ℕ → ℕ × ℕ → Type 0
Lies file range = range.0 + range.1 ≤ length file

abbrev Lie : List ℕ → List (ℕ × ℕ) → Type 0
Lie file ranges = AllByRecursion (Lies file) ranges

both_lie : (file : List ℕ) (xs ys : List (ℕ × ℕ)) → Lie file xs → Lie file ys → Lie file (xs ++ ys)
both_lie file [] ys a b = b
both_lie file (x ∷ xs) ys a b = (a.0, both_lie file xs ys a.1 b)

-- ---- data and their padding

data_lies : (file : List ℕ) (h : Header) → Stands file h → Lies file (data_range h)
data_lies file h s = omega (arith, s.past)

fill_lies : Laws → (file : List ℕ) (k start : ℕ) (r : Result Header Fault) → hdu_at k start file ≡ r → Lie file (fill_of r)
fill_lies laws file k start (Err x) found = tt
fill_lies laws file k start (Ok h) found = by_sort (is_packable h)
  where
    by_sort : (b : Bool) → Lie file (if b then (data_end_of h, next_start_of h - data_end_of h) ∷ [] else [])
    by_sort true =
        let s : Stands file h = stands_there laws.find laws.count k start file h found in
        (omega (arith, s.past), tt)
    by_sort false = tt

fills_lie : Laws → (file : List ℕ) (rs : List Reached) → Lie file (flat_map (fill_ranges file) rs)
fills_lie laws file [] = tt
fills_lie laws file (r ∷ rs) =
    both_lie file (fill_ranges file r) (flat_map (fill_ranges file) rs) (fill_lies laws file r.hdu r.start (hdu_at r.hdu r.start file) refl) (fills_lie laws file rs)

-- ---- packed images

rows_lie : (file : List ℕ) (rs : List ImageRow) → EachRow (λ r. Lie file (ranges_of_row file r)) rs → Lie file (flat_map (ranges_of_row file) rs)
rows_lie file [] each = tt
rows_lie file (r ∷ rs) each = both_lie file (ranges_of_row file r) (flat_map (ranges_of_row file) rs) each.0 (rows_lie file rs each.1)

image_lies : RowsLieWithin → (file : List ℕ) (h : Header) → hdu_at h.hdu h.start file ≡ Ok h → HasRows file h → Lie file (image_ranges file h)
image_lies reads file h found table = rows_lie file (rows_of file h) (each_tile (λ r. Lie file (ranges_of_row file r)) h (tiles_in (plan_in file h)) one_lies 0 (tiles_in (plan_in file h)) (omega arith))
  where
    one_lies : (row : ℕ) → row < tiles_in (plan_in file h) → Lie file (ranges_of_row file (image_row h row))
    one_lies row less = recursion_from_All (Lies file) (ranges_of_row file (image_row h row)) (reads file h row found table.passed (omega (arith, less, table.rows)))

-- ---- HDU by HDU

abbrev IsFound : List ℕ → Header → Type 0
IsFound file h = hdu_at h.hdu h.start file ≡ Ok h

-- if the HDU is packed, its checks passed
abbrev IsPassed : List ℕ → Header → Type 0
IsPassed file h = is_image file h ≡ true → HasRows file h

module _ (laws : Laws) (reads : RowsLieWithin) (file : List ℕ) where
  data_lie : (h : Header) → IsFound file h → Lie file (data_range h ∷ [])
  data_lie h found = (data_lies file h (hdu_stands laws.find laws.count file h found), tt)

  unpack_lies : (h : Header) → IsFound file h → IsPassed file h → Lie file (data_touched Unpack file h)
  unpack_lies h found passed = by_packed (is_image file h) passed
    where
      by_packed : (b : Bool) → (b ≡ true → HasRows file h) → Lie file (if b then image_ranges file h else data_range h ∷ [])
      by_packed true rows = image_lies reads file h found (rows refl)
      by_packed false rows = data_lie h found

  verify_lies : (h : Header) → IsFound file h → IsPassed file h → Lie file (data_touched Verify file h)
  verify_lies h found passed = both_lie file (packed_ranges file h) (data_range h ∷ []) (by_packed (is_image file h) passed) (data_lie h found)
    where
      by_packed : (b : Bool) → (b ≡ true → HasRows file h) → Lie file (if b then image_ranges file h else [])
      by_packed true rows = image_lies reads file h found (rows refl)
      by_packed false rows = tt

  found_of : (judge : Judge) (most : ℕ) (hs : List Header) → walk_of judge most file ≡ Ok hs → AllByRecursion (IsFound file) hs
  found_of judge most hs walk = recursion_from_All (IsFound file) hs (laws.each judge most file hs walk)

  found_lie : (ranges : Header → List (ℕ × ℕ)) → ((h : Header) → IsFound file h → Lie file (ranges h)) → (hs : List Header) → AllByRecursion (IsFound file) hs → Lie file (flat_map ranges hs)
  found_lie ranges each [] found = tt
  found_lie ranges each (h ∷ hs) found = both_lie file (ranges h) (flat_map ranges hs) (each h found.0) (found_lie ranges each hs found.1)

  passed_lie : (ranges : Header → List (ℕ × ℕ)) → ((h : Header) → IsFound file h → IsPassed file h → Lie file (ranges h)) → (all hs : List Header) → AllByRecursion (IsFound file) hs → EachMet file all hs → Lie file (flat_map ranges hs)
  passed_lie ranges each all [] found met = tt
  passed_lie ranges each all (h ∷ hs) found met = both_lie file (ranges h) (flat_map ranges hs) (each h found.0 met.0.rows) (passed_lie ranges each all hs found.1 met.1)

  met_lie : (ranges : Header → List (ℕ × ℕ)) → ((h : Header) → IsFound file h → IsPassed file h → Lie file (ranges h)) → (hs : List Header) → walk_of (unpack_judge file) 65536 file ≡ Ok hs → Lie file (flat_map ranges hs)
  met_lie ranges each hs walk =
      let found = found_of (unpack_judge file) 65536 hs walk in
      let met = recursion_from_All (Contains hs) hs (All-contains_itself hs) in
      passed_lie ranges each hs hs found (each_met laws file hs hs met found (laws.headers (unpack_judge file) 65536 file hs walk).2)

  -- the data, if no header is rejected
  abbrev DataLie : Job → Result (List Header) Fault → Type 0
  DataLie job r = Lie file (flat_map (data_touched job file) (found_headers r))

  pack_data : (o : PackOptions) → header_fault (Pack o) file ≡ None → DataLie (Pack o) (job_walk (Pack o) file)
  unfolding job_walk
  pack_data o none =
      let found = found_walk (Pack o) file (walk_of (pack_judge o file) 65535 file) none in
      subst (DataLie (Pack o)) (sym found.1) (found_lie (data_touched (Pack o) file) data_lie found.0 (found_of (pack_judge o file) 65535 found.0 found.1))

  unpack_data : header_fault Unpack file ≡ None → DataLie Unpack (job_walk Unpack file)
  unfolding job_walk
  unpack_data none =
      let found = found_walk Unpack file (walk_of (unpack_judge file) 65536 file) none in
      subst (DataLie Unpack) (sym found.1) (met_lie (data_touched Unpack file) unpack_lies found.0 found.1)

  retile_data : (o : PackOptions) → header_fault (Retile o) file ≡ None → DataLie (Retile o) (job_walk (Retile o) file)
  unfolding job_walk
  retile_data o none =
      let found = found_walk (Retile o) file (walk_of (unpack_judge file) 65536 file) none in
      subst (DataLie (Retile o)) (sym found.1) (met_lie (data_touched (Retile o) file) unpack_lies found.0 found.1)

  verify_data : header_fault Verify file ≡ None → DataLie Verify (job_walk Verify file)
  unfolding job_walk
  verify_data none =
      let found = found_walk Verify file (walk_of (unpack_judge file) 65536 file) none in
      subst (DataLie Verify) (sym found.1) (met_lie (data_touched Verify file) verify_lies found.0 found.1)

-- ---- a job

headers_lie : ReachedLieWithin → (job : Job) (file : List ℕ) → All (Lies file) (header_ranges job file)
headers_lie reached job file = All-map (Lies file) (header_range file) (reached_by job file) (reached job file)

all_data_lie : (job : Job) (file : List ℕ) (found : Option Fault) → (found ≡ None → Lie file (flat_map (data_touched job file) (headers_for job file))) → All (Lies file) (all_data_touched found job file)
unfolding all_data_touched
all_data_lie job file (Some x) behind = All-nil (Lies file)
all_data_lie job file None behind = All-from_recursion (Lies file) (flat_map (data_touched job file) (headers_for job file)) (behind refl)

hdus_lie : ReachedLieWithin → (job : Job) (file : List ℕ) → (header_fault job file ≡ None → Lie file (flat_map (data_touched job file) (headers_for job file))) → All (Lies file) (hdus_touched job file)
hdus_lie reached job file behind =
    All-append (Lies file) (header_ranges job file) (all_data_touched (header_fault job file) job file) (headers_lie reached job file) (all_data_lie job file (header_fault job file) behind)

pub lie_within : Laws → ReachedLieWithin → RowsLieWithin → CutsLieWithin → TouchedLieWithin
lie_within laws reached reads cuts (Pack o) file =
    All-append (Lies file) (flat_map (fill_ranges file) (reached_by (Pack o) file)) (hdus_touched (Pack o) file)
    (All-from_recursion (Lies file) (flat_map (fill_ranges file) (reached_by (Pack o) file)) (fills_lie laws file (reached_by (Pack o) file)))
    (hdus_lie reached (Pack o) file (pack_data laws reads file o))
lie_within laws reached reads cuts Unpack file = hdus_lie reached Unpack file (unpack_data laws reads file)
lie_within laws reached reads cuts (Cut wanted sieve) file = cuts wanted sieve file
lie_within laws reached reads cuts Verify file = hdus_lie reached Verify file (verify_data laws reads file)
lie_within laws reached reads cuts ListHdus file = headers_lie reached ListHdus file
lie_within laws reached reads cuts (Drill rows) file = All-nil (Lies file)
lie_within laws reached reads cuts (Retile o) file = hdus_lie reached (Retile o) file (retile_data laws reads file o)
