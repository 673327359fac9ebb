-- What a cut may read lies within the file: headers, rows and records; and what is read of any row (FITS 4.0, sections 3.1, 7.3.5 and 10.1).
use Rattle.std.proofs.Common.{◌≡◌, ℕ, zero, suc, ◌+◌, ◌*◌, ◌≤◌, ◌<◌, nat_lt, Bool, true, false, List, [], ◌∷◌, ◌++◌, length, map, cond, All, Option, Some, None, IfSome, Result, Ok, Err, append_assoc, refl, sym, subst, ◌∙◌, ap, arith}
use Rattle.std.specs.List.{AllByRecursion, filter, flat_map, range_with_len}
use Rattle.std.proofs.Math.Nat.{mul-le-mul_left}
use Rattle.std.proofs.lemmas.Bool.Decides.{nat_tests}
use Rattle.std.proofs.lemmas.List.Elements.{All-append, All-from_recursion, All-map, recursion_from_All}
use Rattle.fz_base.specs.Refusal.{first_refusal}
use Rattle.fz_base.specs.declared.fault.Fault.{Fault}
use Rattle.fz_block.specs.Checks.{Judge, hdu_at, unless_refused, walk_of}
use Rattle.fz_block.specs.Header.{next_start_of}
use Rattle.fz_block.specs.Hdus.{cards_of}
use Rattle.fz_block.specs.declared.header.Header.{Header}
use Rattle.fz_grid.specs.Grid.{tile_count}
use Rattle.fz_grid.specs.Region.{lengths_of}
use Rattle.fz_grid.specs.Sieve.{sieve_hi, sieve_lo, sieve_step, tile_picks}
use Rattle.fz_grid.specs.Overlap.{has_pixel}
use Rattle.fz_grid.specs.declared.sieve.Sieve.{Sieve}
use Rattle.fz_table.specs.Reads.{descriptor_ranges, record_ranges, row_ranges, tile_ranges}
use Rattle.fz_table.specs.Records.{chosen_record, described_in, chosen_column, record_at, record_of, row_checks, unit_in}
use Rattle.fz_table.specs.Rows.{StandsInRow, descriptor_len, row_at}
use Rattle.fz_table.specs.Tables.{table_checks}
use Rattle.fz_table.specs.declared.column.Column.{Column}
use Rattle.fz_table.specs.declared.record.Record.{Record}
use Rattle.fz_table.specs.declared.record.Tile.{Tile}
use Rattle.fz_table.specs.declared.row.Row.{Row}
use Rattle.fz_table.specs.declared.table.Table.{Table}
use Rattle.fz_checks.specs.JobChecks.{box_checks, cut_hdu_checks, image_checks, is_after_empty, packed_card_checks}
use Rattle.fz_checks.specs.Judges.{cut_judge}
use Rattle.fz_head.specs.PackedChecks.{packed_checks}
use Rattle.fz_files.specs.declared.job.Job.TheVariants.{Cut}
use Rattle.fz_files.specs.Cutout.{header_range, ranges_of_row, rows_touched, touched}
use Rattle.fz_files.specs.FirstFault.{image_row, picked_rows}
use Rattle.fz_files.specs.Laws.{RowsLieWithin}
use Rattle.fz_files.specs.Restored.{header_in, image_table, plan_in, tile_of}
use Rattle.fz_files.specs.Walks.{box_of, found_headers, header_fault, headers_for, job_walk, last_of, reached_by}
use Rattle.fz_files.proofs.FaultLemmas.{WalkFindsHeaders, cut_header, cut_passed, found_walk}
use Rattle.fz_files.proofs.ImageLemmas.{CutFindsImage, EachIs, IsReadable}
use Rattle.fz_files.proofs.ReachedLemmas.{HeaderIsFound, back_passed, reached_within, within}
use Rattle.fz_files.proofs.TableStandsLemmas.{StandsWithin, front_passed, table_stands_within}

-- each header that a walk finds is found at its place
abbrev pub WalkFindsEach : Type 0
WalkFindsEach = (judge : Judge) (most : ℕ) (file : List ℕ) (hs : List Header) → walk_of judge most file ≡ Ok hs → All (λ h. hdu_at h.hdu h.start file ≡ Ok h) hs

abbrev Lies : List ℕ → ℕ × ℕ → Type 0
Lies file range = range.0 + range.1 ≤ length file

abbrev Lie : List ℕ → List (ℕ × ℕ) → Type 0
Lie file ranges = AllByRecursion (Lies file) ranges

both_lie : (file : List ℕ) (xs ys : List (ℕ × ℕ)) → Lie file xs → Lie file ys → Lie file (xs ++ ys)
both_lie file [] ys a b = b
both_lie file (x ∷ xs) ys a b = (a.0, both_lie file xs ys a.1 b)

-- ---- a row

module _ (file : List ℕ) (t : Table) (stands : StandsWithin t (length file)) (row : ℕ) (near : row < t.rows) where
  row_ends : t.rows_at + t.row_bytes * row + t.row_bytes ≤ length file
  row_ends =
      let more : t.row_bytes * (row + 1) ≤ t.row_bytes * t.rows = mul-le-mul_left t.row_bytes (omega (arith, near)) in
      let one : t.row_bytes * (row + 1) ≡ t.row_bytes * row + t.row_bytes = grind arith in
      omega (arith, more, one, stands.rows, stands.heap)

  descriptor_lies : (found : Option Column) → IfSome found (StandsInRow t) → Lie file (descriptor_ranges t found row)
  descriptor_lies None there = tt
  descriptor_lies (Some c) there = let inside : c.at + descriptor_len c.wide ≤ t.row_bytes = there in (omega (arith, row_ends, inside), tt)

  row_lies : Lie file (row_ranges t row)
  row_lies =
      both_lie file (descriptor_ranges t t.coded row) (descriptor_ranges t t.stored row ++ descriptor_ranges t t.gzip row) (descriptor_lies t.coded stands.coded)
      (both_lie file (descriptor_ranges t t.stored row) (descriptor_ranges t t.gzip row) (descriptor_lies t.stored stands.stored) (descriptor_lies t.gzip stands.gzip))

-- ---- a record

second_clear : (a : Bool) (n end : ℕ) (x y : Fault) (cs : List (Bool × Fault)) → first_refusal ((a, x) ∷ (nat_lt n end, y) ∷ cs) ≡ None → end ≤ n
second_clear true n end x y cs none = absurd cc
second_clear false n end x y cs none = by_test (nat_lt n end) refl none
  where
    by_test : (b : Bool) → nat_lt n end ≡ b → first_refusal ((b, y) ∷ cs) ≡ None → end ≤ n
    by_test true is none = absurd cc
    by_test false is none = grind (arith, nat_tests, is)

record_ends : (hdu row : ℕ) (t : Table) (r : Row) (tile : Tile) (chosen : Record) → record_of hdu row t r tile ≡ Ok chosen → chosen.start + chosen.read ≤ t.heap_at + t.heap_len
unfolding record_of
record_ends hdu row t r tile chosen e = by_first (first_refusal (row_checks hdu row t r tile)) refl e
  where
    by_first : (found : Option Fault) → first_refusal (row_checks hdu row t r tile) ≡ found → unless_refused (chosen_record t r tile) found ≡ Ok chosen → chosen.start + chosen.read ≤ t.heap_at + t.heap_len
    by_first (Some x) is e = absurd cc
    by_first None is e =
        let same : chosen_record t r tile ≡ chosen = cc in
        let inside : (described_in r (chosen_column r)).offset + (described_in r (chosen_column r)).count * unit_in t (chosen_column r) ≤ t.heap_len =
        second_clear _ t.heap_len ((described_in r (chosen_column r)).offset + (described_in r (chosen_column r)).count * unit_in t (chosen_column r)) _ _ _ is in
        subst (λ (c : Record). c.start + c.read ≤ t.heap_at + t.heap_len) same (omega (arith, inside))

record_lies : (file : List ℕ) (hdu row : ℕ) (t : Table) (tile : Tile) → StandsWithin t (length file) → (found : Result Record Fault) → record_at file hdu t row tile ≡ found → Lie file (record_ranges found)
record_lies file hdu row t tile stands (Err x) is = tt
record_lies file hdu row t tile stands (Ok chosen) is =
    let ends = record_ends hdu row t (row_at file t row) tile chosen is in
    (omega (arith, ends, stands.heap), tt)

tile_lies : (file : List ℕ) (hdu : ℕ) (t : Table) (tile : Tile) (row : ℕ) → StandsWithin t (length file) → row < t.rows → Lie file (tile_ranges file hdu t row tile)
tile_lies file hdu t tile row stands near =
    both_lie file (row_ranges t row) (record_ranges (record_at file hdu t row tile)) (row_lies file t stands row near) (record_lies file hdu row t tile stands (record_at file hdu t row tile) refl)

-- the table of an HDU of the file that passes the checks of every job, if its own checks pass
table_within : HeaderIsFound → (file : List ℕ) (h : Header) → hdu_at h.hdu h.start file ≡ Ok h → first_refusal (table_checks (header_in file h) h) ≡ None → StandsWithin (image_table file h) (length file)
table_within find file h found none =
    let inside : next_start_of h ≤ length file = within h.hdu h.start file h found in
    let stands : StandsWithin (image_table file h) (next_start_of h) = table_stands_within (header_in file h) h (find h.hdu h.start file h found).2 none in
    record { rows = stands.rows; heap = omega (arith, stands.heap, inside); coded = stands.coded; stored = stands.stored; gzip = stands.gzip }

pub rows_lie_within : HeaderIsFound → RowsLieWithin
rows_lie_within find file h row found none near =
    All-from_recursion (Lies file) (ranges_of_row file (image_row h row))
    (tile_lies file h.hdu (image_table file h) (tile_of (plan_in file h) row) row (table_within find file h found none) near)

-- ---- the rows with a pick

-- what is known of the packed image that is cut from
record IsCutFrom (file : List ℕ) (sieve : Sieve) (h : Header) : Type 0 where
  stands : StandsWithin (image_table file h) (length file)
  rows : (image_table file h).rows ≡ tile_count (lengths_of (plan_in file h).shape) (lengths_of (plan_in file h).tile)

some_lie : (file : List ℕ) (h : Header) (test : ℕ → Bool) (a n : ℕ) → StandsWithin (image_table file h) (length file) → a + n ≤ (image_table file h).rows →
    Lie file (flat_map (ranges_of_row file) (map (image_row h) (filter test (range_with_len a n))))
some_lie file h test a zero stands few = tt
some_lie file h test a (suc n) stands few = by_test (test a) (some_lie file h test (a + 1) n stands (omega (arith, few)))
  where
    rest : List ℕ
    rest = filter test (range_with_len (a + 1) n)

    by_test : (b : Bool) → Lie file (flat_map (ranges_of_row file) (map (image_row h) rest)) → Lie file (flat_map (ranges_of_row file) (map (image_row h) (cond b (a ∷ rest) rest)))
    by_test true later =
        both_lie file (ranges_of_row file (image_row h a)) (flat_map (ranges_of_row file) (map (image_row h) rest))
        (tile_lies file h.hdu (image_table file h) (tile_of (plan_in file h) a) a stands (omega (arith, few))) later
    by_test false later = later

picked_lie : (file : List ℕ) (sieve : Sieve) (h : Header) → IsCutFrom file sieve h → Lie file (flat_map (ranges_of_row file) (picked_rows file sieve h))
picked_lie file sieve h is =
    some_lie file h (λ t. has_pixel (tile_picks (lengths_of (plan_in file h).shape) (lengths_of (plan_in file h).tile) (sieve_lo sieve) (sieve_hi sieve) (sieve_step sieve) t)) 0
    (tile_count (lengths_of (plan_in file h).shape) (lengths_of (plan_in file h).tile)) is.stands (omega (arith, is.rows))

apart : {X A : Type 0} (f : X → List A) (xs ys : List X) → flat_map f (xs ++ ys) ≡ flat_map f xs ++ flat_map f ys
apart f [] ys = refl
apart f (x ∷ xs) ys = ap (λ l. f x ++ l) (apart f xs ys) ∙ sym (append_assoc (f x) (flat_map f xs) (flat_map f ys))

all_lie : (file : List ℕ) (sieve : Sieve) (hs : List Header) → EachIs (IsCutFrom file sieve) hs → Lie file (flat_map (ranges_of_row file) (flat_map (picked_rows file sieve) hs))
all_lie file sieve [] each = tt
all_lie file sieve (h ∷ hs) each =
    subst (Lie file) (sym (apart (ranges_of_row file) (picked_rows file sieve h) (flat_map (picked_rows file sieve) hs)))
    (both_lie file (flat_map (ranges_of_row file) (picked_rows file sieve h)) (flat_map (ranges_of_row file) (flat_map (picked_rows file sieve) hs)) (picked_lie file sieve h each.0) (all_lie file sieve hs each.1))

-- ---- the HDU that is cut from

abbrev IsPassed : List ℕ → Sieve → Header → Type 0
IsPassed file sieve h = first_refusal (cut_hdu_checks file (box_of sieve) h) ≡ None

is_cut_from : HeaderIsFound → (file : List ℕ) (sieve : Sieve) (h : Header) → hdu_at h.hdu h.start file ≡ Ok h → IsReadable file h → IsPassed file sieve h → IsCutFrom file sieve h
is_cut_from find file sieve h found readable none =
    let header : List ℕ = header_in file h in
    let empty : Bool = is_after_empty file h in
    let behind : first_refusal (image_checks h header empty ++ box_checks h.hdu (cards_of header) (box_of sieve)) ≡ None =
    back_passed (packed_card_checks h header) (image_checks h header empty ++ box_checks h.hdu (cards_of header) (box_of sieve)) none in
    let table : first_refusal (table_checks header h) ≡ None =
    front_passed (table_checks header h) (packed_checks h.hdu header empty) (front_passed (image_checks h header empty) (box_checks h.hdu (cards_of header) (box_of sieve)) behind) in
    record { stands = table_within find file h found table; rows = readable.rows }

each_cut_from : HeaderIsFound → (file : List ℕ) (sieve : Sieve) (hs : List Header) → EachIs (λ h. hdu_at h.hdu h.start file ≡ Ok h) hs → EachIs (IsReadable file) hs → EachIs (IsPassed file sieve) hs → EachIs (IsCutFrom file sieve) hs
each_cut_from find file sieve [] found readable passed = tt
each_cut_from find file sieve (h ∷ hs) found readable passed = (is_cut_from find file sieve h found.0 readable.0 passed.0, each_cut_from find file sieve hs found.1 readable.1 passed.1)

each_of : (P : Header → Type 0) (hs : List Header) → AllByRecursion P hs → EachIs P hs
each_of P [] all = tt
each_of P (h ∷ hs) all = (all.0, each_of P hs all.1)

last_each : (P : Header → Type 0) (hs : List Header) → EachIs P hs → EachIs P (last_of hs)
last_each P [] each = tt
last_each P (h ∷ []) each = each
last_each P (h ∷ (j ∷ hs)) each = last_each P (j ∷ hs) each.1

module _ (find : HeaderIsFound) (each : WalkFindsEach) (finds : WalkFindsHeaders) (cuts : CutFindsImage) (wanted : Option ℕ) (sieve : Sieve) (file : List ℕ) where
  found_last : header_fault (Cut wanted sieve) file ≡ None → EachIs (λ h. hdu_at h.hdu h.start file ≡ Ok h) (last_of (headers_for (Cut wanted sieve) file))
  unfolding job_walk
  found_last none =
      let found = found_walk (Cut wanted sieve) file (walk_of (cut_judge wanted (box_of sieve) file) 65536 file) none in
      subst (λ r. EachIs (λ h. hdu_at h.hdu h.start file ≡ Ok h) (last_of (found_headers r))) (sym found.1)
      (last_each (λ h. hdu_at h.hdu h.start file ≡ Ok h) found.0
      (each_of (λ h. hdu_at h.hdu h.start file ≡ Ok h) found.0 (recursion_from_All (λ h. hdu_at h.hdu h.start file ≡ Ok h) found.0 (each (cut_judge wanted (box_of sieve) file) 65536 file found.0 found.1))))

  rows_lie : (found : Option Fault) → header_fault (Cut wanted sieve) file ≡ found → Lie file (rows_touched found (Cut wanted sieve) file)
  rows_lie (Some x) is = tt
  rows_lie None is =
      all_lie file sieve (last_of (headers_for (Cut wanted sieve) file))
      (each_cut_from find file sieve (last_of (headers_for (Cut wanted sieve) file)) (found_last is) (cut_header finds cuts wanted sieve file is) (cut_passed wanted sieve file is))

  headers_lie : All (Lies file) (map (header_range file) (reached_by (Cut wanted sieve) file))
  headers_lie = All-map (Lies file) (header_range file) (reached_by (Cut wanted sieve) file) (reached_within (Cut wanted sieve) file)

  lie_within : All (Lies file) (touched wanted sieve file)
  unfolding touched
  lie_within =
      All-append (Lies file) (map (header_range file) (reached_by (Cut wanted sieve) file)) (rows_touched (header_fault (Cut wanted sieve) file) (Cut wanted sieve) file) headers_lie
      (All-from_recursion (Lies file) (rows_touched (header_fault (Cut wanted sieve) file) (Cut wanted sieve) file) (rows_lie (header_fault (Cut wanted sieve) file) refl))

pub cuts_lie_within : HeaderIsFound → WalkFindsEach → WalkFindsHeaders → CutFindsImage → (wanted : Option ℕ) (sieve : Sieve) (file : List ℕ) → All (λ range. range.0 + range.1 ≤ length file) (touched wanted sieve file)
cuts_lie_within find each finds cuts wanted sieve file = lie_within find each finds cuts wanted sieve file
