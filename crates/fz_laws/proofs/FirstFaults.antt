-- The first fault of a file by its bytes alone is its first fault: row by row, and before them the headers.
use Rattle.std.specs.Prelude.{⊤}
use Rattle.std.proofs.Common.{◌≡◌, ℕ, suc, ◌+◌, ◌<◌, ◌≤◌, inl, inr, ◌||◌, Bool, true, false, cond, ℤ, pos, unsigned_abs, List, [], ◌∷◌, ◌++◌, length, map, drop, Option, Some, None, Result, Ok, Err, if◌then◌else◌, refl, sym, subst, ap, ◌∙◌, arith}
use Rattle.std.specs.List.{filter, flat_map, range_with_len}
use Rattle.std.proofs.lemmas.List.Elements.{All-drop, All-take}
use Rattle.fz_base.specs.Refusal.{first_refusal}
use Rattle.fz_base.specs.declared.fault.Fault.{Fault}
use Rattle.fz_block.specs.Checks.{Judge, unless_refused, walk_of}
use Rattle.fz_block.specs.Facts.{IsHeaderOf}
use Rattle.fz_block.specs.Header.{next_start_of}
use Rattle.fz_block.specs.Walk.{AreHeadersBetween, RefusesNone, is_stop, stops}
use Rattle.fz_block.specs.declared.header.Header.{Header}
use Rattle.fz_grid.specs.declared.sieve.Sieve.{Sieve}
use Rattle.fz_table.specs.Records.{record_at, record_bytes}
use Rattle.fz_table.specs.declared.record.Record.{Record}
use Rattle.fz_tile.specs.Codecs.{CanRead}
use Rattle.fz_tile.specs.Pixels.{IsBitpix}
use Rattle.fz_tile.specs.Plain.{AreBytes}
use Rattle.fz_tile.specs.declared.codec.Codec.{Codec}
use Rattle.fz_tile.specs.declared.fault.TileFault.{TileFault}
use Rattle.fz_checks.specs.JobChecks.{IsImageOf, image_in, is_after_empty, cut_hdu_checks, missing_hdu, unpack_hdu_checks}
use Rattle.fz_checks.specs.Judges.{cut_judge, is_wanted, unpack_judge}
use Rattle.fz_head.specs.declared.plan.Plan.{Plan}
use Rattle.fz_files.specs.declared.job.Job.{Job}
use Rattle.fz_files.specs.declared.job.Job.TheVariants.{Pack, Unpack, Cut, Verify, List as ListHdus, Drill, Retile}
use Rattle.fz_files.specs.FirstFault.{ImageRow, IsFaultBehind, IsFaultThen, IsFirstFault, IsFirstRowFault, IsRowFault, IsRowsFault, all_rows, image_row, picked_rows, picked_tiles_of, rows_for, rows_of}
use Rattle.fz_files.specs.Packed.{pixel_bits, tiles_in}
use Rattle.fz_files.specs.Restored.{RowStandsFor, header_in, image_table, is_image, pixels_of, place_in, plan_in, tile_of}
use Rattle.fz_files.specs.Walks.{box_of, cut_end_fault, fault_of_walk, found_headers, header_fault, headers_for, job_walk, last_of, missing_of}
use Rattle.fz_files.specs.Decided.{fault_after, fault_behind, fault_then, first_fault, rows_fault}
use Rattle.fz_files.specs.PlainFault.{plain_fault}
use Rattle.fz_files.specs.RowPixels.{fault_or, first_row_fault, for_row, pixels_after, pixels_found, row_pixels}
use Rattle.fz_laws.specs.RoundTripTaken.{FaultLaws, PixelLaws}
use Rattle.fz_laws.proofs.Passing.{table_none}
use Rattle.fz_laws.proofs.Readable.{heap_within, record_len, starts_before}
use Rattle.fz_laws.proofs.RecordPixels.{IsRecordResult, record_is}
use Rattle.fz_laws.proofs.Sources.{answer_none}

-- ---- a row

-- the tiles of an image can be read, and its heap ends within the file
pub record IsReadable (file : List ℕ) (h : Header) : Type 0 where
  pub can : CanRead (plan_in file h).codec (pos (pixel_bits (plan_in file h)))
  pub within : (image_table file h).heap_at + (image_table file h).heap_len ≤ length file

-- a row stands for these pixels, or has this fault
abbrev pub IsRowResult : List ℕ → ImageRow → Result (List ℤ) Fault → Type 0
IsRowResult file r (Ok xs) = RowStandsFor file r.header r.row xs
IsRowResult file r (Err fault) = IsRowFault file r fault

chosen_is : (file : List ℕ) (r : ImageRow) (found : Record) →
    record_at file r.header.hdu (image_table file r.header) r.row (tile_of (plan_in file r.header) r.row) ≡ Ok found → (x : Result (List ℤ) TileFault) →
    IsRecordResult (plan_in file r.header).codec (pixel_bits (plan_in file r.header)) (place_in found.column) found.total (pixels_of (plan_in file r.header) r.row) (record_bytes file found) x →
    IsRowResult file r (for_row r x)
chosen_is file r found chosen (Ok xs) is = record { found = found; chosen = chosen; count = is.0; means = is.1 }
chosen_is file r found chosen (Err why) is = inr (why, record { found = found; chosen = chosen; fault = is }, refl)

bytes_of_record : (file : List ℕ) (found : Record) → AreBytes file → AreBytes (record_bytes file found)
bytes_of_record file found bytes = All-take (λ byte. byte < 256) found.read (drop found.start file) (All-drop (λ byte. byte < 256) found.start file bytes)

pub row_is : PixelLaws → (file : List ℕ) (r : ImageRow) → AreBytes file → IsReadable file r.header → IsRowResult file r (row_pixels file r)
row_is laws file r bytes is = by_record (record_at file r.header.hdu (image_table file r.header) r.row (tile_of p r.row)) refl
  where
    p : Plan
    p = plan_in file r.header

    by_record : (x : Result Record Fault) → record_at file r.header.hdu (image_table file r.header) r.row (tile_of (plan_in file r.header) r.row) ≡ x → IsRowResult file r (pixels_after file r x)
    by_record (Err fault) e = inl e
    by_record (Ok found) e =
        chosen_is file r found e (pixels_found file r found)
        (record_is laws (plan_in file r.header).codec (pixel_bits (plan_in file r.header)) (place_in found.column) found.total (pixels_of (plan_in file r.header) r.row) (record_bytes file found) is.can
        (bytes_of_record file found bytes)
        (record_len file r.header.hdu r.row (image_table file r.header) (tile_of (plan_in file r.header) r.row) found e is.within))

-- ---- rows, one after another

abbrev pub AreReadable : List ℕ → List ImageRow → Type 0
AreReadable file [] = ⊤
AreReadable file (r ∷ rs) = IsReadable file r.header × AreReadable file rs

joined : (file : List ℕ) (r : ImageRow) (rs : List ImageRow) (x : Result (List ℤ) Fault) (later : Option Fault) → IsRowResult file r x → IsFirstRowFault file rs later → IsFirstRowFault file (r ∷ rs) (fault_or x later)
joined file r rs (Ok xs) None is are = ((xs, is), are)
joined file r rs (Ok xs) (Some fault) is are = inr ((xs, is), are)
joined file r rs (Err fault) later is are = inl is

pub rows_are : PixelLaws → (file : List ℕ) (rs : List ImageRow) → AreBytes file → AreReadable file rs → IsFirstRowFault file rs (first_row_fault file rs)
unfolding first_row_fault
rows_are laws file [] bytes are = tt
rows_are laws file (r ∷ rs) bytes are = joined file r rs (row_pixels file r) (first_row_fault file rs) (row_is laws file r bytes are.0) (rows_are laws file rs bytes are.1)

readable_append : (file : List ℕ) (rs more : List ImageRow) → AreReadable file rs → AreReadable file more → AreReadable file (rs ++ more)
readable_append file [] more a b = b
readable_append file (r ∷ rs) more a b = (a.0, readable_append file rs more a.1 b)

readable_map : (file : List ℕ) (h : Header) (ts : List ℕ) → IsReadable file h → AreReadable file (map (image_row h) ts)
readable_map file h [] is = tt
readable_map file h (t ∷ ts) is = (is, readable_map file h ts is)

-- ---- headers

-- the size of a pixel is that of the plan
bits_are : (codec : Codec) (bitpix : ℤ) → CanRead codec bitpix → CanRead codec (pos (unsigned_abs bitpix))
bits_are codec bitpix can = by_size can.size
  where
    at : (size : ℤ) → bitpix ≡ size → CanRead codec (pos (unsigned_abs size)) → CanRead codec (pos (unsigned_abs bitpix))
    at size e is = subst (λ b. CanRead codec (pos (unsigned_abs b))) (sym e) is

    by_size : IsBitpix bitpix → CanRead codec (pos (unsigned_abs bitpix))
    by_size (inl e) = at (pos 8) e (subst (CanRead codec) e can)
    by_size (inr (inl e)) = at (pos 16) e (subst (CanRead codec) e can)
    by_size (inr (inr (inl e))) = at (pos 32) e (subst (CanRead codec) e can)
    by_size (inr (inr (inr e))) = at (pos 64) e (subst (CanRead codec) e can)

pub image_is : (file : List ℕ) (h : Header) → IsHeaderOf (header_in file h) h → next_start_of h ≤ length file → IsImageOf (header_in file h) h (image_in h (header_in file h)) → IsReadable file h
image_is file h is ends image = record {
  can = bits_are (plan_in file h).codec (plan_in file h).bitpix image.readable;
  within = within ((image_table file h).heap_at + (image_table file h).heap_len) (next_start_of h) (length file) (heap_within (header_in file h) h is (table_none (header_in file h) h _ image.table)) ends;
}
  where
    within : (a b c : ℕ) → a ≤ b → b ≤ c → a ≤ c
    within a b c first second = omega (arith, first, second)

-- each of these headers has a property
abbrev pub EachIs : (Header → Type 0) → List Header → Type 0
EachIs P [] = ⊤
EachIs P (h ∷ hs) = P h × EachIs P hs

-- a header of the file, whose HDU ends within it
abbrev pub Stands : List ℕ → Header → Type 0
Stands file h = IsHeaderOf (header_in file h) h × (next_start_of h ≤ length file)

pub each_stands : (k start end : ℕ) (file : List ℕ) (hs : List Header) → AreHeadersBetween k start end file hs → end ≤ length file → EachIs (Stands file) hs
each_stands k start end file [] are within = tt
each_stands k start end file (h ∷ hs) are within =
    let ends = starts_before (suc k) (next_start_of h) end file hs are.3 in
    ((are.2, omega (arith, ends, within)), each_stands (suc k) (next_start_of h) end file hs are.3 within)

unpacked : FaultLaws → (file : List ℕ) (hs : List Header) → EachIs (Stands file) hs → RefusesNone (unpack_judge file) hs → AreReadable file (all_rows file hs)
unpacked laws file [] each none = tt
unpacked laws file (h ∷ hs) each none = by_packed (unpacked laws file hs each.1 none.1) (is_image file h) refl
  where
    by_packed : AreReadable file (all_rows file hs) → (packed : Bool) → is_image file h ≡ packed →
        AreReadable file (flat_map (rows_of file) (cond packed (h ∷ filter (is_image file) hs) (filter (is_image file) hs)))
    by_packed later true is =
        readable_append file (rows_of file h) (all_rows file hs)
        (readable_map file h (range_with_len 0 (tiles_in (plan_in file h)))
        (image_is file h each.0.0 each.0.1
        (laws.unpack h (header_in file h) (is_after_empty file h) each.0.0 is (answer_none false (first_refusal (unpack_hdu_checks file h)) none.0))))
        later
    by_packed later false is = later

-- ---- the HDU that a part is cut from

-- some headers end with their last one
abbrev EndsWith : List Header → Type 0
EndsWith hs = (front : List Header) × (h : Header) × (hs ≡ front ++ h ∷ []) × (last_of hs ≡ h ∷ [])

ends_with : (h : Header) (hs : List Header) → EndsWith (h ∷ hs)
ends_with h [] = ([], h, refl, refl)
ends_with h (k ∷ hs) = let more = ends_with k hs in (h ∷ more.0, more.1, ap (λ l. h ∷ l) more.2, more.3)

last_stands : (file : List ℕ) (front : List Header) (h : Header) → EachIs (Stands file) (front ++ h ∷ []) → Stands file h
last_stands file [] h each = each.0
last_stands file (k ∷ front) h each = last_stands file front h each.1

last_stops : (judge : Judge) (front : List Header) (h : Header) → stops judge front ≡ false → stops judge (front ++ h ∷ []) ≡ true → judge h ≡ Ok true
last_stops judge [] h none some = by_answer (judge h) some
  where
    by_answer : (r : Result Bool Fault) → (is_stop r || false) ≡ true → r ≡ Ok true
    by_answer (Ok true) e = refl
    by_answer (Ok false) e = absurd cc
    by_answer (Err fault) e = absurd cc
last_stops judge (k ∷ front) h none some = by_stop (is_stop (judge k)) none some (last_stops judge front h)
  where
    by_stop : (b : Bool) → (b || stops judge front) ≡ false → (b || stops judge (front ++ h ∷ [])) ≡ true → (stops judge front ≡ false → stops judge (front ++ h ∷ []) ≡ true → judge h ≡ Ok true) → judge h ≡ Ok true
    by_stop true none some later = absurd cc
    by_stop false none some later = later none some

-- where `cut` stops, its checks refuse nothing
pub cut_none : (wanted : Bool) (found : Option Fault) → (if wanted then unless_refused true found else Ok false) ≡ Ok true → found ≡ None
cut_none true None e = refl
cut_none true (Some fault) e = absurd cc
cut_none false found e = absurd cc

-- a cut that finds its HDU stops at it
pub stops_if : (wanted : Option ℕ) (judge : Judge) (file : List ℕ) (hs : List Header) → missing_of wanted judge file hs ≡ None → stops judge hs ≡ true
stops_if wanted judge file hs e = by_stop (stops judge hs) e
  where
    by_stop : (stop : Bool) → (if stop then None else Some (missing_hdu wanted (length hs) (length file))) ≡ None → stop ≡ true
    by_stop true e = refl
    by_stop false e = absurd cc

-- the HDU at which `cut` stops
pub cut_header : FaultLaws → (wanted : Option ℕ) (sieve : Sieve) (file : List ℕ) (hs : List Header) → walk_of (cut_judge wanted (box_of sieve) file) 65536 file ≡ Ok hs →
    stops (cut_judge wanted (box_of sieve) file) hs ≡ true → (h : Header) × (last_of hs ≡ h ∷ []) × Stands file h × (cut_judge wanted (box_of sieve) file h ≡ Ok true)
cut_header laws wanted sieve file [] walk stop = absurd cc
cut_header laws wanted sieve file (k ∷ hs) walk stop =
    let judge : Judge = cut_judge wanted (box_of sieve) file in
    let found = laws.headers judge 65536 file (k ∷ hs) walk in
    let ends = ends_with k hs in
    let none : stops judge ends.0 ≡ false = laws.last judge 65536 file ends.0 ends.1 (walk ∙ ap (λ l. Ok l) ends.2) in
    let each : EachIs (Stands file) (ends.0 ++ ends.1 ∷ []) = subst (EachIs (Stands file)) ends.2 (each_stands 0 0 found.3.0 file (k ∷ hs) found.3.2 found.3.1) in
    (ends.1, ends.3, last_stands file ends.0 ends.1 each, last_stops judge ends.0 ends.1 none (ap (stops judge) (sym ends.2) ∙ stop))

pub cut_image : FaultLaws → (wanted : Option ℕ) (sieve : Sieve) (file : List ℕ) (h : Header) → Stands file h → cut_judge wanted (box_of sieve) file h ≡ Ok true → IsImageOf (header_in file h) h (image_in h (header_in file h))
cut_image laws wanted sieve file h stands stop =
    laws.cut h (header_in file h) (is_after_empty file h) (box_of sieve) stands.0 (cut_none (is_wanted wanted (header_in file h) h) (first_refusal (cut_hdu_checks file (box_of sieve) h)) stop)

cut_rows : FaultLaws → (wanted : Option ℕ) (sieve : Sieve) (file : List ℕ) (hs : List Header) → walk_of (cut_judge wanted (box_of sieve) file) 65536 file ≡ Ok hs →
    stops (cut_judge wanted (box_of sieve) file) hs ≡ true → AreReadable file (flat_map (picked_rows file sieve) (last_of hs))
cut_rows laws wanted sieve file hs walk stop =
    let last = cut_header laws wanted sieve file hs walk stop in
    let is : IsReadable file last.0 = image_is file last.0 last.2.0 last.2.1 (cut_image laws wanted sieve file last.0 last.2 last.3) in
    subst (λ l. AreReadable file (flat_map (picked_rows file sieve) l)) (sym last.1)
    (readable_append file (picked_rows file sieve last.0) [] (readable_map file last.0 (picked_tiles_of (plan_in file last.0) sieve) is) tt)

-- ---- the file

pub found_walk : (job : Job) (file : List ℕ) (found : Result (List Header) Fault) → fault_of_walk job file found ≡ None → (hs : List Header) × (found ≡ Ok hs) × (cut_end_fault job file hs ≡ None)
found_walk job file (Ok hs) none = (hs, refl, none)
found_walk job file (Err fault) none = absurd cc

unpacked_rows : FaultLaws → (file : List ℕ) (hs : List Header) → walk_of (unpack_judge file) 65536 file ≡ Ok hs → AreReadable file (all_rows file hs)
unpacked_rows laws file hs walk =
    let found = laws.headers (unpack_judge file) 65536 file hs walk in
    unpacked laws file hs (each_stands 0 0 found.3.0 file hs found.3.2 found.3.1) found.2

pub rows_readable : FaultLaws → (job : Job) (file : List ℕ) → header_fault job file ≡ None → AreReadable file (rows_for job file (headers_for job file))
unfolding job_walk
rows_readable laws (Pack o) file none = tt
rows_readable laws Unpack file none =
    let found = found_walk Unpack file (walk_of (unpack_judge file) 65536 file) none in
    subst (λ r. AreReadable file (all_rows file (found_headers r))) (sym found.1) (unpacked_rows laws file found.0 found.1)
rows_readable laws (Cut wanted sieve) file none =
    let found = found_walk (Cut wanted sieve) file (walk_of (cut_judge wanted (box_of sieve) file) 65536 file) none in
    subst (λ r. AreReadable file (flat_map (picked_rows file sieve) (last_of (found_headers r)))) (sym found.1)
    (cut_rows laws wanted sieve file found.0 found.1 (stops_if wanted (cut_judge wanted (box_of sieve) file) file found.0 found.2))
rows_readable laws Verify file none =
    let found = found_walk Verify file (walk_of (unpack_judge file) 65536 file) none in
    subst (λ r. AreReadable file (all_rows file (found_headers r))) (sym found.1) (unpacked_rows laws file found.0 found.1)
rows_readable laws ListHdus file none = tt
rows_readable laws (Drill rows) file none = tt
rows_readable laws (Retile o) file none =
    let found = found_walk (Retile o) file (walk_of (unpack_judge file) 65536 file) none in
    subst (λ r. AreReadable file (all_rows file (found_headers r))) (sym found.1) (unpacked_rows laws file found.0 found.1)

-- the fault of rows, or else what is looked for after them
then_is : (file : List ℕ) (rows : List ImageRow) (found later : Option Fault) → IsFirstRowFault file rows found → IsFaultThen file rows later (fault_then found later)
then_is file rows (Some x) later is = inl is
then_is file rows None None is = (is, refl)
then_is file rows None (Some x) is = inr (is, refl)

of_rows : FaultLaws → (job : Job) (file : List ℕ) → AreBytes file → AreReadable file (rows_for job file (headers_for job file)) → IsRowsFault job file (fault_behind job file)
of_rows laws (Pack o) file bytes can = rows_are laws.pixels file (rows_for (Pack o) file (headers_for (Pack o) file)) bytes can
of_rows laws Unpack file bytes can = rows_are laws.pixels file (rows_for Unpack file (headers_for Unpack file)) bytes can
of_rows laws (Cut wanted sieve) file bytes can = rows_are laws.pixels file (rows_for (Cut wanted sieve) file (headers_for (Cut wanted sieve) file)) bytes can
of_rows laws Verify file bytes can = rows_are laws.pixels file (rows_for Verify file (headers_for Verify file)) bytes can
of_rows laws ListHdus file bytes can = rows_are laws.pixels file (rows_for ListHdus file (headers_for ListHdus file)) bytes can
of_rows laws (Drill rows) file bytes can = rows_are laws.pixels file (rows_for (Drill rows) file (headers_for (Drill rows) file)) bytes can
of_rows laws (Retile o) file bytes can =
    then_is file (rows_for (Retile o) file (headers_for (Retile o) file)) (rows_fault (Retile o) file) (plain_fault o file)
    (rows_are laws.pixels file (rows_for (Retile o) file (headers_for (Retile o) file)) bytes can)

fault_is : FaultLaws → (refused : Option Fault) (job : Job) (file : List ℕ) → AreBytes file → (refused ≡ None → AreReadable file (rows_for job file (headers_for job file))) →
    IsFaultBehind refused job file (fault_after refused job file)
fault_is laws (Some fault) job file bytes can = refl
fault_is laws None job file bytes can = of_rows laws job file bytes (can refl)

pub first_fault_is : FaultLaws → (job : Job) (file : List ℕ) → AreBytes file → IsFirstFault job file (first_fault job file)
unfolding first_fault
first_fault_is laws job file bytes = fault_is laws (header_fault job file) job file bytes (rows_readable laws job file)
