-- What a row stands for, and the fault that it has, are those that its bytes say; and so is the first fault of a file.
use Rattle.std.proofs.Common.{◌≡◌, ℕ, ◌*◌, ◌/◌, inl, inr, ◌==◌, Bool, true, false, ℤ, pos, List, [], ◌∷◌, length, Option, Some, None, Result, Ok, Err, if◌then◌else◌, refl, sym, ap, ◌∙◌}
use Rattle.std.specs.Prelude.{All}
use Rattle.fz_base.specs.declared.fault.Fault.{Fault}
use Rattle.fz_bits.specs.Numbers.{IsNumber}
use Rattle.fz_table.specs.Records.{record_bytes}
use Rattle.fz_tile.specs.Codecs.{CanRead}
use Rattle.fz_tile.specs.Laws.{GivesPixelsAgain}
use Rattle.fz_tile.specs.Pixels.{IsBitpix}
use Rattle.fz_tile.specs.Plain.{stored_pixels}
use Rattle.fz_tile.specs.Record.{IsRecord, IsStored, read_len}
use Rattle.fz_tile.specs.Refusals.{IsFault, IsPlainFault}
use Rattle.fz_tile.specs.declared.codec.Codec.{Codec}
use Rattle.fz_tile.specs.declared.codec.Codec.TheVariants.{Rice, Plio, Plain}
use Rattle.fz_tile.specs.declared.coded.Place2.{Place2}
use Rattle.fz_tile.specs.declared.coded.Place2.TheVariants.{Coded, Stored}
use Rattle.fz_tile.specs.declared.fault.TileFault.{TileFault}
use Rattle.fz_tile.specs.declared.fault.TileFault.TheVariants.{TileSize}
use Rattle.fz_head.specs.declared.plan.Plan.{Plan}
use Rattle.fz_files.specs.declared.job.Job.{Job}
use Rattle.fz_files.specs.FirstFault.{ImageRow, IsFaultBehind, IsFaultThen, IsFirstFault, IsFirstRowFault, IsRowFault, IsRowsFault, rows_for}
use Rattle.fz_files.specs.Packed.{pixel_bits}
use Rattle.fz_files.specs.Restored.{RowStandsFor, image_table, pixels_of, place_in, plan_in, tile_of}
use Rattle.fz_files.specs.Walks.{header_fault, headers_for}
use Rattle.fz_files.specs.Decided.{fault_after, fault_behind, fault_then, first_fault}
use Rattle.fz_files.specs.PlainFault.{plain_fault}
use Rattle.fz_files.specs.declared.job.Job.TheVariants.{Pack, Unpack, Cut, Verify, List as ListHdus, Drill, Retile}
use Rattle.fz_files.specs.RowPixels.{fault_or, first_row_fault, for_row, pixels_after, row_pixels}
use Rattle.fz_files.specs.RecordPixels.{plain_pixels, record_pixels}
use Rattle.fz_laws.specs.RoundTripTaken.{FaultLaws, KnownLaws}
use Rattle.fz_laws.proofs.FirstFaults.{AreReadable, IsReadable, rows_readable}
use Rattle.fz_laws.proofs.Readable.{record_len}
use Rattle.fz_laws.proofs.RecordPixels.{IsRecordResult, code_result, line_result}
use Rattle.fz_laws.proofs.Tests.{eq_false, eq_true}

-- ---- a record

plain_record : GivesPixelsAgain → (bitpix total n : ℕ) (read : List ℕ) (xs : List ℤ) → IsBitpix (pos bitpix) → length xs ≡ n → All (IsNumber bitpix) xs → IsStored bitpix total read xs →
    plain_pixels bitpix total n read ≡ Ok xs
plain_record again bitpix total n read xs size len numbers stored = by_test (total == bitpix / 8 * n) refl
  where
    by_test : (b : Bool) → (total == bitpix / 8 * n) ≡ b → ◌≡◌ {A = Result (List ℤ) TileFault} (if b then Ok (stored_pixels bitpix n read) else Err TileSize) (Ok xs)
    by_test true e =
        ap (λ l. Ok l) (ap (λ k. stored_pixels bitpix k read) (sym len) ∙ ap (stored_pixels bitpix (length xs)) stored.1 ∙ again bitpix xs size numbers)
    by_test false e = absurd (eq_false total (bitpix / 8 * n) e (stored.0 ∙ ap (λ k. bitpix / 8 * k) len))

plain_refused : (bitpix total n : ℕ) (read : List ℕ) (why : TileFault) → IsPlainFault bitpix total n why → plain_pixels bitpix total n read ≡ Err why
plain_refused bitpix total n read why is = by_test (total == bitpix / 8 * n) refl
  where
    by_test : (b : Bool) → (total == bitpix / 8 * n) ≡ b → ◌≡◌ {A = Result (List ℤ) TileFault} (if b then Ok (stored_pixels bitpix n read) else Err TileSize) (Err why)
    by_test true e = absurd (is.size (eq_true total (bitpix / 8 * n) e))
    by_test false e = ap (λ f. Err f) (sym is.kind)

of_record : KnownLaws → (codec : Codec) (bitpix : ℕ) (place : Place2) (total n : ℕ) (read : List ℕ) (xs : List ℤ) (r : Result (List ℤ) TileFault) → CanRead codec (pos bitpix) → length xs ≡ n →
    IsRecord codec bitpix place total read xs → IsRecordResult codec bitpix place total n read r → r ≡ Ok xs
of_record laws codec bitpix place total n read xs (Ok ys) can len is found = ap (λ l. Ok l) (laws.one_list codec bitpix total place read xs ys can (found.0 ∙ sym len) is found.1)
of_record laws codec bitpix place total n read xs (Err why) can len is found = absurd (laws.none codec bitpix total n place read why can (xs, len, is) found)

of_fault : KnownLaws → (codec : Codec) (bitpix : ℕ) (place : Place2) (total n : ℕ) (read : List ℕ) (why : TileFault) (r : Result (List ℤ) TileFault) → CanRead codec (pos bitpix) →
    IsFault codec bitpix place total read n why → IsRecordResult codec bitpix place total n read r → r ≡ Err why
of_fault laws codec bitpix place total n read why (Ok ys) can is found = absurd (laws.none codec bitpix total n place read why can (ys, found.0, found.1) is)
of_fault laws codec bitpix place total n read why (Err other) can is found = ap (λ f. Err f) (laws.one codec bitpix total n place read why other can is found)

record_known : KnownLaws → (codec : Codec) (bitpix : ℕ) (place : Place2) (total n : ℕ) (read : List ℕ) (xs : List ℤ) → CanRead codec (pos bitpix) → length read ≡ read_len n total → length xs ≡ n →
    IsRecord codec bitpix place total read xs → record_pixels codec bitpix place total n read ≡ Ok xs
record_known laws codec bitpix Stored total n read xs can size len is = plain_record laws.again bitpix total n read xs can.size len is.pixels is.meaning
record_known laws (Rice block bytepix) bitpix Coded total n read xs can size len is =
    of_record laws (Rice block bytepix) bitpix Coded total n read xs _ can len is (code_result laws.rice block bytepix bitpix total n read can size)
record_known laws Plio bitpix Coded total n read xs can size len is = of_record laws Plio bitpix Coded total n read xs _ can len is (line_result bitpix total n read can size)
record_known laws Plain bitpix Coded total n read xs can size len is = plain_record laws.again bitpix total n read xs can.size len is.pixels is.meaning

fault_known : KnownLaws → (codec : Codec) (bitpix : ℕ) (place : Place2) (total n : ℕ) (read : List ℕ) (why : TileFault) → CanRead codec (pos bitpix) → length read ≡ read_len n total →
    IsFault codec bitpix place total read n why → record_pixels codec bitpix place total n read ≡ Err why
fault_known laws codec bitpix Stored total n read why can size is = plain_refused bitpix total n read why is
fault_known laws (Rice block bytepix) bitpix Coded total n read why can size is =
    of_fault laws (Rice block bytepix) bitpix Coded total n read why _ can is (code_result laws.rice block bytepix bitpix total n read can size)
fault_known laws Plio bitpix Coded total n read why can size is = of_fault laws Plio bitpix Coded total n read why _ can is (line_result bitpix total n read can size)
fault_known laws Plain bitpix Coded total n read why can size is = plain_refused bitpix total n read why is

-- ---- a row

pub row_known : KnownLaws → (file : List ℕ) (r : ImageRow) (xs : List ℤ) → IsReadable file r.header → RowStandsFor file r.header r.row xs → row_pixels file r ≡ Ok xs
row_known laws file r xs readable is =
    let p : Plan = plan_in file r.header in
    let size = record_len file r.header.hdu r.row (image_table file r.header) (tile_of p r.row) is.found is.chosen readable.within in
    ap (pixels_after file r) is.chosen
    ∙ ap (for_row r)
    (record_known laws p.codec (pixel_bits p) (place_in is.found.column) is.found.total (pixels_of p r.row) (record_bytes file is.found) xs readable.can size is.count is.means)

pub row_fault_known : KnownLaws → (file : List ℕ) (r : ImageRow) (fault : Fault) → IsReadable file r.header → IsRowFault file r fault → row_pixels file r ≡ Err fault
row_fault_known laws file r fault readable (inl refused) = ap (pixels_after file r) refused
row_fault_known laws file r fault readable (inr (why, is, same)) =
    let p : Plan = plan_in file r.header in
    let size = record_len file r.header.hdu r.row (image_table file r.header) (tile_of p r.row) is.found is.chosen readable.within in
    ap (pixels_after file r) is.chosen
    ∙ ap (for_row r)
    (fault_known laws p.codec (pixel_bits p) (place_in is.found.column) is.found.total (pixels_of p r.row) (record_bytes file is.found) why readable.can size is.fault)
    ∙ ap (λ f. Err f) (sym same)

-- ---- rows, one after another

pub rows_known : KnownLaws → (file : List ℕ) (rs : List ImageRow) (found : Option Fault) → AreReadable file rs → IsFirstRowFault file rs found → first_row_fault file rs ≡ found
unfolding first_row_fault
rows_known laws file [] None can is = refl
rows_known laws file [] (Some fault) can is = absurd is
rows_known laws file (r ∷ rs) None can is =
    ap (λ x. fault_or x (first_row_fault file rs)) (row_known laws file r is.0.0 can.0 is.0.1) ∙ rows_known laws file rs None can.1 is.1
rows_known laws file (r ∷ rs) (Some fault) can (inl is) = ap (λ x. fault_or x (first_row_fault file rs)) (row_fault_known laws file r fault can.0 is)
rows_known laws file (r ∷ rs) (Some fault) can (inr is) =
    ap (λ x. fault_or x (first_row_fault file rs)) (row_known laws file r is.0.0 can.0 is.0.1) ∙ rows_known laws file rs (Some fault) can.1 is.1

-- ---- the file

-- of the rows, or else of what is looked for after them
then_known : KnownLaws → (file : List ℕ) (rows : List ImageRow) (later found : Option Fault) → AreReadable file rows → IsFaultThen file rows later found →
    fault_then (first_row_fault file rows) later ≡ found
then_known laws file rows later None can is = ap (λ x. fault_then x later) (rows_known laws file rows None can is.0) ∙ is.1
then_known laws file rows later (Some x) can (inl is) = ap (λ y. fault_then y later) (rows_known laws file rows (Some x) can is)
then_known laws file rows later (Some x) can (inr is) = ap (λ y. fault_then y later) (rows_known laws file rows None can is.0) ∙ is.1

rows_known_for : KnownLaws → (job : Job) (file : List ℕ) (found : Option Fault) → AreReadable file (rows_for job file (headers_for job file)) → IsRowsFault job file found →
    fault_behind job file ≡ found
rows_known_for laws (Pack o) file found can is = rows_known laws file (rows_for (Pack o) file (headers_for (Pack o) file)) found can is
rows_known_for laws Unpack file found can is = rows_known laws file (rows_for Unpack file (headers_for Unpack file)) found can is
rows_known_for laws (Cut wanted sieve) file found can is = rows_known laws file (rows_for (Cut wanted sieve) file (headers_for (Cut wanted sieve) file)) found can is
rows_known_for laws Verify file found can is = rows_known laws file (rows_for Verify file (headers_for Verify file)) found can is
rows_known_for laws ListHdus file found can is = rows_known laws file (rows_for ListHdus file (headers_for ListHdus file)) found can is
rows_known_for laws (Drill rows) file found can is = rows_known laws file (rows_for (Drill rows) file (headers_for (Drill rows) file)) found can is
rows_known_for laws (Retile o) file found can is = then_known laws file (rows_for (Retile o) file (headers_for (Retile o) file)) (plain_fault o file) found can is

fault_is_known : KnownLaws → (refused : Option Fault) (job : Job) (file : List ℕ) (found : Option Fault) → (refused ≡ None → AreReadable file (rows_for job file (headers_for job file))) →
    IsFaultBehind refused job file found → fault_after refused job file ≡ found
fault_is_known laws (Some fault) job file found can is = sym is
fault_is_known laws None job file found can is = rows_known_for laws job file found (can refl) is

pub first_fault_known : KnownLaws → FaultLaws → (job : Job) (file : List ℕ) (found : Option Fault) → IsFirstFault job file found → found ≡ first_fault job file
unfolding first_fault
first_fault_known laws faults job file found is = sym (fault_is_known laws (header_fault job file) job file found (rows_readable faults job file) is)
