-- A row that stands for pixels is not refused (FITS 4.0, section 10.1.3).
use Rattle.std.proofs.Common.{◌≡◌, ℕ, Bool, true, List, inl, inr, Option, Some, None, Result, Ok, Err, IsOk, refl, sym, subst}
use Rattle.std.specs.Prelude.{ℤ, pos, unsigned_abs, if◌then◌else◌}
use Rattle.fz_base.specs.Refusal.{first_refusal}
use Rattle.fz_base.specs.declared.fault.Fault.{Fault}
use Rattle.fz_block.specs.Checks.{unless_refused}
use Rattle.fz_block.specs.Facts.{IsHeaderOf}
use Rattle.fz_block.specs.declared.header.Header.{Header}
use Rattle.fz_table.specs.Records.{record_bytes}
use Rattle.fz_table.specs.declared.record.Record.{Record}
use Rattle.fz_tile.specs.Codecs.{CanRead}
use Rattle.fz_tile.specs.Laws.{StandsUnrefused}
use Rattle.fz_tile.specs.Pixels.{IsBitpix}
use Rattle.fz_tile.specs.Refusals.{IsFault}
use Rattle.fz_tile.specs.declared.codec.Codec.{Codec}
use Rattle.fz_checks.specs.JobChecks.{IsImageOf, image_in, image_to_unpack, unpack_checks}
use Rattle.fz_head.specs.Packable.{is_packed}
use Rattle.fz_head.specs.declared.plan.Plan.{Plan}
use Rattle.fz_files.specs.FirstFault.{ImageRow, IsRowFault, IsRowSound, image_row}
use Rattle.fz_files.specs.Packed.{pixel_bits}
use Rattle.fz_files.specs.Restored.{header_in, is_image, pixels_of, place_in, plan_in}

-- what a packed HDU is of which no check refuses anything
abbrev pub FindsImage : Type 0
FindsImage =
    (h : Header) (header : List ℕ) (after_empty : Bool) → IsHeaderOf header h → is_packed header h ≡ true → first_refusal (unpack_checks h header after_empty) ≡ None
    → IsImageOf header h (image_in h header)

-- the size of a pixel is that of the plan
bits_are : (codec : Codec) (bitpix : ℤ) → CanRead codec bitpix → CanRead codec (pos (unsigned_abs bitpix))
bits_are codec bitpix can = by_size can.size
  where
    by_size : IsBitpix bitpix → CanRead codec (pos (unsigned_abs bitpix))
    by_size (inl e) = subst (λ b. CanRead codec (pos (unsigned_abs b))) (sym e) (subst (CanRead codec) e can)
    by_size (inr (inl e)) = subst (λ b. CanRead codec (pos (unsigned_abs b))) (sym e) (subst (CanRead codec) e can)
    by_size (inr (inr (inl e))) = subst (λ b. CanRead codec (pos (unsigned_abs b))) (sym e) (subst (CanRead codec) e can)
    by_size (inr (inr (inr e))) = subst (λ b. CanRead codec (pos (unsigned_abs b))) (sym e) (subst (CanRead codec) e can)

no_refusal : {X : Type 0} (x : X) (r : Option Fault) → IsOk (unless_refused x r) → r ≡ None
no_refusal x None ok = refl
no_refusal x (Some f) ok = absurd cc

passed_none : (h : Header) (header : List ℕ) (after_empty : Bool) → IsOk (image_to_unpack h header after_empty) → first_refusal (unpack_checks h header after_empty) ≡ None
unfolding image_to_unpack
passed_none h header after_empty ok = no_refusal (if is_packed header h then Some (image_in h header) else None) (first_refusal (unpack_checks h header after_empty)) ok

same_record : (found other : Record) (r : Result Record Fault) → r ≡ Ok found → r ≡ Ok other → found ≡ other
same_record found other r e f = cc

no_record : (found : Record) (fault : Fault) (r : Result Record Fault) → r ≡ Ok found → r ≡ Err fault → ⊥
no_record found fault r e f = absurd cc

by_plan : StandsUnrefused → (file : List ℕ) (r : ImageRow) (fault : Fault) → CanRead (plan_in file r.header).codec (pos (pixel_bits (plan_in file r.header))) → IsRowSound file r → IsRowFault file r fault → ⊥
by_plan none file r fault can (xs, row) (inl refused) = no_record row.found fault _ row.chosen refused
by_plan none file r fault can (xs, row) (inr (why, faulty, is)) =
    let p : Plan = plan_in file r.header in
    let same : faulty.found ≡ row.found = same_record faulty.found row.found _ faulty.chosen row.chosen in
    none p.codec (pixel_bits p) row.found.total (pixels_of p r.row) (place_in row.found.column) (record_bytes file row.found) why can
    (xs, row.count, row.means)
    (subst (λ (f : Record). IsFault p.codec (pixel_bits p) (place_in f.column) f.total (record_bytes file f) (pixels_of p r.row) why) same faulty.fault)

pub unrefused : StandsUnrefused → FindsImage → (file : List ℕ) (h : Header) (after_empty : Bool) (row : ℕ) (x : Fault) → IsHeaderOf (header_in file h) h → IsOk (image_to_unpack h (header_in file h) after_empty) → is_image file h ≡ true
    → IsRowSound file (image_row h row) → IsRowFault file (image_row h row) x → ⊥
unrefused none finds file h after_empty row x is_header passed packed sound refused =
    let image : IsImageOf (header_in file h) h (image_in h (header_in file h)) = finds h (header_in file h) after_empty is_header packed (passed_none h (header_in file h) after_empty passed) in
    by_plan none file (image_row h row) x (bits_are (plan_in file h).codec (plan_in file h).bitpix image.readable) sound refused
