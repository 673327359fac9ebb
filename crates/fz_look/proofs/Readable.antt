-- A header that was read, and the image that stands in it (FITS 4.0, sections 3.3.1 and 10.1).
use Rattle.std.proofs.Common.{◌≡◌, ℕ, ◌-◌, Bool, true, false, if◌then◌else◌, List, Some, None, Ok, refl, sym, subst, arith}
use Rattle.fz_block.specs.Facts.{IsHeaderOf}
use Rattle.fz_block.specs.declared.header.Header.{Header}
use Rattle.fz_table.specs.Rows.{IsTable}
use Rattle.fz_checks.specs.JobChecks.{IsImageOf, image_in, image_to_unpack}
use Rattle.fz_head.specs.Packable.{is_packed}
use Rattle.fz_checks.specs.declared.job_checks.PackedImage.{PackedImage}
use Rattle.fz_job.specs.Images.{IsReadable}
use Rattle.fz_look.specs.Here.{IsReadHeader}
use Rattle.fz_look.proofs.Pieces.{ChecksAreKept, image_read}
use Rattle.fz_look.proofs.Said.{image_if}

pub header_of : (header : List ℕ) (h : Header) → IsReadHeader header h → IsHeaderOf header h
header_of header h is = record {
  whole = record { before = h.blocks - 1; blocks = omega (arith, is.blocks, is.some); none = is.none; has = is.has };
  short = is.short;
  mandatory = is.mandatory;
  facts = is.facts;
}

is_there : (b : Bool) (q i : PackedImage) → Some i ≡ (if b then Some q else None) → (b ≡ true) × (i ≡ q)
is_there true q i is = (refl, cc)
is_there false q i is = absurd cc

pub is_readable : ChecksAreKept → (h : Header) (header : List ℕ) (flag : Bool) (i : PackedImage) → IsReadHeader header h → image_to_unpack h header flag ≡ Ok (Some i) → IsTable i.table → IsReadable i
is_readable law h header flag i read found table =
    let both = is_there (is_packed header h) (image_in h header) i (image_if h header flag (Some i) found) in
    let is = image_read law h header flag (Some i) (header_of header h read) both.0 found in
    let whole : IsImageOf header h i = subst (IsImageOf header h) (sym both.1) is in
    record { table = table; divided = whole.divided; codec = whole.readable; rows = whole.rows }
