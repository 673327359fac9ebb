-- The image of a header that was read once more can be read.
use Rattle.std.proofs.Common.{ℕ, ◌+◌, ◌≤◌, List, Option, Some, None, IfSome, arith}
use Rattle.fz_block.specs.Header.{next_start_of}
use Rattle.fz_block.specs.declared.header.Header.{Header}
use Rattle.fz_table.specs.Rows.{IsTable}
use Rattle.fz_checks.specs.JobChecks.{IsImageOf}
use Rattle.fz_checks.specs.declared.job_checks.PackedImage.{PackedImage}
use Rattle.fz_job.specs.Again.{IsUsable}

pub usable : (h : Header) (header : List ℕ) (len : ℕ) (image : Option PackedImage) → next_start_of h ≤ len → IfSome image (IsImageOf header h) → IfSome image (λ i. IsTable i.table) →
    IfSome image (λ i. i.table.heap_at + i.table.heap_len ≤ next_start_of h) → IfSome image (IsUsable header h len)
usable h header len None inside found table heap = tt
usable h header len (Some i) inside found table heap = record {
  said = found;
  readable = record { table = table; divided = found.divided; codec = found.readable; rows = found.rows };
  inside = omega (arith, heap, inside);
}
