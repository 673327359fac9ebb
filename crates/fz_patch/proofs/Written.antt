-- What a write leaves as it was: one after the heap, and one of a row.
use Rattle.std.proofs.Common.{◌≡◌, ◌⊎◌, inl, inr, ℕ, ◌+◌, ◌*◌, ◌<◌, ◌≤◌, List, length, take, ap, arith, mul-le-mul_right}
use Rattle.fz_base.specs.Sink.{overwrite}
use Rattle.fz_block.specs.Header.{data_start_of}
use Rattle.fz_block.specs.declared.header.Header.{Header}
use Rattle.fz_table.specs.Rows.{IsTable, row_start}
use Rattle.fz_table.specs.declared.table.Table.{Table}
use Rattle.fz_files.specs.Restored.{image_table}
use Rattle.fz_patch.proofs.Slices.{rest_after, slice_before}
use Rattle.fz_patch.proofs.Stays.{HasSameRow, IsStill}

-- a row ends where the next one begins
row_ends : (t : Table) (row : ℕ) → row_start t row + t.row_bytes ≡ row_start t (row + 1)
row_ends t row = omega arith

-- rows are before the heap
pub row_low : (t : Table) (row : ℕ) → IsTable t → row < t.rows → row_start t row + t.row_bytes ≤ t.heap_at
row_low t row is less =
    let most : t.row_bytes * (row + 1) ≤ t.row_bytes * t.rows = mul-le_left t.row_bytes (row + 1) t.rows (omega (arith, less)) in
    omega (arith, is.rows, most)
  where
    mul-le_left : (a b c : ℕ) → b ≤ c → a * b ≤ a * c
    mul-le_left a b c less = omega (arith, mul-le-mul_right a less)

-- and one is before each later one
row_before : (t : Table) (row next : ℕ) → row < next → row_start t row + t.row_bytes ≤ row_start t next
row_before t row next less =
    let most : t.row_bytes * (row + 1) ≤ t.row_bytes * next = mul-le_left t.row_bytes (row + 1) next (omega (arith, less)) in
    omega (arith, most)
  where
    mul-le_left : (a b c : ℕ) → b ≤ c → a * b ≤ a * c
    mul-le_left a b c less = omega (arith, mul-le-mul_right a less)

-- bytes that are written after the heap
pub after_heap : (file bytes : List ℕ) (at : ℕ) (h : Header) (row : ℕ) → 0 < length bytes → at ≤ length file → IsTable (image_table file h) → data_start_of h ≤ (image_table file h).rows_at →
    (image_table file h).heap_at + (image_table file h).heap_len ≤ at → row < (image_table file h).rows → IsStill file (overwrite at bytes file) h row
after_heap file bytes at h row some within is first heap less =
    let t : Table = image_table file h in
    let low : row_start t row + t.row_bytes ≤ t.heap_at = row_low t row is less in
    record {
      header = slice_before at bytes file h.start (2880 * h.blocks) some within (omega (arith, is.rows, first, heap));
      row = slice_before at bytes file (row_start t row) t.row_bytes some within (omega (arith, low, heap));
      heap = slice_before at bytes file t.heap_at t.heap_len some within heap;
    }

-- the bytes of a row that is written: the header, each other row and the heap stay
pub after_row : (file bytes : List ℕ) (h : Header) (written row : ℕ) → 0 < length bytes → length bytes ≡ (image_table file h).row_bytes → row_start (image_table file h) written ≤ length file → IsTable (image_table file h) →
    data_start_of h ≤ (image_table file h).rows_at → written < (image_table file h).rows → (row < written) ⊎ (written < row) →
    IsStill file (overwrite (row_start (image_table file h) written) bytes file) h row
after_row file bytes h written row some long within is first less other =
    let t : Table = image_table file h in
    let low : row_start t written + t.row_bytes ≤ t.heap_at = row_low t written is less in
    record {
      header = slice_before (row_start t written) bytes file h.start (2880 * h.blocks) some within (omega (arith, first));
      row = by_side other;
      heap = ap (take t.heap_len) (rest_after (row_start t written) bytes file t.heap_at some within (omega (arith, long, low)));
    }
  where
    by_side : (row < written) ⊎ (written < row) → HasSameRow (image_table file h) row (overwrite (row_start (image_table file h) written) bytes file) file
    by_side (inl before) =
        slice_before (row_start (image_table file h) written) bytes file (row_start (image_table file h) row) (image_table file h).row_bytes some within
        (row_before (image_table file h) row written before)
    by_side (inr after) =
        let next : row_start (image_table file h) written + (image_table file h).row_bytes ≤ row_start (image_table file h) row = row_before (image_table file h) written row after in
        ap (take (image_table file h).row_bytes)
        (rest_after (row_start (image_table file h) written) bytes file (row_start (image_table file h) row) some within (omega (arith, long, next)))
