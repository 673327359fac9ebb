-- The rows of a packed table and the ranges of its heap: array descriptors are a count of elements and an offset in bytes, both
-- read as unsigned numbers, the highest byte first (FITS 4.0, sections 5.2 and 7.3.5).
use Rattle.std.specs.Prelude.{ℕ, ◌≡◌, ◌+◌, ◌*◌, ◌<◌, ◌≤◌, ◌^◌, nat_le, Bool, true, false, List, ◌++◌}
use Rattle.std.specs.Prelude.{length, take, drop, Option, Some, None, IfSome, IfNone, if◌then◌else◌}
use Rattle.byteorder.specs.Endian.{big_number, big_bytes}
use Rattle.fz_table.specs.declared.column.Column.{Column}
use Rattle.fz_table.specs.declared.array.Descriptor.{Descriptor}
use Rattle.fz_table.specs.declared.row.Row.{Row}
use Rattle.fz_table.specs.declared.table.Table.{Table}

-- the bytes of a descriptor: two numbers of 32 bits, or of 64 if it is wide
abbrev pub descriptor_len : Bool → ℕ
descriptor_len wide = if wide then 16 else 8

-- the descriptor at the front of these bytes
abbrev pub descriptor_in : Bool → List ℕ → Descriptor
descriptor_in true bytes = record { count = big_number 8 bytes; offset = big_number 8 (drop 8 bytes) }
descriptor_in false bytes = record { count = big_number 4 bytes; offset = big_number 4 (drop 4 bytes) }

-- the byte of the file at which a row begins
abbrev pub row_start : Table → ℕ → ℕ
row_start t row = t.rows_at + t.row_bytes * row

-- the byte of the file at which a column's descriptor is in this row
abbrev pub descriptor_start : Table → Column → ℕ → ℕ
descriptor_start t c row = row_start t row + c.at

-- a column's descriptor in this row
abbrev pub descriptor_at : List ℕ → Table → Column → ℕ → Descriptor
descriptor_at file t c row = descriptor_in c.wide (drop (descriptor_start t c row) file)

-- the same of a column that may not be there: it describes no elements then
abbrev pub described_at : List ℕ → Table → Option Column → ℕ → Descriptor
described_at file t None row = record { count = 0; offset = 0 }
described_at file t (Some c) row = descriptor_at file t c row

-- what a row of the file says of its tile
abbrev pub row_at : List ℕ → Table → ℕ → Row
row_at file t row = record {
  coded = described_at file t t.coded row;
  stored = described_at file t t.stored row;
  gzip = described_at file t t.gzip row;
}

-- what a row says whose bytes are at the front of these
abbrev pub described_in_row : Option Column → List ℕ → Descriptor
described_in_row None bytes = record { count = 0; offset = 0 }
described_in_row (Some c) bytes = descriptor_in c.wide (drop c.at bytes)

abbrev pub row_in : Table → List ℕ → Row
row_in t bytes = record {
  coded = described_in_row t.coded bytes;
  stored = described_in_row t.stored bytes;
  gzip = described_in_row t.gzip bytes;
}

-- a row describes no elements in a column that is not there
pub record IsRowOf (t : Table) (r : Row) : Type 0 where
  pub coded : IfNone t.coded (r.coded.count ≡ 0)
  pub stored : IfNone t.stored (r.stored.count ≡ 0)
  pub gzip : IfNone t.gzip (r.gzip.count ≡ 0)

-- where elements of so many bytes start in the file, and how many bytes they are, if they are within the heap
abbrev pub heap_range : Table → ℕ → Descriptor → Option (ℕ × ℕ)
heap_range t unit d = if nat_le (d.offset + d.count * unit) t.heap_len then Some (t.heap_at + d.offset, d.count * unit) else None

-- the same for the elements of a column
abbrev pub range_of : Table → Column → Descriptor → Option (ℕ × ℕ)
range_of t c d = heap_range t c.unit d

-- the bytes of a descriptor
abbrev pub descriptor_bytes : Bool → ℕ → ℕ → List ℕ
descriptor_bytes wide count offset = if wide then big_bytes 8 count ++ big_bytes 8 offset else big_bytes 4 count ++ big_bytes 4 offset

-- the bytes of a row of two columns: the descriptor of the codes, then that of the plain bytes
abbrev pub packed_row : Bool → Descriptor → Descriptor → List ℕ
packed_row wide coded stored = descriptor_bytes wide coded.count coded.offset ++ descriptor_bytes wide stored.count stored.offset

-- the two numbers of a descriptor that is written have 31 bits, or 63 if it is wide
abbrev pub FitsDescriptor : Bool → Descriptor → Type 0
FitsDescriptor true d = (d.count < 2 ^ 63) × (d.offset < 2 ^ 63)
FitsDescriptor false d = (d.count < 2 ^ 31) × (d.offset < 2 ^ 31)

-- a column of descriptors is within the row
abbrev pub StandsInRow : Table → Column → Type 0
StandsInRow t c = c.at + descriptor_len c.wide ≤ t.row_bytes

-- the rows of a table end before its heap, and its columns are within the row. The elements that are described have bytes.
pub record IsTable (t : Table) : Type 0 where
  pub rows : t.rows_at + t.row_bytes * t.rows ≤ t.heap_at
  pub heap : t.heap_at + t.heap_len ≤ 2 ^ 62
  pub coded : IfSome t.coded (λ c. StandsInRow t c × (1 ≤ c.unit))
  pub stored : IfSome t.stored (λ c. StandsInRow t c × (1 ≤ c.unit))
  pub gzip : IfSome t.gzip (λ c. StandsInRow t c × (1 ≤ c.unit))

-- of rows that were read one after another, each says what it says in the file
abbrev pub RowInLaw : Type 0
RowInLaw = (file rows : List ℕ) (t : Table) (first k : ℕ) → IsTable t → rows ≡ take (length rows) (drop (row_start t first) file) →
    t.row_bytes * (k + 1) ≤ length rows → row_in t (drop (t.row_bytes * k) rows) ≡ row_at file t (first + k)
