-- Rows of a table, and those that were read together (FITS 4.0, section 7.3.5).
use Rattle.std.specs.Prelude.{ℕ, ◌≡◌, ◌+◌, ◌*◌, ◌^◌, ◌<◌, ◌≤◌, List, length, drop, slice_index, Option, Some, IfSome}
use Rattle.std.specs.List.{flat_map}
use Rattle.fz_table.specs.Reads.{row_ranges}
use Rattle.fz_table.specs.Rows.{row_at, row_in}
use Rattle.fz_table.specs.declared.table.Table.{Table}

-- the rows and the heap of a table lie within what is attached
abbrev pub StandsWithin : Option ℕ → Table → Type 0
StandsWithin attached t = (n : ℕ) × (n < 2 ^ 64) × (attached ≡ Some n) × (t.heap_at + t.heap_len ≤ n)

-- the numbers are neighbours, from this one on
abbrev pub AreFrom : ℕ → List ℕ → Type 0
AreFrom first tiles = (i : ℕ) → i < length tiles → slice_index tiles i ≡ first + i

-- these bytes have the row of tile t after i others
pub record HasRow (held : Option (List ℕ)) (table : Table) (rows : List ℕ) (i t : ℕ) : Type 0 where
  pub room : table.row_bytes * (i + 1) ≤ length rows
  pub told : IfSome held (λ file. row_in table (drop (table.row_bytes * i) rows) ≡ row_at file table t)

-- they have those of tiles, one after another
abbrev pub HasRowsOf : Option (List ℕ) → Table → List ℕ → List ℕ → Type 0
HasRowsOf held table rows tiles = (i : ℕ) → i < length tiles → HasRow held table rows i (slice_index tiles i)

-- the ranges of the descriptors of tiles
abbrev pub rows_ranges : Table → List ℕ → List (ℕ × ℕ)
rows_ranges table tiles = flat_map (row_ranges table) tiles
