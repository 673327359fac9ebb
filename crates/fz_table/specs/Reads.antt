-- Which ranges of the file the reading of a row touches (FITS 4.0, sections 7.3.3 and 7.3.5).
use Rattle.std.specs.Prelude.{◌≡◌, ℕ, ◌+◌, ◌*◌, ◌<◌, ◌≤◌, ◌==◌, ◌&&◌, ◌||◌, Bool, true, false, List}
use Rattle.std.specs.Prelude.{[], ◌∷◌, ◌++◌, Option, Some, None, Result, Ok, Err, if◌then◌else◌}
use Rattle.fz_base.specs.Ranges.{LiesIn}
use Rattle.fz_base.specs.declared.fault.Fault.{Fault}
use Rattle.fz_table.specs.Rows.{descriptor_len, descriptor_start, row_start, IsTable}
use Rattle.fz_table.specs.Records.{record_at}
use Rattle.fz_table.specs.declared.column.Column.{Column}
use Rattle.fz_table.specs.declared.record.Record.{Record}
use Rattle.fz_table.specs.declared.record.Tile.{Tile}
use Rattle.fz_table.specs.declared.table.Table.{Table}

-- the range of a column's descriptor in a row, by its start and its length; of a column that is not there none
abbrev pub descriptor_ranges : Table → Option Column → ℕ → List (ℕ × ℕ)
descriptor_ranges t None row = []
descriptor_ranges t (Some c) row = (descriptor_start t c row, descriptor_len c.wide) ∷ []

-- the descriptors of a row
abbrev pub row_ranges : Table → ℕ → List (ℕ × ℕ)
row_ranges t row = descriptor_ranges t t.coded row ++ (descriptor_ranges t t.stored row ++ descriptor_ranges t t.gzip row)

-- what is read of a record
abbrev pub record_ranges : Result Record Fault → List (ℕ × ℕ)
record_ranges (Ok chosen) = (chosen.start, chosen.read) ∷ []
record_ranges (Err fault) = []

-- what the reading of a tile touches: the descriptors of its row, and if no check refuses the row, the bytes of its record
-- that are read
abbrev pub tile_ranges : List ℕ → ℕ → Table → ℕ → Tile → List (ℕ × ℕ)
tile_ranges file hdu t row tile = row_ranges t row ++ record_ranges (record_at file hdu t row tile)

-- whether a column's descriptor begins where another's ends
abbrev pub follows : Column → Column → Bool
follows first second = first.at + descriptor_len first.wide == second.at

-- the reads of two columns: one if their descriptors are together
abbrev pub two_reads : Table → Option Column → Option Column → ℕ → List (ℕ × ℕ)
two_reads t None second row = descriptor_ranges t second row
two_reads t (Some c) None row = descriptor_ranges t (Some c) row
two_reads t (Some c) (Some d) row =
    if follows c d then (descriptor_start t c row, descriptor_len c.wide + descriptor_len d.wide) ∷ []
    else (if follows d c then (descriptor_start t d row, descriptor_len d.wide + descriptor_len c.wide) ∷ []
    else descriptor_ranges t (Some c) row ++ descriptor_ranges t (Some d) row)

-- the reads of a row, in order
abbrev pub row_reads : Table → ℕ → List (ℕ × ℕ)
row_reads t row = two_reads t t.coded t.stored row ++ descriptor_ranges t t.gzip row

-- what is read of a row are bytes of its descriptors
abbrev pub RowReadsLaw : Type 0
RowReadsLaw = (t : Table) (row byte : ℕ) → LiesIn (row_reads t row) byte → LiesIn (row_ranges t row) byte

-- whether the descriptors of two columns fill a row of so many bytes
abbrev pub two_fill : Option Column → Option Column → ℕ → Bool
two_fill None None len = false
two_fill None (Some d) len = descriptor_len d.wide == len
two_fill (Some c) None len = descriptor_len c.wide == len
two_fill (Some c) (Some d) len = (follows c d || follows d c) && descriptor_len c.wide + descriptor_len d.wide == len

abbrev pub is_filled : Table → Bool
is_filled t = two_fill t.coded t.stored t.row_bytes

-- each byte of so many rows that are one after another is then one of a descriptor of one of them
abbrev pub FilledLaw : Type 0
FilledLaw = (t : Table) (first count byte : ℕ) → IsTable t → is_filled t ≡ true → row_start t first ≤ byte → byte < row_start t first + t.row_bytes * count →
    (k : ℕ) × (k < count) × LiesIn (row_ranges t (first + k)) byte
