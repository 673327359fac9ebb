-- The record of a tile: which column of its row is chosen, where it is in the heap, and how much of it is read (FITS 4.0,
-- sections 7.3.5 and 10.1.3).
use Rattle.std.specs.Prelude.{ℕ, ◌≡◌, ◌+◌, ◌*◌, ◌<◌, ◌≤◌, ◌==◌, ◌&&◌, not, nat_lt, min, Bool, true}
use Rattle.std.specs.Prelude.{List, [], ◌∷◌, take, drop, Option, Some, None, Result, if◌then◌else◌}
use Rattle.fz_base.specs.Refusal.{refusal, first_refusal}
use Rattle.fz_base.specs.declared.fault.Fault.{Fault}
use Rattle.fz_base.specs.declared.fault.Place.TheVariants.{Row as AtRow}
use Rattle.fz_base.specs.declared.kind.Kind.{Kind}
use Rattle.fz_base.specs.declared.kind.Kind.TheVariants.{GzipTile, TileMissing, DescriptorRange, TileSize}
use Rattle.fz_block.specs.Checks.{unless_refused}
use Rattle.fz_table.specs.Rows.{row_at}
use Rattle.fz_table.specs.declared.array.Descriptor.{Descriptor}
use Rattle.fz_table.specs.declared.column.Column.{Column}
use Rattle.fz_table.specs.declared.record.Record.{Record}
use Rattle.fz_table.specs.declared.record.Tile.{Tile}
use Rattle.fz_table.specs.declared.record.TileColumn.{TileColumn}
use Rattle.fz_table.specs.declared.record.TileColumn.TheVariants.{Coded, Stored}
use Rattle.fz_table.specs.declared.row.Row.{Row}
use Rattle.fz_table.specs.declared.table.Table.{Table}

-- the codes are chosen if the row describes any, and otherwise the plain bytes
abbrev pub chosen_column : Row → TileColumn
chosen_column r = if nat_lt 0 r.coded.count then Coded else Stored

-- the descriptor of a column in the row
abbrev pub described_in : Row → TileColumn → Descriptor
described_in r Coded = r.coded
described_in r Stored = r.stored

-- the bytes of one element of a column
abbrev pub unit_if : Option Column → ℕ
unit_if None = 0
unit_if (Some c) = c.unit

abbrev pub unit_in : Table → TileColumn → ℕ
unit_in t Coded = unit_if t.coded
unit_in t Stored = unit_if t.stored

-- the bytes that are described in a column; of these at most 8 for each pixel and 64 more are read
abbrev pub record_in : Table → Row → Tile → TileColumn → Record
record_in t r tile column =
    let d = described_in r column in
    let total = d.count * unit_in t column in
    record { column = column; start = t.heap_at + d.offset; total = total; read = min total (8 * tile.pixels + 64) }

-- the record of the tile
abbrev pub chosen_record : Table → Row → Tile → Record
chosen_record t r tile = record_in t r tile (chosen_column r)

-- what is read of a record
abbrev pub record_bytes : List ℕ → Record → List ℕ
record_bytes file chosen = take chosen.read (drop chosen.start file)

-- whether a record is the plain bytes of its tile: in their own column, and in both if the codec is NOCOMPRESS
abbrev pub is_plain : Tile → TileColumn → Bool
is_plain tile Coded = tile.plain
is_plain tile Stored = true

-- whether the row describes neither codes nor plain bytes
abbrev pub has_none : Row → Bool
has_none r = r.coded.count == 0 && r.stored.count == 0

-- why such a row is refused: it describes the bytes of another algorithm, or none
abbrev pub missing_kind : Row → Kind
missing_kind r = if nat_lt 0 r.gzip.count then GzipTile else TileMissing

-- The checks of a row, in order: the tile's bytes are not only those of another algorithm, it has some, they end within the
-- heap, and plain bytes have the length of the tile's.
abbrev pub row_checks : ℕ → ℕ → Table → Row → Tile → List (Bool × Fault)
row_checks hdu row t r tile =
    let column = chosen_column r in
    let d = described_in r column in
    let len = d.count * unit_in t column in
    (has_none r, refusal hdu (AtRow row) (missing_kind r))
    ∷ (nat_lt t.heap_len (d.offset + len), refusal hdu (AtRow row) DescriptorRange)
    ∷ (is_plain tile column && not (len == tile.plain_len), refusal hdu (AtRow row) TileSize)
    ∷ []

-- the record of the tile that a row says, or the first check that refuses the row
unfoldable pub record_of : ℕ → ℕ → Table → Row → Tile → Result Record Fault
record_of hdu row t r tile = unless_refused (chosen_record t r tile) (first_refusal (row_checks hdu row t r tile))

-- the same by the row of the file
abbrev pub record_at : List ℕ → ℕ → Table → ℕ → Tile → Result Record Fault
record_at file hdu t row tile = record_of hdu row t (row_at file t row) tile

-- a record has bytes, which are within the heap; of these at most 8 for each pixel and 64 more are read
pub record StandsInHeap (t : Table) (tile : Tile) (chosen : Record) : Type 0 where
  pub some : 0 < chosen.read
  pub limit : chosen.read ≡ min chosen.total (8 * tile.pixels + 64)
  pub first : chosen.read ≤ chosen.total
  pub most : chosen.read ≤ 8 * tile.pixels + 64
  pub start : t.heap_at ≤ chosen.start
  pub stop : chosen.start + chosen.total ≤ t.heap_at + t.heap_len

-- a fault of this row
abbrev pub IsOfRow : ℕ → ℕ → Fault → Type 0
IsOfRow hdu row fault = (fault.hdu ≡ hdu) × (fault.at ≡ AtRow row)
