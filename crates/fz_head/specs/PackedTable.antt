-- The table that a packed header says, if the plan is known (FITS 4.0, sections 7.3.5 and 10.1.3).
use Rattle.std.specs.Prelude.{ℕ, ◌+◌, ◌*◌, Some, None, if◌then◌else◌}
use Rattle.fz_grid.specs.Grid.{tile_count}
use Rattle.fz_grid.specs.Region.{lengths_of}
use Rattle.fz_table.specs.declared.table.Table.{Table}
use Rattle.fz_tile.specs.declared.codec.Codec.{Codec}
use Rattle.fz_tile.specs.declared.codec.Codec.TheVariants.{Rice, Plio, Plain}
use Rattle.fz_head.specs.declared.plan.Plan.{Plan}
use Rattle.fz_head.specs.Planned.{pixel_len}

-- a descriptor has two numbers of 32 bits, or of 64 if the image is wide; a row has two descriptors
abbrev pub planned_descriptor : Plan → ℕ
planned_descriptor p = if p.wide then 16 else 8

abbrev pub planned_row : Plan → ℕ
planned_row p = if p.wide then 32 else 16

-- the rows, one for each tile
abbrev pub planned_rows : Plan → ℕ
planned_rows p = tile_count (lengths_of p.shape) (lengths_of p.tile)

-- the bytes of an element of coded tiles: the words of a line list have two
abbrev pub coded_unit : Codec → ℕ
coded_unit (Rice block bytepix) = 1
coded_unit Plio = 2
coded_unit Plain = 1

-- The table of a plan whose data begin at this byte, with a heap of so many bytes directly after the rows: coded tiles, then
-- stored ones, whose elements are pixels.
abbrev pub packed_table : Plan → ℕ → ℕ → Table
packed_table p at heap = record {
  row_bytes = planned_row p;
  rows = planned_rows p;
  rows_at = at;
  heap_at = at + planned_row p * planned_rows p;
  heap_len = heap;
  coded = Some (record { at = 0; wide = p.wide; unit = coded_unit p.codec });
  stored = Some (record { at = planned_descriptor p; wide = p.wide; unit = pixel_len p.bitpix });
  gzip = None;
}
