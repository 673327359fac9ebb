-- The table of an image that can be patched (FITS 4.0, sections 7.3.1, 7.3.5 and 10.1.3).
use Rattle.std.specs.Prelude.{ℕ, ◌≡◌, ◌+◌, ◌*◌, true, List, Some, None}
use Rattle.fz_base.specs.Refusal.{first_refusal}
use Rattle.fz_block.specs.Facts.{IsHeaderOf}
use Rattle.fz_block.specs.declared.header.Header.{Header}
use Rattle.fz_table.specs.Rows.{descriptor_len}
use Rattle.fz_table.specs.Tables.{table_checks, table_in}
use Rattle.fz_table.specs.declared.table.Table.{Table}
use Rattle.fz_tile.specs.Pixels.{IsBitpix}
use Rattle.fz_head.specs.PackedTable.{coded_unit}
use Rattle.fz_head.specs.Planned.{pixel_len}
use Rattle.fz_head.specs.declared.plan.Plan.{Plan}
use Rattle.fz_laws.specs.PatchForm.{has_form, is_wide_table}

-- It has two columns of descriptors of one width, which fill the row; its heap has PCOUNT bytes, and is directly after the rows and ends
-- with the data.
pub record IsFormTable (header : List ℕ) (h : Header) (p : Plan) (t : Table) : Type 0 where
  pub coded : t.coded ≡ Some (record { at = 0; wide = is_wide_table header; unit = coded_unit p.codec })
  pub stored : t.stored ≡ Some (record { at = descriptor_len (is_wide_table header); wide = is_wide_table header; unit = pixel_len p.bitpix })
  pub row : t.row_bytes ≡ 2 * descriptor_len (is_wide_table header)
  pub heap_at : t.heap_at ≡ t.rows_at + t.row_bytes * t.rows
  pub heap_len : t.heap_len ≡ h.pcount
  pub data_len : h.data_len ≡ t.row_bytes * t.rows + h.pcount

-- so does each whose header has the form
abbrev pub FormsHaveTables : Type 0
FormsHaveTables =
    (header : List ℕ) (h : Header) (p : Plan) → IsHeaderOf header h → IsBitpix p.bitpix → first_refusal (table_checks header h) ≡ None →
    has_form header h p ≡ true → IsFormTable header h p (table_in header h)
