-- A packed header that is made, as a reader finds it (FITS 4.0, sections 7.3.1, 10.1.1 and 10.1.3).
use Rattle.std.specs.Prelude.{◌≡◌, ℕ, pos, Bool, true, List, [], ◌∷◌, None, Ok}
use Rattle.fz_base.specs.Refusal.{first_refusal}
use Rattle.fz_block.specs.Facts.{IsHeaderOf, nine_axes}
use Rattle.fz_block.specs.Header.{data_start_of}
use Rattle.fz_block.specs.declared.header.Header.{Header}
use Rattle.fz_block.specs.declared.header.Sort.TheVariants.{BinTable}
use Rattle.fz_table.specs.Tables.{table_of}
use Rattle.fz_head.specs.declared.plan.Plan.{Plan}
use Rattle.fz_head.specs.declared.totals.Totals.{Totals}
use Rattle.fz_head.specs.Packable.{is_packed}
use Rattle.fz_head.specs.PackedChecks.{plan_answer}
use Rattle.fz_head.specs.PackedTable.{packed_table, planned_row, planned_rows}
use Rattle.fz_head.specs.TableChecks.{table_card_checks}

-- The header is that of a binary table of bytes with a row for each tile and a heap after them, it is a packed one, no check of
-- its cards, its table and its plan refuses, and it stands for the table and the plan; a primary is after an empty primary.
pub record IsAccepted (p : Plan) (s : Totals) (header : List ℕ) (h : Header) : Type 0 where
  pub header_is : IsHeaderOf header h
  pub sort : h.sort ≡ BinTable
  pub bitpix : h.bitpix ≡ pos 8
  pub axes : h.axes ≡ nine_axes (planned_row p ∷ planned_rows p ∷ [])
  pub pcount : h.pcount ≡ s.heap
  pub gcount : h.gcount ≡ 1
  pub packed : is_packed header h ≡ true
  pub cards : first_refusal (table_card_checks h header) ≡ None
  pub table : table_of header h ≡ Ok (packed_table p (data_start_of h) s.heap)
  pub plan : (after_empty : Bool) → (p.primary ≡ true → after_empty ≡ true) → plan_answer h.hdu header after_empty ≡ Ok p
