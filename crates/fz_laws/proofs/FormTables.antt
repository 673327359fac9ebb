-- The table of a header that has the form of one that can be patched: its columns, its rows, its heap and its data (FITS 4.0, sections 7.3.1,
-- 7.3.2 and 7.3.5).
use Rattle.std.proofs.Common.{◌≡◌, ℕ, ◌+◌, ◌*◌, ◌==◌, Bool, List, ◌++◌, sym, ap, ◌∙◌, arith, eqb-true}
use Rattle.std.specs.List.{flat_map, range_with_len}
use Rattle.fz_base.specs.declared.fault.Fault.{Fault}
use Rattle.fz_block.specs.declared.header.Header.{Header}
use Rattle.fz_table.specs.Columns.{columns_len, field_count}
use Rattle.fz_table.specs.Rows.{descriptor_len}
use Rattle.fz_table.specs.Tables.{array_checks, column_checks, field_checks, form_checks, heap_checks, heap_start_of, row_len_of, rows_len_of, table_checks, table_in, width_checks}
use Rattle.fz_head.specs.declared.plan.Plan.{Plan}
use Rattle.fz_laws.specs.PatchForm.{is_wide_table}
use Rattle.fz_laws.specs.PatchTables.{FormsHaveTables}
use Rattle.fz_laws.proofs.DataLen.{table_data}
use Rattle.fz_laws.proofs.FormColumns.{HasForm, coded_is, form_parts, row_is, stored_is}
use Rattle.fz_laws.proofs.Passes.{PassesAll, all_pass, is_so, pass_both}

pub forms_have_tables : FormsHaveTables
forms_have_tables header h p is bits passed formed =
    let form : HasForm header h p = form_parts header h p formed in
    let last : List (Bool × Fault) = flat_map (column_checks header h) (range_with_len 1 (field_count header)) in
    let forms : List (Bool × Fault) = flat_map (form_checks header h) (range_with_len 1 (field_count header)) in
    let all : PassesAll (table_checks header h) = all_pass (table_checks header h) passed in
    let one = pass_both (array_checks h) (field_checks header h ++ (forms ++ (width_checks header h ++ (heap_checks header h ++ last)))) all in
    let two = pass_both (field_checks header h) (forms ++ (width_checks header h ++ (heap_checks header h ++ last))) one.1 in
    let three = pass_both forms (width_checks header h ++ (heap_checks header h ++ last)) two.1 in
    let four = pass_both (width_checks header h) (heap_checks header h ++ last) three.1 in
    let whole : h.data_len ≡ h.pcount + rows_len_of h = table_data header h is all in
    let heap : heap_start_of header h ≡ rows_len_of h = eqb-true (heap_start_of header h) (rows_len_of h) form.heap in
    let row : row_len_of h ≡ descriptor_len (is_wide_table header) + descriptor_len (is_wide_table header) =
    sym (eqb-true (columns_len header (field_count header)) (row_len_of h) (is_so (columns_len header (field_count header) == row_len_of h) four.0.0)) ∙ row_is header h p form bits
    in
    record {
      coded = coded_is header h p form bits;
      stored = stored_is header h p form bits;
      row = omega (arith, row);
      heap_at = ap (λ n. (table_in header h).rows_at + n) heap;
      heap_len = omega (arith, heap);
      data_len = omega (arith, whole);
    }
