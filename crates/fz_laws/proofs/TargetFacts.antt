-- What is known of a file that passes the checks of a patch: where its table, its rows and its heap lie.
use Rattle.std.proofs.Common.{◌≡◌, ℕ, ◌+◌, ◌-◌, ◌*◌, ◌/◌, ◌<◌, ◌≤◌, ◌==◌, not, Bool, true, false, ℤ, pos, List, [], ◌∷◌, ◌++◌, length, codes, Option, Some, None, Ok, if◌then◌else◌, refl, sym, ap, ◌∙◌, subst, arith, eqb-true}
use Rattle.std.specs.List.{flat_map, range_with_len}
use Rattle.fz_base.specs.Refusal.{first_refusal}
use Rattle.fz_block.specs.Checks.{hdu_at}
use Rattle.fz_block.specs.Facts.{IsHeaderOf}
use Rattle.fz_block.specs.Header.{data_start_of, next_start_of, whole_blocks_of}
use Rattle.fz_block.specs.declared.header.Header.{Header}
use Rattle.fz_table.specs.Columns.{columns_len, field_count}
use Rattle.fz_table.specs.Rows.{descriptor_len}
use Rattle.fz_table.specs.Tables.{array_checks, column_checks, field_checks, form_checks, heap_checks, heap_start_of, row_len_of, rows_len_of, table_checks, width_checks}
use Rattle.fz_table.specs.declared.table.Table.{Table}
use Rattle.fz_checks.specs.JobChecks.{IsImageOf, image_checks, image_in, is_after_empty, packed_card_checks}
use Rattle.fz_head.specs.PackedChecks.{packed_checks}
use Rattle.fz_files.specs.Packed.{tiles_in}
use Rattle.fz_files.specs.Restored.{header_in, image_table, plan_in}
use Rattle.fz_laws.specs.PatchChecks.{patch_target, target_checks}
use Rattle.fz_laws.specs.PatchForm.{has_form, is_wide_table}
use Rattle.fz_laws.specs.Given.{PatchJob}
use Rattle.fz_laws.specs.PatchTaken.{TakenLaws}
use Rattle.fz_laws.specs.Writes.{heap_end}
use Rattle.fz_laws.proofs.Again.{found_later}
use Rattle.fz_laws.proofs.Between.{LiesIn}
use Rattle.fz_laws.proofs.DataLen.{table_data}
use Rattle.fz_laws.proofs.FormColumns.{HasForm, form_parts, row_is}
use Rattle.fz_laws.proofs.NewTarget.{target_passed}
use Rattle.fz_laws.proofs.OnePatch.{IsFoundImage, target_found}
use Rattle.fz_laws.proofs.Passes.{PassesAll, all_pass, both_pass, is_so, pass_both}

pub record HasTarget (file : List ℕ) (h : Header) : Type 0 where
  pub image : IsFoundImage file h
  pub is : IsImageOf (header_in file h) h (image_in h (header_in file h))
  pub table : PassesAll (table_checks (header_in file h) h)
  pub form : HasForm (header_in file h) h (plan_in file h)
  pub later : 0 < h.hdu
  pub ends : next_start_of h ≡ length file

pub target_facts : TakenLaws → (file patch : List ℕ) (job : PatchJob) (h : Header) → patch_target file patch job ≡ Ok h → HasTarget file h
target_facts laws file patch job h target =
    let header : List ℕ = header_in file h in
    let image : IsFoundImage file h = target_found laws file patch job h target in
    let one = both_pass (packed_card_checks h header) (image_checks h header (is_after_empty file h)) image.checks in
    let two = both_pass (table_checks header h) (packed_checks h.hdu header (is_after_empty file h)) one.1 in
    let all : PassesAll (target_checks file patch h job) = all_pass (target_checks file patch h job) (target_passed file patch job h target) in
    record {
      image = image;
      is = laws.image h header (is_after_empty file h) image.is_header one.1;
      table = all_pass (table_checks header h) two.0;
      form = form_parts header h (plan_in file h) (is_so (has_form header h (plan_in file h)) all.1.0);
      later = found_later file h image;
      ends = eqb-true (next_start_of h) (length file) (is_so (next_start_of h == length file) all.0);
    }

-- ---- places

pub whole_at_least : (n : ℕ) → n ≤ whole_blocks_of n
whole_at_least n = omega arith

pub whole_rises : (m n : ℕ) → m ≤ n → whole_blocks_of m ≤ whole_blocks_of n
whole_rises m n less = omega arith

module _ (file : List ℕ) (h : Header) (has : HasTarget file h) where
  pub data_is : h.data_len ≡ h.pcount + rows_len_of h
  data_is = table_data (header_in file h) h has.image.is_header has.table

  pub heap_start_is : heap_start_of (header_in file h) h ≡ rows_len_of h
  heap_start_is = eqb-true (heap_start_of (header_in file h) h) (rows_len_of h) has.form.heap

  pub heap_len_is : (image_table file h).heap_len ≡ h.pcount
  heap_len_is = let start = heap_start_is in omega arith

  pub heap_end_is : heap_end (image_table file h) ≡ data_start_of h + h.data_len
  heap_end_is = let start = heap_start_is in let all = data_is in let len = heap_len_is in omega arith

  pub lies : LiesIn file h (image_table file h)
  lies = record {
    rows = refl;
    heap = ap (λ n. data_start_of h + n) heap_start_is;
    within = let end = heap_end_is in let whole = whole_at_least h.data_len in let ends = has.ends in omega arith;
  }

  pub row_bytes_is : (image_table file h).row_bytes ≡ descriptor_len (is_wide_table (header_in file h)) + descriptor_len (is_wide_table (header_in file h))
  row_bytes_is =
      let header : List ℕ = header_in file h in
      let last = flat_map (column_checks header h) (range_with_len 1 (field_count header)) in
      let one = pass_both (array_checks h) (field_checks header h ++ (flat_map (form_checks header h) (range_with_len 1 (field_count header)) ++ (width_checks header h ++ (heap_checks header h ++ last)))) has.table in
      let two = pass_both (field_checks header h) (flat_map (form_checks header h) (range_with_len 1 (field_count header)) ++ (width_checks header h ++ (heap_checks header h ++ last))) one.1 in
      let three = pass_both (flat_map (form_checks header h) (range_with_len 1 (field_count header))) (width_checks header h ++ (heap_checks header h ++ last)) two.1 in
      let four = pass_both (width_checks header h) (heap_checks header h ++ last) three.1 in
      sym (eqb-true (columns_len header (field_count header)) (row_len_of h) (is_so (columns_len header (field_count header) == row_len_of h) four.0.0))
      ∙ row_is header h (plan_in file h) has.form has.is.readable.size

  pub rows_are : (image_table file h).rows ≡ tiles_in (plan_in file h)
  rows_are = has.is.rows
