-- The rows of the image after some of the writes of a patch: each stands for its old numbers, or for its new ones.
use Rattle.std.proofs.Common.{◌≡◌, ◌⊎◌, inl, inr, ℕ, zero, suc, ◌+◌, ◌-◌, ◌*◌, ◌^◌, ◌<◌, ◌≤◌, Bool, true, false, ℤ, pos, List, [], ◌∷◌, length, take, drop, Contains, Some, None, Ok, if◌then◌else◌, refl, sym, ap, ◌∙◌, subst, arith, drop-drop}
use Rattle.fz_block.specs.declared.header.Header.{Header}
use Rattle.fz_table.specs.Records.{record_at, record_bytes}
use Rattle.fz_table.specs.Rows.{row_at, row_start}
use Rattle.fz_table.specs.declared.record.Record.{Record}
use Rattle.fz_table.specs.declared.table.Table.{Table}
use Rattle.fz_tile.specs.Plain.{AreBytes}
use Rattle.fz_tile.specs.TileCode.{TileCode}
use Rattle.fz_head.specs.declared.plan.Plan.{Plan}
use Rattle.fz_files.specs.Packed.{heap_of, row_of, tiles_in}
use Rattle.fz_files.specs.Restored.{RowStandsFor, header_in, image_table, plan_in, tile_of}
use Rattle.fz_laws.specs.PatchChecks.{patch_target}
use Rattle.fz_laws.specs.PatchForm.{is_wide_table}
use Rattle.fz_laws.specs.Given.{Given, PatchJob, given_by}
use Rattle.fz_laws.specs.PatchLaws.{AmendedHeadersSayTheSame, IsKeptRow, IsNewRow, KeptRowsStand, NewRowsStand, new_code}
use Rattle.fz_laws.specs.NewNumbers.{box_tiles, new_numbers}
use Rattle.fz_laws.specs.Safe.{HasOldOrNew}
use Rattle.fz_laws.specs.PatchTaken.{RowLaws}
use Rattle.fz_laws.specs.Writes.{heap_end, header_now, table_plan}
use Rattle.fz_laws.proofs.Between.{row_bytes}
use Rattle.fz_laws.proofs.FormColumns.{coded_is, gzip_is, stored_is}
use Rattle.fz_laws.proofs.HeaderNow.{heap_is}
use Rattle.fz_laws.proofs.NewRows.{formed}
use Rattle.fz_laws.proofs.OnePatch.{one_row, target_readable}
use Rattle.fz_laws.proofs.Prefixes.{IsPrefix}
use Rattle.fz_laws.proofs.RowSlices.{Lies, record_lies, record_same, row_same}
use Rattle.fz_laws.proofs.RowWrites.{IsNewBytes}
use Rattle.fz_laws.proofs.StepWrites.{HasRoom, new_rows, with_codes}
use Rattle.fz_laws.proofs.TargetFacts.{HasTarget, heap_end_is, heap_len_is, row_bytes_is, rows_are}

module _ (laws : RowLaws) (file patch x : List ℕ) (job : PatchJob) (h : Header) (es : List TileCode) (has : HasTarget file h) (room : HasRoom file h (length (heap_of es)))
    (bytes : AreBytes patch) (target : patch_target file patch job ≡ Ok h) (is : IsPrefix file h (given_by patch job) es x) where
  abbrev g : Given
  g = given_by patch job

  abbrev p : Plan
  p = plan_in file h

  abbrev table : Table
  table = image_table file h

  -- the table by the form that it has
  formed_is : table ≡ formed table (table_plan file h) table.heap_len
  formed_is = λ i. record table {
    coded = coded_is (header_in file h) h p has.form has.is.readable.size i;
    stored = stored_is (header_in file h) h p has.form has.is.readable.size i;
    gzip = gzip_is (header_in file h) h p has.form has.is.readable.size i;
  }

  pub kept_row : (t : ℕ) (xs : List ℤ) → RowStandsFor file h t xs → row_bytes x table t ≡ row_bytes file table t → RowStandsFor x (header_now x h) t xs
  kept_row t xs row same =
      let says : row_at x table t ≡ row_at file table t =
      ap (λ (u : Table). row_at x u t) formed_is
      ∙ (row_same table (table_plan file h) table.heap_len t x file (row_bytes_is file h has) same
      ∙ sym (ap (λ (u : Table). row_at file u t) formed_is)) in
      laws.kept file patch x job h t xs target
      (record {
        header = is.cards;
        row = says;
        record_is = λ found chosen. record_same table found x file (record_lies h.hdu t table (row_at file table t) (tile_of p t) found chosen) is.heap;
      })
      row

  -- the code is in the file as it is now
  code_there : (offset n : ℕ) → table.heap_len ≤ offset → drop (heap_end table) x ≡ drop (heap_end table) (with_codes file h es) →
      take n (drop (table.heap_at + offset) x) ≡ take n (drop (table.heap_at + offset) (with_codes file h es))
  code_there offset n low tail =
      let parts : heap_end table + (offset - table.heap_len) ≡ table.heap_at + offset = omega arith in
      let cut : (l : List ℕ) → take n (drop (table.heap_at + offset) l) ≡ take n (drop (offset - table.heap_len) (drop (heap_end table) l)) =
      λ l. ap (λ k. take n (drop k l)) (sym parts) ∙ sym (ap (take n) (drop-drop (offset - table.heap_len) (heap_end table) l)) in
      cut x ∙ (ap (λ l. take n (drop (offset - table.heap_len) l)) tail ∙ sym (cut (with_codes file h es)))

  fits_in : (wide : Bool) (most more : ℕ) → most ≤ h.pcount + more → h.pcount + more < 10 ^ 18 → (wide ≡ false → h.pcount + more ≤ 2147483647) → most < (if wide then 2 ^ 63 else 2 ^ 31)
  fits_in true most more low short narrow = omega arith
  fits_in false most more low short narrow = let few = narrow refl in omega arith

  pub new_row_stands :
      (t : ℕ) (xs : List ℤ) → t < tiles_in p → RowStandsFor file h t xs → new_rows file h g es t (row_bytes x table t) → is.count ≡ h.pcount + length (heap_of es) →
      drop (heap_end table) x ≡ drop (heap_end table) (with_codes file h es) → RowStandsFor x (header_now x h) t (new_numbers p g t xs)
  new_row_stands t xs low row w count tail =
      let same : w.xs ≡ xs = one_row laws.taken file h t xs w.xs (target_readable laws.taken file patch job h target) row w.row in
      let len = heap_len_is file h has in
      let heap_now : (image_table x (header_now x h)).heap_len ≡ is.count = heap_is laws.hdus laws.amended file x h g es has is in
      let within = w.within in
      let stands : RowStandsFor x (header_now x h) t (new_numbers p g t w.xs) =
      laws.fresh file patch x job h t w.offset w.xs bytes target low w.row
      (record {
        header = is.cards;
        row = w.is;
        code = code_there w.offset (length (new_code p g t w.xs).bytes) w.low tail ∙ w.code;
        within = omega arith;
        fits = fits_in (is_wide_table (header_in file h)) (w.offset + length (new_code p g t w.xs).bytes) (length (heap_of es)) (omega arith) room.short room.offset;
      }) in
      subst (λ ys. RowStandsFor x (header_now x h) t (new_numbers p g t ys)) same stands

  pub old_or_new : (t : ℕ) (xs : List ℤ) → t < tiles_in p → RowStandsFor file h t xs → HasOldOrNew file x h g t xs
  old_or_new t xs low row = by_row (is.rows t (subst (λ n. t < n) (sym (rows_are file h has)) low))
    where
      by_row : (row_bytes x table t ≡ row_bytes file table t)
          ⊎ (new_rows file h g es t (row_bytes x table t) × (is.count ≡ h.pcount + length (heap_of es)) × (drop (heap_end table) x ≡ drop (heap_end table) (with_codes file h es))) →
          HasOldOrNew file x h g t xs
      by_row (inl same) = inl (kept_row t xs row same)
      by_row (inr w) = inr (w.0.inside, new_row_stands t xs low row w.0 w.1 w.2)
