-- After all writes of a patch each tile of the box has its new numbers, and every other tile its old ones.
use Rattle.std.proofs.Common.{◌≡◌, ◌⊎◌, inl, inr, ℕ, zero, suc, ◌+◌, ◌-◌, ◌*◌, ◌<◌, ◌≤◌, max, ℤ, List, [], ◌∷◌, ◌++◌, length, take, drop, zip, Contains, slice_index, refl, sym, ap, ◌∙◌, subst, arith, length-append}
use Rattle.std.proofs.lemmas.Bool.{cases_lt}
use Rattle.std.proofs.lemmas.List.{take_all}
use Rattle.fz_base.specs.Counts.{Amend}
use Rattle.fz_block.specs.Header.{next_start_of}
use Rattle.fz_block.specs.declared.header.Header.{Header}
use Rattle.fz_table.specs.Rows.{row_start}
use Rattle.fz_table.specs.declared.table.Table.{Table}
use Rattle.fz_tile.specs.TileCode.{TileCode}
use Rattle.fz_files.specs.Packed.{heap_of, row_of, tiles_in}
use Rattle.fz_files.specs.Restored.{RowStandsFor, image_table, plan_in}
use Rattle.fz_laws.specs.Amends.{amend_of, amended, applied}
use Rattle.fz_laws.specs.FirstPatchFault.{RowsHaveNumbers}
use Rattle.fz_laws.specs.Given.{Given, PatchJob, given_by}
use Rattle.fz_laws.specs.PatchLaws.{AllWritesTile, AreInOrder, ArePatching, new_code}
use Rattle.fz_laws.specs.NewNumbers.{box_tiles, new_numbers}
use Rattle.fz_laws.specs.Patched.{HasNewTiles}
use Rattle.fz_laws.specs.PatchTaken.{SafeLaws}
use Rattle.fz_laws.specs.Writes.{Steps, all_writes, before_rows, before_sums, header_now, heap_end, new_codes, row_writes, steps_of, table_plan}
use Rattle.fz_laws.proofs.Between.{IsCardWrite, IsRowWrite, LiesIn, row_bytes}
use Rattle.fz_laws.proofs.PatchedAgain.{late_end}
use Rattle.fz_laws.proofs.Patching.{IsPatching, patching_is}
use Rattle.fz_laws.proofs.Prefixes.{LatePrefix, late_prefix, order_rest, order_take_first}
use Rattle.fz_laws.proofs.RowWrites.{AreInBox, AreInPlace, row_low, some_row}
use Rattle.fz_laws.proofs.SafeRows.{kept_row, new_row_stands}
use Rattle.fz_laws.proofs.Slices.{long_written, rest_after, slice_before, slice_here}
use Rattle.fz_laws.proofs.StepWrites.{all_is, applied_both, box_is, in_order, new_rows, with_codes}
use Rattle.fz_laws.proofs.TargetFacts.{HasTarget, lies, rows_are as rows_of}

-- a write of a row is of no other row
same_row : (t : Table) (one other : ℕ) → 0 < t.row_bytes → row_start t one ≡ row_start t other → one ≡ other
same_row t one other some same = by_order (cases_lt one other) (cases_lt other one)
  where
    by_order : (one < other) ⊎ (other ≤ one) → (other < one) ⊎ (one ≤ other) → one ≡ other
    by_order (inl less) high = let apart : t.row_bytes * one + t.row_bytes ≤ t.row_bytes * other = row_low t.row_bytes one other less in absurd (omega arith)
    by_order (inr low) (inl less) = let apart : t.row_bytes * other + t.row_bytes ≤ t.row_bytes * one = row_low t.row_bytes other one less in absurd (omega arith)
    by_order (inr low) (inr high) = omega arith

module _ (base : List ℕ) (h : Header) (t : Table) (says : ℕ → List ℕ → Type 0) (is : LiesIn base h t) (some : 0 < t.row_bytes) where
  -- what a row says stays, or is said anew
  one_write : (row : ℕ) (x : List ℕ) (w : Amend) → row < t.rows → w.at ≤ length x → 0 < length w.bytes → IsCardWrite base h w ⊎ IsRowWrite t says w → says row (row_bytes x t row) → says row (row_bytes (amended w x) t row)
  one_write row x w low near full (inl c) said =
      let place = c.place in
      let long = c.long in
      let within = c.within in
      let rows = is.rows in
      subst (says row) (sym (ap (take t.row_bytes) (rest_after w.at w.bytes x (row_start t row) full near (omega arith)))) said
  one_write row x w low near full (inr c) said = by_row (cases_lt row c.row) (cases_lt c.row row)
    where
      by_row : (row < c.row) ⊎ (c.row ≤ row) → (c.row < row) ⊎ (row ≤ c.row) → says row (row_bytes (amended w x) t row)
      by_row (inl less) other =
          let apart : t.row_bytes * row + t.row_bytes ≤ t.row_bytes * c.row = row_low t.row_bytes row c.row less in
          let place = c.place in
          subst (says row) (sym (slice_before w.at w.bytes x (row_start t row) t.row_bytes full near (omega arith))) said
      by_row (inr more) (inl less) =
          let apart : t.row_bytes * c.row + t.row_bytes ≤ t.row_bytes * row = row_low t.row_bytes c.row row less in
          let place = c.place in
          let size = c.long in
          subst (says row) (sym (ap (take t.row_bytes) (rest_after w.at w.bytes x (row_start t row) full near (omega arith)))) said
      by_row (inr more) (inr most) =
          let same : c.row ≡ row = omega arith in
          subst (λ k. says k (row_bytes (amended w x) t k)) same
          (subst (says c.row) (sym ((λ j. take (sym c.long j) (drop (sym c.place j) (amended w x))) ∙ slice_here w.at w.bytes x full near)) c.is)

  pub later_writes : (row : ℕ) (ws : List Amend) (x : List ℕ) → row < t.rows → AreInOrder (length x) ws → AreInPlace base h t says ws → says row (row_bytes x t row) → says row (row_bytes (applied ws x) t row)
  later_writes row [] x low order all said = said
  later_writes row (w ∷ ws) x low order all said =
      let long : length (amended w x) ≡ max (length x) (w.at + length w.bytes) = long_written w.at w.bytes x order.1 order.0 in
      later_writes row ws (amended w x) low (subst (λ n. AreInOrder n ws) (sym long) order.3) all.1 (one_write row x w low order.0 order.1 all.0 said)

  -- a write of a row
  row_written : (row : ℕ) (x : List ℕ) (w : Amend) → w.at ≡ row_start t row → w.at ≤ length x → 0 < length w.bytes → IsCardWrite base h w ⊎ IsRowWrite t says w → says row (row_bytes (amended w x) t row)
  row_written row x w here near full (inl c) =
      let place = c.place in
      let within = c.within in
      let rows = is.rows in
      absurd (omega arith)
  row_written row x w here near full (inr c) =
      let same : c.row ≡ row = same_row t c.row row some (sym c.place ∙ here) in
      subst (λ k. says k (row_bytes (amended w x) t k)) same
      (subst (says c.row) (sym ((λ j. take (sym c.long j) (drop (sym c.place j) (amended w x))) ∙ slice_here w.at w.bytes x full near)) c.is)

-- ---- the rows of the box

-- every row among these is written
rows_reach : (file : List ℕ) (h : Header) (g : Given) (says : ℕ → List ℕ → Type 0) → LiesIn file h (image_table file h) → 0 < (image_table file h).row_bytes → (offset : ℕ) (ts : List ℕ) (olds : List (List ℤ)) →
    RowsHaveNumbers file h ts olds → (row : ℕ) → Contains ts row → row < (image_table file h).rows → (x : List ℕ) →
    AreInOrder (length x) (row_writes (image_table file h) (table_plan file h) offset (zip ts (new_codes (plan_in file h) g ts olds))) →
    AreInPlace file h (image_table file h) says (row_writes (image_table file h) (table_plan file h) offset (zip ts (new_codes (plan_in file h) g ts olds))) →
    says row (row_bytes (applied (row_writes (image_table file h) (table_plan file h) offset (zip ts (new_codes (plan_in file h) g ts olds))) x) (image_table file h) row)
rows_reach file h g says is some offset [] olds rows row (i, less, here) low x order all = absurd (omega arith)
rows_reach file h g says is some offset (t ∷ ts) [] rows row found low x order all = absurd rows
rows_reach file h g says is some offset (t ∷ ts) (xs ∷ more) rows row (zero, less, here) low x order all =
    let table : Table = image_table file h in
    let e : TileCode = new_code (plan_in file h) g t xs in
    let w : Amend = amend_of (row_start table t) (row_of (table_plan file h) offset e) in
    let rest : List Amend = row_writes table (table_plan file h) (offset + length e.bytes) (zip ts (new_codes (plan_in file h) g ts more)) in
    let long : length (amended w x) ≡ max (length x) (w.at + length w.bytes) = long_written w.at w.bytes x order.1 order.0 in
    let same : t ≡ row = here in
    later_writes file h table says is some row rest (amended w x) low (subst (λ n. AreInOrder n rest) (sym long) order.3) all.1
    (row_written file h table says is some row x w (ap (row_start table) same) order.0 order.1 all.0)
rows_reach file h g says is some offset (t ∷ ts) (xs ∷ more) rows row (suc i, less, here) low x order all =
    let table : Table = image_table file h in
    let e : TileCode = new_code (plan_in file h) g t xs in
    let w : Amend = amend_of (row_start table t) (row_of (table_plan file h) offset e) in
    let rest : List Amend = row_writes table (table_plan file h) (offset + length e.bytes) (zip ts (new_codes (plan_in file h) g ts more)) in
    let long : length (amended w x) ≡ max (length x) (w.at + length w.bytes) = long_written w.at w.bytes x order.1 order.0 in
    rows_reach file h g says is some (offset + length e.bytes) ts more rows.1 row (i, omega arith, here) low (amended w x) (subst (λ n. AreInOrder n rest) (sym long) order.3) all.1

-- ---- all writes

steps_rows : (file : List ℕ) (h : Header) (g : Given) (olds : List (List ℤ)) →
    (steps_of file h g olds).rows ≡ row_writes (image_table file h) (table_plan file h) (image_table file h).heap_len (zip (box_tiles (plan_in file h) g) (new_codes (plan_in file h) g (box_tiles (plan_in file h) g) olds))
unfolding steps_of
steps_rows file h g olds = refl

module _ (laws : SafeLaws) (file patch : List ℕ) (job : PatchJob) (h : Header) (s : Steps) (p : ArePatching file patch job h s) where
  abbrev g : Given
  g = given_by patch job

  abbrev table : Table
  table = image_table file h

  abbrev x : List ℕ
  x = applied (all_writes s) file

  is : IsPatching file patch job h s
  is = patching_is laws.patch file patch job h s p

  late : LatePrefix file h g is.codes x
  late =
      subst (λ ws. LatePrefix file h g is.codes (applied ws file)) (take_all (length (all_writes s) + 1) (all_writes s) (omega arith))
      (late_prefix laws.patch.writes.places laws.patch.writes.cards file h g is.has is.codes s is.are (length (all_writes s) + 1) few)
    where
      few : length s.heap < length (all_writes s) + 1
      few =
          let one = ap length (all_is s) in
          let two = length-append s.heap (s.pcount ++ (s.forms ++ (s.rows ++ s.sums))) in
          omega arith

  pub rows_are : s.rows ≡ row_writes table (table_plan file h) table.heap_len (zip (box_tiles (plan_in file h) g) (new_codes (plan_in file h) g (box_tiles (plan_in file h) g) p.steps_are.olds))
  rows_are = ap (λ (u : Steps). u.rows) p.steps_are.steps_are ∙ steps_rows file h g p.steps_are.olds

  order : AreInOrder (length file) (before_sums s ++ s.sums)
  order = in_order file h g is.has is.codes s is.are

  row_said : (t : ℕ) → t < table.rows → Contains (box_tiles (plan_in file h) g) t → new_rows file h g is.codes t (row_bytes x table t)
  row_said t low inside =
      let y : List ℕ = applied (before_rows s) file in
      let first : AreInOrder (length file) (before_rows s ++ s.rows) = order_take_first (before_sums s) s.sums (length file) order in
      let rows_order : AreInOrder (length y) s.rows = order_rest (before_rows s) s.rows file first in
      let sums_order : AreInOrder (length (applied (before_sums s) file)) s.sums = order_rest (before_sums s) s.sums file order in
      let here = lies file h is.has in
      let some = some_row file h is.has in
      let reached : new_rows file h g is.codes t (row_bytes (applied s.rows y) table t) =
      subst (λ ws. new_rows file h g is.codes t (row_bytes (applied ws y) table t)) (sym rows_are)
      (rows_reach file h g (new_rows file h g is.codes) here some table.heap_len (box_tiles (plan_in file h) g) p.steps_are.olds p.steps_are.numbers t inside low y
      (subst (AreInOrder (length y)) rows_are rows_order) (subst (AreInPlace file h table (new_rows file h g is.codes)) rows_are is.are.rows)) in
      subst (λ l. new_rows file h g is.codes t (row_bytes l table t)) (sym (applied_both (before_sums s) s.sums file))
      (later_writes file h table (new_rows file h g is.codes) here some t s.sums (applied (before_sums s) file) low sums_order is.are.sums
      (subst (λ l. new_rows file h g is.codes t (row_bytes l table t)) (sym (applied_both (before_rows s) s.rows file)) reached))

  new_tiles : HasNewTiles file x h g
  new_tiles = record {
    inside =
        λ t xs inside row.
        let low : t < tiles_in (plan_in file h) = in_box t (box_tiles (plan_in file h) g) (box_is file h g) inside in
        new_row_stands laws.rows file patch x job h is.codes is.has is.are.room p.patch_bytes p.steps_are.target late.is t xs low row (row_said t (subst (λ m. t < m) (sym (rows_of file h is.has)) low) inside) late.count_is late.tail_is;
    outside = λ t xs low outside row. by_row t xs row outside (late.is.rows t (subst (λ m. t < m) (sym (rows_of file h is.has)) low));
    ends = late_end laws.cuts file x h g is.codes is.has late;
  }
    where
      in_box : (t : ℕ) (ts : List ℕ) → AreInBox file h g ts → Contains ts t → t < tiles_in (plan_in file h)
      in_box t [] box (i, less, here) = absurd (omega arith)
      in_box t (u ∷ ts) box (zero, less, here) = let same : u ≡ t = here in subst (λ m. m < tiles_in (plan_in file h)) same box.0
      in_box t (u ∷ ts) box (suc i, less, here) = in_box t ts box.2 (i, omega arith, here)

      by_row : (t : ℕ) (xs : List ℤ) → RowStandsFor file h t xs → ¬ Contains (box_tiles (plan_in file h) g) t →
          (row_bytes x table t ≡ row_bytes file table t)
          ⊎ (new_rows file h g is.codes t (row_bytes x table t) × (late.is.count ≡ h.pcount + length (heap_of is.codes)) × (drop (heap_end table) x ≡ drop (heap_end table) (with_codes file h is.codes))) →
          RowStandsFor x (header_now x h) t xs
      by_row t xs row outside (inl same) = kept_row laws.rows file patch x job h is.codes is.has is.are.room p.patch_bytes p.steps_are.target late.is t xs row same
      by_row t xs row outside (inr w) = absurd (outside w.0.inside)

pub all_writes_tile : SafeLaws → AllWritesTile
all_writes_tile laws file patch job h s p = new_tiles laws file patch job h s p
