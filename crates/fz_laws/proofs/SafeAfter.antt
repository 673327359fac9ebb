-- After every prefix of its writes a patch leaves a file that is safe to read.
use Rattle.std.specs.Prelude.{⊤}
use Rattle.std.proofs.Common.{◌≡◌, ◌⊎◌, inl, inr, ℕ, zero, suc, ◌+◌, ◌-◌, ◌*◌, ◌<◌, ◌≤◌, max, List, [], ◌∷◌, ◌++◌, length, take, All, slice_index, get_or, refl, sym, ap, ◌∙◌, subst, arith, append_assoc, length-append}
use Rattle.std.proofs.lemmas.List.Elements.{All-head, All-tail}
use Rattle.fz_base.specs.Counts.{Amend}
use Rattle.fz_base.specs.Sink.{overwrite}
use Rattle.fz_block.specs.declared.header.Header.{Header}
use Rattle.fz_table.specs.Rows.{row_start}
use Rattle.fz_table.specs.declared.table.Table.{Table}
use Rattle.fz_files.specs.Restored.{image_table}
use Rattle.fz_laws.specs.Amends.{IsOutside, amended, applied}
use Rattle.fz_laws.specs.Given.{Given, PatchJob, given_by}
use Rattle.fz_laws.specs.PatchLaws.{AreInOrder, ArePatching, EachPrefixIsSafe}
use Rattle.fz_laws.specs.Safe.{IsSafeAfter}
use Rattle.fz_laws.specs.PatchTaken.{BytesOutsideStay, SafeLaws}
use Rattle.fz_laws.specs.Writes.{Steps, all_writes, before_rows, heap_end, heap_writes}
use Rattle.fz_laws.proofs.Between.{IsCardWrite, IsRowWrite, LiesIn, row_bytes}
use Rattle.fz_laws.proofs.Patching.{IsPatching, patching_is}
use Rattle.fz_laws.proofs.Prefixes.{AreAfter, IsPrefix, front_of, heap_after, order_take, prefix}
use Rattle.fz_laws.proofs.RowWrites.{AreInPlace, NoRow, row_low}
use Rattle.fz_laws.proofs.SafeCuts.{cuts_find_it, cuts_still_pass}
use Rattle.fz_laws.proofs.SafeRows.{kept_row, old_or_new}
use Rattle.fz_laws.proofs.Slices.{long_written, rest_after, slice_before}
use Rattle.fz_laws.proofs.StepWrites.{in_order}
use Rattle.fz_laws.proofs.TargetFacts.{lies, rows_are}

others_stay : BytesOutsideStay → (i n : ℕ) (ws : List Amend) (file : List ℕ) → All (IsOutside i) ws → slice_index (applied (take n ws) file) i ≡ slice_index file i
others_stay law i zero ws file all = refl
others_stay law i (suc n) [] file all = refl
others_stay law i (suc n) (w ∷ ws) file all =
    others_stay law i n ws (amended w file) (All-tail (IsOutside i) w ws all)
    ∙ law w.at w.bytes file i (All-head (IsOutside i) w ws all)

-- ---- before a row is written

abbrev AreNoRows : Table → List Amend → Type 0
AreNoRows t [] = ⊤
AreNoRows t (w ∷ ws) = ((heap_end t ≤ w.at) ⊎ (w.at + length w.bytes ≤ t.rows_at)) × AreNoRows t ws

no_rows_both : (t : Table) (xs ys : List Amend) → AreNoRows t xs → AreNoRows t ys → AreNoRows t (xs ++ ys)
no_rows_both t [] ys one two = two
no_rows_both t (x ∷ xs) ys one two = (one.0, no_rows_both t xs ys one.1 two)

no_rows_take : (t : Table) (n : ℕ) (ws : List Amend) → AreNoRows t ws → AreNoRows t (take n ws)
no_rows_take t zero ws all = tt
no_rows_take t (suc n) [] all = tt
no_rows_take t (suc n) (w ∷ ws) all = (all.0, no_rows_take t n ws all.1)

after_no_rows : (t : Table) (ws : List Amend) → AreAfter (heap_end t) ws → AreNoRows t ws
after_no_rows t [] all = tt
after_no_rows t (w ∷ ws) all = (inl all.0, after_no_rows t ws all.1)

cards_no_rows : (file : List ℕ) (h : Header) (t : Table) (ws : List Amend) → LiesIn file h t → AreInPlace file h t NoRow ws → AreNoRows t ws
cards_no_rows file h t [] is all = tt
cards_no_rows file h t (w ∷ ws) is all = by_kind all.0 (cards_no_rows file h t ws is all.1)
  where
    by_kind : IsCardWrite file h w ⊎ IsRowWrite t NoRow w → AreNoRows t ws → AreNoRows t (w ∷ ws)
    by_kind (inl c) rest =
        let place = c.place in
        let long = c.long in
        let within = c.within in
        let rows = is.rows in
        (inr (omega arith), rest)
    by_kind (inr c) rest = absurd c.is

row_stays : (file : List ℕ) (h : Header) (t : Table) (row : ℕ) → LiesIn file h t → row < t.rows → (ws : List Amend) (x : List ℕ) → AreInOrder (length x) ws → AreNoRows t ws → row_bytes (applied ws x) t row ≡ row_bytes x t row
row_stays file h t row is low [] x order all = refl
row_stays file h t row is low (w ∷ ws) x order all =
    let long : length (amended w x) ≡ max (length x) (w.at + length w.bytes) = long_written w.at w.bytes x order.1 order.0 in
    row_stays file h t row is low ws (amended w x) (subst (λ n. AreInOrder n ws) (sym long) order.3) all.1 ∙ by_side all.0
  where
    by_side : (heap_end t ≤ w.at) ⊎ (w.at + length w.bytes ≤ t.rows_at) → row_bytes (amended w x) t row ≡ row_bytes x t row
    by_side (inl after) =
        let heap = is.heap in
        let inside : t.row_bytes * row + t.row_bytes ≤ t.row_bytes * t.rows = row_low t.row_bytes row t.rows low in
        slice_before w.at w.bytes x (row_start t row) t.row_bytes order.1 order.0 (omega arith)
    by_side (inr before) = ap (take t.row_bytes) (rest_after w.at w.bytes x (row_start t row) order.1 order.0 (omega arith))

-- ---- every prefix

module _ (laws : SafeLaws) (file patch : List ℕ) (job : PatchJob) (h : Header) (s : Steps) (n : ℕ) (p : ArePatching file patch job h s) where
  abbrev g : Given
  g = given_by patch job

  abbrev x : List ℕ
  x = applied (take n (all_writes s)) file

  is : IsPatching file patch job h s
  is = patching_is laws.patch file patch job h s p

  here : IsPrefix file h g is.codes x
  here = prefix laws.patch.writes.places laws.patch.writes.cards file h g is.has is.codes s is.are n

  old_rows : n ≤ length (before_rows s) → (row : ℕ) → row < (image_table file h).rows → row_bytes x (image_table file h) row ≡ row_bytes file (image_table file h) row
  old_rows early row low =
      let t : Table = image_table file h in
      let front : take n (all_writes s) ≡ take n (before_rows s) =
      ap (take n) (append_assoc (before_rows s) s.rows s.sums) ∙ front_of n (before_rows s) (s.rows ++ s.sums) early in
      let order : AreInOrder (length file) (take n (before_rows s)) =
      subst (AreInOrder (length file)) front (order_take n (length file) (all_writes s) (in_order file h g is.has is.codes s is.are)) in
      let heap : AreNoRows t s.heap = subst (AreNoRows t) (sym is.are.heap_is) (after_no_rows t (heap_writes file h is.codes) (heap_after (heap_end t) file h is.codes (omega arith))) in
      let lies_here = lies file h is.has in
      let all : AreNoRows t (before_rows s) =
      no_rows_both t s.heap (s.pcount ++ s.forms) heap
      (no_rows_both t s.pcount s.forms (cards_no_rows file h t s.pcount lies_here is.are.pcount) (cards_no_rows file h t s.forms lies_here is.are.forms)) in
      ap (λ ws. row_bytes (applied ws file) t row) front ∙ row_stays file h t row lies_here low (take n (before_rows s)) file order (no_rows_take t n (before_rows s) all)

  pub safe_after : IsSafeAfter file h g s n
  safe_after = record {
    safe = record {
      cuts = cuts_still_pass laws.cuts file patch x job h is.codes is.has p.steps_are.target here;
      found = cuts_find_it laws.cuts file patch x job h is.codes is.has p.steps_are.target here;
      tiles = old_or_new laws.rows file patch x job h is.codes is.has is.are.room p.patch_bytes p.steps_are.target here;
    };
    old =
        λ early t xs low row.
        kept_row laws.rows file patch x job h is.codes is.has is.are.room p.patch_bytes p.steps_are.target here t xs row (old_rows early t (subst (λ m. t < m) (sym (rows_are file h is.has)) low));
    others = λ i low all. others_stay laws.outside i n (all_writes s) file all;
  }

pub each_prefix_is_safe : SafeLaws → EachPrefixIsSafe
each_prefix_is_safe laws file patch job h s n p = safe_after laws file patch job h s n p
