-- The rows between the tiles with a pixel in the box, and their counts (FITS 4.0, sections 7.3.5 and 10.1).
use Rattle.std.proofs.Common.{◌≡◌, ◌⊎◌, inl, inr, ℕ, zero, suc, ◌+◌, ◌-◌, ◌*◌, ◌<◌, ◌≤◌, ◌==◌, ◌||◌, not, max, Bool, true, false, cond, List, [], ◌∷◌, ◌++◌, length, map, take, drop, filter, Option, Some, None, Result, Ok, Err, refl, sym, ap, subst, ◌∙◌, arith, eq-eqb, eqb-true}
use Rattle.std.specs.Prelude.{IfOk, IfSome}
use Rattle.std.specs.List.{list_any, range_with_len}
use Rattle.std.proofs.lemmas.Bool.{cases_lt}
use Rattle.std.proofs.lemmas.List.{append-nil, length-drop, map-append, take_all}
use Rattle.std.proofs.lemmas.List.Elements.{filter-append}
use Rattle.fz_base.specs.Source.{Reads}
use Rattle.fz_base.specs.declared.failure.Stop.{Stop}
use Rattle.fz_grid.specs.Grid.{tile_count}
use Rattle.fz_grid.specs.Overlap.{has_pixel}
use Rattle.fz_grid.specs.Region.{lengths_of}
use Rattle.fz_grid.specs.Sieve.{sieve_hi, sieve_lo, sieve_step, tile_picks}
use Rattle.fz_grid.specs.declared.sieve.Sieve.{Sieve}
use Rattle.fz_table.specs.Rows.{IsTable, RowInLaw, row_at, row_in, row_start}
use Rattle.fz_table.specs.declared.row.Row.{Row}
use Rattle.fz_table.specs.declared.table.Table.{Table}
use Rattle.fz_checks.specs.Greatest.{greatest}
use Rattle.fz_head.specs.declared.plan.Plan.{Plan}
use Rattle.fz_files.specs.FirstFault.{picked_tiles_of}
use Rattle.fz_files.specs.Packed.{tiles_in}
use Rattle.fz_laws.specs.Writes.{other_rows}
use Rattle.fz_target.specs.Measures.{counted_rows, counted_with, counted_with_all}
use Rattle.fz_target.specs.declared.measure.Measure.{Measure}

-- ---- counts of rows

both_greatest : (xs ys : List ℕ) → greatest (xs ++ ys) ≡ max (greatest xs) (greatest ys)
both_greatest [] ys = omega arith
both_greatest (x ∷ xs) ys = ap (max x) (both_greatest xs ys) ∙ omega arith

-- those of some rows, and then of others
pub counted_both : (m : Measure) (rs qs : List Row) → counted_with_all (counted_with_all m rs) qs ≡ counted_with_all m (rs ++ qs)
counted_both m rs qs =
    let coded : greatest (map (λ (r : Row). r.coded.count) (rs ++ qs)) ≡ max (greatest (map (λ (r : Row). r.coded.count) rs)) (greatest (map (λ (r : Row). r.coded.count) qs)) =
    ap greatest (map-append (λ (r : Row). r.coded.count) rs qs) ∙ both_greatest (map (λ (r : Row). r.coded.count) rs) (map (λ (r : Row). r.coded.count) qs)
    in
    let stored : greatest (map (λ (r : Row). r.stored.count) (rs ++ qs)) ≡ max (greatest (map (λ (r : Row). r.stored.count) rs)) (greatest (map (λ (r : Row). r.stored.count) qs)) =
    ap greatest (map-append (λ (r : Row). r.stored.count) rs qs) ∙ both_greatest (map (λ (r : Row). r.stored.count) rs) (map (λ (r : Row). r.stored.count) qs)
    in
    let first : max (max m.coded (greatest (map (λ (r : Row). r.coded.count) rs))) (greatest (map (λ (r : Row). r.coded.count) qs)) ≡ max m.coded (greatest (map (λ (r : Row). r.coded.count) (rs ++ qs))) = omega (arith, coded) in
    let second : max (max m.stored (greatest (map (λ (r : Row). r.stored.count) rs))) (greatest (map (λ (r : Row). r.stored.count) qs)) ≡ max m.stored (greatest (map (λ (r : Row). r.stored.count) (rs ++ qs))) = omega (arith, stored) in
    λ i. record { bytes = m.bytes; coded = first i; stored = second i }

-- those of no row
pub counted_none : (m : Measure) → counted_with_all m [] ≡ m
counted_none m =
    let first : max m.coded 0 ≡ m.coded = omega arith in
    let second : max m.stored 0 ≡ m.stored = omega arith in
    λ i. record { bytes = m.bytes; coded = first i; stored = second i }

counted_one : (m : Measure) (r : Row) → counted_with_all m (r ∷ []) ≡ counted_with m r
counted_one m r =
    let first : max m.coded (max r.coded.count 0) ≡ max m.coded r.coded.count = omega arith in
    let second : max m.stored (max r.stored.count 0) ≡ max m.stored r.stored.count = omega arith in
    λ i. record { bytes = m.bytes; coded = first i; stored = second i }

-- ---- rows one after another

split_range : (a m n : ℕ) → range_with_len a (m + n) ≡ range_with_len a m ++ range_with_len (a + m) n
split_range a zero n =
    let none : 0 + n ≡ n = omega arith in
    let same : a ≡ a + 0 = omega arith in
    ap (range_with_len a) none ∙ ap (λ k. range_with_len k n) same
split_range a (suc m) n =
    let same : suc m + n ≡ suc (m + n) = omega arith in
    let start : a + 1 + m ≡ a + suc m = omega arith in
    ap (range_with_len a) same
    ∙ ap (λ l. a ∷ l) (split_range (a + 1) m n ∙ ap (λ k. range_with_len (a + 1) m ++ range_with_len k n) start)

-- one row more
pub rows_more : (m : Measure) (file : List ℕ) (t : Table) (first count : ℕ) → counted_with (counted_rows m file t first count) (row_at file t (first + count)) ≡ counted_rows m file t first (count + 1)
rows_more m file t first count =
    let front : List Row = map (row_at file t) (range_with_len first count) in
    sym (counted_one (counted_with_all m front) (row_at file t (first + count)))
    ∙ (counted_both m front (row_at file t (first + count) ∷ [])
    ∙ ap (counted_with_all m)
    (sym (map-append (row_at file t) (range_with_len first count) (range_with_len (first + count) 1))
    ∙ ap (map (row_at file t)) (sym (split_range first count 1))))

-- some more
pub rows_then : (m : Measure) (file : List ℕ) (t : Table) (first count more : ℕ) → counted_rows (counted_rows m file t first count) file t (first + count) more ≡ counted_rows m file t first (count + more)
rows_then m file t first count more =
    counted_both m (map (row_at file t) (range_with_len first count)) (map (row_at file t) (range_with_len (first + count) more))
    ∙ ap (counted_with_all m)
    (sym (map-append (row_at file t) (range_with_len first count) (range_with_len (first + count) more))
    ∙ ap (map (row_at file t)) (sym (split_range first count more)))

-- ---- rows that were read

all_left : (n : ℕ) (bytes : List ℕ) → take (length bytes - n) (drop n bytes) ≡ drop n bytes
all_left n bytes = take_all (length bytes - n) (drop n bytes) (omega (arith, length-drop n bytes))

-- one more is counted
pub row_counted : RowInLaw → (held : Option (List ℕ)) (m now next : Measure) (t : Table) (first i : ℕ) (rows : List ℕ) (r : Row) → IsTable t → Reads held (row_start t first) rows → t.row_bytes * (i + 1) ≤ length rows →
    IfSome held (λ f. now ≡ counted_rows m f t first i) → r ≡ row_in t (take (length rows - t.row_bytes * i) (drop (t.row_bytes * i) rows)) → next ≡ counted_with now r →
    IfSome held (λ f. next ≡ counted_rows m f t first (i + 1))
row_counted law None m now next t first i rows r is read room so_far row_is counted = tt
row_counted law (Some f) m now next t first i rows r is read room so_far row_is counted =
    let row : r ≡ row_at f t (first + i) = row_is ∙ (ap (row_in t) (all_left (t.row_bytes * i) rows) ∙ law f rows t first i is read room) in
    counted ∙ ((λ j. counted_with (so_far j) (row j)) ∙ rows_more m f t first i)

-- and those of the next piece
pub piece_counted : (held now : Option (List ℕ)) (m a b : Measure) (t : Table) (first done count : ℕ) → now ≡ held → IfSome held (λ f. a ≡ counted_rows m f t first done) →
    IfSome now (λ f. b ≡ counted_rows a f t (first + done) count) → IfSome held (λ f. b ≡ counted_rows m f t first (done + count))
piece_counted held now m a b t first done count same before here = by_held held before (subst (λ h. IfSome h (λ f. b ≡ counted_rows a f t (first + done) count)) same here)
  where
    by_held : (h : Option (List ℕ)) → IfSome h (λ f. a ≡ counted_rows m f t first done) → IfSome h (λ f. b ≡ counted_rows a f t (first + done) count) → IfSome h (λ f. b ≡ counted_rows m f t first (done + count))
    by_held None one two = tt
    by_held (Some f) one two = two ∙ (ap (λ k. counted_rows k f t (first + done) count) one ∙ rows_then m f t first done count)

-- ---- the numbers that pass a test, and those between them

not_of : (b : Bool) → b ≡ false → not b ≡ true
not_of true e = absurd cc
not_of false e = refl

not_so : (b : Bool) → b ≡ true → not b ≡ false
not_so true e = refl
not_so false e = absurd cc

-- The first of some numbers that passes a test, and those after it.
pub record IsNext (test : ℕ → Bool) (a end next : ℕ) (rest : List ℕ) : Type 0 where
  pub low : a ≤ next
  pub high : next < end
  pub rest_is : rest ≡ filter test (range_with_len (next + 1) (end - (next + 1)))
  pub between : filter (λ k. not (test k)) (range_with_len a (next - a)) ≡ range_with_len a (next - a)
  pub passes : test next ≡ true

module _ (test : ℕ → Bool) where
  abbrev outs : ℕ → ℕ → List ℕ
  outs a n = filter (λ k. not (test k)) (range_with_len a n)

  next_from : (a m next : ℕ) (rest : List ℕ) → next ∷ rest ≡ filter test (range_with_len a m) → IsNext test a (a + m) next rest
  next_from a zero next rest e = absurd cc
  next_from a (suc m) next rest e = by_test (λ found. next_from (a + 1) m next rest found) (test a) refl
    where
      here : test a ≡ true → next ∷ rest ≡ a ∷ filter test (range_with_len (a + 1) m)
      here is = e ∙ ap (λ b. cond b (a ∷ filter test (range_with_len (a + 1) m)) (filter test (range_with_len (a + 1) m))) is

      later : test a ≡ false → next ∷ rest ≡ filter test (range_with_len (a + 1) m)
      later is = e ∙ ap (λ b. cond b (a ∷ filter test (range_with_len (a + 1) m)) (filter test (range_with_len (a + 1) m))) is

      head : (x y : ℕ) (xs ys : List ℕ) → x ∷ xs ≡ y ∷ ys → (x ≡ y) × (xs ≡ ys)
      head x y xs ys same = (cc, cc)

      by_test : (next ∷ rest ≡ filter test (range_with_len (a + 1) m) → IsNext test (a + 1) (a + 1 + m) next rest) → (b : Bool) → test a ≡ b → IsNext test a (a + suc m) next rest
      by_test go_on true is =
          let parts = head next a rest (filter test (range_with_len (a + 1) m)) (here is) in
          let none : next - a ≡ 0 = omega (arith, parts.0) in
          let left : m ≡ a + suc m - (next + 1) = omega (arith, parts.0) in
          let start : a + 1 ≡ next + 1 = omega (arith, parts.0) in
          record {
            low = omega (arith, parts.0);
            high = omega (arith, parts.0);
            rest_is = parts.1 ∙ (λ j. filter test (range_with_len (start j) (left j)));
            between = ap (outs a) none ∙ ap (range_with_len a) (sym none);
            passes = ap test parts.0 ∙ is;
          }
      by_test go_on false is =
          let more = go_on (later is) in
          let low : a + 1 ≤ next = more.low in
          let count : next - a ≡ suc (next - (a + 1)) = omega (arith, low) in
          let end : a + 1 + m ≡ a + suc m = omega arith in
          record {
            low = omega (arith, low);
            high = omega (arith, more.high);
            rest_is = more.rest_is ∙ ap (λ n. filter test (range_with_len (next + 1) (n - (next + 1)))) end;
            between =
                ap (outs a) count
                ∙ (ap (λ b. cond b (a ∷ outs (a + 1) (next - (a + 1))) (outs (a + 1) (next - (a + 1)))) (not_of (test a) is)
                ∙ (ap (λ l. a ∷ l) more.between
                ∙ ap (range_with_len a) (sym count)));
            passes = more.passes;
          }

  -- none passes
  none_from : (a m : ℕ) → [] ≡ filter test (range_with_len a m) → filter (λ k. not (test k)) (range_with_len a m) ≡ range_with_len a m
  none_from a zero e = refl
  none_from a (suc m) e = by_test (λ found. none_from (a + 1) m found) (test a) refl
    where
      by_test : ([] ≡ filter test (range_with_len (a + 1) m) → filter (λ k. not (test k)) (range_with_len (a + 1) m) ≡ range_with_len (a + 1) m) → (b : Bool) → test a ≡ b →
          filter (λ k. not (test k)) (range_with_len a (suc m)) ≡ range_with_len a (suc m)
      by_test go_on true is =
          let wrong : [] ≡ a ∷ filter test (range_with_len (a + 1) m) = e ∙ ap (λ b. cond b (a ∷ filter test (range_with_len (a + 1) m)) (filter test (range_with_len (a + 1) m))) is in
          absurd cc
      by_test go_on false is =
          let later : [] ≡ filter test (range_with_len (a + 1) m) = e ∙ ap (λ b. cond b (a ∷ filter test (range_with_len (a + 1) m)) (filter test (range_with_len (a + 1) m))) is in
          ap (λ b. cond b (a ∷ outs (a + 1) m) (outs (a + 1) m)) (not_of (test a) is) ∙ ap (λ l. a ∷ l) (go_on later)

  -- those that do not pass, up to one that does and with it
  outs_next : (first next : ℕ) → first ≤ next → outs first (next - first) ≡ range_with_len first (next - first) → test next ≡ true → outs 0 (next + 1) ≡ outs 0 first ++ range_with_len first (next - first)
  outs_next first next low between passes =
      let parts : next + 1 ≡ first + (next - first + 1) = omega (arith, low) in
      let place : first + (next - first) ≡ next = omega (arith, low) in
      let start : 0 + first ≡ first = omega arith in
      let last : outs next 1 ≡ [] = ap (λ b. cond b (next ∷ []) []) (not_so (test next) passes) in
      let out : ℕ → Bool = λ k. not (test k) in
      ap (outs 0) parts
      ∙ (ap (filter out) (split_range 0 first (next - first + 1) ∙ ap (λ k. range_with_len 0 first ++ range_with_len k (next - first + 1)) start)
      ∙ (filter-append out (range_with_len 0 first) (range_with_len first (next - first + 1))
      ∙ ap (λ l. outs 0 first ++ l)
      (ap (filter out) (split_range first (next - first) 1)
      ∙ (filter-append out (range_with_len first (next - first)) (range_with_len (first + (next - first)) 1)
      ∙ ((λ j. between j ++ outs (place j) 1)
      ∙ (ap (λ l. range_with_len first (next - first) ++ l) last
      ∙ append-nil (range_with_len first (next - first))))))))

  outs_last : (first n : ℕ) → first ≤ n → outs first (n - first) ≡ range_with_len first (n - first) → outs 0 n ≡ outs 0 first ++ range_with_len first (n - first)
  outs_last first n low between =
      let parts : n ≡ first + (n - first) = omega (arith, low) in
      let start : 0 + first ≡ first = omega arith in
      let out : ℕ → Bool = λ k. not (test k) in
      ap (outs 0) parts
      ∙ (ap (filter out) (split_range 0 first (n - first) ∙ ap (λ k. range_with_len 0 first ++ range_with_len k (n - first)) start)
      ∙ (filter-append out (range_with_len 0 first) (range_with_len first (n - first))
      ∙ ap (λ l. outs 0 first ++ l) between))

  -- a number is among those that pass if it passes
  none_below : (row a n : ℕ) → row < a → list_any (λ k. k == row) (filter test (range_with_len a n)) ≡ false
  none_below row a zero less = refl
  none_below row a (suc n) less = by_test (none_below row (a + 1) n (omega (arith, less))) (a == row) refl (test a) refl
    where
      by_test : list_any (λ k. k == row) (filter test (range_with_len (a + 1) n)) ≡ false → (c : Bool) → (a == row) ≡ c → (b : Bool) → test a ≡ b →
          list_any (λ k. k == row) (filter test (range_with_len a (suc n))) ≡ false
      by_test rest true e b is = absurd (omega (arith, less, eqb-true a row e))
      by_test rest false e true is =
          ap (λ b. list_any (λ k. k == row) (cond b (a ∷ filter test (range_with_len (a + 1) n)) (filter test (range_with_len (a + 1) n)))) is
          ∙ (λ j. e j || rest j)
      by_test rest false e false is =
          ap (λ b. list_any (λ k. k == row) (cond b (a ∷ filter test (range_with_len (a + 1) n)) (filter test (range_with_len (a + 1) n)))) is ∙ rest

  is_among : (row a n : ℕ) → a ≤ row → row < a + n → list_any (λ k. k == row) (filter test (range_with_len a n)) ≡ test row
  is_among row a zero low high = absurd (omega (arith, low, high))
  is_among row a (suc n) low high = by_equal (λ more. is_among row (a + 1) n more (omega (arith, high))) (a == row) refl (test a) refl
    where
      whole : (b : Bool) → test a ≡ b → list_any (λ k. k == row) (filter test (range_with_len a (suc n)))
          ≡ list_any (λ k. k == row) (cond b (a ∷ filter test (range_with_len (a + 1) n)) (filter test (range_with_len (a + 1) n)))
      whole b is = ap (λ x. list_any (λ k. k == row) (cond x (a ∷ filter test (range_with_len (a + 1) n)) (filter test (range_with_len (a + 1) n)))) is

      not_equal : (a == row) ≡ false → a ≡ row → ⊥
      not_equal e same =
          let is : (a == row) ≡ true = eq-eqb a row same in
          absurd cc

      later : (a == row) ≡ false → a + 1 ≤ row
      later e = by_order (cases_lt a row)
        where
          by_order : (a < row) ⊎ (row ≤ a) → a + 1 ≤ row
          by_order (inl less) = omega (arith, less)
          by_order (inr not_less) = absurd (not_equal e (omega (arith, low, not_less)))

      by_equal : (a + 1 ≤ row → list_any (λ k. k == row) (filter test (range_with_len (a + 1) n)) ≡ test row) → (c : Bool) → (a == row) ≡ c → (b : Bool) → test a ≡ b →
          list_any (λ k. k == row) (filter test (range_with_len a (suc n))) ≡ test row
      by_equal go_on true e true is =
          let same : a ≡ row = eqb-true a row e in
          whole true is ∙ (ap (λ x. x || list_any (λ k. k == row) (filter test (range_with_len (a + 1) n))) e ∙ (sym is ∙ ap test same))
      by_equal go_on true e false is =
          let same : a ≡ row = eqb-true a row e in
          whole false is ∙ (none_below row (a + 1) n (omega (arith, same)) ∙ (sym is ∙ ap test same))
      by_equal go_on false e true is =
          whole true is
          ∙ (ap (λ x. x || list_any (λ k. k == row) (filter test (range_with_len (a + 1) n))) e
          ∙ go_on (later e))
      by_equal go_on false e false is = whole false is ∙ go_on (later e)

  -- two tests that agree on some numbers let the same ones through
  same_outs : (all : List ℕ) (a n : ℕ) → ((row : ℕ) → a ≤ row → row < a + n → list_any (λ k. k == row) all ≡ test row) →
      filter (λ row. not (list_any (λ k. k == row) all)) (range_with_len a n) ≡ outs a n
  same_outs all a zero each = refl
  same_outs all a (suc n) each =
      let here : list_any (λ k. k == a) all ≡ test a = each a (omega arith) (omega arith) in
      let rest = same_outs all (a + 1) n (λ row low high. each row (omega (arith, low)) (omega (arith, high))) in
      λ j. cond (not (here j)) (a ∷ rest j) (rest j)

-- ---- the rows of the tiles that have no pixel in the box

abbrev pub has_pick : Plan → Sieve → ℕ → Bool
has_pick p sieve t = has_pixel (tile_picks (lengths_of p.shape) (lengths_of p.tile) (sieve_lo sieve) (sieve_hi sieve) (sieve_step sieve) t)

-- the first so many of them
abbrev pub others_before : Plan → Sieve → ℕ → List ℕ
others_before p sieve n = filter (λ k. not (has_pick p sieve k)) (range_with_len 0 n)

pub others_are : (p : Plan) (sieve : Sieve) (file : List ℕ) (t : Table) → t.rows ≡ tiles_in p → other_rows file t (picked_tiles_of p sieve) ≡ map (row_at file t) (others_before p sieve t.rows)
others_are p sieve file t rows =
    ap (map (row_at file t))
    (same_outs (has_pick p sieve) (picked_tiles_of p sieve) 0 t.rows
    (λ row low high. is_among (has_pick p sieve) row 0 (tiles_in p) low (subst (λ n. row < 0 + n) rows high)))

-- their counts are known up to this row, and these tiles with a pixel are left
pub record OthersCounted (p : Plan) (sieve : Sieve) (t : Table) (held : Option (List ℕ)) (found now : Measure) (first : ℕ) (left : List ℕ) : Type 0 where
  pub few : first ≤ t.rows
  pub left_is : left ≡ filter (has_pick p sieve) (range_with_len first (t.rows - first))
  pub counted : IfSome held (λ f. now ≡ counted_with_all found (map (row_at f t) (others_before p sieve first)))

module _ (p : Plan) (sieve : Sieve) (t : Table) (found : Measure) where
  pub others_begin : (held : Option (List ℕ)) (left : List ℕ) → t.rows ≡ tiles_in p → left ≡ picked_tiles_of p sieve → OthersCounted p sieve t held found found 0 left
  others_begin held left rows all = record {
    few = omega arith;
    left_is =
        let none : t.rows ≡ t.rows - 0 = omega arith in
        all ∙ ap (λ n. filter (has_pick p sieve) (range_with_len 0 n)) (sym rows ∙ none);
    counted = by_file held;
  }
    where
      by_file : (held : Option (List ℕ)) → IfSome held (λ f. found ≡ counted_with_all found (map (row_at f t) (others_before p sieve 0)))
      by_file None = tt
      by_file (Some f) = sym (counted_none found)

  next_is : (held : Option (List ℕ)) (now : Measure) (first next : ℕ) (left rest : List ℕ) → left ≡ next ∷ rest → OthersCounted p sieve t held found now first left → IsNext (has_pick p sieve) first (first + (t.rows - first)) next rest
  next_is held now first next left rest is old = next_from (has_pick p sieve) first (t.rows - first) next rest (sym is ∙ old.left_is)

  -- the next of these is a later row
  pub next_row : (held : Option (List ℕ)) (now : Measure) (first next : ℕ) (left rest : List ℕ) → left ≡ next ∷ rest → OthersCounted p sieve t held found now first left → (first ≤ next) × (next < t.rows)
  next_row held now first next left rest is old =
      let found_next = next_is held now first next left rest is old in
      (found_next.low, omega (arith, found_next.high, old.few))

  -- the rows between were counted
  pub others_step : (held : Option (List ℕ)) (now then : Measure) (first next : ℕ) (left rest : List ℕ) → left ≡ next ∷ rest → IfSome held (λ f. then ≡ counted_rows now f t first (next - first)) →
      OthersCounted p sieve t held found now first left → OthersCounted p sieve t held found then (next + 1) rest
  others_step held now then first next left rest is counted old =
      let found_next = next_is held now first next left rest is old in
      let end : first + (t.rows - first) ≡ t.rows = omega (arith, old.few) in
      record {
        few = omega (arith, found_next.high, old.few);
        left_is = found_next.rest_is ∙ ap (λ n. filter (has_pick p sieve) (range_with_len (next + 1) (n - (next + 1)))) end;
        counted = by_file held counted old.counted (outs_next (has_pick p sieve) first next found_next.low found_next.between found_next.passes);
      }
    where
      by_file : (held : Option (List ℕ)) → IfSome held (λ f. then ≡ counted_rows now f t first (next - first)) → IfSome held (λ f. now ≡ counted_with_all found (map (row_at f t) (others_before p sieve first))) →
          others_before p sieve (next + 1) ≡ others_before p sieve first ++ range_with_len first (next - first) → IfSome held (λ f. then ≡ counted_with_all found (map (row_at f t) (others_before p sieve (next + 1))))
      by_file None here before parts = tt
      by_file (Some f) here before parts =
          here
          ∙ (ap (λ m. counted_with_all m (map (row_at f t) (range_with_len first (next - first)))) before
          ∙ (counted_both found (map (row_at f t) (others_before p sieve first)) (map (row_at f t) (range_with_len first (next - first)))
          ∙ ap (counted_with_all found)
          (sym (map-append (row_at f t) (others_before p sieve first) (range_with_len first (next - first))) ∙ ap (map (row_at f t)) (sym parts))))

  -- and those after the last
  pub others_all : (held : Option (List ℕ)) (now then : Measure) (first : ℕ) (left : List ℕ) → t.rows ≡ tiles_in p → left ≡ [] → IfSome held (λ f. then ≡ counted_rows now f t first (t.rows - first)) →
      OthersCounted p sieve t held found now first left → IfSome held (λ f. then ≡ counted_with_all found (other_rows f t (picked_tiles_of p sieve)))
  others_all held now then first left rows over counted old =
      by_file held counted old.counted (outs_last (has_pick p sieve) first t.rows old.few (none_from (has_pick p sieve) first (t.rows - first) (sym over ∙ old.left_is)))
    where
      by_file : (held : Option (List ℕ)) → IfSome held (λ f. then ≡ counted_rows now f t first (t.rows - first)) → IfSome held (λ f. now ≡ counted_with_all found (map (row_at f t) (others_before p sieve first))) →
          others_before p sieve t.rows ≡ others_before p sieve first ++ range_with_len first (t.rows - first) → IfSome held (λ f. then ≡ counted_with_all found (other_rows f t (picked_tiles_of p sieve)))
      by_file None here before parts = tt
      by_file (Some f) here before parts =
          here
          ∙ (ap (λ m. counted_with_all m (map (row_at f t) (range_with_len first (t.rows - first)))) before
          ∙ (counted_both found (map (row_at f t) (others_before p sieve first)) (map (row_at f t) (range_with_len first (t.rows - first)))
          ∙ ap (counted_with_all found)
          (sym (map-append (row_at f t) (others_before p sieve first) (range_with_len first (t.rows - first)))
          ∙ (ap (map (row_at f t)) (sym parts)
          ∙ sym (others_are p sieve f t rows)))))

  pub others_result : (held now : Option (List ℕ)) (before : Measure) (first : ℕ) (left : List ℕ) (r : Result Measure Stop) → t.rows ≡ tiles_in p → left ≡ [] → now ≡ held →
      IfOk r (λ m. IfSome now (λ f. m ≡ counted_rows before f t first (t.rows - first))) → OthersCounted p sieve t held found before first left → IfOk r (λ m. IfSome held (λ f. m ≡ counted_with_all found (other_rows f t (picked_tiles_of p sieve))))
  others_result held now before first left (Ok m) rows over same counted old =
      others_all held before m first left rows over (subst (λ h. IfSome h (λ f. m ≡ counted_rows before f t first (t.rows - first))) same counted) old
  others_result held now before first left (Err stop) rows over same counted old = tt
