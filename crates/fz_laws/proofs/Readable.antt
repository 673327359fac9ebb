-- The rows that a job looks at are those of images that can be read, and their records stand in the file.
use Rattle.std.proofs.Common.{◌≡◌, ℕ, suc, ◌+◌, ◌-◌, ◌*◌, ◌/◌, ◌≤◌, ◌==◌, ◌&&◌, not, nat_lt, nat_le, min, Bool, true, false, ℤ, pos, negsuc, unsigned_abs, List, [], ◌∷◌, ◌++◌, length, map, drop, slice_index, Option, Some, None, is_some, Ok, if◌then◌else◌, refl, sym, subst, ap, ◌∙◌, arith, length-take, length-drop}
use Rattle.std.specs.List.{flat_map, range_with_len}
use Rattle.std.specs.Ordering.{int_eq}
use Rattle.std.proofs.lemmas.Bool.Decides.{Decides-int_eq}
use Rattle.std.specs.Prelude.{unwrap_or}
use Rattle.std.proofs.lemmas.List.{length-map}
use Rattle.std.proofs.lemmas.List.FromFn.{length-range_with_len}
use Rattle.fz_card.specs.Reading.{integer_of}
use Rattle.fz_block.specs.Cards.{card_at}
use Rattle.fz_block.specs.declared.axes.Axes.{Axes}
use Rattle.fz_base.specs.Refusal.{first_refusal}
use Rattle.fz_base.specs.declared.fault.Fault.{Fault}
use Rattle.fz_block.specs.Checks.{unless_refused}
use Rattle.fz_block.specs.Facts.{IsHeaderOf, nine_axes}
use Rattle.fz_block.specs.Hdus.{array_len, axes_of, naxis_of, places, size_at, size_in}
use Rattle.fz_block.specs.Header.{data_start_of, next_start_of, whole_blocks_of}
use Rattle.fz_block.specs.Walk.{AreHeadersBetween}
use Rattle.fz_block.specs.declared.header.Header.{Header}
use Rattle.fz_table.specs.Columns.{field_count, integer_at, is_from}
use Rattle.fz_table.specs.Records.{chosen_column, chosen_record, described_in, has_none, record_at, record_bytes, record_of, row_checks, unit_in}
use Rattle.fz_table.specs.Rows.{row_at}
use Rattle.fz_table.specs.Tables.{array_checks, field_checks, form_checks, heap_checks, heap_start_of, rows_len_of, table_checks, table_in, theap_card, width_checks}
use Rattle.fz_table.specs.declared.record.Record.{Record}
use Rattle.fz_table.specs.declared.record.Tile.{Tile}
use Rattle.fz_table.specs.declared.row.Row.{Row}
use Rattle.fz_table.specs.declared.table.Table.{Table}
use Rattle.fz_tile.specs.Record.{read_len}
use Rattle.fz_laws.proofs.Tests.{eq_true, lt_false, le_true, and_true, not_false}

-- ---- checks that refuse nothing

pub none_of_both : (xs ys : List (Bool × Fault)) → first_refusal (xs ++ ys) ≡ None → (first_refusal xs ≡ None) × (first_refusal ys ≡ None)
none_of_both [] ys e = (refl, e)
none_of_both ((true, fault) ∷ xs) ys e = absurd cc
none_of_both ((false, fault) ∷ xs) ys e = none_of_both xs ys e

pub none_of_cons : (test : Bool) (fault : Fault) (more : List (Bool × Fault)) → first_refusal ((test, fault) ∷ more) ≡ None → (test ≡ false) × (first_refusal more ≡ None)
none_of_cons true fault more e = absurd cc
none_of_cons false fault more e = (refl, e)

pub ok_refused : {A : Type 0} (answer found : A) (refused : Option Fault) → unless_refused answer refused ≡ Ok found → (refused ≡ None) × (answer ≡ found)
ok_refused answer found None e = (refl, cc)
ok_refused answer found (Some fault) e = absurd cc

-- ---- the heap of a table stands in its data

-- the data of a table: its rows, and PCOUNT bytes after them
table_len : (header : List ℕ) (pcount gcount : ℕ) → naxis_of header ≡ 2 → size_at header 1 ≡ 8 → gcount ≡ 1 → array_len header pcount gcount ≡ pcount + size_at header 3 * size_at header 4
table_len header pcount gcount two eight one =
    (λ i. by_axes (two i) (eight i) (one i)) ∙ omega arith
  where
    by_axes : ℕ → ℕ → ℕ → ℕ
    by_axes n bits groups = if n == 0 then 0 else bits / 8 * (groups * (pcount + places (map (size_at header) (range_with_len 3 n))))

int_same : (x y : ℤ) → int_eq x y ≡ true → x ≡ y
int_same x y e = (Decides-int_eq x y).0 e

-- BITPIX, NAXIS and GCOUNT of a table, by the facts of its header
eight_is : (o : Option ℤ) → unwrap_or o (pos 0) ≡ pos 8 → size_in o ≡ 8
eight_is None e = let same : 0 ≡ 8 = ap unsigned_abs e in absurd (omega (arith, same))
eight_is (Some z) e = ap (λ x. size_in (Some x)) e

axes_count : (header : List ℕ) → length (axes_of header) ≡ naxis_of header
axes_count header = length-map (range_with_len 3 (naxis_of header)) (size_at header) ∙ length-range_with_len 3 (naxis_of header)

-- the rows of a table by its cards
rows_by_cards : (header : List ℕ) (h : Header) → h.axes ≡ nine_axes (axes_of header) → naxis_of header ≡ 2 → rows_len_of h ≡ size_at header 3 * size_at header 4
rows_by_cards header h axes two = ap by_axes axes ∙ ap by_count two
  where
    by_axes : Axes → ℕ
    by_axes a = slice_index a.len 0 * slice_index a.len 1

    by_count : ℕ → ℕ
    by_count n = by_axes (nine_axes (map (size_at header) (range_with_len 3 n)))

from_size : (low high : ℕ) (o : Option ℤ) → is_from low high o ≡ true → size_in o ≤ high
from_size low high None e = absurd cc
from_size low high (Some (pos n)) e = le_true n high (and_true (nat_le low n) (nat_le n high) e).1
from_size low high (Some (negsuc n)) e = absurd cc

-- the heap begins within the data
heap_start_is : (header : List ℕ) (h : Header) → first_refusal (heap_checks header h) ≡ None → heap_start_of header h ≤ rows_len_of h + h.pcount
heap_start_is header h none =
    by_card (is_some (theap_card header)) (none_of_cons (is_some (theap_card header) && not (is_from (rows_len_of h) (rows_len_of h + h.pcount) (integer_at header (theap_card header)))) _ [] none).0
  where
    by_card : (b : Bool) → (b && not (is_from (rows_len_of h) (rows_len_of h + h.pcount) (integer_at header (theap_card header)))) ≡ false →
        (if b then size_in (integer_at header (theap_card header)) else rows_len_of h) ≤ rows_len_of h + h.pcount
    by_card true e = from_size (rows_len_of h) (rows_len_of h + h.pcount) (integer_at header (theap_card header)) (not_false (is_from (rows_len_of h) (rows_len_of h + h.pcount) (integer_at header (theap_card header))) e)
    by_card false e = below (rows_len_of h) h.pcount
      where
        below : (m n : ℕ) → m ≤ m + n
        below m n = omega arith

pub heap_within : (header : List ℕ) (h : Header) → IsHeaderOf header h → first_refusal (table_checks header h) ≡ None →
    (table_in header h).heap_at + (table_in header h).heap_len ≤ next_start_of h
heap_within header h is none =
    let arrays = none_of_both (array_checks h) _ none in
    let fields = none_of_both (field_checks header h) _ arrays.1 in
    let forms = none_of_both (flat_map (form_checks header h) (range_with_len 1 (field_count header))) _ fields.1 in
    let widths = none_of_both (width_checks header h) _ forms.1 in
    let heaps = none_of_both (heap_checks header h) _ widths.1 in
    let first = none_of_cons (not (int_eq h.bitpix (pos 8))) _ _ arrays.0 in
    let second = none_of_cons (not (h.axes.n == 2)) _ _ first.1 in
    let third = none_of_cons (not (h.gcount == 1)) _ _ second.1 in
    let bits : h.bitpix ≡ pos 8 = int_same h.bitpix (pos 8) (not_false (int_eq h.bitpix (pos 8)) first.0) in
    let eight : size_at header 1 ≡ 8 = eight_is (integer_of (card_at header 1)) (sym (ap (λ (f : Header). f.bitpix) is.facts) ∙ bits) in
    let two : naxis_of header ≡ 2 = sym (axes_count header) ∙ (sym (ap (λ (f : Header). f.axes.n) is.facts) ∙ eq_true h.axes.n 2 (not_false (h.axes.n == 2) second.0)) in
    let one : h.gcount ≡ 1 = eq_true h.gcount 1 (not_false (h.gcount == 1) third.0) in
    let size : h.data_len ≡ h.pcount + size_at header 3 * size_at header 4 =
    ap (λ (f : Header). f.data_len) is.facts ∙ (λ i. array_len header (sym (ap (λ (f : Header). f.pcount) is.facts) i) (sym (ap (λ (f : Header). f.gcount) is.facts) i)) ∙ table_len header h.pcount h.gcount two eight one in
    let rows : rows_len_of h ≡ size_at header 3 * size_at header 4 = rows_by_cards header h (ap (λ (f : Header). f.axes) is.facts) two in
    ends (data_start_of h) (heap_start_of header h) (rows_len_of h) h.pcount h.data_len (heap_start_is header h heaps.0) (size ∙ ap (λ n. h.pcount + n) (sym rows))
  where
    ends : (at start rows pcount len : ℕ) → start ≤ rows + pcount → len ≡ pcount + rows → at + start + (rows + pcount - start) ≤ at + whole_blocks_of len
    ends at start rows pcount len within is = omega (arith, within, is)

-- ---- the HDUs end within the file

pub starts_before : (k start end : ℕ) (file : List ℕ) (hs : List Header) → AreHeadersBetween k start end file hs → start ≤ end
starts_before k start end file [] are = omega (arith, are)
starts_before k start end file (h ∷ hs) are =
    let later = starts_before (suc k) (next_start_of h) end file hs are.3 in
    let here : start ≤ next_start_of h = subst (λ (s : ℕ). s ≤ next_start_of h) are.1 (after h.start (2880 * h.blocks) (whole_blocks_of h.data_len)) in
    omega (arith, later, here)
  where
    after : (a b c : ℕ) → a ≤ a + b + c
    after a b c = omega arith

-- ---- the bytes of a record stand in the file

chosen_len : (file : List ℕ) (hdu row : ℕ) (t : Table) (r : Row) (tile : Tile) → first_refusal (row_checks hdu row t r tile) ≡ None → t.heap_at + t.heap_len ≤ length file →
    length (record_bytes file (chosen_record t r tile)) ≡ read_len tile.pixels (chosen_record t r tile).total
chosen_len file hdu row t r tile none within =
    let d = described_in r (chosen_column r) in
    let total : ℕ = d.count * unit_in t (chosen_column r) in
    let first = none_of_cons (has_none r) _ _ none in
    let second = none_of_cons (nat_lt t.heap_len (d.offset + total)) _ _ first.1 in
    let inside : d.offset + total ≤ t.heap_len = lt_false t.heap_len (d.offset + total) second.0 in
    let start : ℕ = t.heap_at + d.offset in
    length-take (min total (8 * tile.pixels + 64)) (drop start file) ∙ ap (min (min total (8 * tile.pixels + 64))) (length-drop start file)
    ∙ all_of_it total (8 * tile.pixels + 64) t.heap_at d.offset t.heap_len (length file) inside within
  where
    all_of_it : (total most at offset heap len : ℕ) → offset + total ≤ heap → at + heap ≤ len → min (min total most) (len - (at + offset)) ≡ min total most
    all_of_it total most at offset heap len inside within = omega (arith, inside, within)

pub record_len : (file : List ℕ) (hdu row : ℕ) (t : Table) (tile : Tile) (found : Record) → record_at file hdu t row tile ≡ Ok found → t.heap_at + t.heap_len ≤ length file →
    length (record_bytes file found) ≡ read_len tile.pixels found.total
unfolding record_of
record_len file hdu row t tile found e within =
    let r : Row = row_at file t row in
    let ok = ok_refused (chosen_record t r tile) found (first_refusal (row_checks hdu row t r tile)) e in
    subst (λ (f : Record). length (record_bytes file f) ≡ read_len tile.pixels f.total) ok.1 (chosen_len file hdu row t r tile ok.0 within)
