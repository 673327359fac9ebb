-- The table of a packed image, of whose checks none rejects anything, stands within its HDU: its rows before its heap, its columns
-- within a row, and its heap within the data (FITS 4.0, sections 7.3.1 and 7.3.5).
use Rattle.std.proofs.Common.{◌≡◌, ◌⊎◌, inl, inr, ℕ, zero, suc, pos, negsuc, ℤ, ◌+◌, ◌-◌, ◌*◌, ◌≤◌, ◌<◌, ◌==◌, ◌&&◌, ◌||◌, not, nat_le, nat_lt, Bool, true, false, List, [], ◌∷◌, ◌++◌, length, get_or, drop, codes, Option, Some, None, IfSome, is_some, unwrap_or, slice_get, if◌then◌else◌, refl, sym, ◌∙◌, ap, arith}
use Rattle.std.specs.List.{flat_map, range_with_len}
use Rattle.std.specs.Ordering.{int_eq}
use Rattle.std.specs.Option.{option_and_then}
use Rattle.std.specs.Str.{byte}
use Rattle.std.proofs.lemmas.Bool.Decides.{Decides-int_eq, nat_tests}
use Rattle.std.proofs.lemmas.List.FromFn.{length-map-range_with_len}
use Rattle.fz_base.specs.Refusal.{first_refusal}
use Rattle.fz_base.specs.declared.fault.Fault.{Fault}
use Rattle.fz_card.specs.Reading.{integer_of}
use Rattle.fz_block.specs.Cards.{card_at}
use Rattle.fz_block.specs.Facts.{IsHeaderOf, nine_axes}
use Rattle.fz_block.specs.Hdus.{array_len, axes_of, data_len_of, gcount_of, pcount_of, size_at, size_in}
use Rattle.fz_block.specs.Header.{next_start_of}
use Rattle.fz_block.specs.declared.header.Header.{Header}
use Rattle.fz_table.specs.Columns.{column_called, column_of, columns_len, describes, field_count, form_of, integer_at, is_called, is_element, is_from, text_at, tform_card, title_of, ttype_card, width_of}
use Rattle.fz_table.specs.Forms.{elements_len, first_digits, form_in, form_of_len, is_any, lettered, may_repeat, repeat_in}
use Rattle.fz_table.specs.Rows.{StandsInRow, descriptor_len}
use Rattle.fz_table.specs.Tables.{array_checks, bad_table, coded_name, column_checks, field_checks, form_checks, gzip_letters, gzip_name, heap_checks, heap_start_of, name_checks, row_len_of, rows_len_of, stored_name, table_checks, table_in, theap_card, tile_letters, width_checks}
use Rattle.fz_table.specs.declared.column.Column.{Column}
use Rattle.fz_table.specs.declared.table.Table.{Table}
use Rattle.fz_files.proofs.ReachedLemmas.{back_passed}

-- ---- checks that reject nothing

pub front_passed : (xs ys : List (Bool × Fault)) → first_refusal (xs ++ ys) ≡ None → first_refusal xs ≡ None
front_passed [] ys none = refl
front_passed ((true, x) ∷ xs) ys none = absurd cc
front_passed ((false, x) ∷ xs) ys none = front_passed xs ys none

first_clear : (b : Bool) (x : Fault) (cs : List (Bool × Fault)) → first_refusal ((b, x) ∷ cs) ≡ None → b ≡ false
first_clear true x cs none = absurd cc
first_clear false x cs none = refl

rest_clear : (b : Bool) (x : Fault) (cs : List (Bool × Fault)) → first_refusal ((b, x) ∷ cs) ≡ None → first_refusal cs ≡ None
rest_clear true x cs none = absurd cc
rest_clear false x cs none = none

each_clear : (f : ℕ → List (Bool × Fault)) (a n : ℕ) → first_refusal (flat_map f (range_with_len a n)) ≡ None → (i j : ℕ) → i < n → a + i ≡ j → first_refusal (f j) ≡ None
each_clear f a zero none i j near at = absurd (omega (arith, near))
each_clear f a (suc n) none zero j near at =
    let here = front_passed (f a) (flat_map f (range_with_len (a + 1) n)) none in
    let same : a ≡ j = omega (arith, at) in
    ap (λ k. first_refusal (f k)) (sym same) ∙ here
each_clear f a (suc n) none (suc i) j near at =
    each_clear f (a + 1) n (back_passed (f a) (flat_map f (range_with_len (a + 1) n)) none) i j (omega (arith, near)) (omega (arith, at))

so : (b : Bool) → not b ≡ false → b ≡ true
so true e = refl
so false e = absurd cc

same_number : (a b : ℕ) → (a == b) ≡ true → a ≡ b
same_number a b e = grind (arith, nat_tests, e)

-- ---- the form of a column of descriptors

one_of_two : (letter : ℕ) → is_any (codes "PQ") letter ≡ true → (letter ≡ 80) ⊎ (letter ≡ 81)
one_of_two letter e = by_first (80 == letter) refl (81 == letter) refl e
  where
    by_first : (p : Bool) → (80 == letter) ≡ p → (q : Bool) → (81 == letter) ≡ q → (p || (q || false)) ≡ true → (letter ≡ 80) ⊎ (letter ≡ 81)
    by_first true p q is e = inl (sym (same_number 80 letter p))
    by_first false p true is e = inr (sym (same_number 81 letter is))
    by_first false p false is e = absurd cc

narrow_len : (len : ℕ) → elements_len 80 1 ≡ Some len → len ≡ 8
unfolding elements_len
narrow_len len e = cc

wide_len : (len : ℕ) → elements_len 81 1 ≡ Some len → len ≡ 16
unfolding elements_len
wide_len len e = cc

-- a descriptor takes the bytes of its column
described_len : (letter repeat len : ℕ) → elements_len letter repeat ≡ Some len → is_any (codes "PQ") letter ≡ true → repeat ≡ 1 → descriptor_len (letter == byte "Q") ≡ len
described_len letter repeat len is any once = by_letter (one_of_two letter any)
  where
    by_letter : (letter ≡ 80) ⊎ (letter ≡ 81) → descriptor_len (letter == byte "Q") ≡ len
    by_letter (inl p) = ap (λ n. descriptor_len (n == byte "Q")) p ∙ sym (narrow_len len ((λ i. elements_len (sym p i) (sym once i)) ∙ is))
    by_letter (inr q) = ap (λ n. descriptor_len (n == byte "Q")) q ∙ sym (wide_len len ((λ i. elements_len (sym q i) (sym once i)) ∙ is))

both_hold : (a b c : Bool) → ((a && b) && c) ≡ true → (a ≡ true) × (b ≡ true)
both_hold true true c e = (refl, refl)
both_hold true false c e = absurd cc
both_hold false b c e = absurd cc

element_len : (letters : List ℕ) (at repeat letter : ℕ) (behind : List ℕ) (len : Option ℕ) → elements_len letter repeat ≡ len → describes letters (form_of_len repeat letter behind len) ≡ true →
    descriptor_len (column_of at (form_of_len repeat letter behind len)).wide ≡ width_of (form_of_len repeat letter behind len)
element_len letters at repeat letter behind None is e = absurd cc
element_len letters at repeat letter behind (Some n) is e = by_test (may_repeat letter repeat) e
  where
    by_test : (b : Bool) → describes letters (if b then Some (record { repeat = repeat; letter = letter; len = n; element = slice_get behind 0 }) else None) ≡ true →
        descriptor_len (column_of at (if b then Some (record { repeat = repeat; letter = letter; len = n; element = slice_get behind 0 }) else None)).wide
        ≡ width_of (if b then Some (record { repeat = repeat; letter = letter; len = n; element = slice_get behind 0 }) else None)
    by_test true e =
        let parts = both_hold (is_any (codes "PQ") letter) (repeat == 1) (is_element letters (slice_get behind 0)) e in
        described_len letter repeat n is parts.0 (same_number repeat 1 parts.1)
    by_test false e = absurd cc

letter_len : (letters : List ℕ) (at repeat : ℕ) (text : List ℕ) → describes letters (lettered repeat text) ≡ true → descriptor_len (column_of at (lettered repeat text)).wide ≡ width_of (lettered repeat text)
letter_len letters at repeat [] e = absurd cc
letter_len letters at repeat (letter ∷ behind) e = element_len letters at repeat letter behind (elements_len letter repeat) refl e

form_len : (letters : List ℕ) (at : ℕ) (text : List ℕ) → describes letters (form_in text) ≡ true → descriptor_len (column_of at (form_in text)).wide ≡ width_of (form_in text)
unfolding form_in
form_len letters at text e = by_digits (nat_lt 9 (length (first_digits text))) e
  where
    repeat : ℕ
    repeat = repeat_in (first_digits text)

    rest : List ℕ
    rest = drop (length (first_digits text)) text

    by_digits : (b : Bool) → describes letters (if b then None else lettered repeat rest) ≡ true →
        descriptor_len (column_of at (if b then None else lettered repeat rest)).wide ≡ width_of (if b then None else lettered repeat rest)
    by_digits true e = absurd cc
    by_digits false e = letter_len letters at repeat rest e

column_len : (letters : List ℕ) (at : ℕ) (text : Option (List ℕ)) → describes letters (option_and_then form_in text) ≡ true →
    descriptor_len (column_of at (option_and_then form_in text)).wide ≡ width_of (option_and_then form_in text)
column_len letters at None e = absurd cc
column_len letters at (Some text) e = form_len letters at text e

column_at : (at repeat letter : ℕ) (behind : List ℕ) (len : Option ℕ) → (column_of at (form_of_len repeat letter behind len)).at ≡ at
column_at at repeat letter behind None = refl
column_at at repeat letter behind (Some n) = by_test (may_repeat letter repeat)
  where
    by_test : (b : Bool) → (column_of at (if b then Some (record { repeat = repeat; letter = letter; len = n; element = slice_get behind 0 }) else None)).at ≡ at
    by_test true = refl
    by_test false = refl

letter_at : (at repeat : ℕ) (text : List ℕ) → (column_of at (lettered repeat text)).at ≡ at
letter_at at repeat [] = refl
letter_at at repeat (letter ∷ behind) = column_at at repeat letter behind (elements_len letter repeat)

form_at : (at : ℕ) (text : List ℕ) → (column_of at (form_in text)).at ≡ at
unfolding form_in
form_at at text = by_digits (nat_lt 9 (length (first_digits text)))
  where
    by_digits : (b : Bool) → (column_of at (if b then None else lettered (repeat_in (first_digits text)) (drop (length (first_digits text)) text))).at ≡ at
    by_digits true = refl
    by_digits false = letter_at at (repeat_in (first_digits text)) (drop (length (first_digits text)) text)

stands_at : (at : ℕ) (text : Option (List ℕ)) → (column_of at (option_and_then form_in text)).at ≡ at
stands_at at None = refl
stands_at at (Some text) = form_at at text

-- ---- the columns of a table

module _ (header : List ℕ) where
  -- a column of this name is one of descriptors
  abbrev IsDescribed : List ℕ → List ℕ → ℕ → Type 0
  IsDescribed name letters n = (i : ℕ) → i < n → is_called name (title_of header (suc i)) ≡ true → describes letters (form_of header (suc i)) ≡ true

  column_ends : (name letters : List ℕ) (n : ℕ) (c : Column) → IsDescribed name letters n → column_called name header n ≡ Some c → c.at + descriptor_len c.wide ≤ columns_len header n
  unfolding column_called columns_len
  column_ends name letters zero c are e = absurd cc
  column_ends name letters (suc n) c are e =
      by_name (is_called name (title_of header (suc n))) refl (λ e. column_ends name letters n c (λ i near. are i (omega (arith, near))) e) e
    where
      by_name : (b : Bool) → is_called name (title_of header (suc n)) ≡ b → (column_called name header n ≡ Some c → c.at + descriptor_len c.wide ≤ columns_len header n) →
          (if b then Some (column_of (columns_len header n) (form_of header (suc n))) else column_called name header n) ≡ Some c →
          c.at + descriptor_len c.wide ≤ columns_len header n + width_of (form_of header (suc n))
      by_name true is later e =
          let same : column_of (columns_len header n) (form_of header (suc n)) ≡ c = cc in
          let at : columns_len header n ≡ c.at = sym (stands_at (columns_len header n) (text_at header (tform_card header (suc n)))) ∙ ap (λ (d : Column). d.at) same in
          let len : width_of (form_of header (suc n)) ≡ descriptor_len c.wide =
          sym (column_len letters (columns_len header n) (text_at header (tform_card header (suc n))) (are n (omega arith) is))
          ∙ ap (λ (d : Column). descriptor_len d.wide) same in
          omega (arith, at, len)
      by_name false is later e = let rest = later e in omega (arith, rest)

-- ---- the table

-- where a table stands
pub record StandsWithin (t : Table) (end : ℕ) : Type 0 where
  pub rows : t.rows_at + t.row_bytes * t.rows ≤ t.heap_at
  pub heap : t.heap_at + t.heap_len ≤ end
  pub coded : IfSome t.coded (StandsInRow t)
  pub stored : IfSome t.stored (StandsInRow t)
  pub gzip : IfSome t.gzip (StandsInRow t)

-- the data are the rows, and PCOUNT bytes
said : (v : Option ℤ) → unwrap_or v (pos 0) ≡ pos 8 → size_in v ≡ 8
said None e = absurd cc
said (Some v) e = ap (λ z. size_in (Some z)) e

array_is : (header : List ℕ) (pcount gcount : ℕ) → size_at header 2 ≡ 2 → size_at header 1 ≡ 8 → gcount ≡ 1 → array_len header pcount gcount ≡ size_at header 3 * size_at header 4 + pcount
array_is header pcount gcount two eight one = rw (two, eight, one) (omega arith)

data_is : (k : ℕ) (header : List ℕ) → size_at header 2 ≡ 2 → size_at header 1 ≡ 8 → gcount_of k header ≡ 1 → data_len_of k header ≡ size_at header 3 * size_at header 4 + pcount_of k header
data_is zero header two eight one = array_is header 0 1 two eight refl
data_is (suc k) header two eight one = array_is header (size_at header (3 + size_at header 2)) (size_at header (4 + size_at header 2)) two eight one

first_len : (header : List ℕ) → size_at header 2 ≡ 2 → get_or (nine_axes (axes_of header)).len 0 0 ≡ size_at header 3
first_len header two = rw two refl

second_len : (header : List ℕ) → size_at header 2 ≡ 2 → get_or (nine_axes (axes_of header)).len 1 0 ≡ size_at header 4
second_len header two = rw two refl

data_rows : (header : List ℕ) (h : Header) → IsHeaderOf header h → h.bitpix ≡ pos 8 → h.axes.n ≡ 2 → h.gcount ≡ 1 → h.data_len ≡ rows_len_of h + h.pcount
data_rows header h is bits axes one =
    let two : size_at header 2 ≡ 2 = sym (length-map-range_with_len (size_at header) 3 (size_at header 2)) ∙ (sym (ap (λ (k : Header). k.axes.n) is.facts) ∙ axes) in
    let eight : size_at header 1 ≡ 8 = said (integer_of (card_at header 1)) (sym (ap (λ (k : Header). k.bitpix) is.facts) ∙ bits) in
    let once : gcount_of h.hdu header ≡ 1 = sym (ap (λ (k : Header). k.gcount) is.facts) ∙ one in
    let first : get_or h.axes.len 0 0 ≡ size_at header 3 = ap (λ (k : Header). get_or k.axes.len 0 0) is.facts ∙ first_len header two in
    let second : get_or h.axes.len 1 0 ≡ size_at header 4 = ap (λ (k : Header). get_or k.axes.len 1 0) is.facts ∙ second_len header two in
    let more : h.pcount ≡ pcount_of h.hdu header = ap (λ (k : Header). k.pcount) is.facts in
    let product : get_or h.axes.len 0 0 * get_or h.axes.len 1 0 ≡ size_at header 3 * size_at header 4 = ap (λ n. n * get_or h.axes.len 1 0) first ∙ ap (λ n. size_at header 3 * n) second in
    ap (λ (k : Header). k.data_len) is.facts ∙ (data_is h.hdu header two eight once ∙ (ap (λ n. n + pcount_of h.hdu header) (sym product) ∙ ap (λ n. get_or h.axes.len 0 0 * get_or h.axes.len 1 0 + n) (sym more)))

-- THEAP is between the end of the rows and that of the data
in_range : (low high : ℕ) (v : Option ℤ) → is_from low high v ≡ true → (low ≤ size_in v) × (size_in v ≤ high)
in_range low high None e = absurd cc
in_range low high (Some (pos n)) e = by_tests (nat_le low n) refl (nat_le n high) refl e
  where
    by_tests : (a : Bool) → nat_le low n ≡ a → (b : Bool) → nat_le n high ≡ b → (a && b) ≡ true → (low ≤ n) × (n ≤ high)
    by_tests true a true b e = (grind (arith, nat_tests, a), grind (arith, nat_tests, b))
    by_tests true a false b e = absurd cc
    by_tests false a q b e = absurd cc
in_range low high (Some (negsuc n)) e = absurd cc

heap_between : (low high : ℕ) (there : Bool) (v : Option ℤ) → low ≤ high → (there && not (is_from low high v)) ≡ false → (low ≤ (if there then size_in v else low)) × ((if there then size_in v else low) ≤ high)
heap_between low high true v order e = in_range low high v (so (is_from low high v) e)
heap_between low high false v order e = (omega arith, order)

implied : (a b : Bool) → (a && not b) ≡ false → a ≡ true → b ≡ true
implied true b e is = so b e
implied false b e is = absurd cc

in_row : (t : Table) (found : Option Column) → ((c : Column) → found ≡ Some c → StandsInRow t c) → IfSome found (StandsInRow t)
in_row t None each = tt
in_row t (Some c) each = each c refl

module _ (header : List ℕ) (h : Header) (is : IsHeaderOf header h) (none : first_refusal (table_checks header h) ≡ None) where
  abbrev names : List (Bool × Fault)
  names = flat_map (column_checks header h) (range_with_len 1 (field_count header))

  abbrev from_heap : List (Bool × Fault)
  from_heap = heap_checks header h ++ names

  abbrev from_width : List (Bool × Fault)
  from_width = width_checks header h ++ from_heap

  abbrev from_forms : List (Bool × Fault)
  from_forms = flat_map (form_checks header h) (range_with_len 1 (field_count header)) ++ from_width

  abbrev from_fields : List (Bool × Fault)
  from_fields = field_checks header h ++ from_forms

  after_array : first_refusal from_fields ≡ None
  after_array = back_passed (array_checks h) from_fields none

  after_forms : first_refusal from_width ≡ None
  after_forms = back_passed (flat_map (form_checks header h) (range_with_len 1 (field_count header))) from_width (back_passed (field_checks header h) from_forms after_array)

  after_width : first_refusal from_heap ≡ None
  after_width = back_passed (width_checks header h) from_heap after_forms

  names_clear : first_refusal names ≡ None
  names_clear = back_passed (heap_checks header h) names after_width

  array_clear : first_refusal (array_checks h) ≡ None
  array_clear = front_passed (array_checks h) from_fields none

  data_are : h.data_len ≡ rows_len_of h + h.pcount
  data_are =
      let first : not (int_eq h.bitpix (pos 8)) ≡ false = first_clear (not (int_eq h.bitpix (pos 8))) (bad_table h (Some 1)) ((not (h.axes.n == 2), bad_table h (Some 2)) ∷ (not (h.gcount == 1), bad_table h (Some 6)) ∷ []) array_clear in
      let later = rest_clear (not (int_eq h.bitpix (pos 8))) (bad_table h (Some 1)) ((not (h.axes.n == 2), bad_table h (Some 2)) ∷ (not (h.gcount == 1), bad_table h (Some 6)) ∷ []) array_clear in
      let second : not (h.axes.n == 2) ≡ false = first_clear (not (h.axes.n == 2)) (bad_table h (Some 2)) ((not (h.gcount == 1), bad_table h (Some 6)) ∷ []) later in
      let last = rest_clear (not (h.axes.n == 2)) (bad_table h (Some 2)) ((not (h.gcount == 1), bad_table h (Some 6)) ∷ []) later in
      let third : not (h.gcount == 1) ≡ false = first_clear (not (h.gcount == 1)) (bad_table h (Some 6)) [] last in
      data_rows header h is ((Decides-int_eq h.bitpix (pos 8)).0 (so (int_eq h.bitpix (pos 8)) first)) (same_number h.axes.n 2 (so (h.axes.n == 2) second)) (same_number h.gcount 1 (so (h.gcount == 1) third))

  row_is : columns_len header (field_count header) ≡ row_len_of h
  row_is = same_number (columns_len header (field_count header)) (row_len_of h) (so (columns_len header (field_count header) == row_len_of h) (first_clear (not (columns_len header (field_count header) == row_len_of h)) (bad_table h (Some 3)) from_heap after_forms))

  heap_is : (rows_len_of h ≤ heap_start_of header h) × (heap_start_of header h ≤ rows_len_of h + h.pcount)
  heap_is =
      heap_between (rows_len_of h) (rows_len_of h + h.pcount) (is_some (theap_card header)) (integer_at header (theap_card header)) (omega arith)
      (first_clear (is_some (theap_card header) && not (is_from (rows_len_of h) (rows_len_of h + h.pcount) (integer_at header (theap_card header)))) (bad_table h (theap_card header)) names after_width)

  -- the checks of one column
  column_clear : (i : ℕ) → i < field_count header → first_refusal (column_checks header h (suc i)) ≡ None
  column_clear i near = each_clear (column_checks header h) 1 (field_count header) names_clear i (suc i) near (omega arith)

  described : (name letters : List ℕ) → ((i : ℕ) → i < field_count header → first_refusal (name_checks name letters header h (suc i)) ≡ None) → IsDescribed header name letters (field_count header)
  described name letters clear i near called =
      implied (is_called name (title_of header (suc i))) (describes letters (form_of header (suc i)))
      (first_clear (is_called name (title_of header (suc i)) && not (describes letters (form_of header (suc i)))) (bad_table h (tform_card header (suc i))) [] (rest_clear (is_called name (title_of header (suc i)) && is_some (column_called name header (suc i - 1))) (bad_table h (ttype_card header (suc i))) ((is_called name (title_of header (suc i)) && not (describes letters (form_of header (suc i))), bad_table h (tform_card header (suc i))) ∷ []) (clear i near))) called

  column_stands : (name letters : List ℕ) → ((i : ℕ) → i < field_count header → first_refusal (name_checks name letters header h (suc i)) ≡ None) →
      (c : Column) → column_called name header (field_count header) ≡ Some c → StandsInRow (table_in header h) c
  column_stands name letters clear c found =
      let ends = column_ends header name letters (field_count header) c (described name letters clear) found in
      omega (arith, ends, row_is)

  coded_clear : (i : ℕ) → i < field_count header → first_refusal (name_checks coded_name tile_letters header h (suc i)) ≡ None
  coded_clear i near = front_passed (name_checks coded_name tile_letters header h (suc i)) (name_checks stored_name tile_letters header h (suc i) ++ name_checks gzip_name gzip_letters header h (suc i)) (column_clear i near)

  later_clear : (i : ℕ) → i < field_count header → first_refusal (name_checks stored_name tile_letters header h (suc i) ++ name_checks gzip_name gzip_letters header h (suc i)) ≡ None
  later_clear i near = back_passed (name_checks coded_name tile_letters header h (suc i)) (name_checks stored_name tile_letters header h (suc i) ++ name_checks gzip_name gzip_letters header h (suc i)) (column_clear i near)

  pub table_stands_within : StandsWithin (table_in header h) (next_start_of h)
  table_stands_within = record {
    rows = omega (arith, heap_is.0);
    heap = omega (arith, heap_is.0, heap_is.1, data_are);
    coded = in_row (table_in header h) _ (column_stands coded_name tile_letters coded_clear);
    stored = in_row (table_in header h) _ (column_stands stored_name tile_letters
        (λ i near. front_passed (name_checks stored_name tile_letters header h (suc i)) (name_checks gzip_name gzip_letters header h (suc i)) (later_clear i near)));
    gzip = in_row (table_in header h) _ (column_stands gzip_name gzip_letters
        (λ i near. back_passed (name_checks stored_name tile_letters header h (suc i)) (name_checks gzip_name gzip_letters header h (suc i)) (later_clear i near)));
  }
