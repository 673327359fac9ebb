-- The table that a header says whose columns are two of descriptors.
use Rattle.std.proofs.Common.{◌≡◌, ℕ, ◌+◌, ◌-◌, ◌==◌, Bool, true, false, cond, List, [], ◌∷◌, ◌++◌, refl, ap, sym, ◌∙◌, subst, zero-add}
use Rattle.std.specs.Prelude.{pos, ◌&&◌, not, Some, None, Ok, is_none, is_some}
use Rattle.std.specs.List.{AllByRecursion, flat_map, range_with_len}
use Rattle.std.specs.Ordering.{int_eq}
use Rattle.std.proofs.lemmas.Bool.{and_left, and_right}
use Rattle.fz_base.specs.Refusal.{first_refusal}
use Rattle.fz_base.specs.declared.fault.Fault.{Fault}
use Rattle.fz_block.specs.Checks.{unless_refused}
use Rattle.fz_block.specs.Hdus.{size_in}
use Rattle.fz_block.specs.Header.{data_start_of}
use Rattle.fz_block.specs.declared.header.Header.{Header}
use Rattle.fz_table.specs.Columns.{columns_len, column_called, column_of, describes, field_count, form_of, integer_at, is_called, is_from, tfields_card, title_of, unit_of, width_of}
use Rattle.fz_table.specs.Forms.{elements_len, form_in, is_any}
use Rattle.fz_table.specs.Tables.{array_checks, field_checks, form_checks, width_checks, heap_checks, heap_start_of, name_checks, column_checks, coded_name, stored_name, gzip_name, tile_letters, gzip_letters, row_len_of, row_count_of, rows_len_of, table_checks, table_in, table_of, theap_card}
use Rattle.fz_head.specs.PackedHeader.{descriptor_form}
use Rattle.fz_head.proofs.Ranges.{all-append}

-- checks of which none refuses
abbrev pub AreClear : List (Bool × Fault) → Type 0
AreClear checks = AllByRecursion (λ check. check.0 ≡ false) checks

pub none-refuses : (checks : List (Bool × Fault)) → AreClear checks → first_refusal checks ≡ None
none-refuses [] clear = refl
none-refuses ((test, fault) ∷ checks) clear = by_test test clear.0 (none-refuses checks clear.1)
  where
    by_test : (b : Bool) → b ≡ false → first_refusal checks ≡ None → first_refusal ((b, fault) ∷ checks) ≡ None
    by_test true e rest = cc
    by_test false e rest = rest

pub clear-append : (xs ys : List (Bool × Fault)) → AreClear xs → AreClear ys → AreClear (xs ++ ys)
clear-append xs ys = all-append (λ check. check.0 ≡ false) xs ys

-- the form of descriptors of elements of this letter
pub form-read : (wide : Bool) (letter most : ℕ) → form_in (descriptor_form wide (letter ∷ []) most) ≡ form_in (descriptor_form wide (letter ∷ []) 0)
unfolding form_in elements_len
form-read true letter most = refl
form-read false letter most = refl

form-there : (wide : Bool) (letter : ℕ) → is_none (form_in (descriptor_form wide (letter ∷ []) 0)) ≡ false
unfolding form_in elements_len
form-there true letter = refl
form-there false letter = refl

form-width : (wide : Bool) (letter : ℕ) → width_of (form_in (descriptor_form wide (letter ∷ []) 0)) ≡ cond wide 16 8
unfolding form_in elements_len
form-width true letter = refl
form-width false letter = refl

form-describes : (wide : Bool) (letter : ℕ) → is_any tile_letters letter ≡ true → describes tile_letters (form_in (descriptor_form wide (letter ∷ []) 0)) ≡ true
unfolding form_in elements_len
form-describes true letter e = e
form-describes false letter e = e

form-column : (at : ℕ) (wide : Bool) (letter : ℕ) → column_of at (form_in (descriptor_form wide (letter ∷ []) 0)) ≡ record { at = at; wide = wide; unit = unit_of (Some letter) }
unfolding form_in elements_len
form-column at true letter = refl
form-column at false letter = refl

-- what the cards say of such a table
pub record SaysTable (header : List ℕ) (h : Header) (wide : Bool) (coded stored : ℕ) : Type 0 where
  pub bitpix : h.bitpix ≡ pos 8
  pub axes : h.axes.n ≡ 2
  pub groups : h.gcount ≡ 1
  pub row : row_len_of h ≡ cond wide 32 16
  pub fields : integer_at header (tfields_card header) ≡ Some (pos 2)
  pub form1 : form_of header 1 ≡ form_in (descriptor_form wide (coded ∷ []) 0)
  pub form2 : form_of header 2 ≡ form_in (descriptor_form wide (stored ∷ []) 0)
  pub title1 : title_of header 1 ≡ Some coded_name
  pub title2 : title_of header 2 ≡ Some stored_name
  pub theap : theap_card header ≡ None
  pub coded_letter : is_any tile_letters coded ≡ true
  pub stored_letter : is_any tile_letters stored ≡ true

two-widths : (wide : Bool) → not (cond wide 16 8 + cond wide 16 8 == cond wide 32 16) ≡ false
two-widths true = refl
two-widths false = refl

module _ (header : List ℕ) (h : Header) (wide : Bool) (coded stored : ℕ) (says : SaysTable header h wide coded stored) where
  two : field_count header ≡ 2
  two = ap size_in says.fields

  one-long : columns_len header 1 ≡ cond wide 16 8
  unfolding columns_len
  one-long = ap (λ f. 0 + width_of f) says.form1 ∙ (zero-add (width_of (form_in (descriptor_form wide (coded ∷ []) 0))) ∙ form-width wide coded)

  two-long : columns_len header 2 ≡ cond wide 16 8 + cond wide 16 8
  unfolding columns_len
  two-long = ap (λ n. n + width_of (form_of header 2)) one-long ∙ (ap (λ f. cond wide 16 8 + width_of f) says.form2 ∙ ap (λ n. cond wide 16 8 + n) (form-width wide stored))

  -- which column has which name
  called1 : (name : List ℕ) → is_called name (title_of header 1) ≡ is_called name (Some coded_name)
  called1 name = ap (is_called name) says.title1

  called2 : (name : List ℕ) → is_called name (title_of header 2) ≡ is_called name (Some stored_name)
  called2 name = ap (is_called name) says.title2

  none-at-1 : (name : List ℕ) → is_called name (Some coded_name) ≡ false → column_called name header 1 ≡ None
  unfolding column_called
  none-at-1 name other = ap (λ b. cond b (Some (column_of (columns_len header 0) (form_of header 1))) None) (called1 name ∙ other)

  name-clear-1 : (name letters : List ℕ) → (is_called name (Some coded_name) && not (describes letters (form_of header 1))) ≡ false → AreClear (name_checks name letters header h 1)
  unfolding column_called
  name-clear-1 name letters describe = (
    and_right (is_called name (title_of header 1)) false refl,
    (ap (λ b. b && not (describes letters (form_of header 1))) (called1 name) ∙ describe, tt),
  )

  other-clear-2 : (name letters : List ℕ) → is_called name (Some stored_name) ≡ false → AreClear (name_checks name letters header h 2)
  other-clear-2 name letters other = (
    and_left (is_called name (title_of header 2)) _ (called2 name ∙ other),
    (and_left (is_called name (title_of header 2)) _ (called2 name ∙ other), tt),
  )

  stored-clear-2 : AreClear (name_checks stored_name tile_letters header h 2)
  stored-clear-2 = (
    and_right (is_called stored_name (title_of header 2)) (is_some (column_called stored_name header 1)) (ap is_some (none-at-1 stored_name refl)),
    (and_right (is_called stored_name (title_of header 2)) (not (describes tile_letters (form_of header 2))) (ap (λ f. not (describes tile_letters f)) says.form2 ∙ ap not (form-describes wide stored says.stored_letter)), tt),
  )

  column-1 : AreClear (column_checks header h 1)
  column-1 =
      clear-append (name_checks coded_name tile_letters header h 1) (name_checks stored_name tile_letters header h 1 ++ name_checks gzip_name gzip_letters header h 1)
      (name-clear-1 coded_name tile_letters (and_right (is_called coded_name (Some coded_name)) (not (describes tile_letters (form_of header 1))) (ap (λ f. not (describes tile_letters f)) says.form1 ∙ ap not (form-describes wide coded says.coded_letter))))
      (clear-append (name_checks stored_name tile_letters header h 1) (name_checks gzip_name gzip_letters header h 1) (name-clear-1 stored_name tile_letters refl) (name-clear-1 gzip_name gzip_letters refl))

  column-2 : AreClear (column_checks header h 2)
  column-2 =
      clear-append (name_checks coded_name tile_letters header h 2) (name_checks stored_name tile_letters header h 2 ++ name_checks gzip_name gzip_letters header h 2)
      (other-clear-2 coded_name tile_letters refl)
      (clear-append (name_checks stored_name tile_letters header h 2) (name_checks gzip_name gzip_letters header h 2) stored-clear-2 (other-clear-2 gzip_name gzip_letters refl))

  forms-clear : AreClear (flat_map (form_checks header h) (range_with_len 1 (field_count header)))
  forms-clear = subst (λ k. AreClear (flat_map (form_checks header h) (range_with_len 1 k))) (sym two) (ap is_none says.form1 ∙ form-there wide coded, (ap is_none says.form2 ∙ form-there wide stored, tt))

  columns-clear : AreClear (flat_map (column_checks header h) (range_with_len 1 (field_count header)))
  columns-clear =
      subst (λ k. AreClear (flat_map (column_checks header h) (range_with_len 1 k))) (sym two)
      (clear-append (column_checks header h 1) (column_checks header h 2 ++ []) column-1 (clear-append (column_checks header h 2) [] column-2 tt))

  width-clear : AreClear (width_checks header h)
  width-clear =
      (ap (λ k. not (columns_len header k == row_len_of h)) two ∙ (ap (λ n. not (n == row_len_of h)) two-long ∙ (ap (λ r. not (cond wide 16 8 + cond wide 16 8 == r)) says.row ∙ two-widths wide)), tt)

  heap-clear : AreClear (heap_checks header h)
  heap-clear = (and_left (is_some (theap_card header)) _ (ap is_some says.theap), tt)

  all-clear : AreClear (table_checks header h)
  all-clear =
      let columns = flat_map (column_checks header h) (range_with_len 1 (field_count header)) in
      let forms = flat_map (form_checks header h) (range_with_len 1 (field_count header)) in
      clear-append (array_checks h) (field_checks header h ++ (forms ++ (width_checks header h ++ (heap_checks header h ++ columns)))) (ap (λ b. not (int_eq b (pos 8))) says.bitpix, (ap (λ n. not (n == 2)) says.axes, (ap (λ n. not (n == 1)) says.groups, tt)))
      (clear-append (field_checks header h) (forms ++ (width_checks header h ++ (heap_checks header h ++ columns))) (ap (λ v. not (is_from 1 999 v)) says.fields, tt)
      (clear-append forms (width_checks header h ++ (heap_checks header h ++ columns)) forms-clear
      (clear-append (width_checks header h) (heap_checks header h ++ columns) width-clear
      (clear-append (heap_checks header h) columns heap-clear columns-clear))))

  -- the columns
  coded-found : column_called coded_name header (field_count header) ≡ Some (record { at = 0; wide = wide; unit = unit_of (Some coded) })
  unfolding column_called columns_len
  coded-found =
      ap (column_called coded_name header) two
      ∙ (ap (λ b. cond b (Some (column_of (columns_len header 1) (form_of header 2))) (column_called coded_name header 1)) (called2 coded_name)
      ∙ (ap (λ b. cond b (Some (column_of (columns_len header 0) (form_of header 1))) (column_called coded_name header 0)) (called1 coded_name)
      ∙ (ap (λ f. Some (column_of 0 f)) says.form1 ∙ ap Some (form-column 0 wide coded))))

  stored-found : column_called stored_name header (field_count header) ≡ Some (record { at = cond wide 16 8; wide = wide; unit = unit_of (Some stored) })
  unfolding column_called
  stored-found =
      ap (column_called stored_name header) two
      ∙ (ap (λ b. cond b (Some (column_of (columns_len header 1) (form_of header 2))) (column_called stored_name header 1)) (called2 stored_name)
      ∙ (ap (λ f. Some (column_of (columns_len header 1) f)) says.form2 ∙ (ap (λ n. Some (column_of n (form_in (descriptor_form wide (stored ∷ []) 0)))) one-long ∙ ap Some (form-column (cond wide 16 8) wide stored))))

  gzip-found : column_called gzip_name header (field_count header) ≡ None
  unfolding column_called
  gzip-found =
      ap (column_called gzip_name header) two
      ∙ (ap (λ b. cond b (Some (column_of (columns_len header 1) (form_of header 2))) (column_called gzip_name header 1)) (called2 gzip_name)
      ∙ ap (λ b. cond b (Some (column_of (columns_len header 0) (form_of header 1))) (column_called gzip_name header 0)) (called1 gzip_name))

  heap-place : heap_start_of header h ≡ rows_len_of h
  heap-place = ap (λ o. cond (is_some o) (size_in (integer_at header o)) (rows_len_of h)) says.theap

  pub table-said : table_of header h ≡ Ok (record {
    row_bytes = row_len_of h;
    rows = row_count_of h;
    rows_at = data_start_of h;
    heap_at = data_start_of h + rows_len_of h;
    heap_len = rows_len_of h + h.pcount - rows_len_of h;
    coded = Some (record { at = 0; wide = wide; unit = unit_of (Some coded) });
    stored = Some (record { at = cond wide 16 8; wide = wide; unit = unit_of (Some stored) });
    gzip = None;
  })
  unfolding table_of
  table-said =
      ap (unless_refused (table_in header h)) (none-refuses (table_checks header h) all-clear)
      ∙ (λ i. Ok (record {
        row_bytes = row_len_of h;
        rows = row_count_of h;
        rows_at = data_start_of h;
        heap_at = data_start_of h + heap-place i;
        heap_len = rows_len_of h + h.pcount - heap-place i;
        coded = coded-found i;
        stored = stored-found i;
        gzip = gzip-found i;
      }))
