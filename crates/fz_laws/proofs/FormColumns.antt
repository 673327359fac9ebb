-- The columns of a table that has the form of one that can be patched.
use Rattle.std.proofs.Common.{◌≡◌, ◌⊎◌, ℕ, suc, ◌+◌, ◌*◌, ◌/◌, ◌<◌, ◌==◌, ◌&&◌, ◌||◌, not, nat_lt, Bool, true, false, ℤ, pos, unsigned_abs, List, [], ◌∷◌, length, drop, codes, bytes_eq, slice_get, Option, Some, None, is_some, if◌then◌else◌, inl, inr, refl, sym, ap, ◌∙◌, subst, arith, eqb-true, zero-add}
use Rattle.std.specs.Option.{option_and_then}
use Rattle.std.specs.Ordering.{int_eq}
use Rattle.std.specs.Str.{byte, str_to_ascii_lowercase}
use Rattle.fz_block.specs.declared.header.Header.{Header}
use Rattle.fz_table.specs.Columns.{column_called, column_of, columns_len, describes, field_count, form_of, is_called, is_element, text_at, tform_card, title_of, unit_of, width_of}
use Rattle.fz_table.specs.Forms.{elements_len, first_digits, form_in, form_of_len, is_any, lettered, may_repeat, repeat_in}
use Rattle.fz_table.specs.Rows.{descriptor_len}
use Rattle.fz_table.specs.Tables.{coded_name, gzip_name, heap_start_of, rows_len_of, stored_name}
use Rattle.fz_table.specs.declared.column.Column.{Column}
use Rattle.fz_tile.specs.Pixels.{IsBitpix}
use Rattle.fz_tile.specs.declared.codec.Codec.{Codec}
use Rattle.fz_tile.specs.declared.codec.Codec.TheVariants.{Rice, Plio, Plain}
use Rattle.fz_head.specs.PackedHeader.{coded_letter, descriptor_form, stored_letter}
use Rattle.fz_head.specs.PackedTable.{coded_unit}
use Rattle.fz_head.specs.Planned.{pixel_len}
use Rattle.fz_head.specs.declared.plan.Plan.{Plan}
use Rattle.fz_laws.specs.PatchForm.{has_form, has_heap_after_rows, has_letters, has_pixel_codes, has_two_columns, has_wide, is_wide_column, is_wide_table}
use Rattle.fz_laws.proofs.Passes.{and_left, and_right, is_named_so}

-- ---- the parts of the form

pub record HasForm (header : List ℕ) (h : Header) (p : Plan) : Type 0 where
  pub two : (field_count header == 2) ≡ true
  pub first : is_called coded_name (title_of header 1) ≡ true
  pub second : is_called stored_name (title_of header 2) ≡ true
  pub coded : describes (coded_letter p.codec) (form_of header 1) ≡ true
  pub stored : describes (stored_letter p.bitpix) (form_of header 2) ≡ true
  pub widths : (if is_wide_table header then is_wide_column header stored_name else not (is_wide_column header stored_name)) ≡ true
  pub heap : (heap_start_of header h == rows_len_of h) ≡ true
  pub numbers : has_pixel_codes p.codec p.bitpix ≡ true

pub form_parts : (header : List ℕ) (h : Header) (p : Plan) → has_form header h p ≡ true → HasForm header h p
form_parts header h p e =
    let columns = and_left (has_two_columns header) (has_letters header p && (has_heap_after_rows header h && has_pixel_codes p.codec p.bitpix)) e in
    let rest = and_right (has_two_columns header) (has_letters header p && (has_heap_after_rows header h && has_pixel_codes p.codec p.bitpix)) e in
    let letters = and_left (has_letters header p) (has_heap_after_rows header h && has_pixel_codes p.codec p.bitpix) rest in
    let last = and_right (has_letters header p) (has_heap_after_rows header h && has_pixel_codes p.codec p.bitpix) rest in
    let names = and_right (field_count header == 2) (is_called coded_name (title_of header 1) && is_called stored_name (title_of header 2)) columns in
    let widths : Bool = if is_wide_table header then is_wide_column header stored_name else not (is_wide_column header stored_name) in
    let more = and_right (describes (coded_letter p.codec) (form_of header 1)) (describes (stored_letter p.bitpix) (form_of header 2) && widths) letters in
    record {
      two = and_left (field_count header == 2) (is_called coded_name (title_of header 1) && is_called stored_name (title_of header 2)) columns;
      first = and_left (is_called coded_name (title_of header 1)) (is_called stored_name (title_of header 2)) names;
      second = and_right (is_called coded_name (title_of header 1)) (is_called stored_name (title_of header 2)) names;
      coded = and_left (describes (coded_letter p.codec) (form_of header 1)) (describes (stored_letter p.bitpix) (form_of header 2) && widths) letters;
      stored = and_left (describes (stored_letter p.bitpix) (form_of header 2)) widths more;
      widths = and_right (describes (stored_letter p.bitpix) (form_of header 2)) widths more;
      heap = and_left (has_heap_after_rows header h) (has_pixel_codes p.codec p.bitpix) last;
      numbers = and_right (has_heap_after_rows header h) (has_pixel_codes p.codec p.bitpix) last;
    }

-- ---- a column has one name

other_name : (name other : List ℕ) (title : Option (List ℕ)) → is_called name title ≡ true → is_called other title ≡ bytes_eq (str_to_ascii_lowercase name) (str_to_ascii_lowercase other)
other_name name other None e = absurd cc
other_name name other (Some text) e =
    ap (λ t. bytes_eq t (str_to_ascii_lowercase other)) (is_named_so (str_to_ascii_lowercase text) (str_to_ascii_lowercase name) e)

skipped : (name header : List ℕ) (k : ℕ) → is_called name (title_of header (suc k)) ≡ false → column_called name header (suc k) ≡ column_called name header k
unfolding column_called
skipped name header k other = rw other refl

taken : (name header : List ℕ) (k : ℕ) → is_called name (title_of header (suc k)) ≡ true → column_called name header (suc k) ≡ Some (column_of (columns_len header k) (form_of header (suc k)))
unfolding column_called
taken name header k named = rw named refl

none_called : (name header : List ℕ) → column_called name header 0 ≡ None
unfolding column_called
none_called name header = refl

no_columns : (header : List ℕ) → columns_len header 0 ≡ 0
unfolding columns_len
no_columns header = refl

two_columns : (header : List ℕ) → columns_len header 2 ≡ columns_len header 1 + width_of (form_of header 2)
unfolding columns_len
two_columns header = refl

form_by_digits : (text : List ℕ) → form_in text ≡ (if nat_lt 9 (length (first_digits text)) then None else lettered (repeat_in (first_digits text)) (drop (length (first_digits text)) text))
unfolding form_in
form_by_digits text = refl

one_column : (header : List ℕ) → columns_len header 1 ≡ width_of (form_of header 1)
unfolding columns_len
one_column header = zero-add (width_of (form_of header 1))

-- ---- a form of descriptors

alone : (b : Bool) → (b || false) ≡ true → b ≡ true
alone true e = refl
alone false e = absurd cc

or_cases : (a b : Bool) → (a || b) ≡ true → (a ≡ true) ⊎ (b ≡ true)
or_cases true b e = inl refl
or_cases false b e = inr e

-- P has 8 bytes, and Q 16
narrow_len : elements_len 80 1 ≡ Some 8
unfolding elements_len
narrow_len = refl

wide_len : elements_len 81 1 ≡ Some 16
unfolding elements_len
wide_len = refl

element_is : (letter : ℕ) (found : Option ℕ) → is_element (letter ∷ []) found ≡ true → found ≡ Some letter
element_is letter None e = absurd cc
element_is letter (Some element) e = ap Some (sym (eqb-true letter element (alone (letter == element) e)))

made_narrow : (letter most : ℕ) → form_in (descriptor_form false (letter ∷ []) most) ≡ Some (record { repeat = 1; letter = 80; len = 8; element = Some letter })
unfolding form_in elements_len
made_narrow letter most = refl

made_wide : (letter most : ℕ) → form_in (descriptor_form true (letter ∷ []) most) ≡ Some (record { repeat = 1; letter = 81; len = 16; element = Some letter })
unfolding form_in elements_len
made_wide letter most = refl

-- a form of one descriptor is that which is written for its width and its letter
len_form : (letter repeat kind : ℕ) (behind : List ℕ) (len : Option ℕ) → elements_len kind repeat ≡ len → describes (letter ∷ []) (form_of_len repeat kind behind len) ≡ true →
    (wide : Bool) × (form_of_len repeat kind behind len ≡ form_in (descriptor_form wide (letter ∷ []) 0))
len_form letter repeat kind behind None long e = absurd cc
len_form letter repeat kind behind (Some n) long e = by_test (may_repeat kind repeat) e
  where
    by_letter : (((is_any (codes "PQ") kind && repeat == 1) && is_element (letter ∷ []) (slice_get behind 0)) ≡ true) → ((80 == kind) ≡ true) ⊎ (((81 == kind) || false) ≡ true) →
        (wide : Bool) × (Some (record { repeat = repeat; letter = kind; len = n; element = slice_get behind 0 }) ≡ form_in (descriptor_form wide (letter ∷ []) 0))
    by_letter all (inl p) =
        let once : repeat ≡ 1 = eqb-true repeat 1 (and_right (is_any (codes "PQ") kind) (repeat == 1) (and_left (is_any (codes "PQ") kind && repeat == 1) (is_element (letter ∷ []) (slice_get behind 0)) all)) in
        let is : kind ≡ 80 = sym (eqb-true 80 kind p) in
        let sizes : Some n ≡ Some 8 = sym long ∙ ((λ i. elements_len (is i) (once i)) ∙ narrow_len) in
        let eight : n ≡ 8 = cc in
        let element : slice_get behind 0 ≡ Some letter = element_is letter (slice_get behind 0) (and_right (is_any (codes "PQ") kind && repeat == 1) (is_element (letter ∷ []) (slice_get behind 0)) all) in
        (false, (λ i. Some (record { repeat = once i; letter = is i; len = eight i; element = element i })) ∙ sym (made_narrow letter 0))
    by_letter all (inr q) =
        let once : repeat ≡ 1 = eqb-true repeat 1 (and_right (is_any (codes "PQ") kind) (repeat == 1) (and_left (is_any (codes "PQ") kind && repeat == 1) (is_element (letter ∷ []) (slice_get behind 0)) all)) in
        let is : kind ≡ 81 = sym (eqb-true 81 kind (alone (81 == kind) q)) in
        let sizes : Some n ≡ Some 16 = sym long ∙ ((λ i. elements_len (is i) (once i)) ∙ wide_len) in
        let sixteen : n ≡ 16 = cc in
        let element : slice_get behind 0 ≡ Some letter = element_is letter (slice_get behind 0) (and_right (is_any (codes "PQ") kind && repeat == 1) (is_element (letter ∷ []) (slice_get behind 0)) all) in
        (true, (λ i. Some (record { repeat = once i; letter = is i; len = sixteen i; element = element i })) ∙ sym (made_wide letter 0))

    by_test : (b : Bool) → describes (letter ∷ []) (if b then Some (record { repeat = repeat; letter = kind; len = n; element = slice_get behind 0 }) else None) ≡ true →
        (wide : Bool) × ((if b then Some (record { repeat = repeat; letter = kind; len = n; element = slice_get behind 0 }) else None) ≡ form_in (descriptor_form wide (letter ∷ []) 0))
    by_test false is = absurd cc
    by_test true is =
        by_letter is
        (or_cases (80 == kind) ((81 == kind) || false)
        (and_left (is_any (codes "PQ") kind) (repeat == 1) (and_left (is_any (codes "PQ") kind && repeat == 1) (is_element (letter ∷ []) (slice_get behind 0)) is)))

lettered_form : (letter repeat : ℕ) (text : List ℕ) → describes (letter ∷ []) (lettered repeat text) ≡ true → (wide : Bool) × (lettered repeat text ≡ form_in (descriptor_form wide (letter ∷ []) 0))
lettered_form letter repeat [] e = absurd cc
lettered_form letter repeat (kind ∷ behind) e = len_form letter repeat kind behind (elements_len kind repeat) refl e

text_form : (letter : ℕ) (text : List ℕ) → describes (letter ∷ []) (form_in text) ≡ true → (wide : Bool) × (form_in text ≡ form_in (descriptor_form wide (letter ∷ []) 0))
text_form letter text e =
    let was = by_test (nat_lt 9 (length (first_digits text))) (sym (ap (describes (letter ∷ [])) (form_by_digits text)) ∙ e) in
    (was.0, form_by_digits text ∙ was.1)
  where
    by_test : (b : Bool) → describes (letter ∷ []) (if b then None else lettered (repeat_in (first_digits text)) (drop (length (first_digits text)) text)) ≡ true →
        (wide : Bool) × ((if b then None else lettered (repeat_in (first_digits text)) (drop (length (first_digits text)) text)) ≡ form_in (descriptor_form wide (letter ∷ []) 0))
    by_test true is = absurd cc
    by_test false is = lettered_form letter (repeat_in (first_digits text)) (drop (length (first_digits text)) text) is

said_form : (letter : ℕ) (text : Option (List ℕ)) → describes (letter ∷ []) (option_and_then form_in text) ≡ true →
    (wide : Bool) × (option_and_then form_in text ≡ form_in (descriptor_form wide (letter ∷ []) 0))
said_form letter None e = absurd cc
said_form letter (Some text) e = text_form letter text e

-- what such a form says
form_column : (at letter : ℕ) (wide : Bool) → column_of at (form_in (descriptor_form wide (letter ∷ []) 0)) ≡ record { at = at; wide = wide; unit = unit_of (Some letter) }
form_column at letter false = ap (column_of at) (made_narrow letter 0)
form_column at letter true = ap (column_of at) (made_wide letter 0)

form_width : (letter : ℕ) (wide : Bool) → width_of (form_in (descriptor_form wide (letter ∷ []) 0)) ≡ descriptor_len wide
form_width letter false = ap width_of (made_narrow letter 0)
form_width letter true = ap width_of (made_wide letter 0)

form_count : (letter most : ℕ) (wide : Bool) → form_in (descriptor_form wide (letter ∷ []) 0) ≡ form_in (descriptor_form wide (letter ∷ []) most)
form_count letter most false = made_narrow letter 0 ∙ sym (made_narrow letter most)
form_count letter most true = made_wide letter 0 ∙ sym (made_wide letter most)

pub form_some : (letter most : ℕ) (wide : Bool) → is_some (form_in (descriptor_form wide (letter ∷ []) most)) ≡ true
form_some letter most false = ap is_some (made_narrow letter most)
form_some letter most true = ap is_some (made_wide letter most)

-- ---- the elements

unit_b : unit_of (Some 66) ≡ 1
unfolding elements_len
unit_b = refl

unit_i : unit_of (Some 73) ≡ 2
unfolding elements_len
unit_i = refl

unit_j : unit_of (Some 74) ≡ 4
unfolding elements_len
unit_j = refl

unit_k : unit_of (Some 75) ≡ 8
unfolding elements_len
unit_k = refl

-- one letter, which is no quote, and the bytes of its elements
pub record IsLetter (letters : List ℕ) (unit : ℕ) : Type 0 where
  pub byte : ℕ
  pub is : letters ≡ byte ∷ []
  pub plain : not (byte == 39) ≡ true
  pub size : unit_of (Some byte) ≡ unit

pub coded_byte : (codec : Codec) → IsLetter (coded_letter codec) (coded_unit codec)
coded_byte (Rice block bytepix) = record { byte = 66; is = refl; plain = refl; size = unit_b }
coded_byte Plio = record { byte = 73; is = refl; plain = refl; size = unit_i }
coded_byte Plain = record { byte = 66; is = refl; plain = refl; size = unit_b }

pub stored_byte : (bitpix : ℤ) → IsBitpix bitpix → IsLetter (stored_letter bitpix) (pixel_len bitpix)
stored_byte bitpix (inl is) = subst (λ b. IsLetter (stored_letter b) (pixel_len b)) (sym is) (record { byte = 66; is = refl; plain = refl; size = unit_b })
stored_byte bitpix (inr (inl is)) = subst (λ b. IsLetter (stored_letter b) (pixel_len b)) (sym is) (record { byte = 73; is = refl; plain = refl; size = unit_i })
stored_byte bitpix (inr (inr (inl is))) = subst (λ b. IsLetter (stored_letter b) (pixel_len b)) (sym is) (record { byte = 74; is = refl; plain = refl; size = unit_j })
stored_byte bitpix (inr (inr (inr is))) = subst (λ b. IsLetter (stored_letter b) (pixel_len b)) (sym is) (record { byte = 75; is = refl; plain = refl; size = unit_k })

-- ---- the columns

same_bool : (a b : Bool) → (if a then b else not b) ≡ true → b ≡ a
same_bool true b e = e
same_bool false true e = absurd cc
same_bool false false e = refl

no_stored_coded : bytes_eq (str_to_ascii_lowercase stored_name) (str_to_ascii_lowercase coded_name) ≡ false
no_stored_coded = refl

no_stored_gzip : bytes_eq (str_to_ascii_lowercase stored_name) (str_to_ascii_lowercase gzip_name) ≡ false
no_stored_gzip = refl

no_coded_gzip : bytes_eq (str_to_ascii_lowercase coded_name) (str_to_ascii_lowercase gzip_name) ≡ false
no_coded_gzip = refl

-- the form of a column is that which is written for its width and its letter
record HasFormOf (header : List ℕ) (i letter : ℕ) : Type 0 where
  wide : Bool
  is : form_of header i ≡ form_in (descriptor_form wide (letter ∷ []) 0)

module _ (header : List ℕ) (h : Header) (p : Plan) (form : HasForm header h p) (bits : IsBitpix p.bitpix) where
  fields : field_count header ≡ 2
  fields = eqb-true (field_count header) 2 form.two

  first_letter : IsLetter (coded_letter p.codec) (coded_unit p.codec)
  first_letter = coded_byte p.codec

  second_letter : IsLetter (stored_letter p.bitpix) (pixel_len p.bitpix)
  second_letter = stored_byte p.bitpix bits

  one : HasFormOf header 1 first_letter.byte
  one =
      let said = said_form first_letter.byte (text_at header (tform_card header 1)) (subst (λ ls. describes ls (form_of header 1) ≡ true) first_letter.is form.coded) in
      record { wide = said.0; is = said.1 }

  two : HasFormOf header 2 second_letter.byte
  two =
      let said = said_form second_letter.byte (text_at header (tform_card header 2)) (subst (λ ls. describes ls (form_of header 2) ≡ true) second_letter.is form.stored) in
      record { wide = said.0; is = said.1 }

  coded_column : column_called coded_name header (field_count header) ≡ Some (record { at = 0; wide = one.wide; unit = coded_unit p.codec })
  coded_column =
      ap (column_called coded_name header) fields
      ∙ (skipped coded_name header 1 (other_name stored_name coded_name (title_of header 2) form.second ∙ no_stored_coded)
      ∙ (taken coded_name header 0 form.first
      ∙ ((λ i. Some (column_of (no_columns header i) (one.is i)))
      ∙ (ap Some (form_column 0 first_letter.byte one.wide)
      ∙ (λ i. Some (record { at = 0; wide = one.wide; unit = first_letter.size i }))))))

  wide_is : is_wide_table header ≡ one.wide
  wide_is = ap has_wide coded_column

  pub coded_is : column_called coded_name header (field_count header) ≡ Some (record { at = 0; wide = is_wide_table header; unit = coded_unit p.codec })
  coded_is = coded_column ∙ (λ i. Some (record { at = 0; wide = sym wide_is i; unit = coded_unit p.codec }))

  first_len : columns_len header 1 ≡ descriptor_len (is_wide_table header)
  first_len = one_column header ∙ (ap width_of one.is ∙ (form_width first_letter.byte one.wide ∙ ap descriptor_len (sym wide_is)))

  stored_column : column_called stored_name header (field_count header) ≡ Some (record { at = columns_len header 1; wide = two.wide; unit = pixel_len p.bitpix })
  stored_column =
      ap (column_called stored_name header) fields
      ∙ (taken stored_name header 1 form.second
      ∙ (ap (λ f. Some (column_of (columns_len header 1) f)) two.is
      ∙ (ap Some (form_column (columns_len header 1) second_letter.byte two.wide)
      ∙ (λ i. Some (record { at = columns_len header 1; wide = two.wide; unit = second_letter.size i })))))

  stored_wide : two.wide ≡ is_wide_table header
  stored_wide = sym (ap has_wide stored_column) ∙ same_bool (is_wide_table header) (is_wide_column header stored_name) form.widths

  pub stored_is : column_called stored_name header (field_count header) ≡ Some (record { at = descriptor_len (is_wide_table header); wide = is_wide_table header; unit = pixel_len p.bitpix })
  stored_is = stored_column ∙ (λ i. Some (record { at = first_len i; wide = stored_wide i; unit = pixel_len p.bitpix }))

  pub gzip_is : column_called gzip_name header (field_count header) ≡ None
  gzip_is =
      ap (column_called gzip_name header) fields
      ∙ (skipped gzip_name header 1 (other_name stored_name gzip_name (title_of header 2) form.second ∙ no_stored_gzip)
      ∙ (skipped gzip_name header 0 (other_name coded_name gzip_name (title_of header 1) form.first ∙ no_coded_gzip)
      ∙ none_called gzip_name header))

  -- both fill the row
  pub row_is : columns_len header (field_count header) ≡ descriptor_len (is_wide_table header) + descriptor_len (is_wide_table header)
  row_is =
      ap (columns_len header) fields
      ∙ (two_columns header
      ∙ (λ i. first_len i + (ap width_of two.is ∙ (form_width second_letter.byte two.wide ∙ ap descriptor_len stored_wide)) i))

  -- a form with another count is read as the same
  pub first_form : (most : ℕ) → form_of header 1 ≡ form_in (descriptor_form (is_wide_table header) (coded_letter p.codec) most)
  first_form most =
      one.is
      ∙ (form_count first_letter.byte most one.wide
      ∙ (λ i. form_in (descriptor_form (sym wide_is i) (sym first_letter.is i) most)))

  pub second_form : (most : ℕ) → form_of header 2 ≡ form_in (descriptor_form (is_wide_table header) (stored_letter p.bitpix) most)
  second_form most =
      two.is
      ∙ (form_count second_letter.byte most two.wide
      ∙ (λ i. form_in (descriptor_form (stored_wide i) (sym second_letter.is i) most)))
