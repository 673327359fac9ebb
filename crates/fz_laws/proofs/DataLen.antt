-- How long the data of a table are: its rows and PCOUNT.
use Rattle.std.proofs.Common.{◌≡◌, ℕ, ◌+◌, ◌*◌, ◌/◌, ◌==◌, not, Bool, true, false, ℤ, pos, List, [], ◌∷◌, ◌++◌, length, map, replicate, slice_index, Option, Some, None, unwrap_or, if◌then◌else◌, refl, sym, ap, ◌∙◌, subst, arith, eqb-true}
use Rattle.std.proofs.lemmas.Bool.Decides.{Decides-int_eq}
use Rattle.std.proofs.lemmas.List.FromFn.{length-map-range_with_len}
use Rattle.std.specs.List.{flat_map, range_with_len}
use Rattle.std.specs.Ordering.{int_eq}
use Rattle.fz_base.specs.Refusal.{first_refusal}
use Rattle.fz_card.specs.Reading.{integer_of}
use Rattle.fz_block.specs.Cards.{card_at}
use Rattle.fz_block.specs.Facts.{IsHeaderOf, facts_of, nine_axes}
use Rattle.fz_block.specs.Hdus.{array_len, axes_of, data_len_of, gcount_of, naxis_of, pcount_of, places, size_at, size_in}
use Rattle.fz_block.specs.declared.header.Header.{Header}
use Rattle.fz_table.specs.Tables.{array_checks, column_checks, field_checks, form_checks, heap_checks, row_count_of, row_len_of, rows_len_of, table_checks, width_checks}
use Rattle.fz_table.specs.Columns.{field_count}
use Rattle.fz_laws.proofs.Passes.{PassesAll, all_pass, is_so, pass_both}

eight : (o : Option ℤ) → unwrap_or o (pos 0) ≡ pos 8 → size_in o ≡ 8
eight None e = absurd cc
eight (Some v) e = ap (λ z. size_in (Some z)) e

multiplied : (p a b : ℕ) → 1 * (1 * (p + a * (b * 1))) ≡ p + a * b
multiplied p a b = grind arith

module _ (header : List ℕ) (h : Header) (is : IsHeaderOf header h) (checks : PassesAll (array_checks h)) where
  bits : size_at header 1 ≡ 8
  bits = eight (integer_of (card_at header 1)) (sym (ap (λ (x : Header). x.bitpix) is.facts) ∙ (Decides-int_eq h.bitpix (pos 8)).0 (is_so (int_eq h.bitpix (pos 8)) checks.0))

  two : naxis_of header ≡ 2
  two =
      sym (length-map-range_with_len (size_at header) 3 (naxis_of header))
      ∙ (sym (ap (λ (x : Header). x.axes.n) is.facts) ∙ eqb-true h.axes.n 2 (is_so (h.axes.n == 2) checks.1.0))

  one : gcount_of h.hdu header ≡ 1
  one = sym (ap (λ (x : Header). x.gcount) is.facts) ∙ eqb-true h.gcount 1 (is_so (h.gcount == 1) checks.1.1.0)

  axes : axes_of header ≡ size_at header 3 ∷ size_at header 4 ∷ []
  axes = ap (λ n. map (size_at header) (range_with_len 3 n)) two

  rows : rows_len_of h ≡ size_at header 3 * size_at header 4
  rows = ap rows_len_of is.facts ∙ ap (λ l. slice_index (nine_axes l).len 0 * slice_index (nine_axes l).len 1) axes

  counted : h.pcount ≡ pcount_of h.hdu header
  counted = ap (λ (x : Header). x.pcount) is.facts

  pub data_is : h.data_len ≡ h.pcount + rows_len_of h
  data_is =
      ap (λ (x : Header). x.data_len) is.facts
      ∙ ((λ j. if two j == 0 then 0 else bits j / 8 * (one j * (sym counted j + places (axes j))))
      ∙ (multiplied h.pcount (size_at header 3) (size_at header 4)
      ∙ ap (λ n. h.pcount + n) (sym rows)))

pub table_data : (header : List ℕ) (h : Header) → IsHeaderOf header h → PassesAll (table_checks header h) → h.data_len ≡ h.pcount + rows_len_of h
table_data header h is all =
    let parts = pass_both (array_checks h) (field_checks header h
    ++ (flat_map (form_checks header h) (range_with_len 1 (field_count header))
    ++ (width_checks header h
    ++ (heap_checks header h
    ++ flat_map (column_checks header h) (range_with_len 1 (field_count header)))))) all in
    data_is header h is parts.0

pub two_axes : (header : List ℕ) (h : Header) → IsHeaderOf header h → PassesAll (table_checks header h) → naxis_of header ≡ 2
two_axes header h is all =
    let parts = pass_both (array_checks h) (field_checks header h
    ++ (flat_map (form_checks header h) (range_with_len 1 (field_count header))
    ++ (width_checks header h
    ++ (heap_checks header h
    ++ flat_map (column_checks header h) (range_with_len 1 (field_count header)))))) all in
    two header h is parts.0
