-- What the cards of a packed image say, of which the checks of `unpack` refuse nothing.
use Rattle.std.proofs.Common.{◌≡◌, ℕ, zero, suc, ◌+◌, ◌<◌, ◌≤◌, ◌&&◌, not, nat_lt, Bool, true, false, List, [], ◌∷◌, ◌++◌, pos, None, if◌then◌else◌, codes, refl, sym, ◌∙◌, ap, arith}
use Rattle.std.specs.Prelude.{unwrap_or}
use Rattle.std.proofs.lemmas.Bool.Decides.{nat_tests}
use Rattle.std.specs.List.{AllByRecursion, flat_map, list_any, range_with_len}
use Rattle.fz_base.specs.Refusal.{first_refusal}
use Rattle.fz_base.specs.declared.fault.Fault.{Fault}
use Rattle.fz_card.specs.Reading.{integer_of, is_text, logical_of, text_of}
use Rattle.fz_block.specs.Checks.{is_set}
use Rattle.fz_block.specs.Hdus.{cards_of}
use Rattle.fz_block.specs.declared.header.Header.{Header}
use Rattle.fz_table.specs.Tables.{table_checks}
use Rattle.fz_checks.specs.JobChecks.{image_checks, unpack_checks}
use Rattle.fz_head.specs.Packable.{is_packed, is_table}
use Rattle.fz_head.specs.PackedChecks.{axis_checks, axis_count_checks, bitpix_checks, codec_checks, grid_check, has_word, is_integer, is_integer_size, is_positive, line_list_check, packed_checks, parameter_checks, row_check, scaling_check, shape_checks, sort_checks, tile_check}
use Rattle.fz_head.specs.PackedPlan.{numbered_in, size_of, word_in}
use Rattle.fz_head.specs.PlainHeader.{axis_count}
use Rattle.fz_head.specs.TableChecks.{table_card_checks}

pub first_part : (xs ys : List (Bool × Fault)) → first_refusal (xs ++ ys) ≡ None → first_refusal xs ≡ None
first_part [] ys none = refl
first_part ((true, fault) ∷ xs) ys none = absurd cc
first_part ((false, fault) ∷ xs) ys none = first_part xs ys none

pub later_part : (xs ys : List (Bool × Fault)) → first_refusal (xs ++ ys) ≡ None → first_refusal ys ≡ None
later_part [] ys none = none
later_part ((true, fault) ∷ xs) ys none = absurd cc
later_part ((false, fault) ∷ xs) ys none = later_part xs ys none

pub head_false : (b : Bool) (fault : Fault) (ys : List (Bool × Fault)) → first_refusal ((b, fault) ∷ ys) ≡ None → b ≡ false
head_false true fault ys none = absurd cc
head_false false fault ys none = refl

pub tail_none : (b : Bool) (fault : Fault) (ys : List (Bool × Fault)) → first_refusal ((b, fault) ∷ ys) ≡ None → first_refusal ys ≡ None
tail_none true fault ys none = absurd cc
tail_none false fault ys none = none

pub each_of : (checks : ℕ → List (Bool × Fault)) (a n : ℕ) → first_refusal (flat_map checks (range_with_len a n)) ≡ None → (j : ℕ) → j < n → first_refusal (checks (a + j)) ≡ None
each_of checks a zero none j less = absurd (omega (arith, less))
each_of checks a (suc n) none zero less =
    let here : a ≡ a + 0 = omega arith in
    sym (ap (λ i. first_refusal (checks i)) here) ∙ first_part (checks a) (flat_map checks (range_with_len (a + 1) n)) none
each_of checks a (suc n) none (suc j) less =
    let at : a + 1 + j ≡ a + suc j = omega arith in
    sym (ap (λ i. first_refusal (checks i)) at) ∙ each_of checks (a + 1) n (later_part (checks a) (flat_map checks (range_with_len (a + 1) n)) none) j (omega (arith, less))

-- each condition is false
pub clear : (checks : List (Bool × Fault)) → first_refusal checks ≡ None → AllByRecursion (λ (check : Bool × Fault). check.0 ≡ false) checks
clear [] none = tt
clear ((true, fault) ∷ checks) none = absurd cc
clear ((false, fault) ∷ checks) none = (refl, clear checks none)

pub not_false : (b : Bool) → not b ≡ false → b ≡ true
not_false true is = refl
not_false false is = absurd cc

unless : (a b : Bool) → (a && not b) ≡ false → a ≡ true → b ≡ true
unless true true is has = refl
unless true false is has = absurd cc
unless false b is has = absurd cc

unless_both : (s a b : Bool) → (not s && (a && not b)) ≡ false → s ≡ false → a ≡ true → b ≡ true
unless_both true a b is other has = absurd cc
unless_both false true true is other has = refl
unless_both false true false is other has = absurd cc
unless_both false false b is other has = absurd cc

-- the cards of a packed image say what their image is
pub record Says (cards : List (List ℕ)) (after_empty : Bool) : Type 0 where
  pub bitpix : is_integer_size (integer_of (word_in (codes "ZBITPIX") cards)) ≡ true
  pub naxis : is_positive (integer_of (word_in (codes "ZNAXIS") cards)) ≡ true
  pub few : axis_count cards ≤ 9
  pub axes : (j : ℕ) → j < axis_count cards → (is_positive (integer_of (numbered_in (codes "ZNAXIS") (1 + j) cards)) ≡ true) × (size_of (numbered_in (codes "ZNAXIS") (1 + j) cards) ≤ 2147483647)
  pub simple : has_word (codes "ZSIMPLE") cards ≡ true → (unwrap_or (logical_of (word_in (codes "ZSIMPLE") cards)) false ≡ true) × (after_empty ≡ true)
  pub image : has_word (codes "ZTENSION") cards ≡ true → is_text (codes "IMAGE") (text_of (word_in (codes "ZTENSION") cards)) ≡ true
  pub pcount : has_word (codes "ZSIMPLE") cards ≡ false → has_word (codes "ZPCOUNT") cards ≡ true → is_integer (pos 0) (integer_of (word_in (codes "ZPCOUNT") cards)) ≡ true
  pub gcount : has_word (codes "ZSIMPLE") cards ≡ false → has_word (codes "ZGCOUNT") cards ≡ true → is_integer (pos 1) (integer_of (word_in (codes "ZGCOUNT") cards)) ≡ true

at_most : (m n : ℕ) → nat_lt m n ≡ false → n ≤ m
at_most m n e = grind (arith, nat_tests, e)

pub checked_says : (k : ℕ) (header : List ℕ) (after_empty : Bool) → first_refusal (packed_checks k header after_empty) ≡ None → Says (cards_of header) after_empty
checked_says k header after_empty none =
    let cards : List (List ℕ) = cards_of header in
    let n : ℕ = axis_count cards in
    let five : List (Bool × Fault) = sort_checks k cards after_empty ++ (line_list_check k cards ∷ row_check k header ∷ []) in
    let four : List (Bool × Fault) = parameter_checks k cards ++ five in
    let three : List (Bool × Fault) = shape_checks k cards ++ four in
    let two : List (Bool × Fault) = bitpix_checks k cards ++ three in
    let from_codec : first_refusal (codec_checks k cards ++ two) ≡ None = tail_none (scaling_check k cards).0 (scaling_check k cards).1 (codec_checks k cards ++ two) none in
    let from_bitpix : first_refusal two ≡ None = later_part (codec_checks k cards) two from_codec in
    let bitpix : first_refusal (bitpix_checks k cards) ≡ None = first_part (bitpix_checks k cards) three from_bitpix in
    let from_shape : first_refusal three ≡ None = later_part (bitpix_checks k cards) three from_bitpix in
    let shape : first_refusal (shape_checks k cards) ≡ None = first_part (shape_checks k cards) four from_shape in
    let tiles : List (Bool × Fault) = flat_map (λ i. tile_check k cards i ∷ []) (range_with_len 1 n) ++ grid_check k cards ∷ [] in
    let axes : List (Bool × Fault) = flat_map (axis_checks k cards) (range_with_len 1 n) in
    let counted : first_refusal (axis_count_checks k cards) ≡ None = first_part (axis_count_checks k cards) (axes ++ tiles) shape in
    let along : first_refusal axes ≡ None = first_part axes tiles (later_part (axis_count_checks k cards) (axes ++ tiles) shape) in
    let from_sort : first_refusal five ≡ None = later_part (parameter_checks k cards) five (later_part (shape_checks k cards) four from_shape) in
    let sort : first_refusal (sort_checks k cards after_empty) ≡ None = first_part (sort_checks k cards after_empty) (line_list_check k cards ∷ row_check k header ∷ []) from_sort in
    let sorts = clear (sort_checks k cards after_empty) sort in
    let counts = clear (axis_count_checks k cards) counted in
    let has : List ℕ → Bool = λ word. has_word word cards in
    record {
      bitpix = not_false (is_integer_size (integer_of (word_in (codes "ZBITPIX") cards))) (clear (bitpix_checks k cards) bitpix).1.1.0;
      naxis = not_false (is_positive (integer_of (word_in (codes "ZNAXIS") cards))) counts.1.0;
      few = at_most 9 n counts.1.1.0;
      axes = λ j less.
          let card : List ℕ = numbered_in (codes "ZNAXIS") (1 + j) cards in
          let one = clear (axis_checks k cards (1 + j)) (each_of (axis_checks k cards) 1 n along j less) in
          (not_false (is_positive (integer_of card)) one.1.0, at_most 2147483647 (size_of card) one.1.1.0);
      simple = λ so.
          (unless (has (codes "ZSIMPLE")) (unwrap_or (logical_of (word_in (codes "ZSIMPLE") cards)) false) sorts.0 so, unless (has (codes "ZSIMPLE")) after_empty sorts.1.1.0 so);
      image = λ so. unless (has (codes "ZTENSION")) (is_text (codes "IMAGE") (text_of (word_in (codes "ZTENSION") cards))) sorts.1.0 so;
      pcount = λ other so. unless_both (has (codes "ZSIMPLE")) (has (codes "ZPCOUNT")) (is_integer (pos 0) (integer_of (word_in (codes "ZPCOUNT") cards))) sorts.1.1.1.0 other so;
      gcount = λ other so. unless_both (has (codes "ZSIMPLE")) (has (codes "ZGCOUNT")) (is_integer (pos 1) (integer_of (word_in (codes "ZGCOUNT") cards))) sorts.1.1.1.1.0 other so;
    }

-- an image is a table, and its own checks refuse nothing
pub packed_is_table : (header : List ℕ) (h : Header) → is_packed header h ≡ true → is_table h.sort ≡ true
unfolding is_packed
packed_is_table header h packed = by_test (is_table h.sort) packed
  where
    by_test : (b : Bool) → (b && list_any (is_set (codes "ZIMAGE")) (cards_of header)) ≡ true → b ≡ true
    by_test true e = refl
    by_test false e = absurd cc

pub packed_none : (h : Header) (header : List ℕ) (after_empty : Bool) → is_packed header h ≡ true → first_refusal (unpack_checks h header after_empty) ≡ None → first_refusal (packed_checks h.hdu header after_empty) ≡ None
packed_none h header after_empty packed none =
    let front : List (Bool × Fault) = if is_table h.sort then table_card_checks h header else [] in
    let back : first_refusal (if is_packed header h then image_checks h header after_empty else []) ≡ None = later_part front (if is_packed header h then image_checks h header after_empty else []) none in
    let image : first_refusal (image_checks h header after_empty) ≡ None = sym (ap (λ b. first_refusal (if b then image_checks h header after_empty else [])) packed) ∙ back in
    later_part (table_checks header h) (packed_checks h.hdu header after_empty) image
