-- What the header of an image of `drill` says, and that it passes the checks of every job.
use Rattle.std.specs.Prelude.{Some, None, unwrap_or, is_some, Ok, if◌then◌else◌}
use Rattle.std.specs.List.{flat_map, range_with_len}
use Rattle.std.proofs.Common.{◌≡◌, ℕ, ◌+◌, ◌*◌, ◌/◌, ◌^◌, ◌==◌, ◌&&◌, not, nat_lt, ◌≤◌, Bool, true, false, pos, List, [], ◌∷◌, ◌++◌, length, map, codes, bytes_eq, refl, sym, ap, ◌∙◌, arith}
use Rattle.std.proofs.lemmas.Bool.Decides.{nat_tests}
use Rattle.std.proofs.Math.Nat.{mul-le-mul_right}
use Rattle.fz_base.specs.Refusal.{first_refusal}
use Rattle.fz_base.specs.declared.fault.Fault.{Fault}
use Rattle.fz_card.specs.Layout.{padded}
use Rattle.fz_card.specs.Reading.{integer_of, logical_of}
use Rattle.fz_block.specs.Cards.{card_at, end_of, is_named, is_numbered}
use Rattle.fz_block.specs.Checks.{end_checks, group_checks, header_checks, header_of, hdu_end, unless_refused}
use Rattle.fz_block.specs.Facts.{IsHeaderOf, facts_of, nine_axes}
use Rattle.fz_block.specs.Hdus.{axes_of, data_len_of, naxis_of, places, size_at, size_in}
use Rattle.fz_block.specs.Header.{whole_blocks_of}
use Rattle.fz_block.specs.Mandatory.{axis_checks, is_bitpix, is_size, mandatory_checks}
use Rattle.fz_block.specs.Walk.{begins_hdu}
use Rattle.fz_block.specs.declared.header.Header.{Header}
use Rattle.fz_block.specs.declared.header.Sort.TheVariants.{Primary}
use Rattle.fz_drill.specs.Taken.{HeaderLaws}
use Rattle.fz_drill.proofs.Cards.{ReadsAs, axis_name, axis_named, axis_says, simple_named, simple_says, word_named, word_says}

-- its facts
abbrev pub image_facts : ℕ → ℕ → Header
image_facts columns rows = record {
  hdu = 0;
  start = 0;
  cards = 5;
  blocks = 1;
  sort = Primary;
  bitpix = pos 16;
  axes = record { n = 2; len = columns ∷ rows ∷ 0 ∷ 0 ∷ 0 ∷ 0 ∷ 0 ∷ 0 ∷ 0 ∷ [] };
  pcount = 0;
  gcount = 1;
  data_len = 2 * (1 * (0 + columns * (rows * 1)));
}

-- checks that refuse nothing
pub cons_none : (b : Bool) (fault : Fault) (rest : List (Bool × Fault)) → b ≡ false → first_refusal rest ≡ None → first_refusal ((b, fault) ∷ rest) ≡ None
cons_none b fault rest e none = ap (λ (c : Bool). first_refusal ((c, fault) ∷ rest)) e ∙ none

pub both_none : (xs ys : List (Bool × Fault)) → first_refusal xs ≡ None → first_refusal ys ≡ None → first_refusal (xs ++ ys) ≡ None
both_none [] ys none rest = rest
both_none ((true, fault) ∷ xs) ys none rest = absurd cc
both_none ((false, fault) ∷ xs) ys none rest = both_none xs ys none rest

-- what must be so, and is
must_hold : (a b : Bool) → a ≡ true → b ≡ true → not (a && b) ≡ false
must_hold a b is also = λ i. not (is i && also i)

by_test : (a b c : Bool) → b ≡ false → (a && (b && c)) ≡ false
by_test true b c e = ap (λ d. d && c) e
by_test false b c e = refl

-- the image has few pixels
pub most_pixels : (columns rows : ℕ) → columns ≤ 256 → rows ≤ 16384 → columns * rows ≤ 4194304
most_pixels columns rows few also = trans_le (mul-le-mul_right rows few) (omega (arith, also))
  where
    trans_le : {a b c : ℕ} → a ≤ b → b ≤ c → a ≤ c
    trans_le x y = omega (arith, x, y)

pub size_is : (columns rows : ℕ) → 2 * (1 * (0 + columns * (rows * 1))) ≡ 2 * (columns * rows)
size_is columns rows =
    let one : rows * 1 ≡ rows = omega arith in
    let same : columns * (rows * 1) ≡ columns * rows = ap (λ n. columns * n) one in
    omega (arith, same)

end_low : (columns rows end : ℕ) → end ≡ 0 + 2880 + whole_blocks_of (2 * (1 * (0 + columns * (rows * 1)))) → columns * rows ≤ 4194304 → end ≤ 2 ^ 62
end_low columns rows end is most =
    let size = size_is columns rows in
    let bytes : ℕ = 2 * (1 * (0 + columns * (rows * 1))) in
    let small : bytes ≤ 8388608 = omega (arith, size, most) in
    let blocks : whole_blocks_of bytes ≤ bytes + 2879 = omega arith in
    omega (arith, is, small, blocks)

module _ (l : HeaderLaws) (columns rows : ℕ) (few : columns ≤ 256) (some : 1 ≤ columns) (also : rows ≤ 16384) (header : List ℕ) (r : ReadsAs columns rows header) where
  bitpix_says : integer_of (card_at header 1) ≡ Some (pos 16)
  bitpix_says = ap integer_of r.bitpix ∙ word_says l (codes "BITPIX") 16 refl (omega arith)

  naxis_says : integer_of (card_at header 2) ≡ Some (pos 2)
  naxis_says = ap integer_of r.naxis ∙ word_says l (codes "NAXIS") 2 refl (omega arith)

  columns_say : integer_of (card_at header 3) ≡ Some (pos columns)
  columns_say = ap integer_of r.columns_are ∙ axis_says l 1 columns (omega arith) (omega (arith, few))

  rows_say : integer_of (card_at header 4) ≡ Some (pos rows)
  rows_say = ap integer_of r.rows_are ∙ axis_says l 2 rows (omega arith) (omega (arith, also))

  bitpix_named : is_named (codes "BITPIX") (card_at header 1) ≡ true
  bitpix_named = ap (is_named (codes "BITPIX")) r.bitpix ∙ ap (λ n. bytes_eq n (padded (codes "BITPIX"))) (word_named l (codes "BITPIX") 16 refl)

  naxis_named : is_named (codes "NAXIS") (card_at header 2) ≡ true
  naxis_named = ap (is_named (codes "NAXIS")) r.naxis ∙ ap (λ n. bytes_eq n (padded (codes "NAXIS"))) (word_named l (codes "NAXIS") 2 refl)

  columns_named : is_numbered (codes "NAXIS") 1 (card_at header 3) ≡ true
  columns_named = ap (is_numbered (codes "NAXIS") 1) r.columns_are
      ∙ (λ i. bytes_eq (axis_named l 1 columns (omega arith) i) (axis_name 1 (omega arith) i))

  rows_named : is_numbered (codes "NAXIS") 2 (card_at header 4) ≡ true
  rows_named = ap (is_numbered (codes "NAXIS") 2) r.rows_are
      ∙ (λ i. bytes_eq (axis_named l 2 rows (omega arith) i) (axis_name 2 (omega arith) i))

  naxis_is : naxis_of header ≡ 2
  naxis_is = ap size_in naxis_says

  axes_are : axes_of header ≡ columns ∷ rows ∷ []
  axes_are = ap (λ n. map (size_at header) (range_with_len 3 n)) naxis_is ∙ (λ i. size_in (columns_say i) ∷ size_in (rows_say i) ∷ [])

  pub data_len_is : data_len_of 0 header ≡ 2 * (1 * (0 + columns * (rows * 1)))
  data_len_is = λ i. if naxis_is i == 0 then 0 else size_in (bitpix_says i) / 8 * (1 * (0 + places (axes_are i)))

  pub facts_are : facts_of 0 0 header ≡ image_facts columns rows
  facts_are = λ i. record {
    hdu = 0;
    start = 0;
    cards = unwrap_or (r.end i) 0;
    blocks = r.long i / 2880;
    sort = Primary;
    bitpix = unwrap_or (bitpix_says i) (pos 0);
    axes = nine_axes (axes_are i);
    pcount = 0;
    gcount = 1;
    data_len = data_len_is i;
  }

  axis_none : (i n : ℕ) → is_numbered (codes "NAXIS") i (card_at header (2 + i)) ≡ true → integer_of (card_at header (2 + i)) ≡ Some (pos n) → n ≤ 16384 → first_refusal (axis_checks 0 header i) ≡ None
  axis_none i n named says small =
      let size : is_size (integer_of (card_at header (2 + i))) ≡ true = ap is_size says in
      let short : nat_lt 2147483647 n ≡ false = grind (arith, nat_tests, small) in
      cons_none _ _ _ (must_hold _ _ named size) (cons_none _ _ [] (ap (λ v. nat_lt 2147483647 (size_in v)) says ∙ short) refl)

  axes_none : (n : ℕ) → n ≡ 2 → first_refusal (flat_map (axis_checks 0 header) (range_with_len 1 n)) ≡ None
  axes_none n is = ap (λ m. first_refusal (flat_map (axis_checks 0 header) (range_with_len 1 m))) is
      ∙ both_none (axis_checks 0 header 1) (axis_checks 0 header 2 ++ []) (axis_none 1 columns columns_named columns_say (omega (arith, few)))
      (both_none (axis_checks 0 header 2) [] (axis_none 2 rows rows_named rows_say also) refl)

  pub mandatory_none : first_refusal (mandatory_checks 0 header) ≡ None
  mandatory_none =
      let bitpix : is_bitpix (integer_of (card_at header 1)) ≡ true = ap is_bitpix bitpix_says in
      let naxis : is_size (integer_of (card_at header 2)) ≡ true = ap is_size naxis_says in
      cons_none _ _ _ (must_hold _ _ bitpix_named bitpix)
      (cons_none _ _ _ (must_hold _ _ naxis_named naxis)
      (cons_none _ _ _ (ap (nat_lt 9) naxis_is)
      (both_none (flat_map (axis_checks 0 header) (range_with_len 1 (naxis_of header))) [] (axes_none (naxis_of header) naxis_is) refl)))

  pub is_header : IsHeaderOf header (image_facts columns rows)
  is_header = record { whole = r.whole; short = omega (arith, r.long); mandatory = mandatory_none; facts = sym facts_are }

  pub named_simple : is_named (codes "SIMPLE") (card_at header 0) ≡ true
  named_simple = ap (is_named (codes "SIMPLE")) r.first ∙ ap (λ n. bytes_eq n (padded (codes "SIMPLE"))) (simple_named l)

  pub begins : begins_hdu 0 header ≡ true
  begins =
      let says : logical_of (card_at header 0) ≡ Some true = ap logical_of r.first ∙ simple_says l in
      λ i. named_simple i && unwrap_or (says i) false

  groups_none : first_refusal (group_checks 0 header) ≡ None
  groups_none =
      let some_columns : (columns == 0) ≡ false = grind (arith, nat_tests, some) in
      cons_none _ _ [] (by_test (nat_lt 0 (naxis_of header)) (size_at header 3 == 0) _ (ap (λ v. size_in v == 0) columns_say ∙ some_columns)) refl

  ends_none : (len : ℕ) → hdu_end 0 0 header ≤ len → first_refusal (end_checks 0 len (hdu_end 0 0 header)) ≡ None
  ends_none len within =
      let size : hdu_end 0 0 header ≡ 0 + 2880 + whole_blocks_of (2 * (1 * (0 + columns * (rows * 1)))) = λ i. 0 + r.long i + whole_blocks_of (data_len_is i) in
      let most : columns * rows ≤ 4194304 = most_pixels columns rows few also in
      let low : nat_lt (2 ^ 62) (hdu_end 0 0 header) ≡ false = grind (arith, nat_tests, end_low columns rows (hdu_end 0 0 header) size most) in
      let inside : nat_lt len (hdu_end 0 0 header) ≡ false = grind (arith, nat_tests, within) in
      cons_none _ _ _ low (cons_none _ _ [] inside refl)

  pub header_is : (len : ℕ) → hdu_end 0 0 header ≤ len → header_of 0 0 len header ≡ Ok (image_facts columns rows)
  unfolding header_of
  header_is len within =
      let in_last : (is_some (end_of header) && (2880 * (unwrap_or (end_of header) 0 / 36 + 1) == length header)) ≡ true = λ i. is_some (r.end i) && (2880 * (unwrap_or (r.end i) 0 / 36 + 1) == r.long i) in
      let none : first_refusal (header_checks 0 0 len header) ≡ None =
      cons_none _ _ _ (ap not in_last)
      (both_none (mandatory_checks 0 header) (group_checks 0 header ++ end_checks 0 len (hdu_end 0 0 header)) mandatory_none
      (both_none (group_checks 0 header) (end_checks 0 len (hdu_end 0 0 header)) groups_none (ends_none len within))) in
      ap (unless_refused (facts_of 0 0 header)) none ∙ ap Ok facts_are
