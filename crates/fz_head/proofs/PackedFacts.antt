-- The facts that a packed header says.
use Rattle.std.proofs.Common.{◌≡◌, ℕ, suc, ◌+◌, ◌<◌, ◌≤◌, ◌^◌, Bool, true, false, cond, List, [], ◌∷◌, ◌++◌, length, get_or, map, refl, ap, sym, ◌∙◌, subst, arith, zero-add}
use Rattle.std.specs.Prelude.{ℤ, pos, not, ◌&&◌, Option, Some, None, is_some, unwrap_or, codes, bytes_eq}
use Rattle.std.specs.List.{flat_map, range_with_len}
use Rattle.std.proofs.lemmas.Bool.{le-ltb, and_from}
use Rattle.std.proofs.lemmas.List.FromFn.{length-map-range_with_len, get_or-map-range_with_len}
use Rattle.std.proofs.lemmas.Slice.Eq.{bytes_eq-Decides}
use Rattle.fz_base.specs.Refusal.{first_refusal}
use Rattle.fz_card.specs.Laws.{CardLaws}
use Rattle.fz_card.specs.Layout.{card_name, padded}
use Rattle.fz_card.specs.Made.{int_card_bytes, numbered_name}
use Rattle.fz_card.specs.Reading.{integer_of, text_of}
use Rattle.fz_block.specs.Cards.{card_at, end_of, is_named}
use Rattle.fz_block.specs.Facts.{IsHeaderOf, facts_of, sort_named, sort_of}
use Rattle.fz_block.specs.Hdus.{axes_of, size_at, size_in}
use Rattle.fz_block.specs.Mandatory.{mandatory_checks, extension_checks, bitpix_check, naxis_checks, axis_checks, count_checks, is_bitpix, is_size, must}
use Rattle.fz_block.specs.declared.header.Sort.TheVariants.{BinTable}
use Rattle.fz_head.specs.declared.plan.Plan.{Plan}
use Rattle.fz_head.specs.declared.totals.Totals.{Totals}
use Rattle.fz_head.specs.PackedHeader.{made_cards, number_card, numbered_number_card, word_card}
use Rattle.fz_head.specs.PackedTable.{planned_row, planned_rows}
use Rattle.fz_head.specs.ThereAndBack.{HasCards}
use Rattle.fz_head.proofs.MadeTables.{AreClear, none-refuses, clear-append}
use Rattle.fz_head.proofs.MadeValues.{number-says, text-says, bintable-text}

module _ (bytes : List ℕ) (cards : List (List ℕ)) (has : HasCards bytes cards) where
  pub end-is : unwrap_or (end_of bytes) 0 ≡ length cards
  end-is = sym (length-map-range_with_len (card_at bytes) 0 (unwrap_or (end_of bytes) 0)) ∙ ap length has.are

  pub card-is : (i : ℕ) → i < length cards → card_at bytes i ≡ get_or cards i []
  card-is i within =
      sym (get_or-map-range_with_len (card_at bytes) 0 (unwrap_or (end_of bytes) 0) i i [] (omega (arith, end-is)) (zero-add i)) ∙ ap (λ l. get_or l i []) has.are

row-short : (wide : Bool) → cond wide 32 16 < 10 ^ 18
row-short true = omega arith
row-short false = omega arith

row-small : (wide : Bool) → cond wide 32 16 ≤ 2147483647
row-small true = omega arith
row-small false = omega arith

-- by the laws of cards
module _ (laws : CardLaws) where
  -- a made card and its value
  named-int : (name : List ℕ) (v : ℤ) → length name ≡ 8 → bytes_eq (card_name (int_card_bytes name v)) name ≡ true
  named-int name v eight = (bytes_eq-Decides (card_name (int_card_bytes name v)) name).1 (laws.made.integer_name name v eight)

  must-be : (card made name : List ℕ) (v : ℕ) (ok : Option ℤ → Bool) → card ≡ made → made ≡ int_card_bytes name (pos v) → length name ≡ 8 → v < 10 ^ 18 → ok (Some (pos v)) ≡ true →
      not (bytes_eq (card_name card) name && ok (integer_of card)) ≡ false
  must-be card made name v ok is shape eight short good =
      let same : card ≡ int_card_bytes name (pos v) = is ∙ shape in
      ap (λ c. not (bytes_eq (card_name c) name && ok (integer_of c))) same
      ∙ ap not (and_from (bytes_eq (card_name (int_card_bytes name (pos v))) name) (ok (integer_of (int_card_bytes name (pos v)))) (named-int name (pos v) eight) (ap ok (number-says laws name v eight short) ∙ good))

  module _ (k start : ℕ) (bytes : List ℕ) (p : Plan) (s : Totals) (rest : List (List ℕ)) (has : HasCards bytes (made_cards p s ++ rest)) (rows : planned_rows p ≤ 2147483647) (heap : s.heap < 10 ^ 18) where
    abbrev made : List (List ℕ)
    made = made_cards p s ++ rest

    card : (i : ℕ) (c : List ℕ) → i < 14 → get_or made i [] ≡ c → card_at bytes i ≡ c
    card i c few e = card-is bytes made has i (omega arith) ∙ e

    card-0 : card_at bytes 0 ≡ word_card (codes "XTENSION") (codes "BINTABLE")
    card-0 = card 0 _ (omega arith) refl

    card-1 : card_at bytes 1 ≡ number_card (codes "BITPIX") 8
    card-1 = card 1 _ (omega arith) refl

    card-2 : card_at bytes 2 ≡ number_card (codes "NAXIS") 2
    card-2 = card 2 _ (omega arith) refl

    card-3 : card_at bytes 3 ≡ numbered_number_card (codes "NAXIS") 1 (planned_row p)
    card-3 = card 3 _ (omega arith) refl

    card-4 : card_at bytes 4 ≡ numbered_number_card (codes "NAXIS") 2 (planned_rows p)
    card-4 = card 4 _ (omega arith) refl

    card-5 : card_at bytes 5 ≡ number_card (codes "PCOUNT") s.heap
    card-5 = card 5 _ (omega arith) refl

    card-6 : card_at bytes 6 ≡ number_card (codes "GCOUNT") 1
    card-6 = card 6 _ (omega arith) refl

    eight-axis : (i : ℕ) → i < 10 → length (numbered_name (codes "NAXIS") i) ≡ 8
    eight-axis i few = laws.numbers.eight_bytes (codes "NAXIS") i (omega arith, omega arith)

    pub xtension-says : text_of (card_at bytes 0) ≡ Some (codes "BINTABLE")
    xtension-says = ap text_of card-0 ∙ text-says laws (padded (codes "XTENSION")) (codes "BINTABLE") refl bintable-text

    bitpix-says : integer_of (card_at bytes 1) ≡ Some (pos 8)
    bitpix-says = ap integer_of card-1 ∙ number-says laws (padded (codes "BITPIX")) 8 refl (omega arith)

    pub size-2 : size_at bytes 2 ≡ 2
    size-2 = ap size_in (ap integer_of card-2 ∙ number-says laws (padded (codes "NAXIS")) 2 refl (omega arith))

    size-3 : size_at bytes 3 ≡ planned_row p
    size-3 = ap size_in (ap integer_of card-3 ∙ number-says laws (numbered_name (codes "NAXIS") 1) (planned_row p) (eight-axis 1 (omega arith)) (row-short p.wide))

    pub size-4 : size_at bytes 4 ≡ planned_rows p
    size-4 = ap size_in (ap integer_of card-4 ∙ number-says laws (numbered_name (codes "NAXIS") 2) (planned_rows p) (eight-axis 2 (omega arith)) (omega arith))

    size-5 : size_at bytes 5 ≡ s.heap
    size-5 = ap size_in (ap integer_of card-5 ∙ number-says laws (padded (codes "PCOUNT")) s.heap refl heap)

    size-6 : size_at bytes 6 ≡ 1
    size-6 = ap size_in (ap integer_of card-6 ∙ number-says laws (padded (codes "GCOUNT")) 1 refl (omega arith))

    -- the facts
    pub sort-is : sort_of (suc k) bytes ≡ BinTable
    sort-is = ap sort_named xtension-says

    pub bitpix-is : unwrap_or (integer_of (card_at bytes 1)) (pos 0) ≡ pos 8
    bitpix-is = ap (λ o. unwrap_or o (pos 0)) bitpix-says

    pub axes-are : axes_of bytes ≡ planned_row p ∷ planned_rows p ∷ []
    axes-are = ap (λ n. map (size_at bytes) (range_with_len 3 n)) size-2 ∙ (ap (λ r. r ∷ size_at bytes 4 ∷ []) size-3 ∙ ap (λ r. planned_row p ∷ r ∷ []) size-4)

    pub pcount-is : size_at bytes (3 + size_at bytes 2) ≡ s.heap
    pcount-is = ap (λ n. size_at bytes (3 + n)) size-2 ∙ size-5

    pub gcount-is : size_at bytes (4 + size_at bytes 2) ≡ 1
    gcount-is = ap (λ n. size_at bytes (4 + n)) size-2 ∙ size-6

    -- the mandatory cards are there
    first-clear : AreClear (extension_checks (suc k) bytes)
    first-clear = (
      ap (λ c. not (is_named (codes "XTENSION") c && is_some (text_of c))) card-0
          ∙ ap not (and_from (is_named (codes "XTENSION") (word_card (codes "XTENSION") (codes "BINTABLE"))) (is_some (text_of (word_card (codes "XTENSION") (codes "BINTABLE"))))
          ((bytes_eq-Decides (card_name (word_card (codes "XTENSION") (codes "BINTABLE"))) (padded (codes "XTENSION"))).1 (laws.made.text_name (padded (codes "XTENSION")) (codes "BINTABLE") refl))
          (ap is_some (text-says laws (padded (codes "XTENSION")) (codes "BINTABLE") refl bintable-text))),
      tt,
    )

    axis-clear : (i v : ℕ) → i < 10 → card_at bytes (2 + i) ≡ int_card_bytes (numbered_name (codes "NAXIS") i) (pos v) → v ≤ 2147483647 → AreClear (axis_checks (suc k) bytes i)
    axis-clear i v few is small = (
      must-be (card_at bytes (2 + i)) _ (numbered_name (codes "NAXIS") i) v is_size is refl (eight-axis i few) (omega arith) refl,
      (le-ltb 2147483647 (size_at bytes (2 + i)) (subst (λ n. n ≤ 2147483647) (sym (ap size_in (ap integer_of is ∙ number-says laws (numbered_name (codes "NAXIS") i) v (eight-axis i few) (omega arith)))) small), tt),
    )

    size-clear : AreClear (bitpix_check (suc k) bytes ∷ naxis_checks (suc k) bytes)
    size-clear = (
      must-be (card_at bytes 1) _ (padded (codes "BITPIX")) 8 is_bitpix card-1 refl refl (omega arith) refl,
      (
        must-be (card_at bytes 2) _ (padded (codes "NAXIS")) 2 is_size card-2 refl refl (omega arith) refl,
        (le-ltb 9 (size_at bytes 2) (omega (arith, size-2)), tt),
      ),
    )

    pub mandatory-there : first_refusal (mandatory_checks (suc k) bytes) ≡ None
    mandatory-there =
        let axes = flat_map (axis_checks (suc k) bytes) (range_with_len 1 (size_at bytes 2)) in
        none-refuses (mandatory_checks (suc k) bytes)
        (clear-append (extension_checks (suc k) bytes) (bitpix_check (suc k) bytes ∷ naxis_checks (suc k) bytes ++ (axes ++ count_checks (suc k) bytes)) first-clear
        (clear-append (bitpix_check (suc k) bytes ∷ naxis_checks (suc k) bytes) (axes ++ count_checks (suc k) bytes) size-clear
        (clear-append axes (count_checks (suc k) bytes) axes-clear counts-clear)))
      where
        axes-clear : AreClear (flat_map (axis_checks (suc k) bytes) (range_with_len 1 (size_at bytes 2)))
        axes-clear =
            subst (λ n. AreClear (flat_map (axis_checks (suc k) bytes) (range_with_len 1 n))) (sym size-2)
            (clear-append (axis_checks (suc k) bytes 1) (axis_checks (suc k) bytes 2 ++ []) (axis-clear 1 (planned_row p) (omega arith) card-3 (row-small p.wide))
            (clear-append (axis_checks (suc k) bytes 2) [] (axis-clear 2 (planned_rows p) (omega arith) card-4 rows) tt))

        counts-clear : AreClear (count_checks (suc k) bytes)
        counts-clear = subst (λ n. AreClear (must (suc k) (3 + n) (is_named (codes "PCOUNT") (card_at bytes (3 + n)) && is_size (integer_of (card_at bytes (3 + n)))) ∷ must (suc k) (4 + n) (is_named (codes "GCOUNT") (card_at bytes (4 + n)) && is_size (integer_of (card_at bytes (4 + n)))) ∷ [])) (sym size-2) (
          must-be (card_at bytes 5) _ (padded (codes "PCOUNT")) s.heap is_size card-5 refl refl heap refl,
          (must-be (card_at bytes 6) _ (padded (codes "GCOUNT")) 1 is_size card-6 refl refl (omega arith) refl, tt),
        )

    pub header-is : IsHeaderOf bytes (facts_of (suc k) start bytes)
    header-is = record { whole = has.whole; short = has.short; mandatory = mandatory-there; facts = refl }
