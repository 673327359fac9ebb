-- The cards of a cutout, by those of the image that the packed header stands for.
use Rattle.std.proofs.Common.{◌≡◌, cond, pos, ℕ, zero, suc, ◌+◌, ◌-◌, Bool, true, false, List, [], ◌∷◌, ◌++◌, length, take, drop, map, filter, is_some, not, Option, Some, None, if◌then◌else◌, codes, refl, sym, ◌∙◌, ap, arith}
use Rattle.std.specs.Prelude.{slice_index}
use Rattle.std.specs.List.{range_with_len}
use Rattle.fz_card.specs.CardLists.{first_of_name}
use Rattle.fz_card.specs.Layout.{card_name, padded}
use Rattle.fz_card.specs.Naming.{is_in_some, plain_name}
use Rattle.fz_block.specs.Hdus.{header_bytes}
use Rattle.fz_grid.specs.declared.region.Region.{Region}
use Rattle.fz_head.specs.PackedHeader.{flag_card, number_card, numbered_number_card}
use Rattle.fz_head.specs.PlainHeader.{axis_count, count_cards, count_cards_of, cutout_header, other_cards, plain_card, plain_header, was_primary, whole_names}
use Rattle.fz_laws.specs.PackedCuts.{region_cards}
use Rattle.fz_laws.specs.OutputsTaken.{ValueLaws}
use Rattle.fz_laws.proofs.Finds.{said_by}
use Rattle.fz_laws.proofs.PlainCards.{axes, axes_count, bitpix, counts_are, first_made, front_list, gcount_card, gcount_name, lead, lead_card, naxis, or_said, pcount_card, pcount_name, primary_lead, renamed_is, some_said}
use Rattle.fz_laws.proofs.Said.{Says}

drop_more : (xs ys : List (List ℕ)) (n m : ℕ) → length xs ≡ n → drop (n + m) (xs ++ ys) ≡ drop m ys
drop_more [] ys zero m is = let at : zero + m ≡ m = omega arith in ap (λ k. drop k ys) at
drop_more [] ys (suc n) m is = absurd (omega (arith, is))
drop_more (x ∷ xs) ys zero m is = absurd (omega (arith, is))
drop_more (x ∷ xs) ys (suc n) m is = let at : suc n + m ≡ suc (n + m) = omega arith in ap (λ k. drop k (x ∷ (xs ++ ys))) at ∙ drop_more xs ys n m (omega (arith, is))

module _ (laws : ValueLaws) (cards : List (List ℕ)) (after_empty : Bool) (says : Says cards after_empty) (region : Region) where
  abbrev primary : Bool
  primary = was_primary cards

  abbrev n : ℕ
  n = axis_count cards

  abbrev made_axes : List (List ℕ)
  made_axes = map (λ i. numbered_number_card (codes "NAXIS") i (slice_index region.len (i - 1))) (range_with_len 1 region.n)

  abbrev kept : List (List ℕ) → List (List ℕ)
  kept l = filter (λ card. not (is_in_some whole_names (card_name card))) l

  abbrev two : List (List ℕ)
  two = plain_card (bitpix laws cards after_empty says).card ∷ plain_card (naxis laws cards after_empty says).card ∷ []

  abbrev simple : Option (List ℕ)
  simple = first_of_name (padded (codes "ZSIMPLE")) cards

  cut_list : cutout_header cards region ≡ (lead_card (flag_card (codes "SIMPLE")) simple ∷ []) ++ (two ++ (made_axes ++ kept (other_cards cards)))
  unfolding cutout_header
  cut_list =
      λ i. or_said (flag_card (codes "SIMPLE")) simple i
      ++ ((some_said (first_of_name (padded (codes "ZBITPIX")) cards) (bitpix laws cards after_empty says).card (bitpix laws cards after_empty says).found i
      ++ some_said (first_of_name (padded (codes "ZNAXIS")) cards) (naxis laws cards after_empty says).card (naxis laws cards after_empty says).found i)
      ++ (made_axes ++ kept (other_cards cards)))

  abbrev the_axes : List (List ℕ)
  the_axes = axes laws cards after_empty says

  abbrev plain : List (List ℕ)
  plain = plain_header cards

  abbrev list : List (List ℕ)
  list = lead laws cards after_empty says ∷ (two ++ (the_axes ++ (count_cards cards ++ other_cards cards)))

  plain_list : plain ≡ list
  plain_list = front_list laws cards after_empty says

  -- PCOUNT and GCOUNT of an extension are not kept
  count_named : (word other made : List ℕ) → length (padded other) ≡ 8 → plain_name (padded word) ≡ Some (padded other) → card_name made ≡ padded other →
      card_name (lead_card made (first_of_name (padded word) cards)) ≡ padded other
  count_named word other made eight name named = by_found (first_of_name (padded word) cards) refl
    where
      by_found : (o : Option (List ℕ)) → first_of_name (padded word) cards ≡ o → card_name (lead_card made o) ≡ padded other
      by_found None found = named
      by_found (Some card) found = (renamed_is laws.value (padded other) (padded word) card eight (said_by (padded word) cards card found).named name).named

  made_named : (word : List ℕ) (value : ℕ) → length (padded word) ≡ 8 → card_name (number_card word value) ≡ padded word
  made_named word value eight = laws.cards.made.integer_name (padded word) (pos value) eight

  left_out : (name card : List ℕ) (l : List (List ℕ)) → card_name card ≡ name → is_in_some whole_names name ≡ true → kept (card ∷ l) ≡ kept l
  left_out name card l named whole = ap (λ b. cond (not b) (card ∷ kept l) (kept l)) (ap (is_in_some whole_names) named ∙ whole)

  abbrev others : List (List ℕ)
  others = other_cards cards

  counts_out : (b : Bool) → primary ≡ b → kept (count_cards cards ++ others) ≡ kept others
  counts_out true is = ap (λ b. kept (count_cards_of b cards ++ others)) is
  counts_out false is =
      let p : List ℕ = pcount_card laws cards after_empty says in
      let g : List ℕ = gcount_card laws cards after_empty says in
      ap (λ l. kept (l ++ others)) (counts_are laws cards after_empty says is)
      ∙ left_out (padded (codes "PCOUNT")) p (g ∷ others) (count_named (codes "ZPCOUNT") (codes "PCOUNT") (number_card (codes "PCOUNT") 0) refl pcount_name (made_named (codes "PCOUNT") 0 refl)) refl
      ∙ left_out (padded (codes "GCOUNT")) g others (count_named (codes "ZGCOUNT") (codes "GCOUNT") (number_card (codes "GCOUNT") 1) refl gcount_name (made_named (codes "GCOUNT") 1 refl)) refl

  -- what is kept of the cards after the axes
  behind : kept (drop (3 + n) list) ≡ kept others
  behind =
      let at : 3 + n ≡ suc (suc (suc (n + 0))) = omega arith in
      ap kept (ap (λ m. drop m list) at ∙ drop_more the_axes (count_cards cards ++ others) n 0 (axes_count laws cards after_empty says)) ∙ counts_out primary refl

  module _ (begins : was_primary cards ≡ true → header_bytes (plain_header cards) ≡ 83 ∷ drop 1 (header_bytes (plain_header cards))) where
    first : (b : Bool) → primary ≡ b → lead_card (flag_card (codes "SIMPLE")) simple ∷ [] ≡ (if b then take 1 list else flag_card (codes "SIMPLE") ∷ [])
    first true is = by_simple simple refl is
      where
        by_simple : (o : Option (List ℕ)) → simple ≡ o → is_some o ≡ true → lead_card (flag_card (codes "SIMPLE")) o ∷ [] ≡ take 1 list
        by_simple None found some = absurd cc
        by_simple (Some card) found some = sym (ap (λ o. lead_card (first_made laws cards after_empty says) o ∷ []) (primary_lead laws cards after_empty says is (begins is) ∙ found))
    first false is = by_simple simple is
      where
        by_simple : (o : Option (List ℕ)) → is_some o ≡ false → lead_card (flag_card (codes "SIMPLE")) o ∷ [] ≡ flag_card (codes "SIMPLE") ∷ []
        by_simple None none = refl
        by_simple (Some card) none = absurd cc

    of_list : (b : Bool) → primary ≡ b → cutout_header cards region ≡ region_cards b n list region
    of_list b is = cut_list ∙ (λ i. first b is i ++ (two ++ (made_axes ++ sym behind i)))

    -- the cards of the region, by the header of the image
    pub region_is : cutout_header cards region ≡ region_cards (was_primary cards) (axis_count cards) (plain_header cards) region
    region_is = of_list primary refl ∙ ap (λ l. region_cards primary n l region) (sym plain_list)
