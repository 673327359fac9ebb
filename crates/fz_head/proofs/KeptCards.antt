-- Which cards of an image come back in their places: all but the mandatory ones.
use Rattle.std.proofs.Common.{◌≡◌, ℕ, ◌+◌, ◌<◌, ◌≤◌, Bool, true, false, cond, List, ◌++◌, drop, sym, refl, ap, ◌∙◌, arith, inl, inr}
use Rattle.std.specs.Prelude.{◌⊎◌, ◌&&◌, not, Some, codes}
use Rattle.std.proofs.lemmas.Bool.{cases_lt, and_parts, and_from, and_left, both_ways, or_parts}
use Rattle.std.proofs.lemmas.List.{take-append-drop}
use Rattle.std.proofs.lemmas.Slice.Eq.{bytes_eq-Decides}
use Rattle.fz_card.specs.Laws.{CardLaws}
use Rattle.fz_card.specs.Layout.{card_name, padded}
use Rattle.fz_card.specs.Made.{numbered_name}
use Rattle.fz_card.specs.Naming.{is_in, is_in_some, is_dropped, packed_name}
use Rattle.fz_card.specs.Tables.{IsInSome, IsNumberedName}
use Rattle.fz_card.specs.Tables.Names.{Numbered}
use Rattle.fz_card.specs.Reading.{has_text}
use Rattle.fz_block.specs.Cards.{card_at, is_named}
use Rattle.fz_head.specs.PackChecks.{is_axis_above, is_of_other_sort}
use Rattle.fz_head.specs.PackedHeader.{packed_card}
use Rattle.fz_head.specs.PlainHeader.{count_names, front_names, is_front, is_kept, is_table_card}
use Rattle.fz_head.proofs.CardNames.{new_name, was-named, new_name-of, new_name-kept, was-axis, was-extname, simple-pair, xtension-pair, bitpix-pair, naxis-pair, pcount-pair, gcount-pair, axis-pair}
use Rattle.fz_head.proofs.FrontCards.{Place, At_first, At_bitpix, At_naxis, At_axis, At_pcount, At_gcount, front_count, first_word}
use Rattle.fz_head.proofs.ImageCards.{IsImage, right_sort, named_allowed, no_axis_above, is_free, new_card_name, apart, false_of, or_false, or_first, or_second}

-- a card of the front
front-by : (primary : Bool) (n : ℕ) (card : List ℕ) → (is_in_some (front_names n) (card_name card) ≡ true) ⊎ ((not primary && is_in_some count_names (card_name card)) ≡ true) → is_kept primary n card ≡ false
front-by primary n card (inl e) =
    and_left (not (is_front primary n card)) (not (is_table_card n card)) (ap not (or_first (is_in_some (front_names n) (card_name card)) (not primary && is_in_some count_names (card_name card)) e))
front-by primary n card (inr e) =
    and_left (not (is_front primary n card)) (not (is_table_card n card)) (ap not (or_second (is_in_some (front_names n) (card_name card)) (not primary && is_in_some count_names (card_name card)) e))

first-in-front : (primary : Bool) (n : ℕ) (card : List ℕ) → card_name card ≡ padded (cond primary (codes "ZSIMPLE") (codes "ZTENSION")) → is_in_some (front_names n) (card_name card) ≡ true
first-in-front true n card e = ap (is_in_some (front_names n)) e
first-in-front false n card e = ap (is_in_some (front_names n)) e

first-pair : (primary : Bool) → packed_name (first_word primary) ≡ Some (padded (cond primary (codes "ZSIMPLE") (codes "ZTENSION")))
first-pair true = simple-pair
first-pair false = xtension-pair

count-in-front : (primary : Bool) (name word : List ℕ) → primary ≡ false → name ≡ padded word → is_in_some count_names (padded word) ≡ true → (not primary && is_in_some count_names name) ≡ true
count-in-front primary name word p e is = and_from (not primary) (is_in_some count_names name) (ap not p) (ap (is_in_some count_names) e ∙ is)

-- by the laws of cards
module _ (laws : CardLaws) where
  module _ (header : List ℕ) (primary : Bool) (n last : ℕ) (image : IsImage header primary n last) where
    -- the name that a card has in the packed header, by the one that it had
    pub called : (i : ℕ) (a b : List ℕ) → i < last → card_name (card_at header i) ≡ a → packed_name a ≡ Some b → card_name (packed_card (card_at header i)) ≡ b
    called i a b before name e = new_card_name laws header primary n last image i before ∙ (ap new_name name ∙ new_name-of a b e)

    -- the name that it had, by the one that it has there
    pub was_called : (i : ℕ) (a b : List ℕ) → i < last → packed_name a ≡ Some b → card_name (packed_card (card_at header i)) ≡ b → card_name (card_at header i) ≡ a
    was_called i a b before e same =
        was-named laws (card_name (card_at header i)) a b (is_free laws header primary n last image i before) e (sym (new_card_name laws header primary n last image i before) ∙ same)

  axis-in-front : (n k : ℕ) (name : List ℕ) → n ≤ 9 → 1 ≤ k → k ≤ n → name ≡ numbered_name (codes "ZNAXIS") k → is_in_some (front_names n) name ≡ true
  axis-in-front n k name few low high e =
      laws.names.named_list (front_names n) name (tt, (tt, (tt, (tt, (omega arith, tt)))))
      (inr (inr (inr (inr (inl (record { number = k; low = low; high = high; made = e }))))))

  module _ (header : List ℕ) (primary : Bool) (n last : ℕ) (image : IsImage header primary n last) where
    pub front_not_kept : (i : ℕ) → i < last → Place primary n i → is_kept primary n (packed_card (card_at header i)) ≡ false
    front_not_kept i before (At_first e) =
        let name = called header primary n last image i (first_word primary) _ before (ap (λ k. card_name (card_at header k)) e ∙ image.front.first) (first-pair primary) in
        front-by primary n (packed_card (card_at header i)) (inl (first-in-front primary n (packed_card (card_at header i)) name))
    front_not_kept i before (At_bitpix e) =
        let name = called header primary n last image i (padded (codes "BITPIX")) (padded (codes "ZBITPIX")) before (ap (λ k. card_name (card_at header k)) e ∙ image.front.bitpix) bitpix-pair in
        front-by primary n (packed_card (card_at header i)) (inl (ap (is_in_some (front_names n)) name))
    front_not_kept i before (At_naxis e) =
        let name = called header primary n last image i (padded (codes "NAXIS")) (padded (codes "ZNAXIS")) before (ap (λ k. card_name (card_at header k)) e ∙ image.front.naxis) naxis-pair in
        front-by primary n (packed_card (card_at header i)) (inl (ap (is_in_some (front_names n)) name))
    front_not_kept i before (At_axis k low high e) =
        let few : k ≤ 9 = omega (arith, image.front.few) in
        let name = called header primary n last image i (numbered_name (codes "NAXIS") k) (numbered_name (codes "ZNAXIS") k) before (ap (λ j. card_name (card_at header j)) e ∙ image.front.axis k low high) (axis-pair laws k low few) in
        front-by primary n (packed_card (card_at header i)) (inl (axis-in-front n k (card_name (packed_card (card_at header i))) image.front.few low high name))
    front_not_kept i before (At_pcount p e) =
        let name = called header primary n last image i (padded (codes "PCOUNT")) (padded (codes "ZPCOUNT")) before (ap (λ k. card_name (card_at header k)) e ∙ image.front.pcount p) pcount-pair in
        front-by primary n (packed_card (card_at header i)) (inr (count-in-front primary (card_name (packed_card (card_at header i))) (codes "ZPCOUNT") p name refl))
    front_not_kept i before (At_gcount p e) =
        let name = called header primary n last image i (padded (codes "GCOUNT")) (padded (codes "ZGCOUNT")) before (ap (λ k. card_name (card_at header k)) e ∙ image.front.gcount p) gcount-pair in
        front-by primary n (packed_card (card_at header i)) (inr (count-in-front primary (card_name (packed_card (card_at header i))) (codes "ZGCOUNT") p name refl))

  -- the first card's word, of a card after the mandatory ones
  module _ (header : List ℕ) (primary : Bool) (n last : ℕ) (image : IsImage header primary n last) where
    no_word : (i j : ℕ) (a b : List ℕ) → i < last → j < i → Place primary n j → card_name (card_at header j) ≡ a → packed_name a ≡ Some b → ¬ (card_name (packed_card (card_at header i)) ≡ b)
    no_word i j a b before less at name e same =
        apart laws header primary n last image j i less before at (name ∙ sym (was_called header primary n last image i a b before e same))

    pub not_simple : (p : primary ≡ false) (i : ℕ) → i < last → ¬ (card_name (card_at header i) ≡ padded (codes "SIMPLE"))
    not_simple p i before name =
        both_ways (is_named (codes "SIMPLE") (card_at header i)) (ap (λ b. is_of_other_sort b (card_at header i)) (sym p) ∙ right_sort laws header primary n last image i before) ((bytes_eq-Decides (card_name (card_at header i)) (padded (codes "SIMPLE"))).1 name)

    pub not_xtension : (p : primary ≡ true) (i : ℕ) → i < last → ¬ (card_name (card_at header i) ≡ padded (codes "XTENSION"))
    not_xtension p i before name =
        both_ways (is_named (codes "XTENSION") (card_at header i)) (ap (λ b. is_of_other_sort b (card_at header i)) (sym p) ∙ right_sort laws header primary n last image i before) ((bytes_eq-Decides (card_name (card_at header i)) (padded (codes "XTENSION"))).1 name)

    no_simple : (i : ℕ) → i < last → 0 < i → (b : Bool) → primary ≡ b → ¬ (card_name (packed_card (card_at header i)) ≡ padded (codes "ZSIMPLE"))
    no_simple i before some true p same =
        no_word i 0 (padded (codes "SIMPLE")) (padded (codes "ZSIMPLE")) before some (At_first refl) (image.front.first ∙ ap first_word p) simple-pair same
    no_simple i before some false p same = not_simple p i before (was_called header primary n last image i (padded (codes "SIMPLE")) (padded (codes "ZSIMPLE")) before simple-pair same)

    no_tension : (i : ℕ) → i < last → 0 < i → (b : Bool) → primary ≡ b → ¬ (card_name (packed_card (card_at header i)) ≡ padded (codes "ZTENSION"))
    no_tension i before some false p same =
        no_word i 0 (padded (codes "XTENSION")) (padded (codes "ZTENSION")) before some (At_first refl) (image.front.first ∙ ap first_word p) xtension-pair same
    no_tension i before some true p same = not_xtension p i before (was_called header primary n last image i (padded (codes "XTENSION")) (padded (codes "ZTENSION")) before xtension-pair same)

    no_front_name : (i : ℕ) → i < last → front_count primary n ≤ i → ¬ (IsInSome (front_names n) (card_name (packed_card (card_at header i))))
    no_front_name i before behind (inl h) = no_simple i before (omega arith) primary refl h
    no_front_name i before behind (inr (inl h)) = no_tension i before (omega arith) primary refl h
    no_front_name i before behind (inr (inr (inl h))) =
        no_word i 1 (padded (codes "BITPIX")) (padded (codes "ZBITPIX")) before (omega arith) (At_bitpix refl) image.front.bitpix bitpix-pair h
    no_front_name i before behind (inr (inr (inr (inl h)))) =
        no_word i 2 (padded (codes "NAXIS")) (padded (codes "ZNAXIS")) before (omega arith) (At_naxis refl) image.front.naxis naxis-pair h
    no_front_name i before behind (inr (inr (inr (inr (inl h))))) =
        let high : h.number ≤ n = h.high in
        let few : h.number ≤ 9 = omega (arith, image.front.few) in
        let low : 1 ≤ h.number = h.low in
        no_word i (2 + h.number) (numbered_name (codes "NAXIS") h.number) (numbered_name (codes "ZNAXIS") h.number) before (omega arith) (At_axis h.number low high refl) (image.front.axis h.number low high) (axis-pair laws h.number low few) h.made
    no_front_name i before behind (inr (inr (inr (inr (inr h))))) = absurd h

    no_count_name : (i : ℕ) → i < last → front_count primary n ≤ i → primary ≡ false → ¬ (IsInSome count_names (card_name (packed_card (card_at header i))))
    no_count_name i before behind p (inl h) =
        let count : front_count primary n ≡ 5 + n = ap (λ b. front_count b n) p ∙ omega arith in
        no_word i (3 + n) (padded (codes "PCOUNT")) (padded (codes "ZPCOUNT")) before (omega arith) (At_pcount p refl) (image.front.pcount p) pcount-pair h
    no_count_name i before behind p (inr (inl h)) =
        let count : front_count primary n ≡ 5 + n = ap (λ b. front_count b n) p ∙ omega arith in
        no_word i (4 + n) (padded (codes "GCOUNT")) (padded (codes "ZGCOUNT")) before (omega arith) (At_gcount p refl) (image.front.gcount p) gcount-pair h
    no_count_name i before behind p (inr (inr h)) = absurd h

    no_count : (i : ℕ) → i < last → front_count primary n ≤ i → (b : Bool) → primary ≡ b → (not b && is_in_some count_names (card_name (packed_card (card_at header i)))) ≡ false
    no_count i before behind true p = refl
    no_count i before behind false p =
        false_of (is_in_some count_names (card_name (packed_card (card_at header i)))) (λ e. no_count_name i before behind p (laws.names.list_named count_names (card_name (packed_card (card_at header i))) e))

    not_front : (i : ℕ) → i < last → front_count primary n ≤ i → is_front primary n (packed_card (card_at header i)) ≡ false
    not_front i before behind =
        or_false (is_in_some (front_names n) (card_name (packed_card (card_at header i)))) (not primary && is_in_some count_names (card_name (packed_card (card_at header i))))
        (false_of _ (λ e. no_front_name i before behind (laws.names.list_named (front_names n) (card_name (packed_card (card_at header i))) e)))
        (no_count i before behind primary refl)

    not_dropped : (i : ℕ) → i < last → is_dropped (card_name (packed_card (card_at header i))) ≡ false
    not_dropped i before = ap is_dropped (new_card_name laws header primary n last image i before) ∙ new_name-kept laws (card_name (card_at header i)) (is_free laws header primary n last image i before)

    no_axis : (i : ℕ) → i < last → front_count primary n ≤ i → ¬ (is_in (Numbered (codes "ZNAXIS") 99) (card_name (packed_card (card_at header i))) ≡ true)
    no_axis i before behind e =
        let was : IsNumberedName (codes "NAXIS") 1 9 (card_name (card_at header i)) =
        was-axis laws (card_name (card_at header i)) (is_free laws header primary n last image i before) (ap (is_in (Numbered (codes "ZNAXIS") 99)) (sym (new_card_name laws header primary n last image i before)) ∙ e) in
        let low : 1 ≤ was.number = was.low in
        let high : was.number ≤ 9 = was.high in
        elim (cases_lt n was.number) [
          | inl above ↦ (no_axis_above laws) header primary n last image i was.number before above (omega arith) low was.made
          | inr within ↦
              apart laws header primary n last image (2 + was.number) i (omega arith) before (At_axis was.number low within refl) (image.front.axis was.number low within ∙ sym was.made)
        ]

    -- EXTNAME is not that of the table
    no_table_name : (i : ℕ) → i < last → ¬ ((is_named (codes "EXTNAME") (packed_card (card_at header i)) && has_text (codes "COMPRESSED_IMAGE") (packed_card (card_at header i))) ≡ true)
    no_table_name i before e =
        let card = card_at header i in
        let parts = and_parts (is_named (codes "EXTNAME") (packed_card card)) (has_text (codes "COMPRESSED_IMAGE") (packed_card card)) e in
        let new : new_name (card_name card) ≡ padded (codes "EXTNAME") = sym (new_card_name laws header primary n last image i before) ∙ (bytes_eq-Decides (card_name (packed_card card)) (padded (codes "EXTNAME"))).0 parts.0 in
        let old : card_name card ≡ padded (codes "EXTNAME") = was-extname laws (card_name card) (is_free laws header primary n last image i before) new in
        let same : packed_card card ≡ card = ap (λ l. l ++ drop 8 card) (new ∙ sym old) ∙ take-append-drop 8 card in
        let none = (or_parts (is_axis_above n card) (is_named (codes "EXTNAME") card && has_text (codes "COMPRESSED_IMAGE") card) (named_allowed laws header primary n last image i before)).1 in
        both_ways (is_named (codes "EXTNAME") card && has_text (codes "COMPRESSED_IMAGE") card) none
        (ap (λ c. is_named (codes "EXTNAME") c && has_text (codes "COMPRESSED_IMAGE") c) (sym same) ∙ e)

    not_of_table : (i : ℕ) → i < last → front_count primary n ≤ i → is_table_card n (packed_card (card_at header i)) ≡ false
    not_of_table i before behind =
        let card = packed_card (card_at header i) in
        or_false (is_dropped (card_name card)) _ (not_dropped i before)
        (or_false (is_in (Numbered (codes "ZNAXIS") 99) (card_name card) && not (is_in (Numbered (codes "ZNAXIS") n) (card_name card))) (is_named (codes "EXTNAME") card && has_text (codes "COMPRESSED_IMAGE") card)
        (and_left (is_in (Numbered (codes "ZNAXIS") 99) (card_name card)) (not (is_in (Numbered (codes "ZNAXIS") n) (card_name card))) (false_of _ (no_axis i before behind)))
        (false_of _ (no_table_name i before)))

    pub rest_kept : (i : ℕ) → i < last → front_count primary n ≤ i → is_kept primary n (packed_card (card_at header i)) ≡ true
    rest_kept i before behind =
        and_from (not (is_front primary n (packed_card (card_at header i)))) (not (is_table_card n (packed_card (card_at header i)))) (ap not (not_front i before behind)) (ap not (not_of_table i before behind))
