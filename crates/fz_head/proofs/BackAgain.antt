-- The header of an image comes back from its packed header.
use Rattle.std.proofs.Common.{◌≡◌, ℕ, ◌+◌, ◌<◌, ◌≤◌, Bool, true, false, cond, List, [], ◌∷◌, ◌++◌, map, sym, refl, ap, ◌∙◌, subst, arith, append-nil, zero-add}
use Rattle.std.specs.Prelude.{not, Some, is_some, unwrap_or, codes}
use Rattle.std.specs.Option.{option_to_list}
use Rattle.std.specs.List.{AllByRecursion, filter, find, flat_map, range_with_len}
use Rattle.std.proofs.lemmas.List.Elements.{filter-append}
use Rattle.std.proofs.lemmas.Bool.{and_right, both_ways}
use Rattle.std.proofs.lemmas.Slice.Eq.{bytes_eq-Decides}
use Rattle.fz_card.specs.Layout.{card_name, padded}
use Rattle.fz_card.specs.Made.{numbered_name}
use Rattle.fz_card.specs.Naming.{is_dropped, packed_name}
use Rattle.fz_card.specs.Reading.{integer_of}
use Rattle.fz_card.specs.CardLists.{has_name}
use Rattle.fz_card.specs.Laws.{CardLaws}
use Rattle.fz_block.specs.Cards.{card_at}
use Rattle.fz_block.specs.Hdus.{size_in, size_at}
use Rattle.fz_head.specs.PackedHeader.{packed_card, number_card, word_card}
use Rattle.fz_head.specs.PlainHeader.{axis_card, axis_count, count_cards, is_kept, is_front, is_table_card, leading_card, or_card, other_cards, plain_card, plain_header, restored_word, says_what, size_cards, was_primary}
use Rattle.fz_head.proofs.CardNames.{simple-pair, xtension-pair, bitpix-pair, naxis-pair, pcount-pair, gcount-pair, axis-pair}
use Rattle.fz_head.proofs.FrontCards.{Place, At_first, At_bitpix, At_naxis, At_axis, At_pcount, At_gcount, place, front_count, first_word}
use Rattle.fz_head.proofs.ImageCards.{IsImage, is_free, comes_back, same_name, front_apart, false_of, or_false, or_first, or_second}
use Rattle.fz_head.proofs.KeptCards.{not_simple, rest_kept, front_not_kept}
use Rattle.fz_head.specs.SumCards.{IsDroppedCard, AreDropped}
use Rattle.fz_head.proofs.Ranges.{map_same, kept_all, kept_none, dropped_all, found_first, found_later, found_here, found_none, split_range, flat_single, map-map-range, all-append, all-mapped, all-weaker}
use Rattle.fz_head.proofs.SingleCards.{integer_of-packed_card}

not-kept : (primary : Bool) (n : ℕ) (card : List ℕ) → IsDroppedCard card → is_kept primary n card ≡ false
not-kept primary n card is = and_right (not (is_front primary n card)) (not (is_table_card n card)) (ap not (or_first (is_dropped (card_name card)) _ is))

-- a packed header: made cards, those of the image, and the sums
abbrev pub whole : List ℕ → ℕ → List (List ℕ) → List (List ℕ) → List (List ℕ)
whole header last made sums = made ++ (map packed_card (map (card_at header) (range_with_len 0 last)) ++ sums)

-- the cards for counts that a packed header does not say
abbrev no_pcount : List ℕ
no_pcount = number_card (codes "PCOUNT") 0

abbrev no_gcount : List ℕ
no_gcount = number_card (codes "GCOUNT") 1

pub record IsPacked (header : List ℕ) (primary : Bool) (n last : ℕ) (made sums : List (List ℕ)) : Type 0 where
  pub image : IsImage header primary n last
  pub made_are : AreDropped made
  pub sums_are : AreDropped sums
  pub count : n ≡ size_at header 2
  pub more : ℕ
  pub enough : last ≡ 3 + (n + (cond primary 0 2 + more))

-- by the laws of cards
module _ (laws : CardLaws) where
  -- a card that is dropped has no name of an image in a packed header
  not-named : (a b card : List ℕ) → packed_name a ≡ Some b → IsDroppedCard card → has_name b card ≡ false
  not-named a b card e is =
      false_of (has_name b card) (λ t. both_ways (is_dropped b) (laws.names.renamed_kept a b e) (ap is_dropped (sym ((bytes_eq-Decides (card_name card) b).0 t)) ∙ is))

  module _ (header : List ℕ) (primary : Bool) (n last : ℕ) (made sums : List (List ℕ)) (is : IsPacked header primary n last made sums) where
    -- the first card of the image that has a property, where no made card has it
    found : (has : List ℕ → Bool) (k : ℕ) → AllByRecursion (λ card. has card ≡ false) made → k < last → has (packed_card (card_at header k)) ≡ true →
        ((i : ℕ) → i < k → has (packed_card (card_at header i)) ≡ false) → find has (whole header last made sums) ≡ Some (packed_card (card_at header k))
    found has k none before here earlier =
        let cards = map packed_card (map (card_at header) (range_with_len 0 last)) in
        let first : find has cards ≡ Some (packed_card (card_at header k)) =
        ap (find has) (map-map-range packed_card (card_at header) 0 last) ∙ found_first has (λ i. packed_card (card_at header i)) 0 last k (omega arith) (omega arith) here (λ i low less. earlier i less) in
        found_later has made (cards ++ sums) none ∙ found_here has cards sums (packed_card (card_at header k)) first

    -- a mandatory card by its name
    pub found_named : (a b : List ℕ) (k : ℕ) → packed_name a ≡ Some b → k < last → Place primary n k → card_name (card_at header k) ≡ a →
        find (has_name b) (whole header last made sums) ≡ Some (packed_card (card_at header k))
    found_named a b k e before at name =
        found (has_name b) k (all-weaker IsDroppedCard (λ card. has_name b card ≡ false) made (λ card d. not-named a b card e d) is.made_are) before
        (same_name laws header primary n last is.image k a b before e ∙ (bytes_eq-Decides (card_name (card_at header k)) a).1 name)
        (λ i less. same_name laws header primary n last is.image i a b (omega arith) e
        ∙ false_of (has_name a (card_at header i)) (λ t. front_apart laws header primary n last is.image i k less before at ((bytes_eq-Decides (card_name (card_at header i)) a).0 t ∙ sym name)))

    restored : (a b : List ℕ) (k : ℕ) → packed_name a ≡ Some b → k < last → Place primary n k → card_name (card_at header k) ≡ a →
        map plain_card (option_to_list (find (has_name b) (whole header last made sums))) ≡ card_at header k ∷ []
    restored a b k e before at name =
        ap (λ o. map plain_card (option_to_list o)) (found_named a b k e before at name) ∙ ap (λ card. card ∷ []) (comes_back laws header primary n last is.image k before)

    -- what the image is
    leading-made : AllByRecursion (λ card. says_what card ≡ false) made
    leading-made =
        all-weaker IsDroppedCard (λ card. says_what card ≡ false) made
        (λ card d. or_false (has_name (padded (codes "ZSIMPLE")) card) (has_name (padded (codes "ZTENSION")) card)
        (not-named (padded (codes "SIMPLE")) (padded (codes "ZSIMPLE")) card simple-pair d) (not-named (padded (codes "XTENSION")) (padded (codes "ZTENSION")) card xtension-pair d))
        is.made_are

    leads : (b : Bool) → primary ≡ b → says_what (packed_card (card_at header 0)) ≡ true
    leads true p =
        or_first (has_name (padded (codes "ZSIMPLE")) (packed_card (card_at header 0))) (has_name (padded (codes "ZTENSION")) (packed_card (card_at header 0)))
        (same_name laws header primary n last is.image 0 (padded (codes "SIMPLE")) (padded (codes "ZSIMPLE")) (omega (arith, is.enough)) simple-pair
        ∙ (bytes_eq-Decides (card_name (card_at header 0)) (padded (codes "SIMPLE"))).1 (is.image.front.first ∙ ap first_word p))
    leads false p =
        or_second (has_name (padded (codes "ZSIMPLE")) (packed_card (card_at header 0))) (has_name (padded (codes "ZTENSION")) (packed_card (card_at header 0)))
        (same_name laws header primary n last is.image 0 (padded (codes "XTENSION")) (padded (codes "ZTENSION")) (omega (arith, is.enough)) xtension-pair
        ∙ (bytes_eq-Decides (card_name (card_at header 0)) (padded (codes "XTENSION"))).1 (is.image.front.first ∙ ap first_word p))

    leading-is : leading_card (whole header last made sums) ≡ card_at header 0 ∷ []
    leading-is =
        ap (λ o. or_card (word_card (codes "XTENSION") (codes "IMAGE")) (map plain_card (option_to_list o))) (found says_what 0 leading-made (omega (arith, is.enough)) (leads primary refl) (λ i less. absurd (omega arith)))
        ∙ ap (λ card. card ∷ []) (comes_back laws header primary n last is.image 0 (omega (arith, is.enough)))

    -- BITPIX and NAXIS
    size-is : size_cards (whole header last made sums) ≡ card_at header 1 ∷ card_at header 2 ∷ []
    size-is =
        ap (λ l. l ++ restored_word (codes "ZNAXIS") (whole header last made sums)) (restored (padded (codes "BITPIX")) (padded (codes "ZBITPIX")) 1 bitpix-pair (omega (arith, is.enough)) (At_bitpix refl) is.image.front.bitpix)
        ∙ ap (λ l. card_at header 1 ∷ l) (restored (padded (codes "NAXIS")) (padded (codes "ZNAXIS")) 2 naxis-pair (omega (arith, is.enough)) (At_naxis refl) is.image.front.naxis)

    -- the axes
    axis-is : (i : ℕ) → i < n → axis_card (whole header last made sums) (1 + i) ≡ card_at header (3 + i) ∷ []
    axis-is i below =
        let few : 1 + i ≤ 9 = omega (arith, is.image.front.few) in
        let place : 2 + (1 + i) ≡ 3 + i = omega arith in
        restored (numbered_name (codes "NAXIS") (1 + i)) (numbered_name (codes "ZNAXIS") (1 + i)) (2 + (1 + i)) (axis-pair laws (1 + i) (omega arith) few) (omega (arith, is.enough)) (At_axis (1 + i) (omega arith) (omega arith) refl) (is.image.front.axis (1 + i) (omega arith) (omega arith))
        ∙ ap (λ k. card_at header k ∷ []) place

    axes-are : flat_map (axis_card (whole header last made sums)) (range_with_len 1 n) ≡ map (card_at header) (range_with_len 3 n)
    axes-are = flat_single (axis_card (whole header last made sums)) (card_at header) 1 3 n axis-is

    pub count-is : axis_count (whole header last made sums) ≡ n
    count-is =
        let before : 2 < last = omega (arith, is.enough) in
        ap (λ o. size_in (integer_of (unwrap_or o []))) (found_named (padded (codes "NAXIS")) (padded (codes "ZNAXIS")) 2 naxis-pair before (At_naxis refl) is.image.front.naxis)
        ∙ (ap size_in (integer_of-packed_card laws (card_at header 2) (is_free laws header primary n last is.image 2 before).eight) ∙ sym is.count)

    -- whether it was a primary
    pub primary-is : (b : Bool) → primary ≡ b → was_primary (whole header last made sums) ≡ b
    primary-is true p = ap is_some (found_named (padded (codes "SIMPLE")) (padded (codes "ZSIMPLE")) 0 simple-pair (omega (arith, is.enough)) (At_first refl) (is.image.front.first ∙ ap first_word p))
    primary-is false p =
        let has = has_name (padded (codes "ZSIMPLE")) in
        let cards = map packed_card (map (card_at header) (range_with_len 0 last)) in
        let none : AllByRecursion (λ card. has card ≡ false) (made ++ (cards ++ sums)) =
        all-append (λ card. has card ≡ false) made (cards ++ sums)
        (all-weaker IsDroppedCard (λ card. has card ≡ false) made (λ card d. not-named (padded (codes "SIMPLE")) (padded (codes "ZSIMPLE")) card simple-pair d) is.made_are)
        (all-append (λ card. has card ≡ false) cards sums
        (subst (AllByRecursion (λ card. has card ≡ false)) (sym (map-map-range packed_card (card_at header) 0 last))
        (all-mapped (λ card. has card ≡ false) (λ i. packed_card (card_at header i)) 0 last (λ i low high.
        same_name laws header primary n last is.image i (padded (codes "SIMPLE")) (padded (codes "ZSIMPLE")) (omega arith) simple-pair
        ∙ false_of (has_name (padded (codes "SIMPLE")) (card_at header i)) (λ t. not_simple laws header primary n last is.image p i (omega arith) ((bytes_eq-Decides (card_name (card_at header i)) (padded (codes "SIMPLE"))).0 t)))))
        (all-weaker IsDroppedCard (λ card. has card ≡ false) sums (λ card d. not-named (padded (codes "SIMPLE")) (padded (codes "ZSIMPLE")) card simple-pair d) is.sums_are)) in
        ap is_some (found_none has (made ++ (cards ++ sums)) none)

    -- PCOUNT and GCOUNT of an extension
    counts-are : (b : Bool) → primary ≡ b → count_cards (whole header last made sums) ≡ map (card_at header) (range_with_len (3 + n) (cond b 0 2))
    counts-are true p = ap (λ t. cond t [] (or_card no_pcount (restored_word (codes "ZPCOUNT") (whole header last made sums)) ++ or_card no_gcount (restored_word (codes "ZGCOUNT") (whole header last made sums)))) (primary-is true p)
    counts-are false p =
        let room : last ≡ 5 + (n + is.more) = is.enough ∙ (ap (λ b. 3 + (n + (cond b 0 2 + is.more))) p ∙ omega arith) in
        let next : 4 + n ≡ 3 + n + 1 = omega arith in
        ap (λ t. cond t [] (or_card no_pcount (restored_word (codes "ZPCOUNT") (whole header last made sums)) ++ or_card no_gcount (restored_word (codes "ZGCOUNT") (whole header last made sums)))) (primary-is false p)
        ∙ (ap (λ l. or_card no_pcount l ++ or_card no_gcount (restored_word (codes "ZGCOUNT") (whole header last made sums))) (restored (padded (codes "PCOUNT")) (padded (codes "ZPCOUNT")) (3 + n) pcount-pair (omega arith) (At_pcount p refl) (is.image.front.pcount p))
        ∙ (ap (λ l. card_at header (3 + n) ∷ or_card no_gcount l) (restored (padded (codes "GCOUNT")) (padded (codes "ZGCOUNT")) (4 + n) gcount-pair (omega arith) (At_gcount p refl) (is.image.front.gcount p))
        ∙ ap (λ k. card_at header (3 + n) ∷ card_at header k ∷ []) next))

    -- the other cards
    cards-kept : filter (is_kept primary n) (map packed_card (map (card_at header) (range_with_len 0 last))) ≡ map (λ i. packed_card (card_at header i)) (range_with_len (front_count primary n) is.more)
    cards-kept =
        let front : ℕ = front_count primary n in
        let all : last ≡ front + is.more = is.enough ∙ omega arith in
        let K : ℕ → List ℕ = λ i. packed_card (card_at header i) in
        ap (filter (is_kept primary n)) (map-map-range packed_card (card_at header) 0 last)
        ∙ (ap (λ k. filter (is_kept primary n) (map K (range_with_len 0 k))) all
        ∙ (ap (filter (is_kept primary n)) (split_range K 0 front is.more ∙ ap (λ k. map K (range_with_len 0 front) ++ map K (range_with_len k is.more)) (zero-add front))
        ∙ (filter-append (is_kept primary n) (map K (range_with_len 0 front)) (map K (range_with_len front is.more))
        ∙ (ap (λ l. l ++ filter (is_kept primary n) (map K (range_with_len front is.more))) (kept_none (is_kept primary n) K 0 front (λ i low high. front_not_kept laws header primary n last is.image i (omega arith) (place primary n i (omega arith))))
        ∙ kept_all (is_kept primary n) K front is.more (λ i low high. rest_kept laws header primary n last is.image i (omega arith) low)))))

    all-kept : filter (is_kept primary n) (whole header last made sums) ≡ map (λ i. packed_card (card_at header i)) (range_with_len (front_count primary n) is.more)
    all-kept =
        let keep = is_kept primary n in
        let cards = map packed_card (map (card_at header) (range_with_len 0 last)) in
        filter-append keep made (cards ++ sums)
        ∙ (ap (λ l. l ++ filter keep (cards ++ sums)) (dropped_all keep made (all-weaker IsDroppedCard (λ card. keep card ≡ false) made (λ card d. not-kept primary n card d) is.made_are))
        ∙ (filter-append keep cards sums
        ∙ (ap (λ l. filter keep cards ++ l) (dropped_all keep sums (all-weaker IsDroppedCard (λ card. keep card ≡ false) sums (λ card d. not-kept primary n card d) is.sums_are))
        ∙ (append-nil (filter keep cards) ∙ cards-kept))))

    others-are : other_cards (whole header last made sums) ≡ map (card_at header) (range_with_len (front_count primary n) is.more)
    others-are =
        ap (λ b. map plain_card (filter (is_kept b (axis_count (whole header last made sums))) (whole header last made sums))) (primary-is primary refl)
        ∙ (ap (λ k. map plain_card (filter (is_kept primary k) (whole header last made sums))) count-is
        ∙ (ap (map plain_card) all-kept
        ∙ (map-map-range plain_card (λ i. packed_card (card_at header i)) (front_count primary n) is.more
        ∙ map_same (λ i. plain_card (packed_card (card_at header i))) (card_at header) (front_count primary n) is.more (λ i low high. comes_back laws header primary n last is.image i (omega (arith, is.enough))))))

    -- all of them
    parts : map (card_at header) (range_with_len 0 last) ≡
        (card_at header 0 ∷ []) ++ ((card_at header 1 ∷ card_at header 2 ∷ []) ++ (map (card_at header) (range_with_len 3 n) ++ (map (card_at header) (range_with_len (3 + n) (cond primary 0 2)) ++ map (card_at header) (range_with_len (front_count primary n) is.more))))
    parts =
        let C : ℕ → List ℕ = card_at header in
        ap (λ k. map C (range_with_len 0 k)) is.enough
        ∙ (split_range C 0 3 (n + (cond primary 0 2 + is.more))
        ∙ ap (λ l. C 0 ∷ C 1 ∷ C 2 ∷ l) (split_range C 3 n (cond primary 0 2 + is.more)
        ∙ ap (λ l. map C (range_with_len 3 n) ++ l) (split_range C (3 + n) (cond primary 0 2) is.more)))

    pub back_again : plain_header (whole header last made sums) ≡ map (card_at header) (range_with_len 0 last)
    unfolding plain_header
    back_again =
        let P = whole header last made sums in
        let axes = flat_map (axis_card P) (range_with_len 1 (axis_count P)) in
        ap (λ l. l ++ (size_cards P ++ (axes ++ (count_cards P ++ other_cards P)))) leading-is
        ∙ (ap (λ l. (card_at header 0 ∷ []) ++ (l ++ (axes ++ (count_cards P ++ other_cards P)))) size-is
        ∙ (ap (λ l. (card_at header 0 ∷ []) ++ ((card_at header 1 ∷ card_at header 2 ∷ []) ++ (l ++ (count_cards P ++ other_cards P)))) (ap (λ k. flat_map (axis_card P) (range_with_len 1 k)) count-is ∙ axes-are)
        ∙ (ap (λ l. (card_at header 0 ∷ []) ++ ((card_at header 1 ∷ card_at header 2 ∷ []) ++ (map (card_at header) (range_with_len 3 n) ++ (l ++ other_cards P)))) (counts-are primary refl)
        ∙ (ap (λ l. (card_at header 0 ∷ []) ++ ((card_at header 1 ∷ card_at header 2 ∷ []) ++ (map (card_at header) (range_with_len 3 n) ++ (map (card_at header) (range_with_len (3 + n) (cond primary 0 2)) ++ l)))) others-are
        ∙ sym parts))))
