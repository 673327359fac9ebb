-- Cards of headers that are made have 80 bytes, and none of them is END.
use Rattle.std.proofs.Common.{◌≡◌, ℕ, zero, suc, ◌+◌, ◌-◌, ◌*◌, ◌/◌, ◌<◌, ◌≤◌, ◌^◌, Bool, true, false, cond, List, [], ◌∷◌, ◌++◌, length, take, drop, map, refl, ap, sym, ◌∙◌, subst, arith, inl, inr, append_assoc}
use Rattle.std.specs.Prelude.{pos, not, Option, Some, None, unwrap_or, codes, slice_index, bytes_eq}
use Rattle.std.specs.Option.{option_map, option_to_list}
use Rattle.std.specs.List.{AllByRecursion, filter, find, flat_map, range_with_len}
use Rattle.std.proofs.lemmas.Bool.{both_ways}
use Rattle.std.proofs.lemmas.List.{drop-drop, drop_at, length-append, length-drop, length-take-le, take_at}
use Rattle.std.proofs.lemmas.Slice.Eq.{bytes_eq-Decides}
use Rattle.fz_card.specs.Layout.{blanks, card_name, padded}
use Rattle.fz_card.specs.Made.{int_card_bytes, logical_card_bytes, text_card_bytes, numbered_name}
use Rattle.fz_card.specs.Naming.{is_dropped, is_in_some, number_behind, packed_name, plain_name}
use Rattle.fz_card.specs.Tables.{IsRenamed, own_names, packed_names, renamings}
use Rattle.fz_card.specs.CardLists.{first_of_name, has_name}
use Rattle.fz_card.specs.Laws.{CardLaws}
use Rattle.fz_block.specs.Cards.{card_at, end_among, is_named}
use Rattle.fz_block.specs.Header.{whole_blocks_of}
use Rattle.fz_block.specs.Hdus.{IsHeader, cards_of, header_bytes}
use Rattle.fz_grid.specs.declared.region.Region.{Region}
use Rattle.fz_sum.specs.Cards.{with_card}
use Rattle.fz_head.specs.PackedHeader.{packed_card, flag_card, number_card, numbered_number_card, word_card}
use Rattle.fz_head.specs.PlainHeader.{axis_card, axis_count, count_cards, cutout_header, is_kept, leading_card, or_card, other_cards, part_cards_of, plain_card, plain_header, restored_word, says_what, size_cards, was_primary, whole_names}
use Rattle.fz_head.specs.SumCards.{IsDroppedCard, IsSumCard}
use Rattle.fz_head.proofs.WholeCards.{IsWholeCard, AreWholeCards}
use Rattle.fz_head.proofs.CardNames.{renamed-length}
use Rattle.fz_head.proofs.FrontCards.{HasEnd, eighty, has_end}
use Rattle.fz_head.proofs.Ranges.{all-append, all-mapped, Between}

-- END is no name of a table, and none that is renamed
end-kept : is_dropped (padded (codes "END")) ≡ false
unfolding is_dropped own_names packed_names number_behind
end-kept = refl

end-not-packed : packed_name (padded (codes "END")) ≡ None
unfolding packed_name renamings number_behind
end-not-packed = refl

end-not-plain : plain_name (padded (codes "END")) ≡ None
unfolding plain_name renamings number_behind
end-not-plain = refl

dropped-open : (card : List ℕ) → IsDroppedCard card → ¬ (card_name card ≡ padded (codes "END"))
dropped-open card dropped e = both_ways (is_dropped (padded (codes "END"))) end-kept (ap is_dropped (sym e) ∙ dropped)

pub sum-whole : (card : List ℕ) → IsSumCard card → IsWholeCard card
sum-whole card is = record {
  bytes = is.whole;
  no_end = λ e. elim is.named [
    | inl datasum ↦ let same : padded (codes "DATASUM") ≡ padded (codes "END") = sym datasum ∙ e in both_ways (bytes_eq (padded (codes "DATASUM")) (padded (codes "END"))) refl ((bytes_eq-Decides (padded (codes "DATASUM")) (padded (codes "END"))).1 same)
    | inr checksum ↦ let same : padded (codes "CHECKSUM") ≡ padded (codes "END") = sym checksum ∙ e in both_ways (bytes_eq (padded (codes "CHECKSUM")) (padded (codes "END"))) refl ((bytes_eq-Decides (padded (codes "CHECKSUM")) (padded (codes "END"))).1 same)
  ];
}

-- no card before the first END is END
pub end-first : (count : ℕ) (cards : List ℕ) (last i : ℕ) → end_among count cards ≡ Some last → i < last → is_named (codes "END") (card_at cards i) ≡ false
unfolding end_among
end-first zero cards last i e less = cc
end-first (suc n) cards last i e less = by_test (is_named (codes "END") (take 80 cards)) refl (end_among n (drop 80 cards)) refl e i less (λ m j f below. end-first n (drop 80 cards) m j f below)
  where
    by_test : (b : Bool) → is_named (codes "END") (take 80 cards) ≡ b → (o : Option ℕ) → end_among n (drop 80 cards) ≡ o → cond b (Some 0) (option_map suc o) ≡ Some last → (i : ℕ) → i < last →
        ((m j : ℕ) → end_among n (drop 80 cards) ≡ Some m → j < m → is_named (codes "END") (card_at (drop 80 cards) j) ≡ false) → is_named (codes "END") (card_at cards i) ≡ false
    by_test true t o f h i below rest = let none : 0 ≡ last = cc in absurd (omega arith)
    by_test false t None f h i below rest = cc
    by_test false t (Some m) f h zero below rest = t
    by_test false t (Some m) f h (suc j) below rest =
        let one : suc m ≡ last = cc in
        let place : 80 + 80 * j ≡ 80 * suc j = omega arith in
        let same : card_at (drop 80 cards) j ≡ card_at cards (suc j) = ap (take 80) (drop-drop (80 * j) 80 cards ∙ ap (λ k. drop k cards) place) in
        ap (is_named (codes "END")) (sym same) ∙ rest m j f (omega arith)

-- a card under another name
renamed-whole : (card name : List ℕ) → length card ≡ 80 → length name ≡ 8 → ¬ (name ≡ padded (codes "END")) → IsWholeCard (name ++ drop 8 card)
renamed-whole card name long eight other = record {
  bytes = length-append name (drop 8 card) ∙ omega (arith, length-drop 8 card);
  no_end = λ e. other (sym (take_at name (drop 8 card) 8 eight) ∙ e);
}

name-long : (card : List ℕ) → length card ≡ 80 → length (card_name card) ≡ 8
name-long card long = length-take-le 8 card (omega arith)

-- the cards of a header that was read
whole-from : (header : List ℕ) (last : ℕ) → HasEnd header last → AreWholeCards (map (card_at header) (range_with_len 0 last))
whole-from header last end =
    all-mapped IsWholeCard (card_at header) 0 last (λ i low high. record {
      bytes = eighty header last i end (omega arith);
      no_end = λ e. both_ways (is_named (codes "END") (card_at header i)) (end-first (length header / 80) header last i end.found (omega arith)) ((bytes_eq-Decides (card_name (card_at header i)) (padded (codes "END"))).1 e);
    })

pub cards-whole : (header : List ℕ) → IsHeader header → AreWholeCards (cards_of header)
cards-whole header is =
    let at = has_end header is.has in
    subst AreWholeCards (sym (ap (λ o. map (card_at header) (range_with_len 0 (unwrap_or o 0))) at.1.found)) (whole-from header at.0 at.1)

-- lists of such cards
module _ {X Y : Type 0} where
  pub all-map : (P : X → Type 0) (Q : Y → Type 0) (g : X → Y) (xs : List X) → ((x : X) → P x → Q (g x)) → AllByRecursion P xs → AllByRecursion Q (map g xs)
  all-map P Q g [] each all = tt
  all-map P Q g (x ∷ xs) each all = (each x all.0, all-map P Q g xs each all.1)

module _ {X : Type 0} (P : X → Type 0) where
  all-filter : (keep : X → Bool) (xs : List X) → AllByRecursion P xs → AllByRecursion P (filter keep xs)
  all-filter keep [] all = tt
  all-filter keep (x ∷ xs) all = by_test (keep x) (all-filter keep xs all.1)
    where
      by_test : (b : Bool) → AllByRecursion P (filter keep xs) → AllByRecursion P (cond b (x ∷ filter keep xs) (filter keep xs))
      by_test true rest = (all.0, rest)
      by_test false rest = rest

  all-found : (has : X → Bool) (xs : List X) → AllByRecursion P xs → AllByRecursion P (option_to_list (find has xs))
  all-found has [] all = tt
  all-found has (x ∷ xs) all = by_test (has x) (all-found has xs all.1)
    where
      by_test : (b : Bool) → AllByRecursion P (option_to_list (find has xs)) → AllByRecursion P (option_to_list (cond b (Some x) (find has xs)))
      by_test true rest = (all.0, tt)
      by_test false rest = rest

  all-flat : (f : ℕ → List X) (a n : ℕ) → Between a n (λ i. AllByRecursion P (f i)) → AllByRecursion P (flat_map f (range_with_len a n))
  all-flat f a zero each = tt
  all-flat f a (suc n) each = all-append P (f a) (flat_map f (range_with_len (a + 1) n)) (each a (omega arith) (omega arith)) (all-flat f (a + 1) n (λ i low high. each i (omega arith) (omega arith)))

or-whole : (card : List ℕ) (cards : List (List ℕ)) → IsWholeCard card → AreWholeCards cards → AreWholeCards (or_card card cards)
or-whole card [] is are = (is, tt)
or-whole card (c ∷ cs) is are = are

pub open-word : (name : List ℕ) → bytes_eq name (padded (codes "END")) ≡ false → ¬ (name ≡ padded (codes "END"))
open-word name other e = both_ways (bytes_eq name (padded (codes "END"))) other ((bytes_eq-Decides name (padded (codes "END"))).1 e)

-- a card in place of another of a header's bytes
flat-append : (xs ys : List (List ℕ)) → flat_map (λ c. c) (xs ++ ys) ≡ flat_map (λ c. c) xs ++ flat_map (λ c. c) ys
flat-append [] ys = refl
flat-append (x ∷ xs) ys = ap (λ l. x ++ l) (flat-append xs ys) ∙ sym (append_assoc x (flat_map (λ c. c) xs) (flat_map (λ c. c) ys))

flat-long : (xs : List (List ℕ)) → AreWholeCards xs → length (flat_map (λ c. c) xs) ≡ 80 * length xs
flat-long [] are = refl
flat-long (x ∷ xs) are = length-append x (flat_map (λ c. c) xs) ∙ omega (arith, are.0.bytes, flat-long xs are.1)

module _ (xs : List (List ℕ)) (a b : List ℕ) (ys : List (List ℕ)) (are : AreWholeCards xs) (is : length a ≡ 80) (other : length b ≡ 80) where
  abbrev F : List (List ℕ) → List ℕ
  F l = flat_map (λ c. c) l

  split : (c : List ℕ) (fill : List ℕ) → (F (xs ++ c ∷ ys) ++ codes "END") ++ fill ≡ F xs ++ (c ++ (F ys ++ (codes "END" ++ fill)))
  split c fill =
      append_assoc (F (xs ++ c ∷ ys)) (codes "END") fill
      ∙ (ap (λ l. l ++ (codes "END" ++ fill)) (flat-append xs (c ∷ ys))
      ∙ (append_assoc (F xs) (c ++ F ys) (codes "END" ++ fill) ∙ ap (λ l. F xs ++ l) (append_assoc c (F ys) (codes "END" ++ fill))))

  same-count : length (xs ++ a ∷ ys) ≡ length (xs ++ b ∷ ys)
  same-count = length-append xs (a ∷ ys) ∙ sym (length-append xs (b ∷ ys))

  same-text : length (F (xs ++ a ∷ ys) ++ codes "END") ≡ length (F (xs ++ b ∷ ys) ++ codes "END")
  same-text =
      omega (
        arith,
        length-append (F (xs ++ a ∷ ys)) (codes "END"),
        length-append (F (xs ++ b ∷ ys)) (codes "END"),
        ap length (flat-append xs (a ∷ ys)),
        ap length (flat-append xs (b ∷ ys)),
        length-append (F xs) (a ++ F ys),
        length-append (F xs) (b ++ F ys),
        length-append a (F ys),
        length-append b (F ys),
      )

  pub replaced : with_card (length xs) b (header_bytes (xs ++ a ∷ ys)) ≡ header_bytes (xs ++ b ∷ ys)
  replaced =
      let size : ℕ = whole_blocks_of (80 * (length (xs ++ a ∷ ys) + 1)) in
      let fill : List ℕ = blanks (size - length (F (xs ++ a ∷ ys) ++ codes "END")) in
      let rest : List ℕ = F ys ++ (codes "END" ++ fill) in
      let long : length (F xs) ≡ 80 * length xs = flat-long xs are in
      let bytes : header_bytes (xs ++ a ∷ ys) ≡ F xs ++ (a ++ rest) = split a fill in
      let front : take (80 * length xs) (F xs ++ (a ++ rest)) ≡ F xs = take_at (F xs) (a ++ rest) (80 * length xs) long in
      let place : 80 * (length xs + 1) ≡ 80 + 80 * length xs = omega arith in
      let behind : drop (80 * (length xs + 1)) (F xs ++ (a ++ rest)) ≡ rest =
      ap (λ k. drop k (F xs ++ (a ++ rest))) (omega arith)
      ∙ (sym (drop-drop 80 (80 * length xs) (F xs ++ (a ++ rest))) ∙ (ap (drop 80) (drop_at (F xs) (a ++ rest) (80 * length xs) long) ∙ drop_at a rest 80 is)) in
      ap (with_card (length xs) b) bytes
      ∙ (ap (λ l. l ++ (b ++ drop (80 * (length xs + 1)) (F xs ++ (a ++ rest)))) front
      ∙ (ap (λ l. F xs ++ (b ++ l)) behind
      ∙ (sym (split b fill)
      ∙ (λ i. (F (xs ++ b ∷ ys) ++ codes "END") ++ blanks (whole_blocks_of (80 * (same-count i + 1)) - same-text i)))))

-- by the laws of cards
module _ (laws : CardLaws) where
  packed-name-by : (name : List ℕ) (found : Option (List ℕ)) → packed_name name ≡ found → length name ≡ 8 → ¬ (name ≡ padded (codes "END")) → (length (unwrap_or found name) ≡ 8) × ¬ (unwrap_or found name ≡ padded (codes "END"))
  packed-name-by name None e eight other = (eight, other)
  packed-name-by name (Some b) e eight other = (
    renamed-length laws name b (laws.names.packed_renamed name b e),
    λ same. let none : plain_name b ≡ None = ap plain_name same ∙ end-not-plain in let some = laws.names.packed_back name b e in cc,
  )

  -- a name of an image that has another in a packed header has 8 bytes
  plain-length : (a b : List ℕ) → IsRenamed a b → length a ≡ 8
  unfolding IsRenamed renamings
  plain-length a b (inl h) = ap length h.0
  plain-length a b (inr (inl h)) = ap length h.0
  plain-length a b (inr (inr (inl h))) = ap length h.0
  plain-length a b (inr (inr (inr (inl h)))) = ap length h.0
  plain-length a b (inr (inr (inr (inr (inl h))))) = ap length h.0
  plain-length a b (inr (inr (inr (inr (inr (inl h)))))) = ap length h.0
  plain-length a b (inr (inr (inr (inr (inr (inr (inl h))))))) = ap length h.0
  plain-length a b (inr (inr (inr (inr (inr (inr (inr (inl h)))))))) = ap length h.0
  plain-length a b (inr (inr (inr (inr (inr (inr (inr (inr (inl h))))))))) = ap length h.0
  plain-length a b (inr (inr (inr (inr (inr (inr (inr (inr (inr (inl h)))))))))) = ap length h.0
  plain-length a b (inr (inr (inr (inr (inr (inr (inr (inr (inr (inr (inl h))))))))))) =
      ap length h.plain_made ∙ laws.numbers.eight_bytes (codes "NAXIS") h.number (omega arith, omega (arith, h.high))
  plain-length a b (inr (inr (inr (inr (inr (inr (inr (inr (inr (inr (inr h))))))))))) = absurd h

  plain-name-by : (name : List ℕ) (found : Option (List ℕ)) → plain_name name ≡ found → length name ≡ 8 → ¬ (name ≡ padded (codes "END")) → (length (unwrap_or found name) ≡ 8) × ¬ (unwrap_or found name ≡ padded (codes "END"))
  plain-name-by name None e eight other = (eight, other)
  plain-name-by name (Some a) e eight other = (
    plain-length a name (laws.names.plain_renamed a name e),
    λ same. let none : packed_name a ≡ None = ap packed_name same ∙ end-not-packed in let some = laws.names.plain_back a name e in cc,
  )

  pub packed-whole : (card : List ℕ) → IsWholeCard card → IsWholeCard (packed_card card)
  packed-whole card is =
      let name = packed-name-by (card_name card) (packed_name (card_name card)) refl (name-long card is.bytes) is.no_end in
      renamed-whole card (unwrap_or (packed_name (card_name card)) (card_name card)) is.bytes name.0 name.1

  pub plain-whole : (card : List ℕ) → IsWholeCard card → IsWholeCard (plain_card card)
  plain-whole card is =
      let name = plain-name-by (card_name card) (plain_name (card_name card)) refl (name-long card is.bytes) is.no_end in
      renamed-whole card (unwrap_or (plain_name (card_name card)) (card_name card)) is.bytes name.0 name.1

  pub number-whole : (name : List ℕ) (v : ℕ) → length name ≡ 8 → v < 10 ^ 18 → ¬ (name ≡ padded (codes "END")) → IsWholeCard (int_card_bytes name (pos v))
  number-whole name v eight short other = record { bytes = laws.made.integer_length name (pos v) eight short; no_end = λ e. other (sym (laws.made.integer_name name (pos v) eight) ∙ e) }

  pub flag-whole : (name : List ℕ) (b : Bool) → length name ≡ 8 → ¬ (name ≡ padded (codes "END")) → IsWholeCard (logical_card_bytes name b)
  flag-whole name b eight other = record { bytes = laws.made.logical_length name b eight; no_end = λ e. other (sym (laws.made.logical_name name b eight) ∙ e) }

  pub text-whole : (name text : List ℕ) → length name ≡ 8 → length text ≤ 68 → ¬ (name ≡ padded (codes "END")) → IsWholeCard (text_card_bytes name text)
  text-whole name text eight short other = record { bytes = laws.made.text_length name text eight short; no_end = λ e. other (sym (laws.made.text_name name text eight) ∙ e) }

  -- the header of the image, and of a part of it
  module _ (cards : List (List ℕ)) (are : AreWholeCards cards) where
    named-whole : (name : List ℕ) → AreWholeCards (map plain_card (option_to_list (first_of_name name cards)))
    named-whole name = all-map IsWholeCard IsWholeCard plain_card (option_to_list (first_of_name name cards)) plain-whole (all-found IsWholeCard (has_name name) cards are)

    size-whole : AreWholeCards (size_cards cards)
    size-whole = all-append IsWholeCard (restored_word (codes "ZBITPIX") cards) (restored_word (codes "ZNAXIS") cards) (named-whole (padded (codes "ZBITPIX"))) (named-whole (padded (codes "ZNAXIS")))

    leading-whole : AreWholeCards (leading_card cards)
    leading-whole =
        or-whole (word_card (codes "XTENSION") (codes "IMAGE")) (map plain_card (option_to_list (find says_what cards)))
        (text-whole (padded (codes "XTENSION")) (codes "IMAGE") refl (omega arith) (open-word (padded (codes "XTENSION")) refl))
        (all-map IsWholeCard IsWholeCard plain_card (option_to_list (find says_what cards)) plain-whole (all-found IsWholeCard says_what cards are))

    counts-whole : (b : Bool) → AreWholeCards (cond b [] (or_card (number_card (codes "PCOUNT") 0) (restored_word (codes "ZPCOUNT") cards) ++ or_card (number_card (codes "GCOUNT") 1) (restored_word (codes "ZGCOUNT") cards)))
    counts-whole true = tt
    counts-whole false =
        all-append IsWholeCard (or_card (number_card (codes "PCOUNT") 0) (restored_word (codes "ZPCOUNT") cards)) (or_card (number_card (codes "GCOUNT") 1) (restored_word (codes "ZGCOUNT") cards))
        (or-whole (number_card (codes "PCOUNT") 0) (restored_word (codes "ZPCOUNT") cards) (number-whole (padded (codes "PCOUNT")) 0 refl (omega arith) (open-word (padded (codes "PCOUNT")) refl)) (named-whole (padded (codes "ZPCOUNT"))))
        (or-whole (number_card (codes "GCOUNT") 1) (restored_word (codes "ZGCOUNT") cards) (number-whole (padded (codes "GCOUNT")) 1 refl (omega arith) (open-word (padded (codes "GCOUNT")) refl)) (named-whole (padded (codes "ZGCOUNT"))))

    kept-whole : (keep : List ℕ → Bool) → AreWholeCards (map plain_card (filter keep cards))
    kept-whole keep = all-map IsWholeCard IsWholeCard plain_card (filter keep cards) plain-whole (all-filter IsWholeCard keep cards are)

    pub plain-cards : AreWholeCards (plain_header cards)
    unfolding plain_header
    plain-cards =
        all-append IsWholeCard (leading_card cards) (size_cards cards ++ (flat_map (axis_card cards) (range_with_len 1 (axis_count cards)) ++ (count_cards cards ++ other_cards cards))) leading-whole
        (all-append IsWholeCard (size_cards cards) (flat_map (axis_card cards) (range_with_len 1 (axis_count cards)) ++ (count_cards cards ++ other_cards cards)) size-whole
        (all-append IsWholeCard (flat_map (axis_card cards) (range_with_len 1 (axis_count cards))) (count_cards cards ++ other_cards cards)
        (all-flat IsWholeCard (axis_card cards) 1 (axis_count cards) (λ i low high. named-whole (numbered_name (codes "ZNAXIS") i)))
        (all-append IsWholeCard (count_cards cards) (other_cards cards) (counts-whole (was_primary cards)) (kept-whole (is_kept (was_primary cards) (axis_count cards))))))

    axis-open : (i : ℕ) → bytes_eq (numbered_name (codes "NAXIS") i) (padded (codes "END")) ≡ false
    unfolding numbered_name
    axis-open i = refl

    pub cutout-cards : (region : Region) → region.n ≤ 9 → ((i : ℕ) → i < region.n → slice_index region.len i < 10 ^ 18) → AreWholeCards (cutout_header cards region)
    unfolding cutout_header
    cutout-cards region few short =
        let axis = λ (i : ℕ). numbered_number_card (codes "NAXIS") i (slice_index region.len (i - 1)) in
        let part = part_cards_of (was_primary cards) (axis_count cards) cards in
        all-append IsWholeCard (or_card (flag_card (codes "SIMPLE")) (restored_word (codes "ZSIMPLE") cards)) (size_cards cards ++ (map axis (range_with_len 1 region.n) ++ part))
        (or-whole (flag_card (codes "SIMPLE")) (restored_word (codes "ZSIMPLE") cards) (flag-whole (padded (codes "SIMPLE")) true refl (open-word (padded (codes "SIMPLE")) refl)) (named-whole (padded (codes "ZSIMPLE"))))
        (all-append IsWholeCard (size_cards cards) (map axis (range_with_len 1 region.n) ++ part) size-whole
        (all-append IsWholeCard (map axis (range_with_len 1 region.n)) part
        (all-mapped IsWholeCard axis 1 region.n (λ i low high.
        number-whole (numbered_name (codes "NAXIS") i) (slice_index region.len (i - 1)) (laws.numbers.eight_bytes (codes "NAXIS") i (omega arith, omega arith)) (short (i - 1) (omega arith)) (open-word (numbered_name (codes "NAXIS") i) (axis-open i))))
        (all-filter IsWholeCard (λ card. not (is_in_some whole_names (card_name card))) (map plain_card (filter (is_kept (was_primary cards) (axis_count cards)) cards)) (kept-whole (is_kept (was_primary cards) (axis_count cards))))))
