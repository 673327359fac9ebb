-- The headers of the image that a packed header stands for, and of a part of it, have no more cards than it.
use Rattle.std.proofs.Common.{◌≡◌, ℕ, zero, suc, ◌+◌, ◌-◌, ◌≤◌, Bool, true, false, cond, List, [], ◌∷◌, ◌++◌, length, map, refl, ap, sym, ◌∙◌, arith}
use Rattle.std.specs.Prelude.{not, ◌&&◌, ◌||◌, Option, Some, None, is_none, codes, slice_index, bytes_eq}
use Rattle.std.specs.Fmt.{digits}
use Rattle.std.specs.Option.{option_map, option_to_list}
use Rattle.std.specs.List.{filter, find, flat_map, list_all, position, range_with_len}
use Rattle.std.proofs.lemmas.Bool.{and_parts, both_ways, not-true}
use Rattle.std.proofs.lemmas.List.{length-append, length-map}
use Rattle.std.proofs.lemmas.List.FromFn.{length-map-range_with_len}
use Rattle.std.proofs.lemmas.Slice.Eq.{bytes_eq-Decides}
use Rattle.fz_card.specs.Layout.{card_name, padded}
use Rattle.fz_card.specs.Made.{numbered_name}
use Rattle.fz_card.specs.Naming.{is_dropped, is_in, is_in_some, number_behind}
use Rattle.fz_card.specs.Tables.{own_names, packed_names}
use Rattle.fz_card.specs.Tables.Names.{Numbered}
use Rattle.fz_card.specs.CardLists.{first_of_name, has_name}
use Rattle.fz_card.specs.Reading.{has_text}
use Rattle.fz_block.specs.Cards.{is_named}
use Rattle.fz_grid.specs.declared.region.Region.{Region}
use Rattle.fz_head.specs.PackedHeader.{flag_card, number_card, numbered_number_card, word_card}
use Rattle.fz_head.specs.PlainHeader.{axis_card, axis_count, count_cards, count_cards_of, count_names, cutout_header, is_kept, leading_card, or_card, other_cards, part_cards_of, plain_card, plain_header, restored_word, says_what, size_cards, was_primary, whole_names}
use Rattle.fz_head.proofs.Ranges.{Between}
use Rattle.fz_head.proofs.SaidCards.{position-step}

-- Names of cards that do not come back in their places: those of the table alone, and those at the front of the image's header.
abbrev is-own : List ℕ → Bool
is-own name = is_dropped name || (bytes_eq name (padded (codes "ZBITPIX")) || (bytes_eq name (padded (codes "ZNAXIS")) || is_in (Numbered (codes "ZNAXIS") 99) name))

own-by : (s t b x q w d v e : Bool) → (d || (b || (x || v))) ≡ true → (not ((s || (t || (b || (x || (q || false))))) || w) && not (d || ((v && not q) || e))) ≡ false
own-by true t b x q w d v e h = refl
own-by false true b x q w d v e h = refl
own-by false false true x q w d v e h = refl
own-by false false false true q w d v e h = refl
own-by false false false false true w d v e h = refl
own-by false false false false false true d v e h = refl
own-by false false false false false false true v e h = refl
own-by false false false false false false false true e h = refl
own-by false false false false false false false false e h = cc

own-stays : (primary : Bool) (n : ℕ) (card : List ℕ) → is-own (card_name card) ≡ true → is_kept primary n card ≡ false
own-stays primary n card own =
    let name : List ℕ = card_name card in
    own-by (bytes_eq name (padded (codes "ZSIMPLE"))) (bytes_eq name (padded (codes "ZTENSION"))) (bytes_eq name (padded (codes "ZBITPIX"))) (bytes_eq name (padded (codes "ZNAXIS")))
    (is_in (Numbered (codes "ZNAXIS") n) name) (not primary && is_in_some count_names name) (is_dropped name) (is_in (Numbered (codes "ZNAXIS") 99) name)
    (is_named (codes "EXTNAME") card && has_text (codes "COMPRESSED_IMAGE") card) own

-- how many of the names the card has
abbrev hits : List (List ℕ) → List ℕ → ℕ
hits [] card = 0
hits (name ∷ names) card = cond (has_name name card) 1 0 + hits names card

-- how many of the names some card has
abbrev founds : List (List ℕ) → List (List ℕ) → ℕ
founds [] cards = 0
founds (name ∷ names) cards = length (option_to_list (first_of_name name cards)) + founds names cards

founds-nothing : (names : List (List ℕ)) → founds names [] ≡ 0
founds-nothing [] = refl
founds-nothing (name ∷ names) = omega (arith, founds-nothing names)

found-more : (name card : List ℕ) (cards : List (List ℕ)) → length (option_to_list (first_of_name name (card ∷ cards))) ≤ cond (has_name name card) 1 0 + length (option_to_list (first_of_name name cards))
found-more name card cards = by_test (has_name name card)
  where
    by_test : (b : Bool) → length (option_to_list (cond b (Some card) (find (has_name name) cards))) ≤ cond b 1 0 + length (option_to_list (find (has_name name) cards))
    by_test true = omega arith
    by_test false = omega arith

founds-more : (names : List (List ℕ)) (card : List ℕ) (cards : List (List ℕ)) → founds names (card ∷ cards) ≤ hits names card + founds names cards
founds-more [] card cards = omega arith
founds-more (name ∷ names) card cards = omega (arith, found-more name card cards, founds-more names card cards)

-- no two of the names are the same
abbrev are-apart : List (List ℕ) → Bool
are-apart [] = true
are-apart (name ∷ names) = list_all (λ other. not (bytes_eq name other)) names && are-apart names

miss : (name card : List ℕ) (names : List (List ℕ)) → has_name name card ≡ false → hits names card ≡ 0 → hits (name ∷ names) card ≡ 0
miss name card names other none = ap (λ b. cond b 1 0 + hits names card) other ∙ omega (arith, none)

no-other : (name card : List ℕ) (names : List (List ℕ)) → card_name card ≡ name → list_all (λ other. not (bytes_eq name other)) names ≡ true → hits names card ≡ 0
no-other name card [] is apart = refl
no-other name card (other ∷ names) is apart =
    let parts = and_parts (not (bytes_eq name other)) (list_all (λ other. not (bytes_eq name other)) names) apart in
    miss other card names (ap (λ n. bytes_eq n other) is ∙ not-true (bytes_eq name other) parts.0) (no-other name card names is parts.1)

one-hit : (names : List (List ℕ)) (card : List ℕ) → are-apart names ≡ true → hits names card ≤ 1
one-hit [] card apart = omega arith
one-hit (name ∷ names) card apart = by_test (has_name name card) refl (one-hit names card parts.1)
  where
    parts : (list_all (λ other. not (bytes_eq name other)) names ≡ true) × (are-apart names ≡ true)
    parts = and_parts (list_all (λ other. not (bytes_eq name other)) names) (are-apart names) apart

    by_test : (b : Bool) → has_name name card ≡ b → hits names card ≤ 1 → cond b 1 0 + hits names card ≤ 1
    by_test true is later = omega (arith, no-other name card names ((bytes_eq-Decides (card_name card) name).0 is) parts.0)
    by_test false is later = omega arith

-- a card that is kept has none of these names
none-kept : (primary : Bool) (n : ℕ) (names : List (List ℕ)) (card : List ℕ) → list_all is-own names ≡ true → is_kept primary n card ≡ true → hits names card ≡ 0
none-kept primary n [] card own kept = refl
none-kept primary n (name ∷ names) card own kept =
    let parts = and_parts (is-own name) (list_all is-own names) own in
    miss name card names (by_test (has_name name card) refl parts.0) (none-kept primary n names card parts.1 kept)
  where
    by_test : (b : Bool) → has_name name card ≡ b → is-own name ≡ true → has_name name card ≡ false
    by_test true is own = let stays = own-stays primary n card (ap is-own ((bytes_eq-Decides (card_name card) name).0 is) ∙ own) in absurd (both_ways (is_kept primary n card) stays kept)
    by_test false is own = is

-- the cards that are kept, and a card of each of these names, are cards of the header
kept-and-found : (primary : Bool) (n : ℕ) (names : List (List ℕ)) (cards : List (List ℕ)) → are-apart names ≡ true → list_all is-own names ≡ true →
    length (filter (is_kept primary n) cards) + founds names cards ≤ length cards
kept-and-found primary n names [] apart own = omega (arith, founds-nothing names)
kept-and-found primary n names (card ∷ cards) apart own = by_test (is_kept primary n card) refl (kept-and-found primary n names cards apart own)
  where
    more : founds names (card ∷ cards) ≤ hits names card + founds names cards
    more = founds-more names card cards

    by_test : (b : Bool) → is_kept primary n card ≡ b → length (filter (is_kept primary n) cards) + founds names cards ≤ length cards →
        length (cond b (card ∷ filter (is_kept primary n) cards) (filter (is_kept primary n) cards)) + founds names (card ∷ cards) ≤ suc (length cards)
    by_test true kept later = omega (arith, later, more, none-kept primary n names card own kept)
    by_test false kept later = omega (arith, later, more, one-hit names card apart)

-- the names of which a packed header has cards
abbrev axis-names : ℕ → ℕ → List (List ℕ)
axis-names a n = map (numbered_name (codes "ZNAXIS")) (range_with_len a n)

abbrev table-names : List (List ℕ)
table-names = padded (codes "BITPIX") ∷ padded (codes "NAXIS") ∷ padded (codes "ZCMPTYPE") ∷ padded (codes "ZBITPIX") ∷ padded (codes "ZNAXIS") ∷ axis-names 1 9

names-apart : are-apart table-names ≡ true
unfolding numbered_name digits
names-apart = refl

names-own : list_all is-own table-names ≡ true
unfolding is_dropped own_names packed_names number_behind numbered_name digits
names-own = refl

-- axes
axes-found : (cards : List (List ℕ)) (a n : ℕ) → length (flat_map (axis_card cards) (range_with_len a n)) ≡ founds (axis-names a n) cards
axes-found cards a zero = refl
axes-found cards a (suc n) =
    length-append (axis_card cards a) (flat_map (axis_card cards) (range_with_len (a + 1) n))
    ∙ omega (arith, length-map (option_to_list (first_of_name (numbered_name (codes "ZNAXIS") a) cards)) plain_card, axes-found cards (a + 1) n)

fewer-axes : (cards : List (List ℕ)) (a n m : ℕ) → n ≤ m → founds (axis-names a n) cards ≤ founds (axis-names a m) cards
fewer-axes cards a zero m less = omega arith
fewer-axes cards a (suc n) zero less = absurd (omega arith)
fewer-axes cards a (suc n) (suc m) less = omega (arith, fewer-axes cards (a + 1) n m (omega arith))

each-axis : (cards : List (List ℕ)) (a n : ℕ) → Between a n (λ i. 1 ≤ length (option_to_list (first_of_name (numbered_name (codes "ZNAXIS") i) cards))) → n ≤ founds (axis-names a n) cards
each-axis cards a zero each = omega arith
each-axis cards a (suc n) each = omega (arith, each a (omega arith) (omega arith), each-axis cards (a + 1) n (λ i low high. each i (omega arith) (omega arith)))

-- cards that are there or made
or-one : (card : List ℕ) (found : Option (List ℕ)) → length (or_card card (map plain_card (option_to_list found))) ≡ 1
or-one card None = refl
or-one card (Some c) = refl

leading-one : (cards : List (List ℕ)) → length (leading_card cards) ≡ 1
leading-one cards = or-one (word_card (codes "XTENSION") (codes "IMAGE")) (find says_what cards)

sizes-found : (cards : List (List ℕ)) → length (size_cards cards) ≡ length (option_to_list (first_of_name (padded (codes "ZBITPIX")) cards)) + length (option_to_list (first_of_name (padded (codes "ZNAXIS")) cards))
sizes-found cards =
    length-append (restored_word (codes "ZBITPIX") cards) (restored_word (codes "ZNAXIS") cards)
    ∙ omega (arith, length-map (option_to_list (first_of_name (padded (codes "ZBITPIX")) cards)) plain_card, length-map (option_to_list (first_of_name (padded (codes "ZNAXIS")) cards)) plain_card)

counts-two : (cards : List (List ℕ)) (primary : Bool) → length (count_cards_of primary cards) ≤ 2
counts-two cards true = omega arith
counts-two cards false =
    let pcount = or_card (number_card (codes "PCOUNT") 0) (restored_word (codes "ZPCOUNT") cards) in
    let gcount = or_card (number_card (codes "GCOUNT") 1) (restored_word (codes "ZGCOUNT") cards) in
    omega (
      arith,
      length-append pcount gcount,
      or-one (number_card (codes "PCOUNT") 0) (find (has_name (padded (codes "ZPCOUNT"))) cards),
      or-one (number_card (codes "GCOUNT") 1) (find (has_name (padded (codes "ZGCOUNT"))) cards),
    )

fewer-kept : {X : Type 0} (keep : X → Bool) (xs : List X) → length (filter keep xs) ≤ length xs
fewer-kept keep [] = omega arith
fewer-kept keep (x ∷ xs) = by_test (keep x) (fewer-kept keep xs)
  where
    by_test : (b : Bool) → length (filter keep xs) ≤ length xs → length (cond b (x ∷ filter keep xs) (filter keep xs)) ≤ suc (length xs)
    by_test true rest = omega arith
    by_test false rest = omega arith

-- the cards that a packed header has of itself
pub record HasOwn (cards : List (List ℕ)) : Type 0 where
  pub bitpix : 1 ≤ length (option_to_list (first_of_name (padded (codes "BITPIX")) cards))
  pub naxis : 1 ≤ length (option_to_list (first_of_name (padded (codes "NAXIS")) cards))
  pub codec : 1 ≤ length (option_to_list (first_of_name (padded (codes "ZCMPTYPE")) cards))
  pub few : axis_count cards ≤ 9
  pub axes : (i : ℕ) → 1 ≤ i → i ≤ axis_count cards → 1 ≤ length (option_to_list (first_of_name (numbered_name (codes "ZNAXIS") i) cards))

module _ (cards : List (List ℕ)) (own : HasOwn cards) where
  abbrev kept : List (List ℕ)
  kept = filter (is_kept (was_primary cards) (axis_count cards)) cards

  all-found : length kept + founds table-names cards ≤ length cards
  all-found = kept-and-found (was_primary cards) (axis_count cards) table-names cards names-apart names-own

  pub plain-fewer : length (plain_header cards) ≤ length cards
  unfolding plain_header
  plain-fewer =
      let axes = flat_map (axis_card cards) (range_with_len 1 (axis_count cards)) in
      omega (
        arith,
        all-found,
        own.bitpix,
        own.naxis,
        own.codec,
        length-append (leading_card cards) (size_cards cards ++ (axes ++ (count_cards cards ++ other_cards cards))),
        length-append (size_cards cards) (axes ++ (count_cards cards ++ other_cards cards)),
        length-append axes (count_cards cards ++ other_cards cards),
        length-append (count_cards cards) (other_cards cards),
        leading-one cards,
        sizes-found cards,
        axes-found cards 1 (axis_count cards),
        fewer-axes cards 1 (axis_count cards) 9 own.few,
        counts-two cards (was_primary cards),
        length-map kept plain_card,
      )

  pub cutout-fewer : (region : Region) → region.n ≡ axis_count cards → length (cutout_header cards region) ≤ length cards
  unfolding cutout_header
  cutout-fewer region same =
      let simple = or_card (flag_card (codes "SIMPLE")) (restored_word (codes "ZSIMPLE") cards) in
      let axis = λ (i : ℕ). numbered_number_card (codes "NAXIS") i (slice_index region.len (i - 1)) in
      let axes = map axis (range_with_len 1 region.n) in
      let part = part_cards_of (was_primary cards) (axis_count cards) cards in
      omega (
        arith,
        all-found,
        own.bitpix,
        length-append simple (size_cards cards ++ (axes ++ part)),
        length-append (size_cards cards) (axes ++ part),
        length-append axes part,
        or-one (flag_card (codes "SIMPLE")) (find (has_name (padded (codes "ZSIMPLE"))) cards),
        sizes-found cards,
        length-map-range_with_len axis 1 region.n,
        each-axis cards 1 (axis_count cards) (λ i low high. own.axes i low (omega arith)),
        fewer-axes cards 1 (axis_count cards) 9 own.few,
        fewer-kept (λ card. not (is_in_some whole_names (card_name card))) (map plain_card kept),
        length-map kept plain_card,
      )

-- a card that is there is found
pub any-found : {X : Type 0} (has : X → Bool) (xs : List X) → is_none (position has xs) ≡ false → 1 ≤ length (option_to_list (find has xs))
any-found has [] there = cc
any-found has (x ∷ xs) there = by_test (has x) (position has xs) (sym (ap is_none (position-step has x xs)) ∙ there) (any-found has xs)
  where
    by_test : (b : Bool) (o : Option ℕ) → is_none (cond b (Some 0) (option_map suc o)) ≡ false → (is_none o ≡ false → 1 ≤ length (option_to_list (find has xs))) →
        1 ≤ length (option_to_list (cond b (Some x) (find has xs)))
    by_test true o there later = omega arith
    by_test false None there later = cc
    by_test false (Some i) there later = later refl

-- a header with a card of a name has a card
pub some-card : (name : List ℕ) (cards : List (List ℕ)) → 1 ≤ length (option_to_list (first_of_name name cards)) → 1 ≤ length cards
some-card name [] there = absurd (omega arith)
some-card name (card ∷ cards) there = omega arith
