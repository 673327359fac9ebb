-- The cards of the image of a packed header, of which the checks of `unpack` refuse nothing: it begins with its mandatory cards.
use Rattle.std.proofs.Common.{◌≡◌, inl, inr, ℕ, zero, suc, ◌+◌, ◌<◌, ◌≤◌, ◌&&◌, ◌||◌, Bool, true, false, ℤ, List, [], ◌∷◌, ◌++◌, length, map, drop, get_or, pos, negsuc, is_some, Option, Some, None, All, codes, refl, sym, subst, ◌∙◌, ap, arith}
use Rattle.std.specs.Prelude.{unwrap_or, bytes_eq, slice_index}
use Rattle.std.specs.Option.{option_to_list}
use Rattle.std.proofs.lemmas.List.{take_at}
use Rattle.std.proofs.lemmas.List.FromFn.{get_or-map-range_with_len, length-map-range_with_len}
use Rattle.std.proofs.lemmas.Slice.Eq.{bytes_eq-Decides}
use Rattle.std.specs.Fmt.{digits}
use Rattle.std.specs.List.{find, flat_map, range_with_len}
use Rattle.std.proofs.lemmas.Bool.Decides.{Decides-int_eq}
use Rattle.fz_card.specs.CardLists.{first_of_name, has_name}
use Rattle.fz_card.specs.Laws.{CardLaws, HaveSameValues, RenamedValueLaw}
use Rattle.fz_card.specs.Layout.{card_name, padded}
use Rattle.fz_card.specs.Made.{IsCardText, int_card_bytes, numbered_name, text_card_bytes}
use Rattle.fz_card.specs.Naming.{plain_name}
use Rattle.fz_card.specs.Reading.{integer_of, is_text, logical_of, text_of}
use Rattle.fz_card.specs.Tables.{IsRenamed, renamings}
use Rattle.fz_block.specs.Cards.{card_at, is_named}
use Rattle.fz_block.specs.Checks.{is_set}
use Rattle.fz_block.specs.Hdus.{IsCardBeforeEnd, header_bytes, size_in}
use Rattle.fz_head.specs.CardLists.{the_card}
use Rattle.fz_head.specs.Packable.{has_integers}
use Rattle.fz_head.specs.PackedChecks.{has_word, is_integer, is_integer_size, is_positive}
use Rattle.fz_head.specs.PackedHeader.{number_card, word_card}
use Rattle.fz_head.specs.PackedPlan.{numbered_in, said_axes, said_bitpix, size_of, word_in}
use Rattle.fz_head.specs.PlainHeader.{axis_card, axis_count, count_cards, count_cards_of, or_card, other_cards, plain_card, plain_header, says_what, was_primary}
use Rattle.fz_laws.specs.OutputsTaken.{ValueLaws}
use Rattle.fz_laws.proofs.Finds.{IsSaid, either, either_found, first_same, found_has, none_other, position_find, said, said_by}
use Rattle.fz_laws.proofs.Front.{HasFront, SaysAxis, SaysSize}
use Rattle.fz_laws.proofs.Made.{first_name, made_card}
use Rattle.fz_laws.proofs.Said.{Says}

-- ---- a card under its name in the image

renamed_as : (a b card : List ℕ) → card_name card ≡ b → plain_name b ≡ Some a → plain_card card ≡ a ++ drop 8 card
renamed_as a b card named is = ap (λ o. unwrap_or o (card_name card) ++ drop 8 card) (ap plain_name named ∙ is)

pub record IsAs (a card : List ℕ) : Type 0 where
  pub named : card_name (plain_card card) ≡ a
  pub values : HaveSameValues (plain_card card) card

pub renamed_is : RenamedValueLaw → (a b card : List ℕ) → length a ≡ 8 → card_name card ≡ b → plain_name b ≡ Some a → IsAs a card
renamed_is value a b card eight named is =
    let same : plain_card card ≡ a ++ drop 8 card = renamed_as a b card named is in
    record { named = ap card_name same ∙ take_at a (drop 8 card) 8 eight; values = subst (λ l. HaveSameValues l card) (sym same) (value a card eight) }

pub simple_name : plain_name (padded (codes "ZSIMPLE")) ≡ Some (padded (codes "SIMPLE"))
unfolding plain_name renamings
simple_name = refl

pub tension_name : plain_name (padded (codes "ZTENSION")) ≡ Some (padded (codes "XTENSION"))
unfolding plain_name renamings
tension_name = refl

pub bitpix_name : plain_name (padded (codes "ZBITPIX")) ≡ Some (padded (codes "BITPIX"))
unfolding plain_name renamings
bitpix_name = refl

pub naxis_name : plain_name (padded (codes "ZNAXIS")) ≡ Some (padded (codes "NAXIS"))
unfolding plain_name renamings
naxis_name = refl

pub pcount_name : plain_name (padded (codes "ZPCOUNT")) ≡ Some (padded (codes "PCOUNT"))
unfolding plain_name renamings
pcount_name = refl

pub gcount_name : plain_name (padded (codes "ZGCOUNT")) ≡ Some (padded (codes "GCOUNT"))
unfolding plain_name renamings
gcount_name = refl

axis_renamed : (i : ℕ) → 1 ≤ i → i ≤ 9 → IsRenamed (numbered_name (codes "NAXIS") i) (numbered_name (codes "ZNAXIS") i)
unfolding IsRenamed renamings
axis_renamed i low high = inr (inr (inr (inr (inr (inr (inr (inr (inr (inr (inl (record { number = i; low = low; high = high; plain_made = refl; packed_made = refl })))))))))))

pub axis_name : CardLaws → (i : ℕ) → 1 ≤ i → i ≤ 9 → plain_name (numbered_name (codes "ZNAXIS") i) ≡ Some (numbered_name (codes "NAXIS") i)
axis_name laws i low high = (laws.names.renamed (numbered_name (codes "NAXIS") i) (numbered_name (codes "ZNAXIS") i) (axis_renamed i low high)).to_plain

axis_long : CardLaws → (i : ℕ) → i ≤ 9 → length (numbered_name (codes "NAXIS") i) ≡ 8
axis_long laws i high = laws.numbers.eight_bytes (codes "NAXIS") i (omega arith, omega (arith, high))

pub named_is : (name word : List ℕ) → name ≡ padded word → bytes_eq name (padded word) ≡ true
named_is name word is = (bytes_eq-Decides name (padded word)).1 is

-- ---- values

positive_is : (o : Option ℤ) → is_positive o ≡ true → (o ≡ Some (pos (size_in o))) × (1 ≤ size_in o)
positive_is None is = absurd cc
positive_is (Some (pos zero)) is = absurd cc
positive_is (Some (pos (suc n))) is = (refl, omega arith)
positive_is (Some (negsuc n)) is = absurd cc

integer_is : (v : ℤ) (o : Option ℤ) → is_integer v o ≡ true → o ≡ Some v
integer_is v None is = absurd cc
integer_is v (Some found) is = ap Some ((Decides-int_eq found v).0 is)

-- BITPIX of an image of integers
pub record IsBits (o : Option ℤ) (bits : ℕ) : Type 0 where
  pub said : o ≡ Some (pos bits)
  pub integers : has_integers (pos bits) ≡ true

integer_size_is : (o : Option ℤ) → is_integer_size o ≡ true → (bits : ℕ) × IsBits o bits
integer_size_is None is = absurd cc
integer_size_is (Some (negsuc n)) is = absurd cc
integer_size_is (Some (pos n)) is = (n, record { said = refl; integers = is })

image_text : IsCardText (codes "IMAGE")
image_text = record { fits = omega arith; unquoted = refl; trimmed = λ e. absurd (omega (arith, e)) }

-- ---- lists of cards

abbrev pub lead_card : List ℕ → Option (List ℕ) → List ℕ
lead_card w None = w
lead_card w (Some card) = plain_card card

pub or_said : (w : List ℕ) (o : Option (List ℕ)) → or_card w (map plain_card (option_to_list o)) ≡ lead_card w o ∷ []
or_said w None = refl
or_said w (Some card) = refl

pub some_said : (o : Option (List ℕ)) (card : List ℕ) → o ≡ Some card → map plain_card (option_to_list o) ≡ plain_card card ∷ []
some_said o card is = ap (λ o. map plain_card (option_to_list o)) is

flat_single : (f : ℕ → List (List ℕ)) (g : ℕ → List ℕ) (a n : ℕ) → ((j : ℕ) → j < n → f (a + j) ≡ g (a + j) ∷ []) → flat_map f (range_with_len a n) ≡ map g (range_with_len a n)
flat_single f g a zero each = refl
flat_single f g a (suc n) each =
    let here : a + 0 ≡ a = omega arith in
    let first : f a ≡ g a ∷ [] = subst (λ i. f i ≡ g i ∷ []) here (each 0 (omega arith)) in
    λ i. first i ++ flat_single f g (a + 1) n (λ j less.
    let at : a + suc j ≡ a + 1 + j = omega arith in
    subst (λ m. f m ≡ g m ∷ []) at (each (suc j) (omega (arith, less)))) i

pub the_card_is : (name : List ℕ) (cards : List (List ℕ)) (is : IsSaid name cards) → the_card name cards ≡ is.card
the_card_is name cards is = ap (λ o. unwrap_or o []) is.found

get_after : (xs ys : List (List ℕ)) (j : ℕ) → j < length xs → get_or (xs ++ ys) j [] ≡ get_or xs j []
get_after [] ys j less = absurd (omega (arith, less))
get_after (x ∷ xs) ys zero less = refl
get_after (x ∷ xs) ys (suc j) less = get_after xs ys j (omega (arith, less))

get_behind : (xs ys : List (List ℕ)) (n j : ℕ) → length xs ≡ n → get_or (xs ++ ys) (n + j) [] ≡ get_or ys j []
get_behind [] ys zero j is = let at : zero + j ≡ j = omega arith in ap (λ m. get_or ys m []) at
get_behind [] ys (suc n) j is = absurd (omega (arith, is))
get_behind (x ∷ xs) ys zero j is = absurd (omega (arith, is))
get_behind (x ∷ xs) ys (suc n) j is = let at : suc n + j ≡ suc (n + j) = omega arith in ap (λ m. get_or (x ∷ (xs ++ ys)) m []) at ∙ get_behind xs ys n j (omega (arith, is))

more_than : (xs ys : List (List ℕ)) (n j : ℕ) → length xs ≡ n → j < length ys → n + j < length (xs ++ ys)
more_than [] ys n j is less = omega (arith, is, less)
more_than (x ∷ xs) ys zero j is less = absurd (omega (arith, is))
more_than (x ∷ xs) ys (suc n) j is less = let rest = more_than xs ys n j (omega (arith, is)) less in omega (arith, rest)

-- ---- the header of the image

module _ (laws : ValueLaws) (cards : List (List ℕ)) (after_empty : Bool) (says : Says cards after_empty) where
  abbrev pub n : ℕ
  n = axis_count cards

  pub bitpix : IsSaid (padded (codes "ZBITPIX")) cards
  bitpix = said (padded (codes "ZBITPIX")) cards is_integer_size refl says.bitpix

  pub naxis : IsSaid (padded (codes "ZNAXIS")) cards
  naxis = said (padded (codes "ZNAXIS")) cards is_positive refl says.naxis

  pub axis : (j : ℕ) → j < n → IsSaid (numbered_name (codes "ZNAXIS") (1 + j)) cards
  axis j less = said (numbered_name (codes "ZNAXIS") (1 + j)) cards is_positive refl (says.axes j less).0

  abbrev pub axis_plain : ℕ → List ℕ
  axis_plain i = plain_card (numbered_in (codes "ZNAXIS") i cards)

  abbrev pub axes : List (List ℕ)
  axes = map axis_plain (range_with_len 1 n)

  axes_are : flat_map (axis_card cards) (range_with_len 1 n) ≡ axes
  axes_are =
      flat_single (axis_card cards) axis_plain 1 n (λ j less.
      some_said (first_of_name (numbered_name (codes "ZNAXIS") (1 + j)) cards) (axis j less).card (axis j less).found
      ∙ ap (λ c. plain_card c ∷ []) (sym (the_card_is (numbered_name (codes "ZNAXIS") (1 + j)) cards (axis j less))))

  abbrev pub first_made : List ℕ
  first_made = word_card (codes "XTENSION") (codes "IMAGE")

  abbrev pub lead : List ℕ
  lead = lead_card first_made (find says_what cards)

  abbrev pub rest : List (List ℕ)
  rest = count_cards cards ++ other_cards cards

  pub front_list : plain_header cards ≡ lead ∷ plain_card bitpix.card ∷ plain_card naxis.card ∷ (axes ++ rest)
  unfolding plain_header
  front_list =
      λ i. or_said first_made (find says_what cards) i
      ++ ((some_said (first_of_name (padded (codes "ZBITPIX")) cards) bitpix.card bitpix.found i ++ some_said (first_of_name (padded (codes "ZNAXIS")) cards) naxis.card naxis.found i)
      ++ (axes_are i ++ rest))

  -- BITPIX, NAXIS and the axes
  abbrev lens : List ℕ
  lens = said_axes cards

  lens_count : length lens ≡ n
  lens_count = length-map-range_with_len (λ i. size_of (numbered_in (codes "ZNAXIS") i cards)) 1 n

  pub axes_count : length axes ≡ n
  axes_count = length-map-range_with_len axis_plain 1 n

  pub n_some : 1 ≤ n
  n_some = (positive_is (integer_of (word_in (codes "ZNAXIS") cards)) says.naxis).1

  pub bits : (bits : ℕ) × IsBits (integer_of (word_in (codes "ZBITPIX") cards)) bits
  bits = integer_size_is (integer_of (word_in (codes "ZBITPIX") cards)) says.bitpix

  pub bits_are : said_bitpix cards ≡ pos bits.0
  bits_are = ap (λ o. unwrap_or o (pos 0)) bits.1.said

  pub bitpix_says : SaysSize (codes "BITPIX") (plain_card bitpix.card) bits.0
  bitpix_says =
      let same : IsAs (padded (codes "BITPIX")) bitpix.card = renamed_is laws.value (padded (codes "BITPIX")) (padded (codes "ZBITPIX")) bitpix.card refl bitpix.named bitpix_name in
      record {
        named = named_is (card_name (plain_card bitpix.card)) (codes "BITPIX") same.named;
        value = same.values.integer ∙ sym (ap integer_of (the_card_is (padded (codes "ZBITPIX")) cards bitpix)) ∙ bits.1.said;
      }

  pub naxis_number : SaysSize (codes "NAXIS") (plain_card naxis.card) (axis_count cards)
  naxis_number =
      let same : IsAs (padded (codes "NAXIS")) naxis.card = renamed_is laws.value (padded (codes "NAXIS")) (padded (codes "ZNAXIS")) naxis.card refl naxis.named naxis_name in
      record {
        named = named_is (card_name (plain_card naxis.card)) (codes "NAXIS") same.named;
        value = same.values.integer ∙ sym (ap integer_of (the_card_is (padded (codes "ZNAXIS")) cards naxis)) ∙ (positive_is (integer_of (word_in (codes "ZNAXIS") cards)) says.naxis).0;
      }

  naxis_says : SaysSize (codes "NAXIS") (plain_card naxis.card) (length lens)
  naxis_says = subst (SaysSize (codes "NAXIS") (plain_card naxis.card)) (sym lens_count) naxis_number

  axis_says : (j : ℕ) → j < n → SaysAxis (axis_plain (1 + j)) (1 + j) (slice_index lens j)
  axis_says j less =
      let high : 1 + j ≤ 9 = omega (arith, less, says.few) in
      let name : List ℕ = numbered_name (codes "ZNAXIS") (1 + j) in
      let card : List ℕ = numbered_in (codes "ZNAXIS") (1 + j) cards in
      let named : card_name card ≡ name = ap card_name (the_card_is name cards (axis j less)) ∙ (axis j less).named in
      let same : IsAs (numbered_name (codes "NAXIS") (1 + j)) card =
      renamed_is laws.value (numbered_name (codes "NAXIS") (1 + j)) name card (axis_long laws.cards (1 + j) high) named (axis_name laws.cards (1 + j) (omega arith) high) in
      let size : get_or lens j 0 ≡ size_of card = get_or-map-range_with_len (λ i. size_of (numbered_in (codes "ZNAXIS") i cards)) 1 n j (1 + j) 0 less refl in
      let value = positive_is (integer_of card) (says.axes j less).0 in
      record {
        named = (bytes_eq-Decides (card_name (plain_card card)) (numbered_name (codes "NAXIS") (1 + j))).1 same.named;
        value = same.values.integer ∙ value.0 ∙ ap (λ m. Some (pos m)) (sym size);
        some = omega (arith, value.1, size);
        few = omega (arith, (says.axes j less).1, size);
      }

  -- PCOUNT and GCOUNT of an extension
  abbrev pub pcount_card : List ℕ
  pcount_card = lead_card (number_card (codes "PCOUNT") 0) (first_of_name (padded (codes "ZPCOUNT")) cards)

  abbrev pub gcount_card : List ℕ
  gcount_card = lead_card (number_card (codes "GCOUNT") 1) (first_of_name (padded (codes "ZGCOUNT")) cards)

  made_pcount : SaysSize (codes "PCOUNT") (number_card (codes "PCOUNT") 0) 0
  unfolding integer_of int_card_bytes digits
  made_pcount = record { named = refl; value = refl }

  made_gcount : SaysSize (codes "GCOUNT") (number_card (codes "GCOUNT") 1) 1
  unfolding integer_of int_card_bytes digits
  made_gcount = record { named = refl; value = refl }

  has_is : (word : List ℕ) → has_word word cards ≡ is_some (first_of_name (padded word) cards)
  has_is word = position_find (has_name (padded word)) cards

  counted : (word other made : List ℕ) (m : ℕ) → length (padded other) ≡ 8 → plain_name (padded word) ≡ Some (padded other) → (has_word word cards ≡ true → is_integer (pos m) (integer_of (word_in word cards)) ≡ true) →
      SaysSize other made m → SaysSize other (lead_card made (first_of_name (padded word) cards)) m
  counted word other made m eight name values made_says = by_found (first_of_name (padded word) cards) refl
    where
      by_found : (o : Option (List ℕ)) → first_of_name (padded word) cards ≡ o → SaysSize other (lead_card made o) m
      by_found None found = made_says
      by_found (Some card) found =
          let is : IsSaid (padded word) cards = said_by (padded word) cards card found in
          let same : IsAs (padded other) card = renamed_is laws.value (padded other) (padded word) card eight is.named name in
          record {
            named = named_is (card_name (plain_card card)) other same.named;
            value =
                same.values.integer ∙ sym (ap integer_of (the_card_is (padded word) cards is))
                ∙ integer_is (pos m) (integer_of (word_in word cards)) (values (has_is word ∙ ap is_some found));
          }

  pub counts_are : was_primary cards ≡ false → count_cards cards ≡ pcount_card ∷ gcount_card ∷ []
  counts_are other =
      ap (λ b. count_cards_of b cards) other
      ∙ (λ i. or_said (number_card (codes "PCOUNT") 0) (first_of_name (padded (codes "ZPCOUNT")) cards) i ++ or_said (number_card (codes "GCOUNT") 1) (first_of_name (padded (codes "ZGCOUNT")) cards) i)

  -- the first card
  abbrev is_primary_card : List ℕ → Bool
  is_primary_card = has_name (padded (codes "ZSIMPLE"))

  abbrev is_extension_card : List ℕ → Bool
  is_extension_card = has_name (padded (codes "ZTENSION"))

  made_first : (is_named (codes "XTENSION") first_made ≡ true) × (text_of first_made ≡ Some (codes "IMAGE"))
  unfolding text_card_bytes
  made_first = (refl, (laws.cards.values.text first_made (codes "IMAGE")).0 (laws.cards.made.text_value (padded (codes "XTENSION")) (codes "IMAGE") refl image_text))

  extension_first : was_primary cards ≡ false → (is_named (codes "XTENSION") lead ≡ true) × (text_of lead ≡ Some (codes "IMAGE"))
  extension_first other = by_found (find says_what cards) refl
    where
      no_simple : (o : Option (List ℕ)) → is_some o ≡ false → o ≡ None
      no_simple None e = refl
      no_simple (Some card) e = absurd cc

      only : find says_what cards ≡ first_of_name (padded (codes "ZTENSION")) cards
      only = none_other is_primary_card is_extension_card cards (no_simple (first_of_name (padded (codes "ZSIMPLE")) cards) other)

      text_is : (o : Option (List ℕ)) → is_text (codes "IMAGE") o ≡ true → o ≡ Some (codes "IMAGE")
      text_is None e = absurd cc
      text_is (Some text) e = ap Some ((bytes_eq-Decides text (codes "IMAGE")).0 e)

      by_found : (o : Option (List ℕ)) → find says_what cards ≡ o → (is_named (codes "XTENSION") (lead_card first_made o) ≡ true) × (text_of (lead_card first_made o) ≡ Some (codes "IMAGE"))
      by_found None found = made_first
      by_found (Some card) found =
          let first : first_of_name (padded (codes "ZTENSION")) cards ≡ Some card = sym only ∙ found in
          let is : IsSaid (padded (codes "ZTENSION")) cards = said_by (padded (codes "ZTENSION")) cards card first in
          let same : IsAs (padded (codes "XTENSION")) card = renamed_is laws.value (padded (codes "XTENSION")) (padded (codes "ZTENSION")) card refl is.named tension_name in (
            named_is (card_name (plain_card card)) (codes "XTENSION") same.named,
            same.values.text ∙ sym (ap text_of (the_card_is (padded (codes "ZTENSION")) cards is))
                ∙ text_is (text_of (word_in (codes "ZTENSION") cards)) (says.image (has_is (codes "ZTENSION") ∙ ap is_some first)),
          )

  abbrev rest_of : List (List ℕ)
  rest_of = plain_card bitpix.card ∷ plain_card naxis.card ∷ (axes ++ rest)

  -- of a primary: the header begins with an S, so the first card of the two is ZSIMPLE
  pub primary_lead : was_primary cards ≡ true → header_bytes (plain_header cards) ≡ 83 ∷ drop 1 (header_bytes (plain_header cards)) → find says_what cards ≡ first_of_name (padded (codes "ZSIMPLE")) cards
  primary_lead primary begins = by_simple (first_of_name (padded (codes "ZSIMPLE")) cards) refl primary
    where
      no_x : (card : List ℕ) → find says_what cards ≡ Some card → plain_card card ≡ padded (codes "XTENSION") ++ drop 8 card → ⊥
      no_x card found named =
          let list : plain_header cards ≡ (padded (codes "XTENSION") ++ drop 8 card) ∷ rest_of = front_list ∙ ap (λ o. lead_card first_made o ∷ rest_of) found ∙ ap (λ c. c ∷ rest_of) named in
          let byte : 88 ≡ 83 = sym (ap (λ l. get_or (header_bytes l) 0 0) list) ∙ ap (λ l. get_or l 0 0) begins in
          omega (arith, byte)

      by_first : (card : List ℕ) → find says_what cards ≡ Some card → (b : Bool) → is_primary_card card ≡ b → find says_what cards ≡ first_of_name (padded (codes "ZSIMPLE")) cards
      by_first card found true named = found ∙ sym (first_same is_primary_card is_extension_card cards card found named)
      by_first card found false named =
          let has : (is_primary_card card || is_extension_card card) ≡ true = found_has (either is_primary_card is_extension_card) cards card found in
          let other : is_extension_card card ≡ true = sym (ap (λ b. b || is_extension_card card) named) ∙ has in
          let name : card_name card ≡ padded (codes "ZTENSION") = (bytes_eq-Decides (card_name card) (padded (codes "ZTENSION"))).0 other in
          absurd (no_x card found (renamed_as (padded (codes "XTENSION")) (padded (codes "ZTENSION")) card name tension_name))

      by_simple : (o : Option (List ℕ)) → first_of_name (padded (codes "ZSIMPLE")) cards ≡ o → is_some o ≡ true → find says_what cards ≡ first_of_name (padded (codes "ZSIMPLE")) cards
      by_simple None first some = absurd cc
      by_simple (Some simple) first some =
          let found = either_found is_primary_card is_extension_card cards simple first in
          by_first found.0 found.1 (is_primary_card found.0) refl

  primary_first : was_primary cards ≡ true → header_bytes (plain_header cards) ≡ 83 ∷ drop 1 (header_bytes (plain_header cards)) → is_set (codes "SIMPLE") lead ≡ true
  primary_first primary begins = by_simple (first_of_name (padded (codes "ZSIMPLE")) cards) refl primary
    where
      by_simple : (o : Option (List ℕ)) → first_of_name (padded (codes "ZSIMPLE")) cards ≡ o → is_some o ≡ true → is_set (codes "SIMPLE") lead ≡ true
      by_simple None first some = absurd cc
      by_simple (Some card) there some =
          let is : IsSaid (padded (codes "ZSIMPLE")) cards = said_by (padded (codes "ZSIMPLE")) cards card there in
          let same : IsAs (padded (codes "SIMPLE")) card = renamed_is laws.value (padded (codes "SIMPLE")) (padded (codes "ZSIMPLE")) card refl is.named simple_name in
          let value : unwrap_or (logical_of (plain_card card)) false ≡ true =
          ap (λ o. unwrap_or o false) (same.values.logical ∙ sym (ap logical_of (the_card_is (padded (codes "ZSIMPLE")) cards is))) ∙ (says.simple (has_is (codes "ZSIMPLE") ∙ ap is_some there)).0 in
          ap (λ o. is_set (codes "SIMPLE") (lead_card first_made o)) (primary_lead primary begins ∙ there)
          ∙ (λ i. named_is (card_name (plain_card card)) (codes "SIMPLE") same.named i && value i)

  -- ---- by the places of the cards

  module _ (whole : All IsCardBeforeEnd (plain_header cards)) where
    abbrev header : List ℕ
    header = header_bytes (plain_header cards)

    abbrev list : List (List ℕ)
    list = lead ∷ plain_card bitpix.card ∷ plain_card naxis.card ∷ (axes ++ rest)

    card_is : (i : ℕ) → i < length list → card_at header i ≡ get_or list i []
    card_is i less = made_card laws.made (plain_header cards) whole i (subst (λ l. i < length l) (sym front_list) less) ∙ ap (λ l. get_or l i []) front_list

    axis_is : (j : ℕ) → j < n → card_at header (2 + (1 + j)) ≡ axis_plain (1 + j)
    axis_is j less =
        let within : j < length axes = omega (arith, less, axes_count) in
        let more : j < length (axes ++ rest) = less_more axes rest j within in
        let at : 2 + (1 + j) ≡ suc (suc (suc j)) = omega arith in
        ap (card_at header) at ∙ card_is (suc (suc (suc j))) (omega (arith, more)) ∙ get_after axes rest j within ∙ get_or-map-range_with_len axis_plain 1 n j (1 + j) [] less refl
      where
        less_more : (xs ys : List (List ℕ)) (j : ℕ) → j < length xs → j < length (xs ++ ys)
        less_more [] ys j less = absurd (omega (arith, less))
        less_more (x ∷ xs) ys zero less = omega arith
        less_more (x ∷ xs) ys (suc j) less = let rest = less_more xs ys j (omega (arith, less)) in omega (arith, rest)

    count_is : (j : ℕ) → j < length rest → card_at header (3 + n + j) ≡ get_or rest j []
    count_is j less =
        let more : n + j < length (axes ++ rest) = more_than axes rest n j axes_count less in
        let at : 3 + n + j ≡ suc (suc (suc (n + j))) = omega arith in
        ap (card_at header) at ∙ card_is (suc (suc (suc (n + j)))) (omega (arith, more)) ∙ get_behind axes rest n j axes_count

    begin_first : card_at header 0 ≡ lead
    begin_first = card_is 0 (omega arith)

    abbrev the_bits : ℕ
    the_bits = bits.0

    sizes : (k : ℕ) → (j : ℕ) → j < length lens → SaysAxis (card_at header (2 + (1 + j))) (1 + j) (slice_index lens j)
    sizes k j less =
        let within : j < n = omega (arith, less, lens_count) in
        subst (λ c. SaysAxis c (1 + j) (slice_index lens j)) (sym (axis_is j within)) (axis_says j within)

    pub front_primary : was_primary cards ≡ true → header ≡ 83 ∷ drop 1 header → HasFront 0 header the_bits lens
    front_primary primary begins = record {
      begins = ap (is_set (codes "SIMPLE")) begin_first ∙ primary_first primary begins;
      extension = λ none. absurd (omega (arith, none));
      bitpix = subst (λ c. SaysSize (codes "BITPIX") c the_bits) (sym (card_is 1 (omega arith))) bitpix_says;
      integers = bits.1.integers;
      naxis = subst (λ c. SaysSize (codes "NAXIS") c (length lens)) (sym (card_is 2 (omega arith))) naxis_says;
      some = omega (arith, lens_count, n_some);
      few = omega (arith, lens_count, says.few);
      axes = sizes 0;
      pcount = λ none. absurd (omega (arith, none));
      gcount = λ none. absurd (omega (arith, none));
    }

    pub front_extension : (k : ℕ) → was_primary cards ≡ false → HasFront (suc k) header the_bits lens
    front_extension k other =
        let first = extension_first other in
        let named : is_named (codes "XTENSION") (card_at header 0) ≡ true = ap (is_named (codes "XTENSION")) begin_first ∙ first.0 in
        let no : has_word (codes "ZSIMPLE") cards ≡ false = has_is (codes "ZSIMPLE") ∙ other in
        let counts : rest ≡ pcount_card ∷ gcount_card ∷ other_cards cards = ap (λ l. l ++ other_cards cards) (counts_are other) in
        let two : 2 ≤ length rest = subst (λ l. 2 ≤ length l) (sym counts) (omega arith) in
        let at0 : 3 + n + 0 ≡ 3 + length lens = omega (arith, lens_count) in
        let at1 : 3 + n + 1 ≡ 4 + length lens = omega (arith, lens_count) in
        let p : card_at header (3 + length lens) ≡ pcount_card = ap (card_at header) (sym at0) ∙ count_is 0 (omega (arith, two)) ∙ ap (λ l. get_or l 0 []) counts in
        let g : card_at header (4 + length lens) ≡ gcount_card = ap (card_at header) (sym at1) ∙ count_is 1 (omega (arith, two)) ∙ ap (λ l. get_or l 1 []) counts in
        record {
          begins = sym (ap (λ l. bytes_eq l (codes "XTENSION")) (first_name header)) ∙ named;
          extension = λ some. (named, ap text_of begin_first ∙ first.1);
          bitpix = subst (λ c. SaysSize (codes "BITPIX") c the_bits) (sym (card_is 1 (omega arith))) bitpix_says;
          integers = bits.1.integers;
          naxis = subst (λ c. SaysSize (codes "NAXIS") c (length lens)) (sym (card_is 2 (omega arith))) naxis_says;
          some = omega (arith, lens_count, n_some);
          few = omega (arith, lens_count, says.few);
          axes = sizes (suc k);
          pcount = λ some. subst (λ c. SaysSize (codes "PCOUNT") c 0) (sym p) (counted (codes "ZPCOUNT") (codes "PCOUNT") (number_card (codes "PCOUNT") 0) 0 refl pcount_name (says.pcount no) made_pcount);
          gcount = λ some. subst (λ c. SaysSize (codes "GCOUNT") c 1) (sym g) (counted (codes "ZGCOUNT") (codes "GCOUNT") (number_card (codes "GCOUNT") 1) 1 refl gcount_name (says.gcount no) made_gcount);
        }
