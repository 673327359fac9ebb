-- The cards of a cutout of a packed image: it begins with the mandatory cards of a primary image with the picks as its axes.
use Rattle.std.proofs.Common.{◌≡◌, ℕ, zero, suc, ◌+◌, ◌-◌, ◌/◌, ◌^◌, ◌==◌, ◌<◌, ◌≤◌, ◌&&◌, Bool, true, false, List, [], ◌∷◌, ◌++◌, length, map, take, get_or, pos, is_some, Option, Some, None, All, if◌then◌else◌, codes, replicate, refl, sym, subst, ◌∙◌, ap, arith}
use Rattle.std.specs.Prelude.{unwrap_or, bytes_eq, slice_index, nat_le}
use Rattle.std.proofs.lemmas.Bool.Decides.{nat_tests}
use Rattle.std.proofs.Math.Nat.{div-le_self}
use Rattle.std.proofs.lemmas.List.{get_or-take, get_or_append_left, length-map, length-take-le}
use Rattle.std.proofs.lemmas.List.FromFn.{get_or-map-range_with_len, length-map-range_with_len}
use Rattle.std.proofs.lemmas.Slice.Eq.{bytes_eq-Decides}
use Rattle.std.specs.List.{range_with_len}
use Rattle.fz_card.specs.CardLists.{first_of_name, has_name}
use Rattle.fz_card.specs.Laws.{CardLaws}
use Rattle.fz_card.specs.Layout.{card_name, padded}
use Rattle.fz_card.specs.Made.{logical_card_bytes, numbered_name}
use Rattle.fz_card.specs.Naming.{number_behind, up_to}
use Rattle.fz_card.specs.Reading.{logical_of}
use Rattle.fz_card.specs.DecimalLaws.{ShiftedIsCard}
use Rattle.fz_card.specs.DecimalReading.{shifted}
use Rattle.fz_block.specs.Cards.{card_at, is_named}
use Rattle.fz_block.specs.Checks.{is_set}
use Rattle.fz_block.specs.Hdus.{IsCardBeforeEnd, header_bytes}
use Rattle.fz_grid.specs.Sieve.{pick_counts, sieve_hi, sieve_lengths, sieve_lo, sieve_step}
use Rattle.fz_grid.specs.declared.sieve.Sieve.{Sieve}
use Rattle.fz_head.specs.PackedChecks.{has_word}
use Rattle.fz_head.specs.PackedHeader.{flag_card, numbered_number_card}
use Rattle.fz_head.specs.PlainHeader.{axis_count, cutout_header, part_cards_of, plain_card, was_primary}
use Rattle.fz_files.specs.CutoutBytes.{card_less, cutout_cards, moved_card, picked_region, shift_along, shift_if}
use Rattle.fz_files.specs.Picks.{HasNinePlaces, HasPicks}
use Rattle.fz_laws.specs.OutputsTaken.{ValueLaws}
use Rattle.fz_laws.proofs.Finds.{IsSaid, position_find, said_by}
use Rattle.fz_laws.proofs.Front.{HasFront, SaysAxis, SaysSize}
use Rattle.fz_laws.proofs.Made.{made_card}
use Rattle.fz_laws.proofs.PlainCards.{IsAs, bitpix, bitpix_says, bits, lead_card, named_is, naxis, naxis_number, or_said, renamed_is, simple_name, some_said, the_card_is}
use Rattle.fz_laws.proofs.Said.{Says}

-- ---- cards that are moved

-- how far the reference pixel of a card moves
shift_low : (sieve : Sieve) → HasPicks sieve → (o : Option ℕ) → shift_if sieve (up_to sieve.n o) < 2 ^ 32
shift_low sieve picks None = omega arith
shift_low sieve picks (Some i) = by_few (nat_le i sieve.n) refl
  where
    along : i ≤ sieve.n → shift_along sieve i < 2 ^ 32
    along few =
        let less : i - 1 < sieve.n = omega (arith, few, picks.some) in
        by_step (slice_index sieve.step (i - 1) == 1) (picks.ordered (i - 1) less) (picks.inside (i - 1) less)
      where
        by_step : (b : Bool) → slice_index sieve.lo (i - 1) ≤ slice_index sieve.hi (i - 1) → slice_index sieve.hi (i - 1) + 1 < 2 ^ 31 → (if b then slice_index sieve.lo (i - 1) else 0) < 2 ^ 32
        by_step true ordered inside = omega (arith, ordered, inside)
        by_step false ordered inside = omega arith

    by_few : (b : Bool) → nat_le i sieve.n ≡ b → shift_if sieve (if b then Some i else None) < 2 ^ 32
    by_few true few = along (at_most few)
      where
        at_most : nat_le i sieve.n ≡ true → i ≤ sieve.n
        at_most e = grind (arith, nat_tests, e)
    by_few false more = omega arith

-- a card that is moved is a card with its name
less_is : ShiftedIsCard → (card : List ℕ) (by : ℕ) → length card ≡ 80 → by < 2 ^ 32 → (length (card_less card by) ≡ 80) × (card_name (card_less card by) ≡ card_name card)
less_is law card zero long small = (long, refl)
less_is law card (suc by) long small = by_found (shifted card (suc by)) refl
  where
    by_found : (o : Option (List ℕ)) → shifted card (suc by) ≡ o → (length (unwrap_or o card) ≡ 80) × (card_name (unwrap_or o card) ≡ card_name card)
    by_found None found = (long, refl)
    by_found (Some other) found = law card (suc by) other (omega (arith, long)) small found

moved_is : ShiftedIsCard → (sieve : Sieve) → HasPicks sieve → (card : List ℕ) → IsCardBeforeEnd card → IsCardBeforeEnd (moved_card sieve card)
moved_is law sieve picks card is =
    let both = less_is law card (shift_if sieve (up_to sieve.n (number_behind (codes "CRPIX") (card_name card)))) is.long (shift_low sieve picks (number_behind (codes "CRPIX") (card_name card))) in
    record { long = both.0; name = ap (λ l. bytes_eq l (padded (codes "END"))) both.1 ∙ is.name }

all_mapped : (f : List ℕ → List ℕ) → ((card : List ℕ) → IsCardBeforeEnd card → IsCardBeforeEnd (f card)) → (cards : List (List ℕ)) → All IsCardBeforeEnd cards → All IsCardBeforeEnd (map f cards)
all_mapped f step [] all k d near = absurd (omega (arith, near))
all_mapped f step (c ∷ cs) all zero d near = step c (all 0 d (omega arith))
all_mapped f step (c ∷ cs) all (suc k) d near = all_mapped f step cs (λ j e less. all (suc j) e (omega (arith, less))) k d (omega (arith, near))

-- a card of another name than CRPIXi stays
moved_stays : CardLaws → (sieve : Sieve) (card name : List ℕ) → card_name card ≡ name → bytes_eq (take (length (codes "CRPIX")) name) (codes "CRPIX") ≡ false → moved_card sieve card ≡ card
moved_stays laws sieve card name named apart =
    ap (λ (o : Option ℕ). card_less card (shift_if sieve (up_to sieve.n o)))
    (sym (laws.numbers.other_stem (codes "CRPIX") (card_name card) (ap (λ l. bytes_eq (take (length (codes "CRPIX")) l) (codes "CRPIX")) named ∙ apart)))

axis_apart : (i : ℕ) → bytes_eq (take (length (codes "CRPIX")) (numbered_name (codes "NAXIS") i)) (codes "CRPIX") ≡ false
unfolding numbered_name
axis_apart i = refl

-- ---- how many picks there are along each axis

counts_long : (los his steps : List ℕ) → length his ≡ length los → length steps ≡ length los → length (pick_counts los his steps) ≡ length los
counts_long [] his steps one two = refl
counts_long (o ∷ os) [] steps one two = absurd (omega (arith, one))
counts_long (o ∷ os) (h ∷ hs) [] one two = absurd (omega (arith, two))
counts_long (o ∷ os) (h ∷ hs) (s ∷ ss) one two = ap suc (counts_long os hs ss (omega (arith, one)) (omega (arith, two)))

count_at : (los his steps : List ℕ) (j : ℕ) → length his ≡ length los → length steps ≡ length los → j < length los →
    (1 ≤ slice_index (pick_counts los his steps) j) × (slice_index (pick_counts los his steps) j ≤ slice_index his j + 1)
count_at [] his steps j one two less = absurd (omega (arith, less))
count_at (o ∷ os) [] steps j one two less = absurd (omega (arith, one))
count_at (o ∷ os) (h ∷ hs) [] j one two less = absurd (omega (arith, two))
count_at (o ∷ os) (h ∷ hs) (s ∷ ss) zero one two less = let low : (h - o) / s ≤ h - o = div-le_self (h - o) s in (omega arith, omega (arith, low))
count_at (o ∷ os) (h ∷ hs) (s ∷ ss) (suc j) one two less = count_at os hs ss j (omega (arith, one)) (omega (arith, two)) (omega (arith, less))

module _ (sieve : Sieve) (nine : HasNinePlaces sieve) (picks : HasPicks sieve) where
  taken_long : (xs : List ℕ) → length xs ≡ 9 → length (take sieve.n xs) ≡ sieve.n
  taken_long xs long = length-take-le sieve.n xs (omega (arith, long, picks.axes))

  same_long : (xs : List ℕ) → length xs ≡ 9 → length (take sieve.n xs) ≡ length (sieve_lo sieve)
  same_long xs long = taken_long xs long ∙ sym (taken_long sieve.lo nine.los)

  pub picks_count : length (sieve_lengths sieve) ≡ sieve.n
  picks_count = counts_long (sieve_lo sieve) (sieve_hi sieve) (sieve_step sieve) (same_long sieve.hi nine.his) (same_long sieve.step nine.steps) ∙ taken_long sieve.lo nine.los

  pub picks_low : (j : ℕ) → j < sieve.n → (1 ≤ slice_index (sieve_lengths sieve) j) × (slice_index (sieve_lengths sieve) j ≤ 2147483647)
  picks_low j less =
      let long : length (sieve_lo sieve) ≡ sieve.n = taken_long sieve.lo nine.los in
      let both = count_at (sieve_lo sieve) (sieve_hi sieve) (sieve_step sieve) j (same_long sieve.hi nine.his) (same_long sieve.step nine.steps) (omega (arith, less, long)) in
      let at : get_or (take sieve.n sieve.hi) j 0 ≡ get_or sieve.hi j 0 = get_or-take sieve.n sieve.hi j 0 less in
      (both.0, omega (arith, both.1, at, picks.inside j less))

-- ---- the header of the cutout

module _ (laws : ValueLaws) (shift : ShiftedIsCard) (cards : List (List ℕ)) (after_empty : Bool) (says : Says cards after_empty) (sieve : Sieve) (nine : HasNinePlaces sieve) (picks : HasPicks sieve) (axes : sieve.n ≡ axis_count cards) where
  abbrev move : List ℕ → List ℕ
  move = moved_card sieve

  abbrev the_axis : ℕ → List ℕ
  the_axis i = numbered_number_card (codes "NAXIS") i (slice_index (picked_region sieve).len (i - 1))

  abbrev made_axes : List (List ℕ)
  made_axes = map the_axis (range_with_len 1 sieve.n)

  abbrev part : List (List ℕ)
  part = part_cards_of (was_primary cards) (axis_count cards) cards

  abbrev simple : List ℕ
  simple = lead_card (flag_card (codes "SIMPLE")) (first_of_name (padded (codes "ZSIMPLE")) cards)

  abbrev the_bitpix : List ℕ
  the_bitpix = plain_card (bitpix laws cards after_empty says).card

  abbrev the_naxis : List ℕ
  the_naxis = plain_card (naxis laws cards after_empty says).card

  list_is : cutout_header cards (picked_region sieve) ≡ simple ∷ the_bitpix ∷ the_naxis ∷ (made_axes ++ part)
  unfolding cutout_header
  list_is =
      λ i. or_said (flag_card (codes "SIMPLE")) (first_of_name (padded (codes "ZSIMPLE")) cards) i
      ++ ((some_said (first_of_name (padded (codes "ZBITPIX")) cards) (bitpix laws cards after_empty says).card (bitpix laws cards after_empty says).found i
      ++ some_said (first_of_name (padded (codes "ZNAXIS")) cards) (naxis laws cards after_empty says).card (naxis laws cards after_empty says).found i)
      ++ (made_axes ++ part))

  -- SIMPLE
  made_simple : (card_name (flag_card (codes "SIMPLE")) ≡ padded (codes "SIMPLE")) × (unwrap_or (logical_of (flag_card (codes "SIMPLE"))) false ≡ true)
  unfolding logical_of logical_card_bytes
  made_simple = (refl, refl)

  simple_is : (card_name simple ≡ padded (codes "SIMPLE")) × (unwrap_or (logical_of simple) false ≡ true)
  simple_is = by_found (first_of_name (padded (codes "ZSIMPLE")) cards) refl
    where
      by_found : (o : Option (List ℕ)) → first_of_name (padded (codes "ZSIMPLE")) cards ≡ o →
          (card_name (lead_card (flag_card (codes "SIMPLE")) o) ≡ padded (codes "SIMPLE")) × (unwrap_or (logical_of (lead_card (flag_card (codes "SIMPLE")) o)) false ≡ true)
      by_found None found = made_simple
      by_found (Some card) found =
          let is : IsSaid (padded (codes "ZSIMPLE")) cards = said_by (padded (codes "ZSIMPLE")) cards card found in
          let same : IsAs (padded (codes "SIMPLE")) card = renamed_is laws.value (padded (codes "SIMPLE")) (padded (codes "ZSIMPLE")) card refl is.named simple_name in
          let has : has_word (codes "ZSIMPLE") cards ≡ true = position_find (has_name (padded (codes "ZSIMPLE"))) cards ∙ ap is_some found in (
            same.named,
            ap (λ o. unwrap_or o false) (same.values.logical ∙ sym (ap logical_of (the_card_is (padded (codes "ZSIMPLE")) cards is))) ∙ (says.simple has).0,
          )

  simple_set : is_set (codes "SIMPLE") simple ≡ true
  simple_set = λ i. named_is (card_name simple) (codes "SIMPLE") simple_is.0 i && simple_is.1 i

  -- the axes
  abbrev lens : List ℕ
  lens = sieve_lengths sieve

  axis_named : (i : ℕ) → 1 ≤ i → i ≤ 9 → card_name (the_axis i) ≡ numbered_name (codes "NAXIS") i
  axis_named i low high = laws.cards.made.integer_name (numbered_name (codes "NAXIS") i) (pos (slice_index (picked_region sieve).len (i - 1))) (laws.cards.numbers.eight_bytes (codes "NAXIS") i (omega arith, omega (arith, high)))

  axis_value : (j : ℕ) → j < sieve.n → slice_index (picked_region sieve).len (1 + j - 1) ≡ slice_index lens j
  axis_value j less =
      let at : 1 + j - 1 ≡ j = omega arith in
      let count = picks_count sieve nine picks in
      ap (slice_index (picked_region sieve).len) at ∙ get_or_append_left lens (replicate (9 - sieve.n) 0) 0 j (omega (arith, count, less))

  axis_says : (j : ℕ) → j < sieve.n → SaysAxis (the_axis (1 + j)) (1 + j) (slice_index lens j)
  axis_says j less =
      let high : 1 + j ≤ 9 = omega (arith, less, picks.axes) in
      let name : List ℕ = numbered_name (codes "NAXIS") (1 + j) in
      let value : ℕ = slice_index (picked_region sieve).len (1 + j - 1) in
      let low = picks_low sieve nine picks j less in
      let short : value < 10 ^ 18 = omega (arith, axis_value j less, low.1) in
      let eight : length name ≡ 8 = laws.cards.numbers.eight_bytes (codes "NAXIS") (1 + j) (omega arith, omega (arith, high)) in
      record {
        named = (bytes_eq-Decides (card_name (the_axis (1 + j))) name).1 (axis_named (1 + j) (omega arith) high);
        value = (laws.cards.values.integer (the_axis (1 + j)) (pos value)).0 (laws.cards.made.integer_value name (pos value) eight short) ∙ ap (λ m. Some (pos m)) (axis_value j less);
        some = low.0;
        few = low.1;
      }

  naxis_says : SaysSize (codes "NAXIS") the_naxis (length lens)
  naxis_says = let count : axis_count cards ≡ length lens = sym axes ∙ sym (picks_count sieve nine picks) in subst (SaysSize (codes "NAXIS") the_naxis) count (naxis_number laws cards after_empty says)

  module _ (whole : All IsCardBeforeEnd (cutout_header cards (picked_region sieve))) where
    pub moved_whole : All IsCardBeforeEnd (cutout_cards sieve cards)
    moved_whole = all_mapped move (moved_is shift sieve picks) (cutout_header cards (picked_region sieve)) whole

    abbrev header : List ℕ
    header = header_bytes (cutout_cards sieve cards)

    abbrev list : List (List ℕ)
    list = simple ∷ the_bitpix ∷ the_naxis ∷ (made_axes ++ part)

    card_is : (i : ℕ) → i < length list → card_at header i ≡ move (get_or list i [])
    card_is i less =
        let same : cutout_cards sieve cards ≡ map move list = ap (map move) list_is in
        let long : length (map move list) ≡ length list = length-map list move in
        made_card laws.made (cutout_cards sieve cards) moved_whole i (subst (λ l. i < length l) (sym same) (omega (arith, less, long)))
        ∙ ap (λ l. get_or l i []) same ∙ moved_at list i less
      where
        moved_at : (xs : List (List ℕ)) (i : ℕ) → i < length xs → get_or (map move xs) i [] ≡ move (get_or xs i [])
        moved_at [] i less = absurd (omega (arith, less))
        moved_at (x ∷ xs) zero less = refl
        moved_at (x ∷ xs) (suc i) less = moved_at xs i (omega (arith, less))

    axis_is : (j : ℕ) → j < sieve.n → card_at header (2 + (1 + j)) ≡ the_axis (1 + j)
    axis_is j less =
        let count : length made_axes ≡ sieve.n = length-map-range_with_len the_axis 1 sieve.n in
        let within : j < length made_axes = omega (arith, less, count) in
        let more : j < length (made_axes ++ part) = less_more made_axes part j within in
        let at : 2 + (1 + j) ≡ suc (suc (suc j)) = omega arith in
        let high : 1 + j ≤ 9 = omega (arith, less, picks.axes) in
        ap (card_at header) at ∙ card_is (suc (suc (suc j))) (omega (arith, more))
        ∙ ap move (get_or_append_left made_axes part [] j within ∙ get_or-map-range_with_len the_axis 1 sieve.n j (1 + j) [] less refl)
        ∙ moved_stays laws.cards sieve (the_axis (1 + j)) (numbered_name (codes "NAXIS") (1 + j)) (axis_named (1 + j) (omega arith) high) (axis_apart (1 + j))
      where
        less_more : (xs ys : List (List ℕ)) (j : ℕ) → j < length xs → j < length (xs ++ ys)
        less_more [] ys j less = absurd (omega (arith, less))
        less_more (x ∷ xs) ys zero less = omega arith
        less_more (x ∷ xs) ys (suc j) less = let rest = less_more xs ys j (omega (arith, less)) in omega (arith, rest)

    named_of : (word card : List ℕ) → is_named word card ≡ true → card_name card ≡ padded word
    named_of word card is = (bytes_eq-Decides (card_name card) (padded word)).0 is

    pub cut_front : HasFront 0 header (bits laws cards after_empty says).0 lens
    cut_front =
        let b : SaysSize (codes "BITPIX") the_bitpix (bits laws cards after_empty says).0 = bitpix_says laws cards after_empty says in
        let first : card_at header 0 ≡ simple = card_is 0 (omega arith) ∙ moved_stays laws.cards sieve simple (padded (codes "SIMPLE")) simple_is.0 refl in
        let second : card_at header 1 ≡ the_bitpix = card_is 1 (omega arith) ∙ moved_stays laws.cards sieve the_bitpix (padded (codes "BITPIX")) (named_of (codes "BITPIX") the_bitpix b.named) refl in
        let third : card_at header 2 ≡ the_naxis = card_is 2 (omega arith) ∙ moved_stays laws.cards sieve the_naxis (padded (codes "NAXIS")) (named_of (codes "NAXIS") the_naxis naxis_says.named) refl in
        let count : length lens ≡ sieve.n = picks_count sieve nine picks in
        record {
          begins = ap (is_set (codes "SIMPLE")) first ∙ simple_set;
          extension = λ none. absurd (omega (arith, none));
          bitpix = subst (λ c. SaysSize (codes "BITPIX") c (bits laws cards after_empty says).0) (sym second) b;
          integers = (bits laws cards after_empty says).1.integers;
          naxis = subst (λ c. SaysSize (codes "NAXIS") c (length lens)) (sym third) naxis_says;
          some = omega (arith, count, picks.some);
          few = omega (arith, count, picks.axes);
          axes = λ j less.
              let within : j < sieve.n = omega (arith, less, count) in
              subst (λ c. SaysAxis c (1 + j) (slice_index lens j)) (sym (axis_is j within)) (axis_says j within);
          pcount = λ none. absurd (omega (arith, none));
          gcount = λ none. absurd (omega (arith, none));
        }
