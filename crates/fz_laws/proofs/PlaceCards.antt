-- Which cards a header has: END, the cards before it, and where a card that is looked for is found.
use Rattle.std.proofs.Common.{◌≡◌, ℕ, zero, suc, ◌+◌, ◌-◌, ◌*◌, ◌/◌, ◌<◌, ◌≤◌, min, nat_lt, Bool, true, false, cond, List, length, take, drop, codes, bytes_eq, is_some, position, Option, Some, None, if◌then◌else◌, refl, sym, ◌∙◌, ap, arith}
use Rattle.std.specs.Prelude.{unwrap_or}
use Rattle.std.specs.List.{position_or_len}
use Rattle.std.specs.Option.{option_map}
use Rattle.std.proofs.lemmas.Bool.Decides.{nat_tests}
use Rattle.std.proofs.lemmas.List.{drop-drop, drop-take, length-drop, length-take, take-take}
use Rattle.std.proofs.lemmas.List.FromFn.{length-map-range_with_len}
use Rattle.std.proofs.lemmas.Slice.Eq.{bytes_eq-Decides}
use Rattle.fz_card.specs.Layout.{card_name, padded}
use Rattle.fz_card.specs.Made.{numbered_name}
use Rattle.fz_block.specs.Cards.{card_at, end_among, end_of, first_among, is_named}
use Rattle.fz_block.specs.Checks.{header_room}
use Rattle.fz_block.specs.Hdus.{cards_of}

-- ---- END

-- what the search says of a card and of those after it
abbrev on_card : Bool → Option ℕ → Option ℕ
on_card is_it later = if is_it then Some 0 else option_map suc later

after_one : (m : ℕ) (cards : List ℕ) → drop (80 * m) (drop 80 cards) ≡ drop (80 * suc m) cards
after_one m cards =
    let step : 80 + 80 * m ≡ 80 * suc m = omega arith in
    drop-drop (80 * m) 80 cards ∙ ap (λ n. drop n cards) step

below_suc : (b : Bool) (later : Option ℕ) (n i : ℕ) → ((j : ℕ) → later ≡ Some j → j < n) → on_card b later ≡ Some i → i < suc n
below_suc true later n i below e = let same : 0 ≡ i = cc in omega (arith, same)
below_suc false None n i below e = absurd cc
below_suc false (Some j) n i below e =
    let same : suc j ≡ i = cc in
    let small : j < n = below j refl in
    omega (arith, same, small)

end_below : (n i : ℕ) (cards : List ℕ) → end_among n cards ≡ Some i → i < n
unfolding end_among
end_below zero i cards e = absurd cc
end_below (suc n) i cards e = below_suc (is_named (codes "END") (take 80 cards)) (end_among n (drop 80 cards)) n i (λ j later. end_below n j (drop 80 cards) later) e

-- the card that is found is named END
end_named : (n i : ℕ) (cards : List ℕ) → end_among n cards ≡ Some i → is_named (codes "END") (card_at cards i) ≡ true
unfolding end_among
end_named zero i cards e = absurd cc
end_named (suc n) i cards e = by_card (is_named (codes "END") (take 80 cards)) refl (end_among n (drop 80 cards)) (λ j later. end_named n j (drop 80 cards) later) e
  where
    by_card : (b : Bool) → is_named (codes "END") (card_at cards 0) ≡ b → (later : Option ℕ) → ((j : ℕ) → later ≡ Some j → is_named (codes "END") (card_at (drop 80 cards) j) ≡ true) → on_card b later ≡ Some i →
        is_named (codes "END") (card_at cards i) ≡ true
    by_card true is later next e =
        let same : 0 ≡ i = cc in
        ap (λ n. is_named (codes "END") (card_at cards n)) (sym same) ∙ is
    by_card false is None next e = absurd cc
    by_card false is (Some j) next e =
        let same : suc j ≡ i = cc in
        ap (λ n. is_named (codes "END") (card_at cards n)) (sym same) ∙ (ap (λ l. is_named (codes "END") (take 80 l)) (sym (after_one j cards)) ∙ next j refl)

-- the same END is found among fewer bytes that have it
end_in_front : (n m c i : ℕ) (cards : List ℕ) → end_among n cards ≡ Some i → i < m → 80 * m ≤ c → end_among m (take c cards) ≡ Some i
unfolding end_among
end_in_front n zero c i cards e less room = absurd (omega (arith, less))
end_in_front zero (suc m) c i cards e less room = absurd cc
end_in_front (suc n) (suc m) c i cards e less room =
    let split : 80 + (c - 80) ≡ c = omega (arith, room) in
    let first : take 80 (take c cards) ≡ take 80 cards = take-take 80 c cards (omega (arith, room)) in
    let rest : drop 80 (take c cards) ≡ take (c - 80) (drop 80 cards) = ap (λ j. drop 80 (take j cards)) (sym split) ∙ drop-take 80 (c - 80) cards in
    ap (λ d. on_card (is_named (codes "END") d) (end_among m (drop 80 (take c cards)))) first
    ∙ (ap (λ l. on_card (is_named (codes "END") (take 80 cards)) (end_among m l)) rest
    ∙ by_card (is_named (codes "END") (take 80 cards)) (end_among n (drop 80 cards)) (λ j later small. end_in_front n m (c - 80) j (drop 80 cards) later small (omega (arith, room))) e)
  where
    by_card : (b : Bool) (later : Option ℕ) → ((j : ℕ) → later ≡ Some j → j < m → end_among m (take (c - 80) (drop 80 cards)) ≡ Some j) → on_card b later ≡ Some i →
        on_card b (end_among m (take (c - 80) (drop 80 cards))) ≡ Some i
    by_card true later next e = e
    by_card false None next e = absurd cc
    by_card false (Some j) next e =
        let same : suc j ≡ i = cc in
        ap (option_map suc) (next j refl (omega (arith, same, less))) ∙ e

-- the END of a header is in it, and so in the file
pub end_is_named : (header : List ℕ) (e : ℕ) → end_of header ≡ Some e → is_named (codes "END") (card_at header e) ≡ true
end_is_named header e is = end_named (length header / 80) e header is

pub end_within : (header : List ℕ) (e : ℕ) → end_of header ≡ Some e → 80 * (e + 1) ≤ length header
end_within header e is =
    let less : e < length header / 80 = end_below (length header / 80) e header is in
    omega (arith, less)

pub taken_within : (file : List ℕ) (start n : ℕ) → length (take n (drop start file)) ≤ length file - start
taken_within file start n =
    let one : length (take n (drop start file)) ≡ min n (length (drop start file)) = length-take n (drop start file) in
    let two : length (drop start file) ≡ length file - start = length-drop start file in
    omega (arith, one, two)

pub end_in_file : (file : List ℕ) (start n e : ℕ) → end_of (take n (drop start file)) ≡ Some e → start + 80 * (e + 1) ≤ length file
end_in_file file start n e is =
    let inside = end_within (take n (drop start file)) e is in
    let taken = taken_within file start n in
    omega (arith, inside, taken)

-- the END of the blocks that a header may have is that of the header
pub end_of_header : (file : List ℕ) (start e : ℕ) → end_of (header_room start file) ≡ Some e → end_of (take (2880 * (e / 36 + 1)) (drop start file)) ≡ Some e
end_of_header file start e is =
    let rest : List ℕ = drop start file in
    let room : ℕ = min 256 ((length file - start) / 2880) in
    let c : ℕ = 2880 * (e / 36 + 1) in
    let left : length rest ≡ length file - start = length-drop start file in
    let long : length (take (2880 * room) rest) ≡ min (2880 * room) (length rest) = length-take (2880 * room) rest in
    let some : 2880 * room ≤ length file - start = omega arith in
    let all : length (take (2880 * room) rest) ≡ 2880 * room = omega (arith, left, long, some) in
    let less : e < length (take (2880 * room) rest) / 80 = end_below (length (take (2880 * room) rest) / 80) e (take (2880 * room) rest) is in
    let few : e < 36 * room = omega (arith, less, all) in
    let inside : c ≤ 2880 * room = omega (arith, few) in
    let front : take c (take (2880 * room) rest) ≡ take c rest = take-take c (2880 * room) rest inside in
    let size : length (take c rest) ≡ c = let cut : length (take c rest) ≡ min c (length rest) = length-take c rest in omega (arith, cut, inside, some, left) in
    let count : length (take c rest) / 80 ≡ 36 * (e / 36 + 1) = omega (arith, size) in
    ap (λ n. end_among n (take c rest)) count
    ∙ (ap (end_among (36 * (e / 36 + 1))) (sym front)
    ∙ end_in_front (length (take (2880 * room) rest) / 80) (36 * (e / 36 + 1)) c e (take (2880 * room) rest) is (omega arith) (omega arith))

-- ---- names other than END

pub not_end : (card name : List ℕ) → bytes_eq name (padded (codes "END")) ≡ false → bytes_eq (card_name card) name ≡ true → is_named (codes "END") card ≡ false
not_end card name other is = ap (λ n. bytes_eq n (padded (codes "END"))) ((bytes_eq-Decides (card_name card) name).0 is) ∙ other

pub axis_is_other : (i : ℕ) → bytes_eq (numbered_name (codes "NAXIS") i) (padded (codes "END")) ≡ false
unfolding numbered_name
axis_is_other i = refl

-- ---- where a card is found

or_within : (found : Option ℕ) (d n : ℕ) → ((k : ℕ) → found ≡ Some k → k < n) → d ≤ n → unwrap_or found d ≤ n
or_within None d n below le = le
or_within (Some k) d n below le = let less : k < n = below k refl in omega (arith, less)

or_below : (found : Option ℕ) (d n : ℕ) → ((k : ℕ) → found ≡ Some k → k < n) → d < n → unwrap_or found d < n
or_below None d n below less = less
or_below (Some k) d n below less = below k refl

first_below : (has : List ℕ → Bool) (n i : ℕ) (cards : List ℕ) → first_among has n cards ≡ Some i → i < n
unfolding first_among
first_below has zero i cards e = absurd cc
first_below has (suc n) i cards e = below_suc (has (take 80 cards)) (first_among has n (drop 80 cards)) n i (λ j later. first_below has n j (drop 80 cards) later) e

pub first_within : (has : List ℕ → Bool) (n d : ℕ) (cards : List ℕ) → d ≤ n → unwrap_or (first_among has n cards) d ≤ n
first_within has n d cards le = or_within (first_among has n cards) d n (λ k e. first_below has n k cards e) le

pub first_before : (has : List ℕ → Bool) (n d : ℕ) (cards : List ℕ) → d < n → unwrap_or (first_among has n cards) d < n
first_before has n d cards less = or_below (first_among has n cards) d n (λ k e. first_below has n k cards e) less

module _ {X : Type 0} (p : X → Bool) (xs : List X) where
  position_below : (k : ℕ) → position p xs ≡ Some k → k < length xs
  position_below k e = by_test (nat_lt (position_or_len p xs) (length xs)) refl e
    where
      by_test : (b : Bool) → nat_lt (position_or_len p xs) (length xs) ≡ b → cond b (Some (position_or_len p xs)) None ≡ Some k → k < length xs
      by_test true is e =
          let same : position_or_len p xs ≡ k = cc in
          let less : position_or_len p xs < length xs = grind (arith, nat_tests, is) in
          omega (arith, same, less)
      by_test false is e = absurd cc

  pub position_before : 0 < length xs → unwrap_or (position p xs) 0 < length xs
  position_before some = or_below (position p xs) 0 (length xs) position_below some

  pub position_less : is_some (position p xs) ≡ true → unwrap_or (position p xs) 0 < length xs
  position_less some = by_found (position p xs) position_below some
    where
      by_found : (found : Option ℕ) → ((k : ℕ) → found ≡ Some k → k < length xs) → is_some found ≡ true → unwrap_or found 0 < length xs
      by_found None below some = absurd cc
      by_found (Some k) below some = below k refl

pub cards_count : (header : List ℕ) (e : ℕ) → end_of header ≡ Some e → length (cards_of header) ≡ e
cards_count header e is = length-map-range_with_len (card_at header) 0 (unwrap_or (end_of header) 0) ∙ ap (λ found. unwrap_or found 0) is
