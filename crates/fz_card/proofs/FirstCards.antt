-- The first card of a name in a list of cards.
use Rattle.std.proofs.Common.{◌≡◌, ◌≢◌, ℕ, ◌+◌, ◌*◌, ◌<◌, Bool, true, false, cond, List, [], length, get_or, take, drop, sym, refl, ap, ◌∙◌, subst, arith, zero-add}
use Rattle.std.specs.Prelude.{Some, None}
use Rattle.std.specs.List.{find, position, position_or_len, slice_get}
use Rattle.std.proofs.lemmas.Bool.{lt-ltb}
use Rattle.std.proofs.lemmas.List.Folds.{find_at}
use Rattle.std.proofs.lemmas.List.Sums.{position_or_len_is}
use Rattle.std.proofs.lemmas.List.FromFn.{length-map-range_with_len, get_or-map-range_with_len}
use Rattle.std.proofs.lemmas.List.Quantifiers.{position-Some}
use Rattle.std.proofs.lemmas.Option.{slice_get_within, get_or_from_slice_get, slice_get-get_or}
use Rattle.std.proofs.lemmas.Slice.Eq.{bytes_eq-Decides}
use borrow.Author.Count.{below_more}
use Rattle.fz_card.specs.Layout.{card_name}
use Rattle.fz_card.specs.CardLists.{cards_in, has_name, first_of_name, IsFirstOfName}
use Rattle.fz_card.proofs.Numbers.{none_from}

-- the first element of a list that passes a test, by its index
find-here : {X : Type 0} (p : X → Bool) (xs : List X) (i : ℕ) (d : X) → i < length xs → p (get_or xs i d) ≡ true → ((k : ℕ) → k < i → p (get_or xs k d) ≡ false) → find p xs ≡ Some (get_or xs i d)
find-here p xs i d within is none =
    let at : position_or_len p xs ≡ i = position_or_len_is p xs i d (omega arith) none (λ _. is) in
    find_at p xs ∙ (ap (slice_get xs) at ∙ slice_get-get_or xs i d within)

find-nowhere : {X : Type 0} (p : X → Bool) (xs : List X) (d : X) → ((k : ℕ) → k < length xs → p (get_or xs k d) ≡ false) → find p xs ≡ None
find-nowhere p xs d none = none_from (find p xs) (λ x e.
    let found : slice_get xs (position_or_len p xs) ≡ Some x = sym (find_at p xs) ∙ e in
    let within : position_or_len p xs < length xs = slice_get_within xs (position_or_len p xs) x found in
    let at : position p xs ≡ Some (position_or_len p xs) = ap (λ b. cond b (Some (position_or_len p xs)) None) (lt-ltb (position_or_len p xs) (length xs) within) in
    let is = position-Some p xs (position_or_len p xs) d at in
    let not = none (position_or_len p xs) within in
    let both : true ≡ false = sym is.1 ∙ not in cc)

not-named : (name card : List ℕ) → has_name name card ≡ false → card_name card ≢ name
not-named name card e = λ same. let is : has_name name card ≡ true = (bytes_eq-Decides (card_name card) name).1 same in cc

is-false : (b : Bool) → (b ≡ true → ⊥) → b ≡ false
is-false true never = absurd (never refl)
is-false false never = refl

other-name : (name card : List ℕ) → card_name card ≢ name → has_name name card ≡ false
other-name name card other = is-false (has_name name card) (λ t. other ((bytes_eq-Decides (card_name card) name).0 t))

pub first-is : (name card : List ℕ) (cards : List (List ℕ)) → first_of_name name cards ≡ Some card → IsFirstOfName name cards card
first-is name card cards e =
    let p = has_name name in
    let i = position_or_len p cards in
    let found : slice_get cards i ≡ Some card = sym (find_at p cards) ∙ e in
    let within : i < length cards = slice_get_within cards i card found in
    let at : position p cards ≡ Some i = ap (λ b. cond b (Some i) None) (lt-ltb i (length cards) within) in
    let is = position-Some p cards i [] at in
    let stands : get_or cards i [] ≡ card = get_or_from_slice_get cards i card [] found in
    record {
      index = i;
      within = within;
      stands = stands;
      named = (bytes_eq-Decides (card_name card) name).0 (subst (λ (c : List ℕ). has_name name c ≡ true) stands is.1);
      first = λ k below. not-named name (get_or cards k []) (is.2 k below);
    }

pub is-first : (name card : List ℕ) (cards : List (List ℕ)) → IsFirstOfName name cards card → first_of_name name cards ≡ Some card
is-first name card cards is =
    find-here (has_name name) cards is.index [] is.within ((bytes_eq-Decides (card_name (get_or cards is.index [])) name).1 (ap card_name is.stands ∙ is.named)) (λ k below. other-name name (get_or cards k []) (is.first k below)) ∙ ap Some is.stands

pub none-first : (name : List ℕ) (cards : List (List ℕ)) → first_of_name name cards ≡ None → (card : List ℕ) → ¬ (IsFirstOfName name cards card)
none-first name cards none card is = let found = is-first name card cards is in cc

pub first-none : (name : List ℕ) (cards : List (List ℕ)) → ((card : List ℕ) → ¬ (IsFirstOfName name cards card)) → first_of_name name cards ≡ None
first-none name cards none = none_from (first_of_name name cards) (λ card e. none card (first-is name card cards e))

-- the first of so many cards of bytes
pub first-found : (name bytes : List ℕ) (n i : ℕ) → i < n → has_name name (take 80 (drop (80 * i) bytes)) ≡ true → ((k : ℕ) → k < i → has_name name (take 80 (drop (80 * k) bytes)) ≡ false) → Some (take 80 (drop (80 * i) bytes)) ≡ first_of_name name (cards_in n bytes)
first-found name bytes n i within is none =
    let card = λ (k : ℕ). take 80 (drop (80 * k) bytes) in
    let at = λ (k : ℕ) (below : k < n). get_or-map-range_with_len card 0 n k k [] below (zero-add k) in
    let long : length (cards_in n bytes) ≡ n = length-map-range_with_len card 0 n in
    sym (find-here (has_name name) (cards_in n bytes) i [] (omega arith) (ap (has_name name) (at i within) ∙ is) (λ k below. ap (has_name name) (at k (omega arith)) ∙ none k below) ∙ ap Some (at i within))

pub first-nowhere : (name bytes : List ℕ) (n : ℕ) → ((k : ℕ) → k < n → has_name name (take 80 (drop (80 * k) bytes)) ≡ false) → None ≡ first_of_name name (cards_in n bytes)
first-nowhere name bytes n none =
    let card = λ (k : ℕ). take 80 (drop (80 * k) bytes) in
    let long : length (cards_in n bytes) ≡ n = length-map-range_with_len card 0 n in
    sym (find-nowhere (has_name name) (cards_in n bytes) [] (λ k below. ap (has_name name) (get_or-map-range_with_len card 0 n k k [] (omega arith) (zero-add k)) ∙ none k (omega arith)))

-- one card more that has not the name
pub none-more : (name bytes : List ℕ) (i : ℕ) → ((k : ℕ) → k < i → has_name name (take 80 (drop (80 * k) bytes)) ≡ false) → has_name name (take 80 (drop (80 * i) bytes)) ≡ false → (k : ℕ) → k < i + 1 → has_name name (take 80 (drop (80 * k) bytes)) ≡ false
none-more name bytes i none here = below_more (λ k. has_name name (take 80 (drop (80 * k) bytes)) ≡ false) i none here
