-- Cards that are one after another, and the first of them that has a name (FITS 4.0, sections 3.3.1 and 4.1.2.1).
use Rattle.std.specs.Prelude.{◌≡◌, ◌≢◌, ℕ, ◌*◌, ◌<◌, Bool, Option, List, [], length, map, take, drop, slice_index_or, bytes_eq}
use Rattle.std.specs.List.{find, range_with_len}
use Rattle.fz_card.specs.Layout.{card_name}

-- the first so many cards of these bytes
abbrev pub cards_in : ℕ → List ℕ → List (List ℕ)
cards_in count bytes = map (λ i. take 80 (drop (80 * i) bytes)) (range_with_len 0 count)

-- the card is in the list and has this name, and no card before it has
pub record IsFirstOfName (name : List ℕ) (cards : List (List ℕ)) (card : List ℕ) : Type 0 where
  pub index : ℕ
  pub within : index < length cards
  pub stands : slice_index_or cards index [] ≡ card
  pub named : card_name card ≡ name
  pub first : (i : ℕ) → i < index → card_name (slice_index_or cards i []) ≢ name

-- the same as functions: whether the card has this name
abbrev pub has_name : List ℕ → List ℕ → Bool
has_name name card = bytes_eq (card_name card) name

-- the first card of this name, if there is one
abbrev pub first_of_name : List ℕ → List (List ℕ) → Option (List ℕ)
first_of_name name cards = find (has_name name) cards
