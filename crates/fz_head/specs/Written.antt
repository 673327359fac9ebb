-- Cards that were written one after another, from the front of a buffer on.
use Rattle.std.specs.Prelude.{◌≡◌, ℕ, ◌*◌, List, [], ◌∷◌, ◌++◌, Option, Some, None, length, map, take}
use Rattle.std.specs.List.{flat_map, range_with_len}
use Rattle.fz_card.specs.declared.card.Card.{Card}
use Rattle.fz_block.specs.Cards.{card_at}

-- so many cards are at the front of the buffer, and they are these
pub record AreWritten (cards : List (List ℕ)) (count : ℕ) (out : List ℕ) : Type 0 where
  pub bytes : take (80 * count) out ≡ flat_map (λ card. card) cards
  pub number : count ≡ length cards

-- a step writes these cards after those that are there
abbrev pub Adds : List (List ℕ) → ℕ → List ℕ → ℕ → List ℕ → Type 0
Adds new before old after out = (cards : List (List ℕ)) → AreWritten cards before old → AreWritten (cards ++ new) after out

-- cards by their bytes
abbrev pub card_list : List Card → List (List ℕ)
card_list cards = map (λ (card : Card). card.bytes) cards

-- the first cards of a header
abbrev pub first_cards : List ℕ → ℕ → List (List ℕ)
first_cards header count = map (card_at header) (range_with_len 0 count)

-- the card of an index that was found: a list of this card, or of none
abbrev pub found_cards : List ℕ → Option ℕ → List (List ℕ)
found_cards header None = []
found_cards header (Some i) = card_at header i ∷ []
