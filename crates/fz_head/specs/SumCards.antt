-- The cards of sums, which are at the end of a packed header (FITS 4.0, section 4.4.2.7).
use Rattle.std.specs.Prelude.{◌≡◌, ◌⊎◌, ℕ, true, List, length, codes}
use Rattle.std.specs.List.{AllByRecursion}
use Rattle.fz_card.specs.Layout.{card_name, padded}
use Rattle.fz_card.specs.Naming.{is_dropped}

-- a card of a sum
pub record IsSumCard (card : List ℕ) : Type 0 where
  pub whole : length card ≡ 80
  pub named : (card_name card ≡ padded (codes "DATASUM")) ⊎ (card_name card ≡ padded (codes "CHECKSUM"))

abbrev pub AreSumCards : List (List ℕ) → Type 0
AreSumCards cards = AllByRecursion IsSumCard cards

-- cards of only the table, which do not come back with the image
abbrev pub IsDroppedCard : List ℕ → Type 0
IsDroppedCard card = is_dropped (card_name card) ≡ true

abbrev pub AreDropped : List (List ℕ) → Type 0
AreDropped cards = AllByRecursion IsDroppedCard cards
