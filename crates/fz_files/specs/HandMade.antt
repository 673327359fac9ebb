-- Cards and headers as they are written out in the worked files (FITS 4.0, sections 3.3.1, 4.1 and 4.4.1.1).
use Rattle.std.specs.Prelude.{ℕ, List, [], ◌∷◌, ◌++◌, codes}
use Rattle.std.specs.List.{flat_map}
use Rattle.fz_card.specs.Layout.{filled}

-- a text as a card of 80 bytes
abbrev pub card_of : List ℕ → List ℕ
card_of text = filled 80 text

-- a header of one block: at most 35 cards, END, and blanks
abbrev pub block_of : List (List ℕ) → List ℕ
block_of cards = filled 2880 (flat_map (λ c. c) cards ++ codes "END")

-- the cards of the empty primary before a packed primary
abbrev pub empty_cards : List (List ℕ)
empty_cards =
    card_of (codes "SIMPLE  =                    T")
    ∷ card_of (codes "BITPIX  =                    8")
    ∷ card_of (codes "NAXIS   =                    0")
    ∷ card_of (codes "EXTEND  =                    T")
    ∷ []
