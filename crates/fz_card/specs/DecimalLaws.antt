-- What the definitions of decimals promise together: the statements of laws.
use Rattle.std.specs.Prelude.{◌≡◌, ◌↔◌, ◌^◌, ◌<◌, ◌≤◌, ℕ, Some, List, length}
use Rattle.fz_card.specs.Layout.{card_name}
use Rattle.fz_card.specs.declared.decimal.Decimal.{Decimal}
use Rattle.fz_card.specs.Decimals.{HasDecimal, IsShifted}
use Rattle.fz_card.specs.DecimalReading.{decimal_of, shifted}

-- a card has at most one decimal and so at most one card with it less a whole number, and the functions give both
pub record DecimalLaws : Type 0 where
  pub once : (card : List ℕ) (d e : Decimal) → HasDecimal card d → HasDecimal card e → d ≡ e
  pub decimal : (card : List ℕ) (d : Decimal) → HasDecimal card d ↔ (decimal_of card ≡ Some d)
  pub shifted_card : (card : List ℕ) (by : ℕ) (other : List ℕ) → IsShifted card by other ↔ (shifted card by ≡ Some other)

-- the card with its decimal less a whole number of 32 bits has 80 bytes, and the name that it had
abbrev pub ShiftedIsCard : Type 0
ShiftedIsCard =
    (card : List ℕ) (by : ℕ) (other : List ℕ) → 8 ≤ length card → by < 2 ^ 32 → shifted card by ≡ Some other
    → (length other ≡ 80) × (card_name other ≡ card_name card)
