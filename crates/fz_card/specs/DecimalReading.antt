-- The decimal of a card, and the card of a decimal less a whole number, as functions, for definitions that compute with them. Laws
-- say that they give the decimal by the parts of its text.
use Rattle.std.specs.Prelude.{ℕ, if◌then◌else◌, Option, None, List}
use Rattle.std.specs.Option.{option_map}
use Rattle.fz_card.specs.Layout.{value_field}
use Rattle.fz_card.specs.Plain.{plain_text}
use Rattle.fz_card.specs.Reading.{has_value_indicator}
use Rattle.fz_card.specs.declared.decimal.Decimal.{Decimal}
use Rattle.fz_card.specs.Decimals.{shifted_card}
use Rattle.fz_card.specs.DecimalScans.{decimal_in}

-- the decimal of a card, if its value is one
unfoldable pub decimal_of : List ℕ → Option Decimal
decimal_of card = if has_value_indicator card then decimal_in (plain_text (value_field card)) else None

-- the card with its decimal less this whole number, if its value is a decimal
unfoldable pub shifted : List ℕ → ℕ → Option (List ℕ)
shifted card by = option_map (λ d. shifted_card card by d) (decimal_of card)
