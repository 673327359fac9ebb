-- The cards DATASUM and CHECKSUM (FITS 4.0, section 4.4.2.7).
use Rattle.std.specs.Prelude.{ℕ, ◌+◌, ◌*◌, List, ◌++◌, take, drop, replicate, codes, decimal}
use Rattle.std.specs.Str.{byte}
use Rattle.fz_card.specs.Made.{text_card_bytes}
use Rattle.fz_card.specs.Layout.{padded}
use Rattle.fz_sum.specs.Characters.{characters}

-- the name of the card that gives the sum of the data
abbrev pub datasum_name : List ℕ
datasum_name = padded (codes "DATASUM")

-- the name of the card with which the sum of the HDU is all ones
abbrev pub checksum_name : List ℕ
checksum_name = padded (codes "CHECKSUM")

-- DATASUM has the digits of the sum as its text
unfoldable pub datasum_card : ℕ → List ℕ
datasum_card sum = text_card_bytes datasum_name (decimal sum)

-- CHECKSUM has the characters of the sum as its text
unfoldable pub checksum_card : ℕ → List ℕ
checksum_card sum = text_card_bytes checksum_name (characters sum)

-- CHECKSUM with sixteen times the character `0`, as it is while the sum of its HDU is taken
unfoldable pub blank_checksum_card : List ℕ
blank_checksum_card = text_card_bytes checksum_name (replicate 16 (byte "0"))

-- the bytes with another card in place of card i
abbrev pub with_card : ℕ → List ℕ → List ℕ → List ℕ
with_card i card bytes = take (80 * i) bytes ++ (card ++ drop (80 * (i + 1)) bytes)
