-- What the checks of single cards see.
use Rattle.std.specs.Prelude.{ℕ, ◌==◌, ◌+◌, ◌*◌, ◌/◌, ◌&&◌, Bool, List, take, bytes_eq, Some, if◌then◌else◌}
use Rattle.fz_card.specs.Layout.{card_name}
use Rattle.fz_card.specs.Reading.{integer_of}
use Rattle.fz_block.specs.Hdus.{places, size_in}
use Rattle.fz_block.specs.Mandatory.{is_size}
use Rattle.fz_block.specs.declared.mandatory.Mandatory.{Mandatory}

-- the card has this name, as it is in columns 1 to 8, and says a number that is 0 or more
abbrev pub has_size : List ℕ → List ℕ → Bool
has_size name card = bytes_eq (card_name card) name && is_size (integer_of card)

-- the length of the data, by what the mandatory cards say
abbrev pub said_len : Mandatory → ℕ
said_len m = if m.axes.n == 0 then 0 else size_in (Some m.bitpix) / 8 * (m.gcount * (m.pcount + places (take m.axes.n m.axes.len)))
