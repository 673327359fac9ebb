-- The pixels that the record of a tile stands for, or why it stands for none, by its bytes only (FITS 4.0, sections 10.1.3 and 10.4).
use Rattle.std.specs.Prelude.{ℕ, ◌+◌, ◌-◌, ◌*◌, ◌/◌, ◌%◌, ◌^◌, ◌==◌, ◌&&◌, ◌||◌, not, nat_lt, nat_le, Bool, true, false, ℤ, pos}
use Rattle.std.specs.Prelude.{negsuc, List, [], ◌∷◌, length, slice_index, Option, Some, None, Result, Ok, Err, if◌then◌else◌}
use Rattle.std.specs.List.{list_any}
use Rattle.fz_bits.specs.Bits.{bits_of}
use Rattle.fz_rice.specs.Reading.{Reading, code_at}
use Rattle.fz_rice.specs.declared.coder.CodeFault.{CodeFault}
use Rattle.fz_rice.specs.declared.coder.CodeFault.TheVariants.{Ended, Unlawful}
use Rattle.fz_plio.specs.Instructions.{Instruction}
use Rattle.fz_plio.specs.Meaning.{effect, expand, instructions_of, line_of, list_len}
use Rattle.fz_plio.specs.Words.{words}
use Rattle.fz_tile.specs.Plain.{stored_pixels}
use Rattle.fz_tile.specs.Record.{Form, plain, rice, line, form_of}
use Rattle.fz_tile.specs.declared.codec.Codec.{Codec}
use Rattle.fz_tile.specs.declared.coded.Place2.{Place2}
use Rattle.fz_tile.specs.declared.fault.TileFault.{TileFault}
use Rattle.fz_tile.specs.declared.fault.TileFault.TheVariants.{CodeShort, CodeValue, LineList, PixelRange, TileSize}

-- ---- the range of BITPIX

-- a number is in the range of BITPIX: unsigned at 8, in two's complement at 16, 32 and 64
abbrev pub is_number : ℕ → ℤ → Bool
is_number bitpix (pos n) = nat_lt n (if bitpix == 8 then 2 ^ bitpix else 2 ^ (bitpix - 1))
is_number bitpix (negsuc n) = not (bitpix == 8) && nat_lt n (2 ^ (bitpix - 1))

-- all numbers are
unfoldable pub are_numbers : ℕ → List ℤ → Bool
are_numbers bitpix [] = true
are_numbers bitpix (x ∷ xs) = is_number bitpix x && are_numbers bitpix xs

-- the numbers as pixels, if all are in the range of BITPIX
abbrev pub pixels_if : ℕ → List ℤ → Result (List ℤ) TileFault
pixels_if bitpix xs = if are_numbers bitpix xs then Ok xs else Err PixelRange

-- ---- plain bytes

-- the pixels of plain bytes, which are as many bytes as the n pixels of the tile have
abbrev pub plain_pixels : ℕ → ℕ → ℕ → List ℕ → Result (List ℤ) TileFault
plain_pixels bitpix total n read = if total == bitpix / 8 * n then Ok (stored_pixels bitpix n read) else Err TileSize

-- ---- Rice codes

-- why a code of n numbers is refused: it ends early in a record that was read whole, or it is unlawful or longer than what is read
abbrev pub rice_fault : ℕ → ℕ → CodeFault → TileFault
rice_fault total n Ended = if nat_lt (8 * n + 64) total then CodeValue else CodeShort
rice_fault total n Unlawful = CodeValue

-- the pixels of the numbers that were read from a code
abbrev pub pixels_of_code : ℕ → ℕ → ℕ → Reading (List ℤ) → Result (List ℤ) TileFault
pixels_of_code bitpix total n (Ok code) = pixels_if bitpix code.0
pixels_of_code bitpix total n (Err fault) = Err (rice_fault total n fault)

-- ---- line lists

-- one of these is so
abbrev pub any_of : List Bool → Bool
any_of [] = false
any_of (b ∷ bs) = b || any_of bs

-- an instruction takes more from the high value h than it has, or makes it 2^24 or more
abbrev pub leaves_range : ℕ → Instruction → Bool
leaves_range h i = ((i.operation == 3 || i.operation == 7) && nat_lt h i.number) || nat_le (2 ^ 24) (effect h i).high

-- one of these does, the first from the high value h
unfoldable pub some_leaves_range : ℕ → List Instruction → Bool
some_leaves_range h [] = false
some_leaves_range h (i ∷ rest) = leaves_range h i || some_leaves_range (effect h i).high rest

-- operation 5 with N = 0
abbrev pub has_no_high : Instruction → Bool
has_no_high i = i.operation == 5 && i.number == 0

-- an operation from 8 to 15
abbrev pub is_unknown : Instruction → Bool
is_unknown i = nat_le 8 i.operation

-- the second word of operation 1 is missing, or above 4095
abbrev pub is_no_second : Option ℕ → Bool
is_no_second None = true
is_no_second (Some second) = nat_lt 4095 second

abbrev pub has_no_second : Instruction → Bool
has_no_second i = i.operation == 1 && is_no_second i.second

-- what refuses instructions for a line of n numbers, from the high value h: they write past its end, or one of them is refused
abbrev pub instruction_tests : ℕ → ℕ → List Instruction → List Bool
instruction_tests n h is =
    nat_lt n (length (expand h is))
    ∷ some_leaves_range h is
    ∷ list_any has_no_high is
    ∷ list_any is_unknown is
    ∷ list_any has_no_second is
    ∷ []

-- what refuses bytes as a line list of n numbers: an odd byte, a short or faulty header, a length L that ends in the header or
-- after the words, or the instructions
abbrev pub list_tests : ℕ → List ℕ → List Bool
list_tests n code =
    (length code % 2 == 1)
    ∷ nat_lt (length code) 14
    ∷ not (slice_index (words code) 1 == 7)
    ∷ (nat_lt 0 (slice_index (words code) 2) && nat_lt (slice_index (words code) 2) (2 ^ 15))
    ∷ nat_lt 32767 (slice_index (words code) 3)
    ∷ nat_lt 32767 (slice_index (words code) 4)
    ∷ nat_lt (list_len code) 7
    ∷ nat_lt (length (words code)) (list_len code)
    ∷ any_of (instruction_tests n 1 (instructions_of code))
    ∷ []

-- the pixels of a line list
abbrev pub line_pixels : ℕ → ℕ → List ℕ → Result (List ℤ) TileFault
line_pixels bitpix n code = if any_of (list_tests n code) then Err LineList else pixels_if bitpix (line_of n (instructions_of code))

-- ---- a record

-- the pixels of a record of `total` bytes in this form, of which these are read, for a tile of n pixels
abbrev pub pixels_in : Form → ℕ → ℕ → ℕ → List ℕ → Result (List ℤ) TileFault
pixels_in plain bitpix total n read = plain_pixels bitpix total n read
pixels_in (rice width block) bitpix total n read = pixels_of_code bitpix total n (code_at width block n (bits_of read))
pixels_in line bitpix total n read = line_pixels bitpix n read

-- the same in this place and by this codec
abbrev pub record_pixels : Codec → ℕ → Place2 → ℕ → ℕ → List ℕ → Result (List ℤ) TileFault
record_pixels codec bitpix place total n read = pixels_in (form_of codec place) bitpix total n read
