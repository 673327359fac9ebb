-- What is written for a tile (FITS 4.0, section 10.1.3): its code if that is shorter than its plain bytes, otherwise these.
use Rattle.std.specs.Prelude.{◌≡◌, ℕ, ◌*◌, ◌/◌, ◌%◌, ◌≤◌, nat_lt, ℤ, List, length, take, Option, Some, None, if◌then◌else◌}
use Rattle.fz_rice.specs.Producer.{rice_bytes}
use Rattle.fz_plio.specs.Producer.{can_hold_all, line_list}
use Rattle.fz_tile.specs.declared.codec.Codec.{Codec}
use Rattle.fz_tile.specs.declared.codec.Codec.TheVariants.{Rice, Plio, Plain}
use Rattle.fz_tile.specs.declared.coded.Place2.{Place2}
use Rattle.fz_tile.specs.declared.coded.Place2.TheVariants.{Coded, Stored}
use Rattle.fz_tile.specs.Plain.{plain_bytes}

-- the place of a tile and its bytes
pub record TileCode : Type 0 where
  pub place : Place2
  pub bytes : List ℕ

-- the code of the numbers, if there is one
abbrev pub code_of : Codec → List ℤ → Option (List ℕ)
code_of (Rice block bytepix) xs = Some (rice_bytes (8 * bytepix) block xs)
code_of Plio xs = if can_hold_all xs then Some (line_list xs) else None
code_of Plain xs = None

-- the code if it is shorter than the plain bytes, otherwise these
abbrev pub shorter : Option (List ℕ) → List ℕ → TileCode
shorter None plain = record { place = Stored; bytes = plain }
shorter (Some code) plain =
    if nat_lt (length code) (length plain) then record { place = Coded; bytes = code }
    else record { place = Stored; bytes = plain }

-- what is written for the pixels of a tile
abbrev pub tile_code : Codec → ℕ → List ℤ → TileCode
tile_code codec bitpix xs = shorter (code_of codec xs) (plain_bytes bitpix xs)

-- the code is written: its place, its length, and its bytes at the front of `out`
pub record IsWritten (code : TileCode) (place : Place2) (len : ℕ) (out : List ℕ) : Type 0 where
  pub place_is : place ≡ code.place
  pub len_is : len ≡ length code.bytes
  pub within : len ≤ length out
  pub bytes_are : take len out ≡ code.bytes

-- the bytes of one element of the column: pixels in UNCOMPRESSED_DATA; in COMPRESSED_DATA words of 16 bits if
-- the tiles are line lists, otherwise bytes
abbrev pub element_len : Codec → ℕ → Place2 → ℕ
element_len codec bitpix Stored = bitpix / 8
element_len (Rice block bytepix) bitpix Coded = 1
element_len Plio bitpix Coded = 2
element_len Plain bitpix Coded = 1

-- the bytes of a tile of n pixels are some elements of its column, and no more than its plain bytes
pub record AreElements (codec : Codec) (bitpix n : ℕ) (code : TileCode) : Type 0 where
  pub some : 1 ≤ length code.bytes
  pub most : length code.bytes ≤ bitpix / 8 * n
  pub whole : length code.bytes % element_len codec bitpix code.place ≡ 0
