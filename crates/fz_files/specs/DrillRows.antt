-- What `drill` makes of six rows, written out by hand: what is written for each row with each codec, and the lines; and a row with a higher
-- number (FITS 4.0, sections 4.4.1, 10.1 and 10.4).
use Rattle.std.specs.Prelude.{ℕ, ℤ, pos, ◌+◌, ◌/◌, ◌%◌, true, false, List, [], ◌∷◌, ◌++◌, replicate, codes}
use Rattle.std.specs.List.{flat_map, range_with_len}
use Rattle.fz_tile.specs.TileCode.{TileCode}
use Rattle.fz_tile.specs.declared.codec.Codec.{Codec}
use Rattle.fz_tile.specs.declared.codec.Codec.TheVariants as codec
use Rattle.fz_tile.specs.declared.coded.Place2.TheVariants.{Coded, Stored}
use Rattle.fz_head.specs.declared.options.CodecWord.{CodecWord}
use Rattle.fz_head.specs.declared.options.CodecWord.TheVariants as word
use Rattle.fz_head.specs.declared.plan.Plan.{Plan}

-- the plan of the image of 256 columns and 6 rows: a row is a tile
abbrev pub six_plan : Codec → Plan
six_plan c = record {
  codec = c;
  bitpix = pos 16;
  shape = record { n = 2; len = 256 ∷ 6 ∷ 0 ∷ 0 ∷ 0 ∷ 0 ∷ 0 ∷ 0 ∷ 0 ∷ [] };
  tile = record { n = 2; len = 256 ∷ 1 ∷ 0 ∷ 0 ∷ 0 ∷ 0 ∷ 0 ∷ 0 ∷ 0 ∷ [] };
  primary = true;
  wide = false;
}

abbrev pub six_codec : CodecWord → Codec
six_codec word.Rice = codec.Rice 32 2
six_codec word.Plio = codec.Plio
six_codec word.None = codec.Plain

-- A row with Rice codes, after its first pixel: the block of 32 pixels without a difference, in 4 bits 0; and seven blocks that begin with
-- the difference 7: 4 bits that say 1, 14 zeros and a 1 for twice 7, and a 1 for each other pixel; and 6 bits of fill.
abbrev pub rice_behind : List ℕ
rice_behind =
    0x01 ∷ 0x00 ∷ 0x03 ∷ 0xFF ∷ 0xFF ∷ 0xFF ∷ 0xFC ∷ 0x40 ∷ 0x00 ∷ 0xFF ∷ 0xFF ∷ 0xFF ∷ 0xFF ∷ 0x10 ∷ 0x00 ∷ 0x3F
    ∷ 0xFF ∷ 0xFF ∷ 0xFF ∷ 0xC4 ∷ 0x00 ∷ 0x0F ∷ 0xFF ∷ 0xFF ∷ 0xFF ∷ 0xF1 ∷ 0x00 ∷ 0x03 ∷ 0xFF ∷ 0xFF ∷ 0xFF ∷ 0xFC
    ∷ 0x40 ∷ 0x00 ∷ 0xFF ∷ 0xFF ∷ 0xFF ∷ 0xFF ∷ 0x10 ∷ 0x00 ∷ 0x3F ∷ 0xFF ∷ 0xFF ∷ 0xFF ∷ 0xC0 ∷ []

-- the first pixel in 16 bits, and this
abbrev pub rice_row : ℕ → ℕ → TileCode
rice_row high low = record { place = Coded; bytes = high ∷ low ∷ rice_behind }

-- A line list of a row, after the word for its first value: a word for each run of 32 pixels of one value, and between two of them one by
-- which the high value grows by 7.
abbrev pub list_behind : List ℕ
list_behind =
    0x40 ∷ 0x20 ∷ 0x20 ∷ 0x07 ∷ 0x40 ∷ 0x20 ∷ 0x20 ∷ 0x07 ∷ 0x40 ∷ 0x20 ∷ 0x20 ∷ 0x07 ∷ 0x40 ∷ 0x20 ∷ 0x20 ∷ 0x07
    ∷ 0x40 ∷ 0x20 ∷ 0x20 ∷ 0x07 ∷ 0x40 ∷ 0x20 ∷ 0x20 ∷ 0x07 ∷ 0x40 ∷ 0x20 ∷ 0x20 ∷ 0x07 ∷ 0x40 ∷ 0x20 ∷ []

-- the header of a list of 23 words, the word by which the high value, which is 1, grows to the first value, and this
abbrev pub list_row : ℕ → ℕ → TileCode
list_row high low = record {
  place = Coded;
  bytes = 0x00 ∷ 0x00 ∷ 0x00 ∷ 0x07 ∷ 0xFF ∷ 0x9C ∷ 0x00 ∷ 0x17 ∷ 0x00 ∷ 0x00 ∷ 0x00 ∷ 0x00 ∷ 0x00 ∷ 0x00 ∷ high ∷ low ∷ list_behind;
}

-- the bytes of 32 pixels of one value
abbrev pub run_of : ℕ → List ℕ
run_of value = flat_map (λ n. value / 256 ∷ value % 256 ∷ []) (range_with_len 0 32)

-- a row by its first pixel: eight runs, each by 7 above the one before it
abbrev pub stored_row : ℕ → TileCode
stored_row v = record {
  place = Stored;
  bytes = run_of v ++ (run_of (v + 7) ++ (run_of (v + 14) ++ (run_of (v + 21)
      ++ (run_of (v + 28) ++ (run_of (v + 35) ++ (run_of (v + 42) ++ run_of (v + 49)))))));
}

-- the first pixels are 1000, 1001, 1004, 1009, 1016 and 1025
abbrev pub six_codes : CodecWord → List TileCode
six_codes word.Rice = rice_row 0x03 0xE8 ∷ rice_row 0x03 0xE9 ∷ rice_row 0x03 0xEC ∷ rice_row 0x03 0xF1 ∷ rice_row 0x03 0xF8 ∷ rice_row 0x04 0x01 ∷ []
six_codes word.Plio = list_row 0x23 0xE7 ∷ list_row 0x23 0xE8 ∷ list_row 0x23 0xEB ∷ list_row 0x23 0xF0 ∷ list_row 0x23 0xF7 ∷ list_row 0x24 0x00 ∷ []
six_codes word.None = stored_row 1000 ∷ stored_row 1001 ∷ stored_row 1004 ∷ stored_row 1009 ∷ stored_row 1016 ∷ stored_row 1025 ∷ []

-- Row 32 of the image of 33 rows, the first whose square is above 999: it is 1,024, and 24 is left of it. Eight runs of 32 pixels, the first of
-- 1,000 and 24, and each by 7 above the one before it.
abbrev pub row_32 : List ℤ
row_32 = flat_map (λ value. replicate 32 (pos value)) (1024 ∷ 1031 ∷ 1038 ∷ 1045 ∷ 1052 ∷ 1059 ∷ 1066 ∷ 1073 ∷ [])

-- The lines. The file has a header of one block, and 3,072 bytes of pixels, in two blocks. A packed file has an empty primary and a header of
-- one block each, and then the rows of 16 bytes and the heap: 378 bytes with Rice codes, 372 with line lists, and 3,168 without a codec.
abbrev pub six_lines : List ℕ
six_lines =
    codes "drill 6 plain 8640\n"
    ++ (codes "rice packed 8640 unpack same cut same\n"
    ++ (codes "plio packed 8640 unpack same cut same\n"
    ++ codes "none packed 11520 unpack same cut same\n"))
