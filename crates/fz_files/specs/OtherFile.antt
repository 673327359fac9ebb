-- A file of another packer, and the file that it stands for, written out by hand. Its primary has no data and its own cards. Its table
-- has one column, comments, sums and a name; it says neither the length of the tile nor BYTEPIX (FITS 4.0, sections 4.2, 7.3, 10.1 and
-- 10.4.1).
use Rattle.std.specs.Prelude.{ℕ, pos, ℤ, true, false, List, [], ◌∷◌, ◌++◌, codes, replicate}
use Rattle.fz_tile.specs.declared.codec.Codec.TheVariants as codec
use Rattle.fz_head.specs.declared.plan.Plan.{Plan}
use Rattle.fz_files.specs.HandMade.{card_of, block_of}

-- the cards of the primary
abbrev pub first_cards : List (List ℕ)
first_cards =
    card_of (codes "SIMPLE  =                    T")
    ∷ card_of (codes "BITPIX  =                   16")
    ∷ card_of (codes "NAXIS   =                    0 / no data")
    ∷ card_of (codes "EXTEND  =                    T")
    ∷ card_of (codes "COMMENT   The packed image is in the extension.")
    ∷ []

-- the cards of the table
abbrev pub other_cards : List (List ℕ)
other_cards =
    card_of (codes "XTENSION= 'BINTABLE'")
    ∷ card_of (codes "BITPIX  =                    8 / bytes")
    ∷ card_of (codes "NAXIS   =                    2 / rows of bytes")
    ∷ card_of (codes "NAXIS1  =                    8 / one descriptor")
    ∷ card_of (codes "NAXIS2  =                    1 / one tile")
    ∷ card_of (codes "PCOUNT  =                    6 / bytes of the heap")
    ∷ card_of (codes "GCOUNT  =                    1")
    ∷ card_of (codes "TFIELDS =                    1")
    ∷ card_of (codes "TTYPE1  = 'COMPRESSED_DATA'    / codes of the tiles")
    ∷ card_of (codes "TFORM1  = '1PB(6)  '")
    ∷ card_of (codes "ZIMAGE  =                    T / this is a packed image")
    ∷ card_of (codes "ZCMPTYPE= 'RICE_1  '")
    ∷ card_of (codes "ZBITPIX =                   16 / bits of a pixel")
    ∷ card_of (codes "ZNAXIS  =                    1")
    ∷ card_of (codes "ZNAXIS1 =                    3 / pixels")
    ∷ card_of (codes "ZSIMPLE =                    T / the image was a primary")
    ∷ card_of (codes "EXTNAME = 'COMPRESSED_IMAGE'")
    ∷ card_of (codes "OBJECT  = 'M31     '           / what was observed")
    ∷ card_of (codes "CHECKSUM= 'dLcjeJZjdJbjdJZj'   / of the table")
    ∷ card_of (codes "DATASUM = '235144174'          / of its rows and heap")
    ∷ []

-- what they say: Rice codes in blocks of 32, of numbers of 4 bytes, and one tile, which is the whole axis
abbrev pub other_plan : Plan
other_plan = record {
  codec = codec.Rice 32 4;
  bitpix = pos 16;
  shape = record { n = 1; len = 3 ∷ 0 ∷ 0 ∷ 0 ∷ 0 ∷ 0 ∷ 0 ∷ 0 ∷ 0 ∷ [] };
  tile = record { n = 1; len = 3 ∷ 0 ∷ 0 ∷ 0 ∷ 0 ∷ 0 ∷ 0 ∷ 0 ∷ 0 ∷ [] };
  primary = true;
  wide = false;
}

-- its row: a code of 6 bytes at byte 0 of the heap
abbrev pub other_row : List ℕ
other_row = 0 ∷ 0 ∷ 0 ∷ 6 ∷ 0 ∷ 0 ∷ 0 ∷ 0 ∷ []

-- the heap: the start value 1000 in 32 bits, id 1 in 5, and the mapped differences 0, 0, 6 as 1, 1, 0000001; 2 bits fill
abbrev pub other_heap : List ℕ
other_heap = 0x00 ∷ 0x00 ∷ 0x03 ∷ 0xE8 ∷ 0x0E ∷ 0x04 ∷ []

-- the packed file of 8,640 bytes: the primary, the header of the table, and its data with fill
abbrev pub other_file : List ℕ
other_file = block_of first_cards ++ (block_of other_cards ++ (other_row ++ (other_heap ++ replicate 2866 0)))

-- the pixels
abbrev pub image_numbers : List ℤ
image_numbers = pos 1000 ∷ pos 1000 ∷ pos 1003 ∷ []

-- the cards of the image: those of the table that are not the table's own, with their comments
abbrev pub image_cards : List (List ℕ)
image_cards =
    card_of (codes "SIMPLE  =                    T / the image was a primary")
    ∷ card_of (codes "BITPIX  =                   16 / bits of a pixel")
    ∷ card_of (codes "NAXIS   =                    1")
    ∷ card_of (codes "NAXIS1  =                    3 / pixels")
    ∷ card_of (codes "OBJECT  = 'M31     '           / what was observed")
    ∷ []

-- the file of 5,760 bytes that the packed file stands for: only the image, with fill
abbrev pub image_file : List ℕ
image_file = block_of image_cards ++ ((0x03 ∷ 0xE8 ∷ 0x03 ∷ 0xE8 ∷ 0x03 ∷ 0xEB ∷ []) ++ replicate 2874 0)
