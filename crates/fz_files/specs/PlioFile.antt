-- A small mask, and its packed file with a line list, written out by hand (FITS 4.0, sections 4.2, 7.3, 10.1 and 10.4.3).
use Rattle.std.specs.Prelude.{ℕ, pos, true, false, List, [], ◌∷◌, ◌++◌, codes, None, replicate}
use Rattle.fz_block.specs.Hdus.{Hdu}
use Rattle.fz_tile.specs.TileCode.{TileCode}
use Rattle.fz_tile.specs.declared.codec.Codec.TheVariants as codec
use Rattle.fz_tile.specs.declared.coded.Place2.TheVariants.{Coded}
use Rattle.fz_head.specs.declared.options.CodecWord.TheVariants as word
use Rattle.fz_head.specs.declared.options.PackOptions.{PackOptions}
use Rattle.fz_head.specs.declared.plan.Plan.{Plan}
use Rattle.fz_files.specs.HandMade.{card_of, block_of, empty_cards}

-- the cards of an image of 32 pixels of 16 bits
abbrev pub mask_cards : List (List ℕ)
mask_cards =
    card_of (codes "SIMPLE  =                    T")
    ∷ card_of (codes "BITPIX  =                   16")
    ∷ card_of (codes "NAXIS   =                    1")
    ∷ card_of (codes "NAXIS1  =                   32")
    ∷ []

-- its pixels: 10 zeros, twelve times 7, 9, 3 zeros, 9, twice 5000, and 3 zeros
abbrev pub mask_pixels : List ℕ
mask_pixels =
    0 ∷ 0 ∷ 0 ∷ 0 ∷ 0 ∷ 0 ∷ 0 ∷ 0 ∷ 0 ∷ 0 ∷ 0 ∷ 0 ∷ 0 ∷ 0 ∷ 0 ∷ 0 ∷ 0 ∷ 0 ∷ 0 ∷ 0
    ∷ 0 ∷ 7 ∷ 0 ∷ 7 ∷ 0 ∷ 7 ∷ 0 ∷ 7 ∷ 0 ∷ 7 ∷ 0 ∷ 7 ∷ 0 ∷ 7 ∷ 0 ∷ 7 ∷ 0 ∷ 7 ∷ 0 ∷ 7 ∷ 0 ∷ 7 ∷ 0 ∷ 7
    ∷ 0 ∷ 9
    ∷ 0 ∷ 0 ∷ 0 ∷ 0 ∷ 0 ∷ 0
    ∷ 0 ∷ 9
    ∷ 0x13 ∷ 0x88 ∷ 0x13 ∷ 0x88
    ∷ 0 ∷ 0 ∷ 0 ∷ 0 ∷ 0 ∷ 0 ∷ []

-- the image, whose block zeros fill
abbrev pub mask_hdu : Hdu
mask_hdu = record { header = block_of mask_cards; payload = mask_pixels ++ replicate 2816 0 }

-- the file that has only this HDU
abbrev pub mask_file : List ℕ
mask_file = mask_hdu.header ++ mask_hdu.payload

-- line lists, tiles of one row, no sums
abbrev pub plio_options : PackOptions
plio_options = record { codec = word.Plio; tile = None; block = 32; sums = false; workers = 1 }

-- the plan of the image: one tile, descriptors of 32 bits
abbrev pub plio_plan : Plan
plio_plan = record {
  codec = codec.Plio;
  bitpix = pos 16;
  shape = record { n = 1; len = 32 ∷ 0 ∷ 0 ∷ 0 ∷ 0 ∷ 0 ∷ 0 ∷ 0 ∷ 0 ∷ [] };
  tile = record { n = 1; len = 32 ∷ 0 ∷ 0 ∷ 0 ∷ 0 ∷ 0 ∷ 0 ∷ 0 ∷ 0 ∷ [] };
  primary = true;
  wide = false;
}

-- The list of 16 words. The header has 0, 7, -100, the 16 words in two parts, 0 and 0. After it the high value, which is 1, grows by 6;
-- 10 zeros, and twelve times the high value; it grows by 2 and is written once; 3 zeros and the high value; it becomes 904 and 4096 times
-- 1, and is written twice; and 3 zeros.
abbrev pub plio_heap : List ℕ
plio_heap =
    0x00 ∷ 0x00 ∷ 0x00 ∷ 0x07 ∷ 0xFF ∷ 0x9C ∷ 0x00 ∷ 0x10 ∷ 0x00 ∷ 0x00 ∷ 0x00 ∷ 0x00 ∷ 0x00 ∷ 0x00
    ∷ 0x20 ∷ 0x06
    ∷ 0x00 ∷ 0x0A ∷ 0x40 ∷ 0x0C
    ∷ 0x60 ∷ 0x02
    ∷ 0x50 ∷ 0x04
    ∷ 0x13 ∷ 0x88 ∷ 0x00 ∷ 0x01 ∷ 0x40 ∷ 0x02
    ∷ 0x00 ∷ 0x03 ∷ []

-- what is written for the tile
abbrev pub plio_tiles : List TileCode
plio_tiles = record { place = Coded; bytes = plio_heap } ∷ []

-- the row: a list of 16 words at byte 0 of the heap, and no plain bytes
abbrev pub plio_rows : List ℕ
plio_rows = 0 ∷ 0 ∷ 0 ∷ 16 ∷ 0 ∷ 0 ∷ 0 ∷ 0 ∷ 0 ∷ 0 ∷ 0 ∷ 0 ∷ 0 ∷ 0 ∷ 0 ∷ 0 ∷ []

-- the data of the table, with fill
abbrev pub plio_data : List ℕ
plio_data = plio_rows ++ (plio_heap ++ replicate 2832 0)

-- the cards of the table
abbrev pub plio_cards : List (List ℕ)
plio_cards =
    card_of (codes "XTENSION= 'BINTABLE'")
    ∷ card_of (codes "BITPIX  =                    8")
    ∷ card_of (codes "NAXIS   =                    2")
    ∷ card_of (codes "NAXIS1  =                   16")
    ∷ card_of (codes "NAXIS2  =                    1")
    ∷ card_of (codes "PCOUNT  =                   32")
    ∷ card_of (codes "GCOUNT  =                    1")
    ∷ card_of (codes "TFIELDS =                    2")
    ∷ card_of (codes "TTYPE1  = 'COMPRESSED_DATA'")
    ∷ card_of (codes "TFORM1  = '1PI(16) '")
    ∷ card_of (codes "TTYPE2  = 'UNCOMPRESSED_DATA'")
    ∷ card_of (codes "TFORM2  = '1PI(0)  '")
    ∷ card_of (codes "ZIMAGE  =                    T")
    ∷ card_of (codes "ZCMPTYPE= 'PLIO_1  '")
    ∷ card_of (codes "ZTILE1  =                   32")
    ∷ card_of (codes "ZSIMPLE =                    T")
    ∷ card_of (codes "ZBITPIX =                   16")
    ∷ card_of (codes "ZNAXIS  =                    1")
    ∷ card_of (codes "ZNAXIS1 =                   32")
    ∷ []

-- the packed file of 8,640 bytes: the empty primary, the header of the table, and its data
abbrev pub plio_file : List ℕ
plio_file = block_of empty_cards ++ (block_of plio_cards ++ plio_data)
