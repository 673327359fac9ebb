-- A small file, and its packed file with Rice codes, written out by hand (FITS 4.0, sections 4.2, 7.3, 10.1 and 10.4.1).
use Rattle.std.specs.Prelude.{ℕ, pos, true, false, List, [], ◌∷◌, ◌++◌, codes, None, replicate}
use Rattle.fz_block.specs.Hdus.{Hdu}
use Rattle.fz_tile.specs.TileCode.{TileCode}
use Rattle.fz_tile.specs.declared.codec.Codec.TheVariants as codec
use Rattle.fz_tile.specs.declared.coded.Place2.TheVariants.{Coded}
use Rattle.fz_head.specs.declared.options.CodecWord.TheVariants as word
use Rattle.fz_head.specs.declared.options.PackOptions.{PackOptions}
use Rattle.fz_head.specs.declared.plan.Plan.{Plan}
use Rattle.fz_files.specs.HandMade.{card_of, block_of, empty_cards}

-- the cards of an image of 4 by 2 pixels of 16 bits
abbrev pub small_cards : List (List ℕ)
small_cards =
    card_of (codes "SIMPLE  =                    T")
    ∷ card_of (codes "BITPIX  =                   16")
    ∷ card_of (codes "NAXIS   =                    2")
    ∷ card_of (codes "NAXIS1  =                    4")
    ∷ card_of (codes "NAXIS2  =                    2")
    ∷ []

-- the image: its pixels are 0, 1, 0, 1 in each of both rows, and zeros fill the block
abbrev pub small_hdu : Hdu
small_hdu = record {
  header = block_of small_cards;
  payload = (0 ∷ 0 ∷ 0 ∷ 1 ∷ 0 ∷ 0 ∷ 0 ∷ 1 ∷ 0 ∷ 0 ∷ 0 ∷ 1 ∷ 0 ∷ 0 ∷ 0 ∷ 1 ∷ []) ++ replicate 2864 0;
}

-- the file that has only this HDU
abbrev pub small_file : List ℕ
small_file = small_hdu.header ++ small_hdu.payload

-- what `pack` does without options: Rice codes in blocks of 32, tiles of one row, no sums
abbrev pub rice_options : PackOptions
rice_options = record { codec = word.Rice; tile = None; block = 32; sums = false; workers = 1 }

-- the plan of the image: numbers of two bytes, tiles of 4 by 1 pixels, descriptors of 32 bits
abbrev pub rice_plan : Plan
rice_plan = record {
  codec = codec.Rice 32 2;
  bitpix = pos 16;
  shape = record { n = 2; len = 4 ∷ 2 ∷ 0 ∷ 0 ∷ 0 ∷ 0 ∷ 0 ∷ 0 ∷ 0 ∷ [] };
  tile = record { n = 2; len = 4 ∷ 1 ∷ 0 ∷ 0 ∷ 0 ∷ 0 ∷ 0 ∷ 0 ∷ 0 ∷ [] };
  primary = true;
  wide = false;
}

-- the code of a row: the start value 0 in 16 bits, id 1 in 4, and the mapped differences 0, 2, 1, 2 as 1, 001, 01, 001; 3 bits fill
abbrev pub row_code : TileCode
row_code = record { place = Coded; bytes = 0x00 ∷ 0x00 ∷ 0x19 ∷ 0x48 ∷ [] }

-- what is written for the two tiles
abbrev pub rice_tiles : List TileCode
rice_tiles = row_code ∷ row_code ∷ []

-- the two rows: a code of 4 bytes at byte 0 and at byte 4 of the heap, and no plain bytes
abbrev pub rice_rows : List ℕ
rice_rows =
    0 ∷ 0 ∷ 0 ∷ 4 ∷ 0 ∷ 0 ∷ 0 ∷ 0 ∷ 0 ∷ 0 ∷ 0 ∷ 0 ∷ 0 ∷ 0 ∷ 0 ∷ 0
    ∷ 0 ∷ 0 ∷ 0 ∷ 4 ∷ 0 ∷ 0 ∷ 0 ∷ 4 ∷ 0 ∷ 0 ∷ 0 ∷ 0 ∷ 0 ∷ 0 ∷ 0 ∷ 0 ∷ []

-- the heap: both codes
abbrev pub rice_heap : List ℕ
rice_heap = 0x00 ∷ 0x00 ∷ 0x19 ∷ 0x48 ∷ 0x00 ∷ 0x00 ∷ 0x19 ∷ 0x48 ∷ []

-- the cards of the table
abbrev pub rice_cards : List (List ℕ)
rice_cards =
    card_of (codes "XTENSION= 'BINTABLE'")
    ∷ card_of (codes "BITPIX  =                    8")
    ∷ card_of (codes "NAXIS   =                    2")
    ∷ card_of (codes "NAXIS1  =                   16")
    ∷ card_of (codes "NAXIS2  =                    2")
    ∷ card_of (codes "PCOUNT  =                    8")
    ∷ card_of (codes "GCOUNT  =                    1")
    ∷ card_of (codes "TFIELDS =                    2")
    ∷ card_of (codes "TTYPE1  = 'COMPRESSED_DATA'")
    ∷ card_of (codes "TFORM1  = '1PB(4)  '")
    ∷ card_of (codes "TTYPE2  = 'UNCOMPRESSED_DATA'")
    ∷ card_of (codes "TFORM2  = '1PI(0)  '")
    ∷ card_of (codes "ZIMAGE  =                    T")
    ∷ card_of (codes "ZCMPTYPE= 'RICE_1  '")
    ∷ card_of (codes "ZTILE1  =                    4")
    ∷ card_of (codes "ZTILE2  =                    1")
    ∷ card_of (codes "ZNAME1  = 'BLOCKSIZE'")
    ∷ card_of (codes "ZVAL1   =                   32")
    ∷ card_of (codes "ZNAME2  = 'BYTEPIX '")
    ∷ card_of (codes "ZVAL2   =                    2")
    ∷ card_of (codes "ZSIMPLE =                    T")
    ∷ card_of (codes "ZBITPIX =                   16")
    ∷ card_of (codes "ZNAXIS  =                    2")
    ∷ card_of (codes "ZNAXIS1 =                    4")
    ∷ card_of (codes "ZNAXIS2 =                    2")
    ∷ []

-- the packed file of 8,640 bytes: the empty primary, the header of the table, and its data with fill
abbrev pub rice_file : List ℕ
rice_file = block_of empty_cards ++ (block_of rice_cards ++ (rice_rows ++ (rice_heap ++ replicate 2840 0)))
