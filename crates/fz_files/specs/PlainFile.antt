-- A file with tiles that are cut short at the upper ends, and its packed file without a codec, written out by hand (FITS 4.0, sections
-- 4.2, 7.3 and 10.1).
use Rattle.std.specs.Prelude.{ℕ, pos, true, false, List, [], ◌∷◌, ◌++◌, codes, Some, replicate}
use Rattle.fz_block.specs.Hdus.{Hdu}
use Rattle.fz_tile.specs.TileCode.{TileCode}
use Rattle.fz_tile.specs.declared.codec.Codec.TheVariants as codec
use Rattle.fz_tile.specs.declared.coded.Place2.TheVariants.{Stored}
use Rattle.fz_head.specs.declared.options.CodecWord.TheVariants as word
use Rattle.fz_head.specs.declared.options.PackOptions.{PackOptions}
use Rattle.fz_head.specs.declared.plan.Plan.{Plan}
use Rattle.fz_files.specs.HandMade.{card_of, block_of, empty_cards}

-- the cards of an image of 5 by 3 pixels of 8 bits
abbrev pub grid_cards : List (List ℕ)
grid_cards =
    card_of (codes "SIMPLE  =                    T")
    ∷ card_of (codes "BITPIX  =                    8")
    ∷ card_of (codes "NAXIS   =                    2")
    ∷ card_of (codes "NAXIS1  =                    5")
    ∷ card_of (codes "NAXIS2  =                    3")
    ∷ []

-- the image: its pixels are 1 to 15, axis 1 fastest, and zeros fill the block
abbrev pub grid_hdu : Hdu
grid_hdu = record {
  header = block_of grid_cards;
  payload =
      (0x01 ∷ 0x02 ∷ 0x03 ∷ 0x04 ∷ 0x05
      ∷ 0x06 ∷ 0x07 ∷ 0x08 ∷ 0x09 ∷ 0x0A
      ∷ 0x0B ∷ 0x0C ∷ 0x0D ∷ 0x0E ∷ 0x0F ∷ [])
      ++ replicate 2865 0;
}

-- the file that has only this HDU
abbrev pub grid_file : List ℕ
grid_file = grid_hdu.header ++ grid_hdu.payload

-- no codec, tiles of 2 by 2 pixels, no sums
abbrev pub plain_options : PackOptions
plain_options = record {
  codec = word.None;
  tile = Some (record { n = 2; len = 2 ∷ 2 ∷ 0 ∷ 0 ∷ 0 ∷ 0 ∷ 0 ∷ 0 ∷ 0 ∷ [] });
  block = 32;
  sums = false;
  workers = 1;
}

-- the plan of the image
abbrev pub plain_plan : Plan
plain_plan = record {
  codec = codec.Plain;
  bitpix = pos 8;
  shape = record { n = 2; len = 5 ∷ 3 ∷ 0 ∷ 0 ∷ 0 ∷ 0 ∷ 0 ∷ 0 ∷ 0 ∷ [] };
  tile = record { n = 2; len = 2 ∷ 2 ∷ 0 ∷ 0 ∷ 0 ∷ 0 ∷ 0 ∷ 0 ∷ 0 ∷ [] };
  primary = true;
  wide = false;
}

-- a tile that is stored as its plain bytes
abbrev pub stored : List ℕ → TileCode
stored bytes = record { place = Stored; bytes = bytes }

-- the tiles: 2 by 2, 2 by 2 and 1 by 2 pixels, and above these 2 by 1, 2 by 1 and 1 by 1
abbrev pub plain_tiles : List TileCode
plain_tiles =
    stored (0x01 ∷ 0x02 ∷ 0x06 ∷ 0x07 ∷ [])
    ∷ stored (0x03 ∷ 0x04 ∷ 0x08 ∷ 0x09 ∷ [])
    ∷ stored (0x05 ∷ 0x0A ∷ [])
    ∷ stored (0x0B ∷ 0x0C ∷ [])
    ∷ stored (0x0D ∷ 0x0E ∷ [])
    ∷ stored (0x0F ∷ [])
    ∷ []

-- the six rows: no code, and the pixels of the tile, counted, at their byte of the heap
abbrev pub plain_rows : List ℕ
plain_rows =
    0 ∷ 0 ∷ 0 ∷ 0 ∷ 0 ∷ 0 ∷ 0 ∷ 0 ∷ 0 ∷ 0 ∷ 0 ∷ 4 ∷ 0 ∷ 0 ∷ 0 ∷ 0
    ∷ 0 ∷ 0 ∷ 0 ∷ 0 ∷ 0 ∷ 0 ∷ 0 ∷ 0 ∷ 0 ∷ 0 ∷ 0 ∷ 4 ∷ 0 ∷ 0 ∷ 0 ∷ 4
    ∷ 0 ∷ 0 ∷ 0 ∷ 0 ∷ 0 ∷ 0 ∷ 0 ∷ 0 ∷ 0 ∷ 0 ∷ 0 ∷ 2 ∷ 0 ∷ 0 ∷ 0 ∷ 8
    ∷ 0 ∷ 0 ∷ 0 ∷ 0 ∷ 0 ∷ 0 ∷ 0 ∷ 0 ∷ 0 ∷ 0 ∷ 0 ∷ 2 ∷ 0 ∷ 0 ∷ 0 ∷ 10
    ∷ 0 ∷ 0 ∷ 0 ∷ 0 ∷ 0 ∷ 0 ∷ 0 ∷ 0 ∷ 0 ∷ 0 ∷ 0 ∷ 2 ∷ 0 ∷ 0 ∷ 0 ∷ 12
    ∷ 0 ∷ 0 ∷ 0 ∷ 0 ∷ 0 ∷ 0 ∷ 0 ∷ 0 ∷ 0 ∷ 0 ∷ 0 ∷ 1 ∷ 0 ∷ 0 ∷ 0 ∷ 14 ∷ []

-- the heap: the tiles one after another
abbrev pub plain_heap : List ℕ
plain_heap =
    0x01 ∷ 0x02 ∷ 0x06 ∷ 0x07 ∷ 0x03 ∷ 0x04 ∷ 0x08 ∷ 0x09 ∷ 0x05 ∷ 0x0A ∷ 0x0B ∷ 0x0C ∷ 0x0D ∷ 0x0E ∷ 0x0F ∷ []

-- the data of the table, with fill
abbrev pub plain_data : List ℕ
plain_data = plain_rows ++ (plain_heap ++ replicate 2769 0)

-- the cards of the table
abbrev pub plain_cards : List (List ℕ)
plain_cards =
    card_of (codes "XTENSION= 'BINTABLE'")
    ∷ card_of (codes "BITPIX  =                    8")
    ∷ card_of (codes "NAXIS   =                    2")
    ∷ card_of (codes "NAXIS1  =                   16")
    ∷ card_of (codes "NAXIS2  =                    6")
    ∷ card_of (codes "PCOUNT  =                   15")
    ∷ card_of (codes "GCOUNT  =                    1")
    ∷ card_of (codes "TFIELDS =                    2")
    ∷ card_of (codes "TTYPE1  = 'COMPRESSED_DATA'")
    ∷ card_of (codes "TFORM1  = '1PB(0)  '")
    ∷ card_of (codes "TTYPE2  = 'UNCOMPRESSED_DATA'")
    ∷ card_of (codes "TFORM2  = '1PB(4)  '")
    ∷ card_of (codes "ZIMAGE  =                    T")
    ∷ card_of (codes "ZCMPTYPE= 'NOCOMPRESS'")
    ∷ card_of (codes "ZTILE1  =                    2")
    ∷ card_of (codes "ZTILE2  =                    2")
    ∷ card_of (codes "ZSIMPLE =                    T")
    ∷ card_of (codes "ZBITPIX =                    8")
    ∷ card_of (codes "ZNAXIS  =                    2")
    ∷ card_of (codes "ZNAXIS1 =                    5")
    ∷ card_of (codes "ZNAXIS2 =                    3")
    ∷ []

-- the packed file of 8,640 bytes: the empty primary, the header of the table, and its data
abbrev pub plain_file : List ℕ
plain_file = block_of empty_cards ++ (block_of plain_cards ++ plain_data)
