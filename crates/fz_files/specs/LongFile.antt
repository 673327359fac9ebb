-- A file with pixels of 64 bits, and its packed file, written out by hand: the tile is stored, although Rice codes are asked for
-- (FITS 4.0, sections 4.4.1.1, 7.3 and 10.1).
use Rattle.std.specs.Prelude.{ℕ, pos, true, false, List, [], ◌∷◌, ◌++◌, codes, None, replicate}
use Rattle.fz_block.specs.Hdus.{Hdu}
use Rattle.fz_tile.specs.TileCode.{TileCode}
use Rattle.fz_tile.specs.declared.codec.Codec.TheVariants as codec
use Rattle.fz_tile.specs.declared.coded.Place2.TheVariants.{Stored}
use Rattle.fz_head.specs.declared.options.CodecWord.TheVariants as word
use Rattle.fz_head.specs.declared.options.PackOptions.{PackOptions}
use Rattle.fz_head.specs.declared.plan.Plan.{Plan}
use Rattle.fz_files.specs.HandMade.{card_of, block_of, empty_cards}

-- the cards of an image of 2 pixels of 64 bits
abbrev pub line_cards : List (List ℕ)
line_cards =
    card_of (codes "SIMPLE  =                    T")
    ∷ card_of (codes "BITPIX  =                   64")
    ∷ card_of (codes "NAXIS   =                    1")
    ∷ card_of (codes "NAXIS1  =                    2")
    ∷ []

-- its pixels: 1,099,511,627,776 and -1
abbrev pub line_pixels : List ℕ
line_pixels =
    0x00 ∷ 0x00 ∷ 0x01 ∷ 0x00 ∷ 0x00 ∷ 0x00 ∷ 0x00 ∷ 0x00
    ∷ 0xFF ∷ 0xFF ∷ 0xFF ∷ 0xFF ∷ 0xFF ∷ 0xFF ∷ 0xFF ∷ 0xFF ∷ []

-- the image, whose block zeros fill
abbrev pub line_hdu : Hdu
line_hdu = record { header = block_of line_cards; payload = line_pixels ++ replicate 2864 0 }

-- the file that has only this HDU
abbrev pub line_file : List ℕ
line_file = line_hdu.header ++ line_hdu.payload

-- Rice codes are asked for
abbrev pub long_options : PackOptions
long_options = record { codec = word.Rice; tile = None; block = 32; sums = false; workers = 1 }

-- the plan of the image: no codec, one tile, descriptors of 32 bits
abbrev pub long_plan : Plan
long_plan = record {
  codec = codec.Plain;
  bitpix = pos 64;
  shape = record { n = 1; len = 2 ∷ 0 ∷ 0 ∷ 0 ∷ 0 ∷ 0 ∷ 0 ∷ 0 ∷ 0 ∷ [] };
  tile = record { n = 1; len = 2 ∷ 0 ∷ 0 ∷ 0 ∷ 0 ∷ 0 ∷ 0 ∷ 0 ∷ 0 ∷ [] };
  primary = true;
  wide = false;
}

-- the tile is stored as its plain bytes
abbrev pub long_tiles : List TileCode
long_tiles = record { place = Stored; bytes = line_pixels } ∷ []

-- the row: no code, and 2 pixels at byte 0 of the heap
abbrev pub long_rows : List ℕ
long_rows = 0 ∷ 0 ∷ 0 ∷ 0 ∷ 0 ∷ 0 ∷ 0 ∷ 0 ∷ 0 ∷ 0 ∷ 0 ∷ 2 ∷ 0 ∷ 0 ∷ 0 ∷ 0 ∷ []

-- the data of the table: the row, the pixels as the heap, and fill
abbrev pub long_data : List ℕ
long_data = long_rows ++ (line_pixels ++ replicate 2848 0)

-- the cards of the table
abbrev pub long_cards : List (List ℕ)
long_cards =
    card_of (codes "XTENSION= 'BINTABLE'")
    ∷ card_of (codes "BITPIX  =                    8")
    ∷ card_of (codes "NAXIS   =                    2")
    ∷ card_of (codes "NAXIS1  =                   16")
    ∷ card_of (codes "NAXIS2  =                    1")
    ∷ card_of (codes "PCOUNT  =                   16")
    ∷ card_of (codes "GCOUNT  =                    1")
    ∷ card_of (codes "TFIELDS =                    2")
    ∷ card_of (codes "TTYPE1  = 'COMPRESSED_DATA'")
    ∷ card_of (codes "TFORM1  = '1PB(0)  '")
    ∷ card_of (codes "TTYPE2  = 'UNCOMPRESSED_DATA'")
    ∷ card_of (codes "TFORM2  = '1PK(2)  '")
    ∷ card_of (codes "ZIMAGE  =                    T")
    ∷ card_of (codes "ZCMPTYPE= 'NOCOMPRESS'")
    ∷ card_of (codes "ZTILE1  =                    2")
    ∷ card_of (codes "ZSIMPLE =                    T")
    ∷ card_of (codes "ZBITPIX =                   64")
    ∷ card_of (codes "ZNAXIS  =                    1")
    ∷ card_of (codes "ZNAXIS1 =                    2")
    ∷ []

-- the packed file of 8,640 bytes: the empty primary, the header of the table, and its data
abbrev pub long_file : List ℕ
long_file = block_of empty_cards ++ (block_of long_cards ++ long_data)
