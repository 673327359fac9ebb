-- A file whose image is an extension, and its packed file without a codec, written out by hand (FITS 4.0, sections 4.2, 7.1, 7.3 and 10.1).
use Rattle.std.specs.Prelude.{ℕ, pos, false, List, [], ◌∷◌, ◌++◌, codes, None, replicate}
use Rattle.fz_block.specs.Hdus.{Hdu}
use Rattle.fz_tile.specs.TileCode.{TileCode}
use Rattle.fz_tile.specs.declared.codec.Codec.TheVariants as codec
use Rattle.fz_tile.specs.declared.coded.Place2.TheVariants.{Stored}
use Rattle.fz_head.specs.declared.options.CodecWord.TheVariants as word
use Rattle.fz_head.specs.declared.options.PackOptions.{PackOptions}
use Rattle.fz_head.specs.declared.plan.Plan.{Plan}
use Rattle.fz_files.specs.HandMade.{card_of, block_of}

-- a primary without data
abbrev pub bare_cards : List (List ℕ)
bare_cards =
    card_of (codes "SIMPLE  =                    T")
    ∷ card_of (codes "BITPIX  =                   16")
    ∷ card_of (codes "NAXIS   =                    0")
    ∷ card_of (codes "EXTEND  =                    T")
    ∷ []

abbrev pub bare_hdu : Hdu
bare_hdu = record { header = block_of bare_cards; payload = [] }

-- the cards of an image of 4 by 2 pixels of 16 bits in an extension
abbrev pub image_cards : List (List ℕ)
image_cards =
    card_of (codes "XTENSION= 'IMAGE   '")
    ∷ card_of (codes "BITPIX  =                   16")
    ∷ card_of (codes "NAXIS   =                    2")
    ∷ card_of (codes "NAXIS1  =                    4")
    ∷ card_of (codes "NAXIS2  =                    2")
    ∷ card_of (codes "PCOUNT  =                    0")
    ∷ card_of (codes "GCOUNT  =                    1")
    ∷ []

-- the pixels of each row: 0, 1, 0, 1
abbrev pub row_pixels : List ℕ
row_pixels = 0 ∷ 0 ∷ 0 ∷ 1 ∷ 0 ∷ 0 ∷ 0 ∷ 1 ∷ []

-- the image, whose block zeros fill
abbrev pub image_hdu : Hdu
image_hdu = record { header = block_of image_cards; payload = row_pixels ++ (row_pixels ++ replicate 2864 0) }

-- the file of both
abbrev pub extension_file : List ℕ
extension_file = bare_hdu.header ++ (image_hdu.header ++ image_hdu.payload)

-- no codec, tiles of one row, no sums
abbrev pub bare_options : PackOptions
bare_options = record { codec = word.None; tile = None; block = 32; sums = false; workers = 1 }

-- the plan of the image
abbrev pub image_plan : Plan
image_plan = record {
  codec = codec.Plain;
  bitpix = pos 16;
  shape = record { n = 2; len = 4 ∷ 2 ∷ 0 ∷ 0 ∷ 0 ∷ 0 ∷ 0 ∷ 0 ∷ 0 ∷ [] };
  tile = record { n = 2; len = 4 ∷ 1 ∷ 0 ∷ 0 ∷ 0 ∷ 0 ∷ 0 ∷ 0 ∷ 0 ∷ [] };
  primary = false;
  wide = false;
}

-- both tiles are stored as their plain bytes
abbrev pub image_tiles : List TileCode
image_tiles = record { place = Stored; bytes = row_pixels } ∷ record { place = Stored; bytes = row_pixels } ∷ []

-- the two rows: no code, and 4 pixels at byte 0 and at byte 8 of the heap
abbrev pub image_rows : List ℕ
image_rows =
    0 ∷ 0 ∷ 0 ∷ 0 ∷ 0 ∷ 0 ∷ 0 ∷ 0 ∷ 0 ∷ 0 ∷ 0 ∷ 4 ∷ 0 ∷ 0 ∷ 0 ∷ 0
    ∷ 0 ∷ 0 ∷ 0 ∷ 0 ∷ 0 ∷ 0 ∷ 0 ∷ 0 ∷ 0 ∷ 0 ∷ 0 ∷ 4 ∷ 0 ∷ 0 ∷ 0 ∷ 8 ∷ []

-- the data of the table: the rows, the pixels of both tiles as the heap, and fill
abbrev pub image_data : List ℕ
image_data = image_rows ++ (row_pixels ++ (row_pixels ++ replicate 2832 0))

-- the cards of the table
abbrev pub image_table_cards : List (List ℕ)
image_table_cards =
    card_of (codes "XTENSION= 'BINTABLE'")
    ∷ card_of (codes "BITPIX  =                    8")
    ∷ card_of (codes "NAXIS   =                    2")
    ∷ card_of (codes "NAXIS1  =                   16")
    ∷ card_of (codes "NAXIS2  =                    2")
    ∷ card_of (codes "PCOUNT  =                   16")
    ∷ card_of (codes "GCOUNT  =                    1")
    ∷ card_of (codes "TFIELDS =                    2")
    ∷ card_of (codes "TTYPE1  = 'COMPRESSED_DATA'")
    ∷ card_of (codes "TFORM1  = '1PB(0)  '")
    ∷ card_of (codes "TTYPE2  = 'UNCOMPRESSED_DATA'")
    ∷ card_of (codes "TFORM2  = '1PI(4)  '")
    ∷ card_of (codes "ZIMAGE  =                    T")
    ∷ card_of (codes "ZCMPTYPE= 'NOCOMPRESS'")
    ∷ card_of (codes "ZTILE1  =                    4")
    ∷ card_of (codes "ZTILE2  =                    1")
    ∷ card_of (codes "ZTENSION= 'IMAGE   '")
    ∷ card_of (codes "ZBITPIX =                   16")
    ∷ card_of (codes "ZNAXIS  =                    2")
    ∷ card_of (codes "ZNAXIS1 =                    4")
    ∷ card_of (codes "ZNAXIS2 =                    2")
    ∷ card_of (codes "ZPCOUNT =                    0")
    ∷ card_of (codes "ZGCOUNT =                    1")
    ∷ []

-- the packed file of 8,640 bytes: the primary as it is, the header of the table, and its data
abbrev pub packed_extension : List ℕ
packed_extension = block_of bare_cards ++ (block_of image_table_cards ++ image_data)
